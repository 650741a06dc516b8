-- What every flush of a script keeps to, whatever the roots and the session hold.
use Rattle.std.specs.Prelude.{◌≡◌, ◌≢◌, ◌⊎◌, ℕ, true, List, [], ◌∷◌, Option, Some}
use Rattle.std.specs.FinMap as map
use Rattle.script_engine.specs.declared.flat_roots.RootName.{RootName}
use Rattle.script_engine.specs.declared.session.Session.{Session}
use Rattle.script_engine.specs.declared.request.Request.TheVariants.{Flush}
use Rattle.script_engine.specs.World.{World, other_root, files_of}
use Rattle.script_engine.specs.Flush.{digest_of}
use Rattle.script_engine.specs.Script.{is_called, line_request, Answers, Runs}

-- the file that a root holds at a name
abbrev pub file_at : World → RootName → List ℕ → Option (List ℕ)
file_at world root name = map.get (files_of world.roots root) name

-- the digest of that file
abbrev pub root_digest : World → RootName → List ℕ → Option (List ℕ)
root_digest world root name = digest_of (file_at world root name)

-- the line is a flush that names the session
abbrev pub IsFlushOf : List ℕ → Session → Type 0
IsFlushOf line session = (word : List ℕ) × (line_request line ≡ Some (Flush word)) × (is_called session word ≡ true)

-- where the line is a flush that names the session, there is one afterwards, and the law holds of the two
abbrev pub KeepsAt : (World → Session → World → Session → Type 0) → World → List ℕ → World → Type 0
KeepsAt Law old line new = (session : Session) → old.session ≡ Some session → IsFlushOf line session
    → (after : Session) × (new.session ≡ Some after) × Law old session new after

-- each flush of the run that names the session keeps to the law
abbrev pub EachFlush : (World → Session → World → Session → Type 0) → (old : World) → (lines : List (List ℕ)) → (text : List ℕ) → (new : World)
    → Runs old lines text new → Type 0
EachFlush Law old [] text new ran = Unit {0}
EachFlush Law old (line ∷ lines) text new (reply, mid, rest, answered, written, ran) =
    KeepsAt Law old line mid × EachFlush Law mid lines rest new ran

-- in every script, from every world, each flush keeps to the law
abbrev pub EveryFlush : (World → Session → World → Session → Type 0) → Type 0
EveryFlush Law = (old : World) → (lines : List (List ℕ)) → (text : List ℕ) → (new : World) → (ran : Runs old lines text new)
    → EachFlush Law old lines text new ran

-- a root keeps its file, or takes the other's in place of one that is as the ancestor has it
abbrev pub KeepsOrTakes : Option (List ℕ) → Option (List ℕ) → Option (List ℕ) → Option (List ℕ) → Type 0
KeepsOrTakes ancestor own other own' = (own' ≡ own) ⊎ ((own' ≡ other) × (digest_of own ≡ ancestor))

-- a file is replaced only by the other side's, and only where the one replaced is the ancestor's
abbrev pub TakesOnlyTheOthers : World → Session → World → Session → Type 0
TakesOnlyTheOthers old session new after = (name : List ℕ) → (root : RootName)
    → KeepsOrTakes (map.get session.ancestor name) (file_at old root name) (file_at old (other_root root) name) (file_at new root name)

-- both sides have changed since they agreed at the name, and differ there
abbrev pub IsConflict : World → Session → List ℕ → Type 0
IsConflict world session name = (root_digest world session.alpha name ≢ root_digest world (other_root session.alpha) name)
    × ((root : RootName) → root_digest world root name ≢ map.get session.ancestor name)

-- at every name that is no conflict both sides and the ancestor agree afterwards
abbrev pub AgreesElsewhere : World → Session → World → Session → Type 0
AgreesElsewhere old session new after = (name : List ℕ) → ¬ IsConflict old session name
    → (root : RootName) → root_digest new root name ≡ map.get after.ancestor name

-- at a conflict neither the sides nor the ancestor change
abbrev pub LeavesConflicts : World → Session → World → Session → Type 0
LeavesConflicts old session new after = (name : List ℕ) → IsConflict old session name
    → ((root : RootName) → file_at new root name ≡ file_at old root name) × (map.get after.ancestor name ≡ map.get session.ancestor name)

-- a second flush right behind the first changes no root
abbrev pub IsLasting : World → Session → World → Session → Type 0
IsLasting old session mid after = (line reply : List ℕ) → (new : World) → IsFlushOf line after → Answers mid line reply new
    → new.roots ≡ mid.roots
