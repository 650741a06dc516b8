-- What a session that conserves has kept to.
use Rattle.std.specs.Prelude.{◌≡◌, ◌⊎◌, Bool, true, false, List, [], ◌∷◌, ◌++◌, length, nat_le, Some}
use Rattle.std.specs.FinMap as map
use Rattle.std.specs.List.{AllByRecursion, list_all}
use Rattle.entry_tree.specs.Side.{other_side}
use Rattle.entry_tree.specs.Tree.{Names}
use Rattle.entry_tree.specs.declared.entry.Entry.{Entry}
use Rattle.entry_tree.specs.declared.side.Side.{Side}
use Rattle.frame_text.specs.declared.payload.Payload.{Payload}
use Rattle.frame_text.specs.declared.payload.Payload.TheVariants.{Agree, Reset, Whole}
use Rattle.frame_text.specs.declared.version.Version.{Version}
use Rattle.mode_rules.specs.declared.ancestor_line.AncestorLine.{AncestorLine}
use Rattle.mode_rules.specs.declared.ancestor_line.AncestorLine.TheVariants.{Set, Drop}
use Rattle.cycle_law.specs.Conserving.{conserves, is_spoken_of}
use Rattle.cycle_law.specs.Cycles.{Session, Cycle, Ground, Traces, log_of}
use Rattle.cycle_law.specs.Frames.{frames_of, has_lines, landed_on, offered}
use Rattle.cycle_law.specs.Licences.{atom_of, taken_on, wants_licence}
use Rattle.cycle_law.specs.Plans.{ground_of, may_act}
use Rattle.cycle_law.specs.Saw.{saw_at}

-- what holds of each cycle of a session that conserves, if its law speaks of the cycle
abbrev pub EachCycle : (Session → Traces → Cycle → Type 0) → Type 0
EachCycle P = (session : Session) (cycles : List Cycle) (t : Traces) → conserves session cycles t ≡ true
    → AllByRecursion (λ c. is_spoken_of t.frames c ≡ true → P session t c) cycles

-- The atom of what was taken away at a path on a side is the one that the cycle's ancestor holds there, and the cycle didn't see it there on the other side.
abbrev pub IsTheAncestors : Session → Ground → Cycle → Side → Names × Entry → Type 0
IsTheAncestors session g c side taken =
    (map.get g.ancestor taken.0 ≡ Some (atom_of (log_of g side).digest taken.1))
    × (saw_at session g c (other_side side) taken.0 ≡ Some (atom_of (log_of g side).digest taken.1) → ⊥)

-- all that a cycle took away on a side where the mode wants a licence is so
abbrev pub TakesTheAncestors : Session → Traces → Cycle → Type 0
TakesTheAncestors session t c = (side : Side) → wants_licence session.mode side ≡ true → AllByRecursion (IsTheAncestors session (ground_of t c) c side) (taken_on (ground_of t c) c side)

-- the line is one of these
abbrev pub IsOneOf : AncestorLine → List AncestorLine → Type 0
IsOneOf line [] = ⊥
IsOneOf line (l ∷ ls) = (line ≡ l) ⊎ IsOneOf line ls

-- On each side the cycle saw what a line sets, or put it there: a line of an operation that was done there.
abbrev pub WasHeld : Session → Ground → Cycle → AncestorLine → Type 0
WasHeld session g c (Set p a) = (side : Side) → (saw_at session g c side p ≡ Some a) ⊎ IsOneOf (Set p a) (landed_on g c side)
WasHeld session g c (Drop p) = Unit {0}

-- each line of each frame of a cycle is so
abbrev pub NamesWhatWasHeld : Session → Traces → Cycle → Type 0
NamesWhatWasHeld session t c = AllByRecursion (AllByRecursion (WasHeld session (ground_of t c) c)) (frames_of t.frames c)

-- ---- frames that a crash may take, or may leave

-- the same logs with other frames
abbrev pub with_frames : Traces → List Payload → Traces
with_frames t frames = record { alpha = t.alpha; beta = t.beta; frames = frames }

-- whether a frame is a whole one
abbrev pub is_whole : Payload → Bool
is_whole (Agree version run cycle lines) = false
is_whole (Reset number) = false
is_whole (Whole run cycle served lines) = true

-- whether no cycle's base counts more frames than these
abbrev pub have_bases_in : List Payload → List Cycle → Bool
have_bases_in frames cycles = list_all (λ (c : Cycle). nat_le c.base (length frames)) cycles

-- WITHOUT ITS LAST FRAME, which no base counts, a session still conserves.
abbrev pub ForgetsItsLast : Type 0
ForgetsItsLast = (session : Session) (cycles : List Cycle) (t : Traces) (last : Payload) → is_whole last ≡ false → have_bases_in t.frames cycles ≡ true
    → conserves session cycles (with_frames t (t.frames ++ last ∷ [])) ≡ true → conserves session cycles t ≡ true

-- whether each cycle's base counts all of these frames
abbrev pub have_bases_behind : List Payload → List Cycle → Bool
have_bases_behind frames cycles = list_all (λ (c : Cycle). nat_le (length frames) c.base) cycles

-- the frame that a cycle offers
abbrev pub frame_of : Session → Traces → Version → Cycle → Payload
frame_of session t version c = Agree version c.run c.number (offered session (ground_of t c) c)

-- WITH ONE FRAME MORE, which one of its cycles offered, a session still conserves: no base counts the frame, and each later cycle's base counts all before it.
abbrev pub MayFindOneMore : Type 0
MayFindOneMore = (session : Session) (before after : List Cycle) (c : Cycle) (t : Traces) (version : Version)
    → may_act session (ground_of t c) c ≡ true → has_lines (offered session (ground_of t c) c) ≡ true
    → have_bases_in t.frames (before ++ c ∷ after) ≡ true → have_bases_behind t.frames after ≡ true
    → conserves session (before ++ c ∷ after) t ≡ true
    → conserves session (before ++ c ∷ after) (with_frames t (t.frames ++ frame_of session t version c ∷ [])) ≡ true
