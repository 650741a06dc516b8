-- The replies, as bytes.
use Rattle.std.specs.Prelude.{false, ℕ, ◌+◌, List, [], ◌∷◌, ◌++◌, codes, decimal}
use Rattle.std.specs.List.{flat_map}
use Rattle.std.specs.FinMap as map
use Rattle.sha2.specs.Sha256.{sha256}
use Rattle.entry_tree.specs.declared.atom.Atom.TheVariants.{Dir, File}
use Rattle.entry_tree.specs.AtomText.{spelling_of}
use Rattle.script_engine.specs.Names.{NameSet}
use Rattle.script_engine.specs.World.{Files}

-- a line of output
abbrev pub output_line : List ℕ → List ℕ
output_line text = text ++ (10 ∷ [])

-- the identifier of the one session
abbrev pub identifier : List ℕ
identifier = codes "sync_00000000-0000-4000-8000-000000000000"

abbrev pub edit_reply : List ℕ
edit_reply = output_line (codes "ok edit")

abbrev pub create_reply : List ℕ
create_reply = output_line (codes "ok create " ++ identifier)

-- the line of the session's cycle of this number, which met so many conflicts
abbrev pub cycle_line : ℕ → ℕ → List ℕ
cycle_line cycle conflicts =
    output_line (codes "ok flush " ++ identifier ++ codes " cycle " ++ decimal cycle ++ codes " done conflicts " ++ decimal conflicts ++ codes " problems 0")

-- the line of a conflict: both sides have changed, each at the one name
abbrev pub conflict_line : List ℕ → List ℕ
conflict_line name = output_line (codes "  conflict " ++ name ++ codes " both alpha 1 beta 1")

-- the reply to the flush that was the session's cycle of this number: the conflicts that it met, in the order of their names
abbrev pub flush_reply : ℕ → NameSet → List ℕ
flush_reply cycle conflicts = cycle_line cycle (map.len conflicts) ++ flat_map conflict_line (map.keys conflicts)

-- one file of a root
abbrev pub file_line : (List ℕ) × (List ℕ) → List ℕ
file_line (name, contents) = output_line (codes "  " ++ name ++ codes " " ++ spelling_of (File (sha256 contents) false))

-- the root itself and its files, in the order of their names
abbrev pub show_reply : List ℕ → Files → List ℕ
show_reply root files =
    output_line (codes "ok show " ++ root ++ codes " " ++ decimal (map.len files + 1))
    ++ output_line (codes "  . " ++ spelling_of Dir)
    ++ flat_map file_line (map.entries files)

-- no root has the name
abbrev pub no_root_reply : List ℕ → List ℕ
no_root_reply root = output_line (codes "refused 13 no-root " ++ root)

-- no session has the name or the identifier
abbrev pub no_session_reply : List ℕ
no_session_reply = output_line (codes "refused 20 no-session")

-- the line is no form, or asks for what isn't built
abbrev pub not_yet_reply : List ℕ
not_yet_reply = output_line (codes "refused 39 not-yet")
