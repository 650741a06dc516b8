-- What compaction makes of kept frames.
use Rattle.std.specs.Prelude.{◌≡◌, ℕ, ◌+◌, ◌-◌, ◌^◌, cond, min, bytes_eq, codes, List, [], ◌∷◌, map}
use Rattle.std.specs.FinMap as trees
use Rattle.entry_tree.specs.Tree.{Names, ByPath}
use Rattle.entry_tree.specs.declared.atom.Atom.{Atom}
use Rattle.frame_text.specs.Folds.{Folded, FoldsTo, IsBadFrame}
use Rattle.frame_text.specs.Payloads.{payload_bytes}
use Rattle.frame_text.specs.declared.head.TheConstants.{MAX_RUN}
use Rattle.frame_text.specs.declared.payload.Payload.{Payload}
use Rattle.frame_text.specs.declared.payload.Payload.TheVariants.{Whole}
use Rattle.mode_rules.specs.declared.ancestor_line.AncestorLine.{AncestorLine}
use Rattle.mode_rules.specs.declared.ancestor_line.AncestorLine.TheVariants.{Set}

-- how many of the table's frames say that a run was opened
abbrev pub opened_of : List (List ℕ) → ℕ
opened_of [] = 0
opened_of (frame ∷ frames) = cond (bytes_eq frame (codes "v1 opened")) (1 + opened_of frames) (opened_of frames)

-- The run that a compaction names: their number. (A table with more than the greatest number of a run is outside its grammar; the run stays there.)
abbrev pub run_of : List (List ℕ) → ℕ
run_of frames = min (opened_of frames) MAX_RUN

-- the greatest number of a cycle, so that each cycle of the runs before counts as not later
abbrev pub last_cycle : ℕ
last_cycle = 2 ^ 64 - 1

-- a line for each path of a tree, in path order
abbrev pub line_of : Names × Atom → AncestorLine
line_of e = Set e.0 e.1

abbrev pub lines_of : ByPath Atom → List AncestorLine
lines_of tree = map line_of (trees.entries tree)

-- the payload that stands for all before
abbrev pub whole_of : ℕ → Folded → Payload
whole_of run folded = Whole run last_cycle folded.served (lines_of folded.tree)

-- What compaction makes of a session's frames: none of none, one whole payload where they have a fold, and the same frames where one is outside the grammar.
abbrev pub Compacts : ℕ → List (List ℕ) → List (List ℕ) → Type 0
Compacts run [] new = new ≡ []
Compacts run (frame ∷ frames) new =
    ((folded : Folded) → FoldsTo (frame ∷ frames) folded → new ≡ payload_bytes (whole_of run folded) ∷ [])
    × ((number : ℕ) → IsBadFrame (frame ∷ frames) number → new ≡ frame ∷ frames)
