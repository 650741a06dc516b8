-- Which frames are sound.
use Rattle.std.specs.Prelude.{ℕ, Bool, true, false, ◌&&◌, ◌==◌, List, [], ◌∷◌, ◌++◌, Option, Some, None, if◌then◌else◌}
use Rattle.std.specs.List.{filter_map, list_all}
use Rattle.entry_tree.specs.declared.atom.Atom.TheVariants as atom
use Rattle.entry_tree.specs.declared.entry.Entry.{Entry}
use Rattle.entry_tree.specs.declared.entry.Entry.TheVariants as entry
use Rattle.entry_tree.specs.declared.entry.Stamp.{Stamp}
use Rattle.entry_tree.specs.declared.side.Side.{Side}
use Rattle.entry_tree.specs.declared.side.Side.TheVariants.{Alpha, Beta}
use Rattle.entry_tree.specs.Tree.{Names}
use Rattle.frame_text.specs.declared.payload.Payload.{Payload}
use Rattle.frame_text.specs.declared.payload.Payload.TheVariants.{Agree, Reset, Whole}
use Rattle.mode_rules.specs.declared.ancestor_line.AncestorLine.{AncestorLine}
use Rattle.mode_rules.specs.declared.ancestor_line.AncestorLine.TheVariants.{Set, Drop}
use Rattle.roots_api.specs.Answers.{is_done}
use Rattle.roots_api.specs.declared.event.Span.{Span}
use Rattle.roots_api.specs.declared.op.Op.{Op}
use Rattle.roots_api.specs.declared.op.Op.TheVariants.{Place, MakeDir, MakeLink, Remove, SetExec}
use Rattle.scan_laws.specs.Seen.{Heard}
use Rattle.cycle_law.specs.Cycles.{Session, Cycle, Ground, log_of, heard_on}
use Rattle.cycle_law.specs.Plans.{plan}
use Rattle.cycle_law.specs.Sameness.{same_lines}

-- the line of a file whose bit was set
abbrev pub bit_line : (Stamp → List ℕ) → Names → Entry → Bool → Option AncestorLine
bit_line digest path (entry.File stamp exec) on = Some (Set path (atom.File (digest stamp) on))
bit_line digest path found on = None

-- the line of an operation that was done: a removal drops its path, and all others set what they leave there
abbrev pub line_of : (Stamp → List ℕ) → Op → Option AncestorLine
line_of digest (Place path content exec expected) = Some (Set path (atom.File content exec))
line_of digest (MakeDir path) = Some (Set path atom.Dir)
line_of digest (MakeLink path text expected) = Some (Set path (atom.Link text))
line_of digest (Remove path expected) = Some (Drop path)
line_of digest (SetExec path expected on) = bit_line digest path expected on
line_of digest op = None

abbrev pub landed_line : (Stamp → List ℕ) → Heard Span → Option AncestorLine
landed_line digest h = if is_done h.answer then line_of digest h.op else None

-- one line for each operation of a cycle on a side that was done, in order
abbrev pub landed_on : Ground → Cycle → Side → List AncestorLine
landed_on g c side = filter_map (landed_line (log_of g side).digest) (heard_on c (log_of g side))

-- a session's frame of a cycle: its lines
abbrev pub lines_of_cycle : Cycle → Payload → Option (List AncestorLine)
lines_of_cycle c (Agree version run cycle lines) = if (run == c.run) && (cycle == c.number) then Some lines else None
lines_of_cycle c (Reset number) = None
lines_of_cycle c (Whole run cycle served lines) = None

-- the lines of each frame of a cycle
abbrev pub frames_of : List Payload → Cycle → List (List AncestorLine)
frames_of frames c = filter_map (lines_of_cycle c) frames

abbrev pub has_lines : List AncestorLine → Bool
has_lines [] = false
has_lines (line ∷ lines) = true

module _ (session : Session) (g : Ground) (c : Cycle) where
  -- what a cycle's frame is to hold: the agreed lines of its plan, then one line for each operation that was done, alpha's first
  abbrev pub offered : List AncestorLine
  offered = (plan session g c).agreed ++ (landed_on g c Alpha ++ landed_on g c Beta)

  -- A SOUND FRAME of a cycle holds just these, at least one
  abbrev pub is_sound : List AncestorLine → Bool
  is_sound lines = has_lines lines && same_lines lines offered

  -- whether each frame of a cycle is sound
  abbrev pub frames_are_sound : List Payload → Bool
  frames_are_sound frames = list_all is_sound (frames_of frames c)
