-- The lines of an `agree` that is to be written.
use Rattle.std.specs.Prelude.{List, Bool, true, ◌&&◌, IsTrue}
use Rattle.std.specs.List.{AllByRecursion, list_all}
use Rattle.mode_rules.specs.declared.ancestor_line.AncestorLine.{AncestorLine}
use Rattle.mode_rules.specs.declared.ancestor_line.AncestorLine.TheVariants as lines
use Rattle.frame_text.specs.LineText.{IsLine, fits}
use Rattle.frame_text.specs.Payloads.{has_lines}
use Rattle.frame_text.specs.declared.version.Version.TheVariants.{V2}

-- the lines of an `agree` that is written: at least one, and each of version 2
abbrev pub AreAgreed : List AncestorLine → Type 0
AreAgreed agreed = IsTrue (has_lines agreed) × AllByRecursion (IsLine V2) agreed

-- whether a line sets nothing, or a tracked atom
abbrev pub sets_tracked : AncestorLine → Bool
sets_tracked (lines.Set path atom) = fits V2 atom
sets_tracked (lines.Drop path) = true

-- the same as a test, where the types of paths and atoms keep the rest
abbrev pub are_agreed : List AncestorLine → Bool
are_agreed agreed = has_lines agreed && list_all sets_tracked agreed
