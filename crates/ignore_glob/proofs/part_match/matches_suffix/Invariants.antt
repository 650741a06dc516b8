use Rattle.std.proofs.Common.{length}
use Rattle.std.specs.Prelude.{◌↔◌}
use Rattle.std.specs.Str.{chars}
use denote.Text.{Utf8}
use denote.Shadow.{shadow}
use Rattle.ignore_glob.specs.Matching.{is_run, FitsChar, MatchesSuffix}
use Rattle.ignore_glob.proofs.part_match.matches_suffix.Given as goal

abbrev pub invariant-loop-text : goal.invariant-loop-text
invariant-loop-text l = shadow (Utf8 l.text) × (MatchesSuffix is_run FitsChar (chars l.fn.text) l.fn.pieces ↔ MatchesSuffix is_run FitsChar (chars l.text) l.pieces)

abbrev pub decreases-loop-text : goal.decreases-loop-text
decreases-loop-text l = length l.pieces
