use Rattle.std.proofs.Common.{length}
use Rattle.std.specs.Prelude.{◌↔◌}
use Rattle.std.specs.Str.{chars}
use denote.Text.{Utf8}
use denote.Shadow.{shadow}
use Rattle.ignore_glob.specs.Matching.{is_run, FitsChar, MatchesSuffix}
use Rattle.ignore_glob.proofs.part_match.find_stretch.Given as goal

abbrev pub invariant-loop-rest : goal.invariant-loop-rest
invariant-loop-rest l = shadow (Utf8 l.text) × (MatchesSuffix is_run FitsChar (chars l.fn.text) l.pieces ↔ MatchesSuffix is_run FitsChar (chars l.text) l.pieces)

abbrev pub decreases-loop-rest : goal.decreases-loop-rest
decreases-loop-rest l = length (chars l.text)
