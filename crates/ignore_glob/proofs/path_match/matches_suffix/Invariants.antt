use Rattle.std.proofs.Common.{◌-◌, ◌≤◌, length, drop}
use Rattle.std.specs.Prelude.{◌↔◌}
use Rattle.ignore_glob.specs.Matching.{is_span, FitsName, MatchesSuffix}
use Rattle.ignore_glob.specs.Stretch.{names_of}
use Rattle.ignore_glob.proofs.path_match.matches_suffix.Given as goal

abbrev pub invariant-loop-at : goal.invariant-loop-at
invariant-loop-at l = record {
  same : MatchesSuffix is_span FitsName (drop l.fn.at (names_of l.names)) (drop l.fn.from l.parts) ↔ MatchesSuffix is_span FitsName (drop l.at (names_of l.names)) (drop l.from l.parts);
  names_in : l.at ≤ length l.names;
  parts_in : l.from ≤ length l.parts;
}

abbrev pub decreases-loop-at : goal.decreases-loop-at
decreases-loop-at l = length l.parts - l.from
