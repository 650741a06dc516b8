use Rattle.std.proofs.Common.{◌-◌, ◌≤◌, length, drop}
use Rattle.std.specs.Prelude.{◌↔◌}
use Rattle.ignore_glob.specs.Matching.{is_span, FitsName, MatchesSuffix}
use Rattle.ignore_glob.specs.Stretch.{names_of}
use Rattle.ignore_glob.proofs.path_match.find_reach.Given as goal

abbrev pub invariant-loop-name : goal.invariant-loop-name
invariant-loop-name l = record {
  same : MatchesSuffix is_span FitsName (drop l.fn.at (names_of l.names)) (drop l.from l.parts) ↔ MatchesSuffix is_span FitsName (drop l.at (names_of l.names)) (drop l.from l.parts);
  names_in : l.at ≤ length l.names;
}

abbrev pub decreases-loop-name : goal.decreases-loop-name
decreases-loop-name l = length l.names - l.at
