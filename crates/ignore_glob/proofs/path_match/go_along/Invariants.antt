use Rattle.std.proofs.Common.{◌≤◌, length, drop}
use Rattle.ignore_glob.specs.Matching.{is_span, FitsName}
use Rattle.ignore_glob.specs.Stretch.{Along, names_of}
use Rattle.ignore_glob.proofs.path_match.go_along.Given as goal

abbrev pub invariant-loop-place : goal.invariant-loop-place
invariant-loop-place l = record {
  along : Along is_span FitsName (drop l.at (names_of l.names)) (drop l.from l.parts) (drop l.next (names_of l.names)) (drop l.place l.parts);
  forward : l.at ≤ l.next;
  within : l.next ≤ length l.names;
}
