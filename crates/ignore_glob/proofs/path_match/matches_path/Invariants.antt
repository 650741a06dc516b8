use Rattle.std.proofs.Common.{◌≡◌, ◌+◌, ◌≤◌, ◌++◌, length, take}
use Rattle.ignore_glob.specs.Stretch.{names_of}
use Rattle.sync_path.specs.declared.limits.TheConstants.{MAX_DEPTH}
use Rattle.ignore_glob.proofs.path_match.matches_path.Given as goal

abbrev pub invariant-loop-name : goal.invariant-loop-name
invariant-loop-name l = record {
  names_are : names_of (take l.count l.names) ++ l.name-iterator ≡ l.fn.path;
  room : l.count + length l.name-iterator ≤ MAX_DEPTH;
  slots : length l.names ≡ MAX_DEPTH;
}
