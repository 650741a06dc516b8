use Rattle.std.proofs.Common.{◌-◌, ◌≤◌, length}
use Rattle.disk_model.proofs.file_disk.read_full.Given as goal

abbrev pub invariant-loop-got : goal.invariant-loop-got
invariant-loop-got l = l.got ≤ length l.into

abbrev pub decreases-loop-got : goal.decreases-loop-got
decreases-loop-got l = length l.into - l.got
