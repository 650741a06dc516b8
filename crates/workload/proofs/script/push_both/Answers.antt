use Rattle.workload.specs.Script.{new_line}
use Rattle.workload.proofs.Joins.{below_more}
use Rattle.workload.proofs.script.push_both.Goals as goal

pub loop-folder-preserved : goal.loop-folder-preserved
loop-folder-preserved c = below_more _ _ _ c.loop-folder.folder (new_line) c.loop-folder.invariant c.in_ok-push_new.ensures
