use Rattle.workload.specs.Script.{folder_lines}
use Rattle.workload.proofs.Joins.{below_more}
use Rattle.workload.proofs.script.push_tree.Goals as goal

pub loop-folder-preserved : goal.loop-folder-preserved
loop-folder-preserved c = below_more _ _ _ c.loop-folder.folder (folder_lines c.args.salt c.args.n) c.loop-folder.invariant c.in_ok-push_folder_lines.ensures
