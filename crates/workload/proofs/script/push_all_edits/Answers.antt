use Rattle.workload.specs.Script.{edit_lines}
use Rattle.workload.proofs.Joins.{below_more}
use Rattle.workload.proofs.script.push_all_edits.Goals as goal

pub loop-file-preserved : goal.loop-file-preserved
loop-file-preserved c = below_more _ _ _ c.loop-file.file (edit_lines c.args.salt) c.loop-file.invariant c.in_ok-push_edits.ensures
