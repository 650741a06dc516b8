use Rattle.std.proofs.Common.{ap}
use Rattle.cycle_core.specs.UnderWay.{UnderWay}
use Rattle.cycle_core.proofs.Memories.{reportless, commit_full}
use Rattle.cycle_core.proofs.ending.to_commit.Goals as goal

pub returns-in-Ok : goal.returns-in-Ok
returns-in-Ok c = commit_full c.args.tag.run c.args.tag.cycle c.args.work c.in-Ok.problems _ _ c.in-Ok.ensures (ap (λ (w : UnderWay). w.outcome) c.work.view_is) c.with_report.ensures

pub returns-in-Err : goal.returns-in-Err
returns-in-Err c = (reportless, c.with_report-in-Err.ensures)
