use Rattle.std.proofs.Common.{ap, ◌∙◌}
use Rattle.cycle_core.specs.Ending.{ended_early}
use Rattle.cycle_core.proofs.Taking.{scan_taken_on, scan_ended_on}
use Rattle.cycle_core.proofs.turning.scanned_on.Goals as goal

pub returns-in-Ok : goal.returns-in-Ok
returns-in-Ok c =
    scan_taken_on c.args.setup.now c.args.cache.now _ c.scanning.inside.side c.scanning.inside.looks c.args.scanning c.args.answer _ _ _ c.scanning.view_is
    c.in-Ok.ensures c.after_scan.ensures

pub returns-in-Err : goal.returns-in-Err
returns-in-Err c =
    scan_ended_on c.args.setup.now c.args.cache.now _ c.scanning.inside.side c.scanning.inside.looks c.args.scanning c.args.answer _ _ _ c.scanning.view_is
    c.in-Err.ensures (c.ended_early.ensures ∙ ap (λ o. ended_early c.args.setup.now.tag.run c.args.setup.now.tag.cycle o) c.outcome_of.ensures)
