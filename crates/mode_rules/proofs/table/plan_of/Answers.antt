use Rattle.mode_rules.specs.Sights.{trees_of}
use Rattle.mode_rules.proofs.PlanParts.{plan_from_parts}
use Rattle.mode_rules.proofs.table.plan_of.Goals as goal

pub returns : goal.returns
returns c =
    plan_from_parts c.args.mode (trees_of c.args.sight.now) _ _ _ _ _ _ _ _ _ _
    c.requires c.in_ok-points.ensures
    c.as_slice.ensures c.in_ok-changes.ensures
    c.as_slice-2.ensures c.in_ok-agreed.ensures
    c.as_slice-3.ensures c.in_ok-conflicts.ensures
    c.as_slice-4.ensures c.halt_of-halt.ensures
