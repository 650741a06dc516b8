use Rattle.std.proofs.Common.{rules, ◌≡◌, ◌∙◌, sym, subst, not}
use Rattle.transition_plan.specs.Courses.{is_unstaged}
use Rattle.transition_plan.specs.Order.{AreInOrder}
use Rattle.transition_plan.specs.declared.step.Step.{Step}
use Rattle.transition_plan.proofs.InOrder.{kept_in_order}
use Rattle.transition_plan.proofs.steps.Steps.unstaged.Goals as goal

pub invariant_of-self-else-is_whole_unstaged : goal.invariant_of-self-else-is_whole_unstaged
invariant_of-self-else-is_whole_unstaged c = (
  search rules,
  search rules,
  subst (AreInOrder c.self.inside.undone.items c.self.inside.folder) (sym c.keep_staged.ensures.kept)
      (kept_in_order c.self.inside.undone.items c.self.inside.folder (λ (step : Step). not (is_unstaged c.args.missing.now step.op)) c.self.inside.rest.items c.self.invariant.2),
)
