use Rattle.std.proofs.Common.{rules, ◌≡◌, [], ◌∙◌, sym, subst}
use Rattle.transition_plan.specs.Order.{AreInOrder}
use Rattle.transition_plan.proofs.InOrder.{first_in_order}
use Rattle.transition_plan.proofs.steps.Steps.of.Goals as goal

pub invariant_of-result : goal.invariant_of-result
invariant_of-result c = (
  search rules,
  search rules,
  subst (λ undone. AreInOrder undone 0 c.from_vec.result.items) (sym c.in_ok-undone.ensures.items)
      (subst (AreInOrder [] 0) (sym (c.from_vec.ensures.items ∙ c.in_ok-steps.ensures)) (first_in_order c.args.stamps.now c.args.change.now)),
)
