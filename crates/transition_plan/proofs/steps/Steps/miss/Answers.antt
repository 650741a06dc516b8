use Rattle.std.proofs.Common.{rules, ◌≡◌, ◌∷◌, ◌++◌, [], ◌∙◌, sym, subst, Some}
use Rattle.transition_plan.specs.Courses.{not_done}
use Rattle.transition_plan.specs.Order.{AreInOrder, folder_with}
use Rattle.transition_plan.proofs.InOrder.{undone_in_order}
use Rattle.transition_plan.proofs.steps.Steps.miss.Goals as goal

pub skip_blocked-requires-clause-in_order : goal.skip_blocked-requires-clause-in_order
skip_blocked-requires-clause-in_order c =
    let rest_is : c.self.inside.rest.items ≡ c.in-Some.step ∷ c.pop_front.new.self.items = search rules in
    let undone_is : c.push_reserved.new.self.items ≡ c.self.inside.undone.items ++ not_done (Some c.args.cause) c.in-Some.step ∷ [] = search rules in
    let folder_is : c.folder_with-self-inside.result ≡ folder_with c.self.inside.undone.items c.self.inside.folder c.in-Some.step.op = search rules in
    subst (λ undone. AreInOrder undone c.folder_with-self-inside.result c.pop_front.new.self.items) (sym undone_is)
    (subst (λ folder. AreInOrder (c.self.inside.undone.items ++ not_done (Some c.args.cause) c.in-Some.step ∷ []) folder c.pop_front.new.self.items) (sym folder_is)
    (undone_in_order c.self.inside.undone.items c.self.inside.folder c.in-Some.step c.pop_front.new.self.items (Some c.args.cause)
    (subst (AreInOrder c.self.inside.undone.items c.self.inside.folder) rest_is c.self.invariant.2)))
