use Rattle.std.proofs.Common.{Some, sym, ap, ◌∙◌}
use Rattle.std.specs.List.{slice_get}
use Rattle.std.specs.Option.{option_copied}
use Rattle.cycle_core.specs.Changing.{asked}
use Rattle.cycle_core.proofs.Front.{next_some, next_none, next_over}
use Rattle.cycle_core.proofs.changing.Changing.next.Goals as goal

pub returns-in-Some-next : goal.returns-in-Some-next
returns-in-Some-next c =
    ap (λ s. Some (s, c.in-Some-next.op.now)) c.side.ensures
    ∙ next_some c.self.inside.courses.items c.self.inside.at c.in-Some.steps.now c.in-Some-next.op.now c.self.invariant
    (sym (ap option_copied (sym c.in-Some.is) ∙ c.at.ensures ∙ ap (λ xs. slice_get xs c.self.inside.at) c.deref.ensures.value))
    (sym c.next.ensures ∙ ap option_copied c.in-Some-next.is)
    ∙ ap asked c.self.view_is

pub returns-in-None-next : goal.returns-in-None-next
returns-in-None-next c =
    next_over c.self.inside.courses.items c.self.inside.at c.in-Some.steps.now c.self.invariant
    (sym (ap option_copied (sym c.in-Some.is) ∙ c.at.ensures ∙ ap (λ xs. slice_get xs c.self.inside.at) c.deref.ensures.value))
    (sym c.next.ensures ∙ ap option_copied c.in-None-next.is)
    ∙ ap asked c.self.view_is

pub returns-in-None : goal.returns-in-None
returns-in-None c =
    next_none c.self.inside.courses.items c.self.inside.at c.self.invariant
    (sym (ap option_copied (sym c.in-None.is) ∙ c.at.ensures ∙ ap (λ xs. slice_get xs c.self.inside.at) c.deref.ensures.value))
    ∙ ap asked c.self.view_is
