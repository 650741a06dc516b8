use Rattle.std.proofs.Common.{Some, sym, ap, subst, ◌∙◌}
use Rattle.ancestor_store.specs.Settling.{IsPart}
use Rattle.ancestor_store.proofs.Outcomes.{part_step}
use Rattle.ancestor_store.proofs.outcome.copy_at.Goals as goal

pub returns-in-Ok : goal.returns-in-Ok
returns-in-Ok c = λ is.
    subst (λ part. IsPart part c.args.tree.now) (sym c.in-Ok.ensures.ok)
    (part_step c.args.part.now c.args.tree.now c.args.path.now c.in_ok-copy.field-0 is (sym c.in-Some.ensures.value ∙ ap Some (sym c.in_ok-copy.ensures.value)))
