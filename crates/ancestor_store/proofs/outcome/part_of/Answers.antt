use Rattle.std.proofs.Common.{sym, subst}
use Rattle.ancestor_store.specs.Settling.{IsPart}
use Rattle.ancestor_store.proofs.Outcomes.{nothing_is_part}
use Rattle.ancestor_store.proofs.outcome.part_of.Goals as goal

pub loop-line-init : goal.loop-line-init
loop-line-init c = subst (λ part. IsPart part c.args.tree.now) (sym c.new-part.ensures) (nothing_is_part c.args.tree.now)
