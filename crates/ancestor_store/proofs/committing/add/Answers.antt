use Rattle.std.proofs.Common.{rules, ◌≡◌, ◌∷◌, subst}
use Rattle.ancestor_store.specs.Settling.{IsFront}
use Rattle.ancestor_store.proofs.Settled.{front_step}
use Rattle.ancestor_store.proofs.committing.add.Goals as goal

pub loop-line-preserved : goal.loop-line-preserved
loop-line-preserved c =
    let parts : c.loop-line.rest.now ≡ c.in-Some.line.now ∷ c.in-Some.behind.now = search rules in
    front_step c.args.lines.now c.in-Some.behind.now c.in-Some.line.now c.args.tree.now c.loop-line.tree c.apply.new.tree
    (subst (λ rest. IsFront c.args.lines.now rest c.args.tree.now c.loop-line.tree) parts c.loop-line.invariant) c.in-Ok.ensures.ok
