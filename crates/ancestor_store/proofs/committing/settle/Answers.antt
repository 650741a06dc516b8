use Rattle.std.proofs.Common.{rules, ◌≡◌, [], subst}
use Rattle.ancestor_store.specs.Settling.{Settles}
use Rattle.ancestor_store.proofs.Settled.{settled_end, settled_step}
use Rattle.ancestor_store.proofs.committing.settle.Goals as goal

pub loop-line-preserved : goal.loop-line-preserved
loop-line-preserved c = λ to closed s.
    settled_step c.loop-line.tree to c.place.new.tree c.pop.new.self c.in-Some.line closed
    (subst (Settles c.loop-line.tree to) c.in-Some.ensures (c.loop-line.invariant to closed s)) c.place.ensures

pub returns : goal.returns
returns c = λ to closed s.
    let none : c.loop-line.lines ≡ [] = search rules in
    settled_end c.loop-line.tree to (subst (Settles c.loop-line.tree to) none (c.loop-line.invariant to closed s))
