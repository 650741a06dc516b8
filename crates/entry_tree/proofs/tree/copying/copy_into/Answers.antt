use Rattle.std.proofs.Common.{◌∷◌, sym, ◌∙◌}
use Rattle.std.specs.Map.Iter.{deref_pair}
use Rattle.std.proofs.lemmas.Map.Iter.{rest_more}
use Rattle.entry_tree.proofs.Copies.{put_one}
use Rattle.entry_tree.proofs.tree.copying.copy_into.Goals as goal

pub loop-path-preserved-in_ok-insert : goal.loop-path-preserved-in_ok-insert
loop-path-preserved-in_ok-insert g c =
    put_one c.loop-path.into c.insert.new.self (c.in_ok-key.key, c.in_ok-value.value) c.loop-path.path-iterator c.next.new.self _ c.in_ok-insert.ensures.updates
    (rest_more deref_pair _ _ _ (c.in-Some.path, c.in-Some.node) c.in-Some.is c.next.ensures.steps ∙ (λ i. (sym c.in_ok-key.ensures.value i, sym c.in_ok-value.ensures.value i) ∷ c.next.new.self))
    c.loop-path.invariant

pub loop-path-preserved : goal.loop-path-preserved
loop-path-preserved g c =
    put_one c.loop-path.into c.insert.new.self (c.in_ok-key.key, c.in_ok-value.value) c.loop-path.path-iterator c.next.new.self _ c.in_ok-insert.ensures.updates
    (rest_more deref_pair _ _ _ (c.in-Some.path, c.in-Some.node) c.in-Some.is c.next.ensures.steps ∙ (λ i. (sym c.in_ok-key.ensures.value i, sym c.in_ok-value.ensures.value i) ∷ c.next.new.self))
    c.loop-path.invariant
