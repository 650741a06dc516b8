use Rattle.std.proofs.lemmas.Map.Iter.{rest_more, rest_all}
use Rattle.std.specs.Map.Iter.{deref_pair}
use Rattle.reconcile.proofs.Joins.{joined_step, joined_end}
use Rattle.reconcile.proofs.rows.joined.Goals as goal

pub entries-preserved : goal.entries-preserved
entries-preserved c = (
  c.in_ok-at.ensures.within,
  joined_step c.args.part c.args.rows.now c.entries.all.items c.push_entry.new.all.items c.entries.at c.in_ok-at.at c.in-Some.path.now c.in-Some.atom.now
      c.entries.path-iterator c.next.new.self _ c.entries.invariant.1
      (rest_more deref_pair _ _ _ (c.in-Some.path, c.in-Some.atom) c.in-Some.is c.next.ensures.steps)
      c.in_ok-at.ensures.pushed c.in_ok-at.ensures.place,
)

pub returns : goal.returns
returns c =
    joined_end c.args.part c.args.rows.now c.entries.all.items c.push_all.new.all.items c.split_at.result.1.now c.entries.at c.entries.path-iterator _
    c.entries.invariant.1 (rest_all deref_pair _ _ _ c.in-None.is c.next.ensures.steps) c.split_at.ensures.back c.in_ok-push_all.ensures
