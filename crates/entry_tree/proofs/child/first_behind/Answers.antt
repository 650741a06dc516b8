use Rattle.std.proofs.Common.{◌∙◌}
use Rattle.std.specs.Map.Iter.{deref_pair}
use Rattle.entry_tree.proofs.Rows.{begins, walk_left}
use Rattle.entry_tree.proofs.child.first_behind.Goals as goal

pub returns-clause-first : goal.returns-clause-first
returns-clause-first g c =
    begins deref_pair _ _ c.next.result c.next.new.self
    (c.new.ensures.rest ∙ walk_left c.args.path.now c.args.at.now c.requires c.args.map.now.entries c.new.ensures.ordered) c.next.ensures.steps
