use Rattle.std.proofs.Common.{subst, ◌∙◌}
use Rattle.std.specs.Map.Iter.{TakesFirst, deref_pair}
use Rattle.entry_tree.specs.Tree.{is_below}
use Rattle.entry_tree.proofs.Children.{first_met}
use Rattle.entry_tree.proofs.Pruning.{below_walk}
use Rattle.entry_tree.proofs.prune.stands_below.Goals as goal

pub returns : goal.returns
returns g c =
    c.is_some.ensures
    ∙ first_met deref_pair (λ e. is_below e.0 c.args.path.now) c.args.map.now.entries c.next.result c.next.new.self
    (subst (λ l. TakesFirst deref_pair l c.next.result c.next.new.self) (c.new.ensures.rest ∙ below_walk c.args.path.now c.args.map.now.entries c.new.ensures.ordered) c.next.ensures.steps)
