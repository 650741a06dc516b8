use Rattle.std.proofs.Common.{◌≡◌, true, not, ap, ◌∙◌, rules}
use Rattle.std.specs.List.{filter}
use Rattle.entry_tree.specs.Tree.{is_below}
use Rattle.entry_tree.proofs.Pruning.{goes_first}
use Rattle.entry_tree.proofs.prune.take_each.Goals as goal

pub loop-preserved : goal.loop-preserved
loop-preserved g c =
    let copied : c.copy_first.result ≡ true = search rules in
    ap (filter (λ e. not (is_below e.0 c.args.path.now))) c.remove.ensures.entries
    ∙ goes_first c.args.path.now c.copy_first.new.first (c.copy_first.ensures copied) c.loop.map.entries
    ∙ c.loop.invariant
