use Rattle.std.proofs.Common.{◌≡◌, false, not, sym, ◌∙◌, rules}
use Rattle.std.specs.List.{list_any}
use Rattle.std.proofs.lemmas.Map.Made.{filter_same_pairs}
use Rattle.entry_tree.specs.Tree.{is_below}
use Rattle.entry_tree.proofs.Pruning.{none_goes}
use Rattle.entry_tree.proofs.prune.take_out.Goals as goal

pub returns-then-stands_below : goal.returns-then-stands_below
returns-then-stands_below g c =
    filter_same_pairs _ (λ e. not (is_below e.0 c.args.path.now)) _ (λ k v b w f' t. search rules) c.take_each.new.map.entries _ c.retain.ensures.filtered
    ∙ c.take_each.ensures

pub returns-else-stands_below : goal.returns-else-stands_below
returns-else-stands_below g c =
    let none : list_any (λ e. is_below e.0 c.args.path.now) c.take_each.new.map.entries ≡ false = search rules in
    sym (none_goes (λ e. is_below e.0 c.args.path.now) c.take_each.new.map.entries none) ∙ c.take_each.ensures
