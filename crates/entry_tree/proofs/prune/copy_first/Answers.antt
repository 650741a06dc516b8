use Rattle.std.proofs.Common.{◌≡◌, ap, sym, ◌∙◌, rules}
use Rattle.std.specs.Map.Iter.{deref_pair}
use Rattle.std.proofs.lemmas.Map.Iter.{rest_more}
use Rattle.entry_tree.specs.Tree.{is_below}
use Rattle.entry_tree.proofs.Pruning.{below_walk, first_passes}
use Rattle.entry_tree.proofs.prune.copy_first.Goals as goal

pub returns-in-Some : goal.returns-in-Some
returns-in-Some g c = λ ok.
    let same : c.copy_from.new.self ≡ c.in-Some.below.now = search rules in
    ap (λ q. is_below q c.args.path.now) same
    ∙ first_passes (λ e. is_below e.0 c.args.path.now) c.args.map.now.entries (deref_pair (c.in-Some.below, c.in-Some.field-0-1)) c.next.new.self
    (sym (c.new.ensures.rest ∙ below_walk c.args.path.now c.args.map.now.entries c.new.ensures.ordered) ∙ rest_more deref_pair _ _ _ (c.in-Some.below, c.in-Some.field-0-1) c.in-Some.is c.next.ensures.steps)
