use Rattle.std.proofs.Common.{◌≡◌, ◌++◌, ◌∷◌, [], Some, None, ap, ◌∙◌, rules}
use Rattle.std.specs.List.{filter_map}
use Rattle.entry_tree.specs.Tree.{name_below, child_row}
use Rattle.entry_tree.specs.Walk.{left_behind}
use Rattle.entry_tree.proofs.Paths.{under_itself}
use Rattle.entry_tree.proofs.Rows.{all_left, first_under, past_other, past_child, smaller, under_trans}
use Rattle.entry_tree.proofs.child.children_in.Goals as goal

pub loop-below-init : goal.loop-below-init
loop-below-init g c = (
  under_itself c.args.path.now,
  ap (λ l. l ++ filter_map (child_row c.args.path.now) (left_behind c.args.path.now c.args.path.now c.args.map.now.entries)) c.new-children.ensures.items
      ∙ all_left c.args.path.now c.args.map.now.entries,
)

pub loop-below-smaller-in-None : goal.loop-below-smaller-in-None
loop-below-smaller-in-None g c =
    smaller c.args.path.now c.loop-below.at.now c.args.map.now.entries (c.in-Some.below.now, c.in-Some.node.now) c.first_behind.ensures.ordered c.in-Some.ensures.first c.in-Some.below.now (under_itself c.in-Some.below.now)

pub loop-below-preserved-in-None : goal.loop-below-preserved-in-None
loop-below-preserved-in-None g c =
    let none : name_below c.in-Some.below.now c.args.path.now ≡ None = search rules in (
      first_under c.args.path.now c.loop-below.at.now c.args.map.now.entries (c.in-Some.below.now, c.in-Some.node.now) c.first_behind.ensures.ordered c.in-Some.ensures.first,
      past_other c.args.path.now c.loop-below.at.now c.args.map.now.entries (c.in-Some.below.now, c.in-Some.node.now) c.first_behind.ensures.ordered c.in-Some.ensures.first
          c.loop-below.children.items (filter_map (child_row c.args.path.now) c.args.map.now.entries) c.loop-below.invariant.1 none,
    )

pub loop-below-smaller : goal.loop-below-smaller
loop-below-smaller g c =
    smaller c.args.path.now c.loop-below.at.now c.args.map.now.entries (c.in-Some.below.now, c.in-Some.node.now) c.first_behind.ensures.ordered c.in-Some.ensures.first c.last_under-at.result.now c.last_under-at.ensures

pub loop-below-preserved : goal.loop-below-preserved
loop-below-preserved g c =
    let child : name_below c.in-Some.below.now c.args.path.now ≡ Some c.in-Some-2.name = search rules in
    let pushed : c.push.new.self.items ≡ c.loop-below.children.items ++ (c.in-Some-2.name, c.in-Some.node.now) ∷ [] = search rules in (
      under_trans c.last_under-at.result.now c.in-Some.below.now c.args.path.now c.last_under-at.ensures
          (first_under c.args.path.now c.loop-below.at.now c.args.map.now.entries (c.in-Some.below.now, c.in-Some.node.now) c.first_behind.ensures.ordered c.in-Some.ensures.first),
      ap (λ l. l ++ filter_map (child_row c.args.path.now) (left_behind c.args.path.now c.last_under-at.result.now c.args.map.now.entries)) pushed
          ∙ past_child c.args.path.now c.loop-below.at.now c.args.map.now.entries (c.in-Some.below.now, c.in-Some.node.now) c.first_behind.ensures.ordered c.in-Some.ensures.first
          c.loop-below.children.items (filter_map (child_row c.args.path.now) c.args.map.now.entries) c.loop-below.invariant.1 c.in-Some-2.name c.last_under-at.result.now child c.last_under-at.ensures,
    )
