use Rattle.std.proofs.Common.{List, ℕ, Bool, not, ap, sym, subst, ◌∙◌}
use Rattle.std.specs.FinMap as map
use Rattle.sync_path.specs.Path.{is_under}
use Rattle.entry_tree.specs.Tree.{IsClosed, without_under}
use Rattle.entry_tree.proofs.Pruning.{taken_under}
use Rattle.entry_tree.proofs.Trees.{closed_retain, not_under_up}
use Rattle.entry_tree.proofs.tree.TreeOf.remove_under.Goals as goal

pub invariant_of-self : goal.invariant_of-self
invariant_of-self g c =
    let keep : List (List ℕ) → Bool = λ q. not (is_under q c.args.path.now) in
    subst (IsClosed g.T.Node.is_folder)
    (sym (taken_under g.T.Node.is_folder c.self.inside.entries c.take_under.new.map c.args.path.now c.self.invariant c.take_under.ensures.held c.take_under.ensures.absent))
    (closed_retain g.T.Node.is_folder (map.from_entries c.self.inside.entries.entries) c.self.invariant keep (not_under_up c.args.path.now))

pub returns : goal.returns
returns g c =
    taken_under g.T.Node.is_folder c.self.inside.entries c.take_under.new.map c.args.path.now c.self.invariant c.take_under.ensures.held c.take_under.ensures.absent
    ∙ ap (λ m. without_under m c.args.path.now) c.self.view_is
