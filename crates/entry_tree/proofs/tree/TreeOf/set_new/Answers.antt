use Rattle.std.proofs.Common.{◌≡◌, Some, None, sym, ap, subst, ◌∙◌, rules}
use Rattle.std.specs.FinMap as map
use Rattle.std.specs.BTreeMap as tree
use Rattle.sync_path.specs.Path.{path_cmp}
use Rattle.entry_tree.specs.Tree.{IsClosed, set_at, refusal, at_parent}
use Rattle.entry_tree.proofs.Setting.{anew_set}
use Rattle.entry_tree.proofs.Trees.{closed_set}
use Rattle.entry_tree.proofs.tree.TreeOf.set_new.Goals as goal

pub invariant_of-self-2 : goal.invariant_of-self-2
invariant_of-self-2 g c =
    let put : tree.Updates path_cmp c.self.inside.entries c.put.new.map c.args.path.now (Some c.args.node) = search rules in
    let none : map.get (map.from_entries {R = path_cmp} c.self.inside.entries.entries) c.args.path.now ≡ None = ap (λ m. map.get m c.args.path.now) c.self.view_is ∙ c.requires in
    let allowed : refusal g.T.Node.is_folder (at_parent c.args.self.now c.args.path.now) ≡ None = search rules in
    subst (IsClosed g.T.Node.is_folder)
    (sym (anew_set g.T.Node.is_folder c.self.inside.entries c.put.new.map c.args.path.now c.args.node put c.self.invariant none))
    (closed_set g.T.Node.is_folder (map.from_entries c.self.inside.entries.entries) c.args.path.now c.args.node c.self.invariant (ap (λ m. refusal g.T.Node.is_folder (at_parent m c.args.path.now)) c.self.view_is ∙ allowed))

pub returns-clause-ok : goal.returns-clause-ok
returns-clause-ok g c =
    let put : tree.Updates path_cmp c.self.inside.entries c.put.new.map c.args.path.now (Some c.args.node) = search rules in
    let none : map.get (map.from_entries {R = path_cmp} c.self.inside.entries.entries) c.args.path.now ≡ None = ap (λ m. map.get m c.args.path.now) c.self.view_is ∙ c.requires in
    anew_set g.T.Node.is_folder c.self.inside.entries c.put.new.map c.args.path.now c.args.node put c.self.invariant none
    ∙ ap (λ m. set_at g.T.Node.is_folder m c.args.path.now c.args.node) c.self.view_is
