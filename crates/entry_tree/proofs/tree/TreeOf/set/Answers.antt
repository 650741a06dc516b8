use Rattle.std.proofs.Common.{◌≡◌, true, false, sym, ap, subst, ◌∙◌, rules}
use Rattle.std.specs.FinMap as map
use Rattle.std.specs.Option.{is_some}
use Rattle.sync_path.specs.Path.{path_cmp}
use Rattle.sync_path.specs.PathOrder.{path_cmp_total}
use Rattle.entry_tree.specs.Tree.{IsClosed, set_at, refusal, at_parent}
use Rattle.finite_maps.proofs.TreeMaps.{get-from_tree}
use Rattle.entry_tree.proofs.Setting.{folder_set, leaf_set}
use Rattle.entry_tree.proofs.Trees.{closed_set, stands_allowed, no_true}
use Rattle.entry_tree.proofs.tree.TreeOf.set.Goals as goal

pub invariant_of-self : goal.invariant_of-self
invariant_of-self g c =
    let leaf : g.T.Node.is_folder c.args.node ≡ false = search rules in
    let there = ap is_some (get-from_tree path_cmp_total c.self.inside.entries c.args.path.now) ∙ c.in-Ok.ensures.held in
    subst (IsClosed g.T.Node.is_folder)
    (sym (leaf_set g.T.Node.is_folder c.self.inside.entries c.replace.new.map c.args.path.now c.args.node c.in-Ok.ensures.replaced c.take_below.new.map.entries c.take_below.ensures leaf))
    (closed_set g.T.Node.is_folder (map.from_entries c.self.inside.entries.entries) c.args.path.now c.args.node c.self.invariant
    (stands_allowed g.T.Node.is_folder (map.from_entries c.self.inside.entries.entries) c.args.path.now c.self.invariant there))

pub invariant_of-self-else-not-is_dir : goal.invariant_of-self-else-not-is_dir
invariant_of-self-else-not-is_dir g c =
    let folder : g.T.Node.is_folder c.args.node ≡ true = search rules in
    let there = ap is_some (get-from_tree path_cmp_total c.self.inside.entries c.args.path.now) ∙ c.in-Ok.ensures.held in
    subst (IsClosed g.T.Node.is_folder)
    (sym (folder_set g.T.Node.is_folder c.self.inside.entries c.replace.new.map c.args.path.now c.args.node c.in-Ok.ensures.replaced folder))
    (closed_set g.T.Node.is_folder (map.from_entries c.self.inside.entries.entries) c.args.path.now c.args.node c.self.invariant
    (stands_allowed g.T.Node.is_folder (map.from_entries c.self.inside.entries.entries) c.args.path.now c.self.invariant there))

pub set_new-requires : goal.set_new-requires
set_new-requires g c =
    ap (λ es. map.get (map.from_entries {R = path_cmp} es) c.args.path.now) c.in-Err.ensures.same
    ∙ get-from_tree path_cmp_total c.self.inside.entries c.args.path.now
    ∙ c.in-Err.ensures.absent

pub returns-then-not-is_dir-clause-ok : goal.returns-then-not-is_dir-clause-ok
returns-then-not-is_dir-clause-ok g c =
    let leaf : g.T.Node.is_folder c.args.node ≡ false = search rules in
    leaf_set g.T.Node.is_folder c.self.inside.entries c.replace.new.map c.args.path.now c.args.node c.in-Ok.ensures.replaced c.take_below.new.map.entries c.take_below.ensures leaf
    ∙ ap (λ m. set_at g.T.Node.is_folder m c.args.path.now c.args.node) c.self.view_is

pub returns-then-not-is_dir-clause-allowed : goal.returns-then-not-is_dir-clause-allowed
returns-then-not-is_dir-clause-allowed g c =
    let there = ap is_some (get-from_tree path_cmp_total c.self.inside.entries c.args.path.now) ∙ c.in-Ok.ensures.held in
    sym (ap (λ m. refusal g.T.Node.is_folder (at_parent m c.args.path.now)) c.self.view_is)
    ∙ stands_allowed g.T.Node.is_folder (map.from_entries c.self.inside.entries.entries) c.args.path.now c.self.invariant there

pub returns-else-not-is_dir-clause-ok : goal.returns-else-not-is_dir-clause-ok
returns-else-not-is_dir-clause-ok g c =
    let folder : g.T.Node.is_folder c.args.node ≡ true = search rules in
    folder_set g.T.Node.is_folder c.self.inside.entries c.replace.new.map c.args.path.now c.args.node c.in-Ok.ensures.replaced folder
    ∙ ap (λ m. set_at g.T.Node.is_folder m c.args.path.now c.args.node) c.self.view_is

pub returns-else-not-is_dir-clause-allowed : goal.returns-else-not-is_dir-clause-allowed
returns-else-not-is_dir-clause-allowed g c =
    let there = ap is_some (get-from_tree path_cmp_total c.self.inside.entries c.args.path.now) ∙ c.in-Ok.ensures.held in
    sym (ap (λ m. refusal g.T.Node.is_folder (at_parent m c.args.path.now)) c.self.view_is)
    ∙ stands_allowed g.T.Node.is_folder (map.from_entries c.self.inside.entries.entries) c.args.path.now c.self.invariant there

pub returns-in-Err-clause-in_place : goal.returns-in-Err-clause-in_place
returns-in-Err-clause-in_place g c = λ h.
    absurd (no_true (map.contains_key c.args.self.now c.args.path.now) h
    (ap is_some (sym (ap (λ m. map.get m c.args.path.now) c.self.view_is) ∙ get-from_tree path_cmp_total c.self.inside.entries c.args.path.now ∙ c.in-Err.ensures.absent)))
