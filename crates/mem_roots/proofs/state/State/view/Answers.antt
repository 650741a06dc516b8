use Rattle.std.proofs.Common.{◌++◌, ◌∷◌, [], ap, subst, ◌∙◌}
use Rattle.std.proofs.Common.{map as list_map}
use Rattle.std.specs.FinMap as finite
use Rattle.std.specs.Map.Iter.{deref_pair}
use Rattle.sync_path.specs.Path.{path_cmp}
use Rattle.sync_path.specs.PathOrder.{path_cmp_total}
use Rattle.finite_maps.proofs.MapLoops.{is_among, is_among-push, entries_turn, entries_end}
use Rattle.entry_tree.specs.Atom as atom
use Rattle.entry_tree.specs.Entry.{is_dir}
use Rattle.entry_tree.specs.Tree.{IsClosed, set_at}
use Rattle.roots_api.specs.States.{RootState}
use Rattle.mem_roots.proofs.Parents.{may_show}
use Rattle.mem_roots.proofs.Views.{shown_more, shown_all}
use Rattle.mem_roots.proofs.state.State.view.Goals as goal

pub loop-path-init : goal.loop-path-init
loop-path-init c q = ap (λ t. finite.get t q) c.new-view.ensures ∙ finite.get-empty path_cmp q

pub loop-path-preserved : goal.loop-path-preserved
loop-path-preserved c =
    let s : RootState = c.args.self.now in
    let turn = entries_turn path_cmp_total deref_pair s.tree c.loop-path.yielded _ _ _ _
    (c.into_iter-path-iterator.ensures.into_iter_gives ∙ c.iter-path-items.ensures.rest ∙ ap (λ (t : RootState). finite.entries t.tree) c.self.view_is)
    c.loop-path.yielded_by (c.in-Some.path, c.in-Some.entry) c.in-Some.is c.next.ensures.steps in
    shown_more s (subst (λ (t : RootState). IsClosed is_dir t.tree) c.self.view_is c.iter-path-items.ensures.closed)
    c.in-Some.path.now c.in-Some.entry.now turn.0 c.loop-path.view
    (is_among path_cmp (list_map deref_pair c.loop-path.yielded))
    (is_among path_cmp (list_map deref_pair (c.loop-path.yielded ++ (c.in-Some.path, c.in-Some.entry) ∷ [])))
    c.loop-path.invariant
    (is_among-push path_cmp deref_pair c.loop-path.yielded (c.in-Some.path, c.in-Some.entry))
    c.set_allowed.new.tree
    (c.in_ok-set_allowed.ensures.ok ∙ ap (set_at atom.is_dir c.loop-path.view c.in-Some.path.now) c.in_ok-atom.ensures)

pub set_allowed-requires : goal.set_allowed-requires
set_allowed-requires c =
    let s : RootState = c.args.self.now in
    let start = c.into_iter-path-iterator.ensures.into_iter_gives ∙ c.iter-path-items.ensures.rest ∙ ap (λ (t : RootState). finite.entries t.tree) c.self.view_is in
    let turn = entries_turn path_cmp_total deref_pair s.tree c.loop-path.yielded _ _ _ _ start c.loop-path.yielded_by (c.in-Some.path, c.in-Some.entry) c.in-Some.is c.next.ensures.steps in
    may_show deref_pair s (subst (λ (t : RootState). IsClosed is_dir t.tree) c.self.view_is c.iter-path-items.ensures.closed) c.loop-path.yielded _ _ _ _ start c.loop-path.yielded_by (c.in-Some.path, c.in-Some.entry) c.in-Some.is c.next.ensures.steps
    turn.0 c.loop-path.view c.loop-path.invariant

pub returns : goal.returns
returns c =
    shown_all c.args.self.now c.loop-path.view (is_among path_cmp (list_map deref_pair c.loop-path.yielded)) c.loop-path.invariant
    (entries_end path_cmp_total deref_pair c.args.self.now.tree c.loop-path.yielded _ _ _ _
    (c.into_iter-path-iterator.ensures.into_iter_gives ∙ c.iter-path-items.ensures.rest ∙ ap (λ (t : RootState). finite.entries t.tree) c.self.view_is)
    c.loop-path.yielded_by c.in-None.is c.next.ensures.steps)
