use Rattle.std.proofs.Common.{ap, sym, subst, ◌∙◌}
use Rattle.std.specs.FinMap as map
use Rattle.entry_tree.specs.Tree.{IsClosed, entries_under}
use Rattle.entry_tree.specs.Copying.{put_all}
use Rattle.entry_tree.proofs.Copies.{put_all_is}
use Rattle.entry_tree.proofs.tree.TreeOf.copy.Goals as goal

pub invariant_of-result : goal.invariant_of-result
invariant_of-result g c =
    subst (IsClosed g.T.Node.is_folder)
    (sym (c.in_ok-copy_into.ensures
    ∙ ap (λ es. put_all (map.from_entries es) c.under.result) c.new-entries.ensures.empty
    ∙ ap (put_all map.empty) (c.under.ensures.rest ∙ ap (entries_under c.args.self.now) c.root-root.ensures)
    ∙ put_all_is c.args.self.now)) c.under.ensures.closed

pub returns : goal.returns
returns g c =
    c.in_ok-copy_into.ensures
    ∙ ap (λ es. put_all (map.from_entries es) c.under.result) c.new-entries.ensures.empty
    ∙ ap (put_all map.empty) (c.under.ensures.rest ∙ ap (entries_under c.args.self.now) c.root-root.ensures)
    ∙ put_all_is c.args.self.now
