use Rattle.std.proofs.Common.{◌≡◌, ℕ, sym, ap, ◌∙◌, Some}
use Rattle.std.specs.BTreeMap as tree
use Rattle.std.specs.BTreeMap.{BTreeMap}
use Rattle.std.specs.FinMap as map
use Rattle.std.specs.FinMap.{nat_cmp-IsAntisymmetric}
use Rattle.std.specs.Cmp.{nat_cmp_total}
use Rattle.std.specs.Ordering.{nat_cmp}
use Rattle.std.specs.Option.{option_copied_mut}
use Rattle.roots_api.specs.States.{Staged}
use Rattle.finite_maps.proofs.TreeMaps.{get-from_tree, written-from_tree}
use Rattle.mem_roots.specs.Staging.{staged_after}
use Rattle.mem_roots.proofs.Rows.{where_written, where_kept, where_begun}
use Rattle.mem_roots.proofs.staging.Staging.apply.Goals as goal

-- what was found at the session's row
lent : (c : goal.After-self-in-Some-1) → Some c.in-Some.staged.now ≡ tree.get nat_cmp c.self.inside.sessions c.args.id
lent c = sym (ap option_copied_mut c.in-Some.is) ∙ c.get_mut.ensures.value

found : (c : goal.After-self-in-Some-1) → map.get c.args.self.now c.args.id ≡ Some c.in-Some.staged.now
found c =
    ap (λ m. map.get m c.args.id) (sym c.self.view_is)
    ∙ get-from_tree nat_cmp_total c.self.inside.sessions c.args.id
    ∙ sym (lent c)

written : (c : goal.After-self-in-Some-1) → map.from_entries (c.get_mut.follows.lender c.apply.new.self).entries ≡ map.insert c.args.self.now c.args.id c.apply.new.self
written c =
    written-from_tree nat_cmp_total nat_cmp-IsAntisymmetric c.self.inside.sessions (c.get_mut.follows.lender c.apply.new.self) c.args.id c.in-Some.staged.now c.apply.new.self (lent c) (c.get_mut.follows.holds c.apply.new.self)
    ∙ ap (λ m. map.insert m c.args.id c.apply.new.self) c.self.view_is

pub returns-in-Some-clause-ok : goal.returns-in-Some-clause-ok
returns-in-Some-clause-ok c = where_written c.args.self.now _ c.args.id (staged_after c.args.op.now c.args.is_done) c.in-Some.staged.now c.apply.new.self c.apply.result (found c) (written c) c.apply.ensures.ok

pub returns-in-Some-clause-err : goal.returns-in-Some-clause-err
returns-in-Some-clause-err c = where_kept c.args.self.now _ c.args.id c.in-Some.staged.now c.apply.new.self c.apply.result (found c) (written c) c.apply.ensures.err

pub returns-in-None-clause-ok : goal.returns-in-None-clause-ok
returns-in-None-clause-ok c =
    where_begun c.args.self.now c.begin.new.self c.args.id (staged_after c.args.op.now c.args.is_done) (map.from_entries c.get_mut.follows.lender-at-none.entries) c.begin.result
    (ap (λ (t : BTreeMap ℕ Staged). map.from_entries t.entries) c.get_mut.follows.holds-at-none ∙ c.self.view_is)
    (ap (λ m. map.get m c.args.id) (sym c.self.view_is) ∙ get-from_tree nat_cmp_total c.self.inside.sessions c.args.id ∙ sym c.get_mut.ensures.value ∙ ap option_copied_mut c.in-None.is)
    c.begin.ensures.ok
