-- The first of what is asked for later.
use Rattle.std.proofs.Common.{◌≡◌, true, false, ◌<◌, length, arith, List, [], ◌∷◌, refl, sym, ap, ◌∙◌, Some, None}
use Rattle.std.specs.FinMap as map
use Rattle.std.specs.BTreeMap.{BTreeMap, Updates, IsOrdered}
use Rattle.sync_path.specs.Path.{path_cmp}
use Rattle.sync_path.specs.PathOrder.{path_cmp_total}
use Rattle.entry_tree.specs.Tree.{Names, ByPath}
use Rattle.entry_tree.proofs.Paths.{path_same}
use Rattle.finite_maps.proofs.TreeMaps.{entries-from_tree, remove-from_tree}
use Rattle.scan_core.specs.Board.{first_in, first_of, without_in, without_first}
use Rattle.scan_core.specs.declared.wanted.Wanted.{Wanted}

pub none_there : {A : Type 0} (xs : List A) → (0 < length xs → false ≡ true) → xs ≡ []
none_there [] h = refl
none_there (x ∷ xs) h = absurd (let e : false ≡ true = h (omega arith) in cc)

module _ (before : BTreeMap Names Wanted) (later : ByPath Wanted) (view : map.from_entries {R = path_cmp} before.entries ≡ later) (ordered : IsOrdered path_cmp before) where
  entries_are : map.entries later ≡ before.entries
  entries_are = ap map.entries (sym view) ∙ entries-from_tree path_cmp_total path_same before ordered

  pub first_some : (p : Names × Wanted) (rest : List (Names × Wanted)) → before.entries ≡ p ∷ rest → Some (record { path = p.0; wanted = p.1 }) ≡ first_of later
  first_some p rest is = sym (ap first_in (entries_are ∙ is))

  pub first_none : before.entries ≡ [] → None ≡ first_of later
  first_none is = sym (ap first_in (entries_are ∙ is))

  pub rest_some : (after : BTreeMap Names Wanted) (p : Names × Wanted) (rest : List (Names × Wanted)) → before.entries ≡ p ∷ rest → Updates path_cmp before after p.0 None
      → map.from_entries {R = path_cmp} after.entries ≡ without_first later
  rest_some after p rest is gone =
      remove-from_tree path_cmp_total path_same before after p.0 gone
      ∙ ap (λ (m : ByPath Wanted). map.remove m p.0) view
      ∙ sym (ap (without_in later) (entries_are ∙ is))

  pub rest_none : (after : BTreeMap Names Wanted) → before.entries ≡ [] → after.entries ≡ before.entries → map.from_entries {R = path_cmp} after.entries ≡ without_first later
  rest_none after is same = ap map.from_entries same ∙ view ∙ sym (ap (without_in later) (entries_are ∙ is))
