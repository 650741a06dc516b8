-- What a root shows, path by path.
use Rattle.std.proofs.Common.{◌≡◌, ◌⊎◌, inl, inr, ℕ, ◌+◌, ◌<◌, zero, suc, Bool, true, false, cond, not, ◌||◌, ◌&&◌, List, [], ◌∷◌, ◌++◌, length, refl, sym, ap, ◌∙◌, Option, Some, None, bytes_eq, arith, length-append}
use Rattle.std.proofs.Common.{map as list_map}
use Rattle.std.specs.FinMap as map
use Rattle.std.specs.Prelude.{is_some}
use Rattle.std.specs.Option.{option_map}
use Rattle.std.specs.Ordering.{eq_by_cmp, is_eq}
use Rattle.std.proofs.Math.Bool.{or-false}
use Rattle.sync_path.specs.Path.{path_cmp}
use Rattle.sync_path.specs.PathOrder.{path_cmp_total}
use Rattle.entry_tree.specs.Atom as atom
use Rattle.entry_tree.specs.Entry.{is_dir}
use Rattle.entry_tree.specs.Tree.{Names, ByPath, IsClosed, holds_folder, is_below, set_at}
use Rattle.entry_tree.specs.declared.atom.Atom.{Atom}
use Rattle.entry_tree.specs.declared.entry.Entry.{Entry}
use Rattle.entry_tree.specs.declared.entry.Entry.TheVariants.{Dir, File, Link, Other}
use Rattle.entry_tree.proofs.Paths.{path_same, name_is}
use Rattle.entry_tree.proofs.Trees.{get-set, tie_is, root_or_child}
use Rattle.roots_api.specs.States.{RootState}
use Rattle.roots_api.specs.Views.{atom_of, view_of}
use Rattle.root_laws.proofs.Below.{none_below}
use Rattle.root_laws.proofs.Viewing.{same_kind, get-view}

no_entry : (f : Entry → Atom) (b : Bool) (o : Option Entry) → is_some o ≡ b → cond b (option_map f o) None ≡ option_map f o
no_entry f b None h = elim b as (λ c. cond c (option_map f None) None ≡ None) [ true ↦ refl | false ↦ refl ]
no_entry f b (Some e) h = ap (λ c. cond c (Some (f e)) None) (sym h)

-- a tree that shows all entries is the view
pub shown_all : (s : RootState) (view : ByPath Atom) (is_there : Names → Bool)
    → ((q : Names) → map.get view q ≡ cond (is_there q) (option_map (atom_of s.ledger) (map.get s.tree q)) None)
    → ((q : Names) → map.contains_key s.tree q ≡ is_there q) → view ≡ view_of s
shown_all s view is_there shown all =
    map.same_map path_cmp_total path_same view (view_of s)
    (λ q. shown q ∙ no_entry (atom_of s.ledger) (is_there q) (map.get s.tree q) (all q) ∙ sym (get-view s q))

none_shown : (f : Entry → Atom) (b : Bool) (o : Option Entry) → is_some o ≡ false → cond b (option_map f o) None ≡ None
none_shown f true None h = refl
none_shown f false None h = refl
none_shown f b (Some e) h = absurd (cc)

module _ (s : RootState) (closed : IsClosed is_dir s.tree) (path : Names) (e : Entry) (at : map.get s.tree path ≡ Some e) (view : ByPath Atom) (is_there will_be : Names → Bool)
    (shown : (q : Names) → map.get view q ≡ cond (is_there q) (option_map (atom_of s.ledger) (map.get s.tree q)) None)
    (more : (q : Names) → will_be q ≡ (is_there q || eq_by_cmp path_cmp q path)) where
  here : (q : Names) (is : Bool) → q ≡ path → Some (atom_of s.ledger e) ≡ cond (is || true) (option_map (atom_of s.ledger) (map.get s.tree q)) None
  here q true h = ap (option_map (atom_of s.ledger)) (sym at ∙ ap (map.get s.tree) (sym h))
  here q false h = ap (option_map (atom_of s.ledger)) (sym at ∙ ap (map.get s.tree) (sym h))

  elsewhere : (q : Names) (is : Bool) → map.get view q ≡ cond is (option_map (atom_of s.ledger) (map.get s.tree q)) None
      → cond (is_dir e || not (is_below q path)) (map.get view q) None ≡ cond (is || false) (option_map (atom_of s.ledger) (map.get s.tree q)) None
  elsewhere q is h =
      elim (is_dir e) as (λ b. is_dir e ≡ b → cond (b || not (is_below q path)) (map.get view q) None ≡ cond (is || false) (option_map (atom_of s.ledger) (map.get s.tree q)) None) [
        | true ↦ λ _. h ∙ ap (λ b. cond b (option_map (atom_of s.ledger) (map.get s.tree q)) None) (sym (or-false is))
        | false ↦ λ leaf. elim (is_below q path) as (λ b. is_below q path ≡ b → cond (not b) (map.get view q) None ≡ cond (is || false) (option_map (atom_of s.ledger) (map.get s.tree q)) None) [
          | true ↦ λ below. sym (none_shown (atom_of s.ledger) (is || false) (map.get s.tree q) (none_below is_dir s.tree closed path (ap (λ (o : Option Entry). holds_folder is_dir o) at ∙ leaf) q below))
          | false ↦ λ _. h ∙ ap (λ b. cond b (option_map (atom_of s.ledger) (map.get s.tree q)) None) (sym (or-false is))
        ] refl
      ] refl

  -- a tree that shows some entries shows one more, once it was set
  pub shown_more : (new : ByPath Atom) → new ≡ set_at atom.is_dir view path (atom_of s.ledger e) → (q : Names) → map.get new q ≡ cond (will_be q) (option_map (atom_of s.ledger) (map.get s.tree q)) None
  shown_more new is q =
      ap (λ t. map.get t q) is
      ∙ get-set atom.is_dir view path (atom_of s.ledger e) q
      ∙ ap (λ b. cond (eq_by_cmp path_cmp q path) (Some (atom_of s.ledger e)) (cond (b || not (is_below q path)) (map.get view q) None)) (same_kind s.ledger e)
      ∙ (elim (eq_by_cmp path_cmp q path) as (λ b. eq_by_cmp path_cmp q path ≡ b → cond b (Some (atom_of s.ledger e)) (cond (is_dir e || not (is_below q path)) (map.get view q) None) ≡ cond (is_there q || b) (option_map (atom_of s.ledger) (map.get s.tree q)) None) [
        | true ↦ λ tie. here q (is_there q) (tie_is q path tie)
        | false ↦ λ _. elsewhere q (is_there q) (shown q)
      ] refl)
      ∙ ap (λ b. cond b (option_map (atom_of s.ledger) (map.get s.tree q)) None) (sym (more q))
