-- What stands in a map that is made of points.
use Rattle.std.proofs.Common.{◌≡◌, Bool, true, false, cond, List, [], ◌∷◌, refl, sym, ap, ◌∙◌, Option, Some, None}
use Rattle.std.specs.FinMap as map
use Rattle.std.specs.List.{filter_map, cons_option}
use Rattle.std.specs.Option.{option_map}
use Rattle.std.specs.Ordering.{eq_by_cmp}
use Rattle.finite_maps.proofs.Constructors.{none_is_not_some}
use Rattle.sync_path.specs.Path.{path_cmp}
use Rattle.sync_path.specs.PathOrder.{path_cmp_total}
use Rattle.entry_tree.specs.Tree.{Names}
use Rattle.cycle_law.specs.Saw.{by_points}
use Rattle.cycle_law.proofs.Tests.{same_path_is}

module _ {X : Type 0} (point : Names → Option X) where
  abbrev entry_at : Names → Option (Names × X)
  entry_at p = option_map (λ x. (p, x)) (point p)

  found_first : (p : Names) (o : Option X) → point p ≡ o → (rest : List (Names × X)) (q : Names) (x : X)
      → map.find path_cmp q (cons_option (option_map (λ y. (p, y)) o) rest) ≡ Some x → (map.find path_cmp q rest ≡ Some x → point q ≡ Some x) → point q ≡ Some x
  found_first p None here rest q x is more = more is
  found_first p (Some y) here rest q x is more = by (eq_by_cmp path_cmp q p) refl is
    where
      by : (b : Bool) → eq_by_cmp path_cmp q p ≡ b → cond b (Some y) (map.find path_cmp q rest) ≡ Some x → point q ≡ Some x
      by true e is = ap point (same_path_is q p e) ∙ here ∙ is
      by false e is = more is

  found_point : (ps : List Names) (q : Names) (x : X) → map.find path_cmp q (filter_map entry_at ps) ≡ Some x → point q ≡ Some x
  found_point [] q x is = absurd (none_is_not_some x is)
  found_point (p ∷ ps) q x is = found_first p (point p) refl (filter_map entry_at ps) q x is (found_point ps q x)

  -- what stands there is the point's
  pub get-by_points : (ps : List Names) (q : Names) (x : X) → map.get (by_points ps point) q ≡ Some x → point q ≡ Some x
  get-by_points ps q x is = found_point ps q x (sym (map.get-from_entries path_cmp_total (filter_map entry_at ps) q) ∙ is)
