-- What a small part of a tree comes to says what the tree comes to.
use Rattle.std.proofs.Common.{◌≡◌, Bool, true, false, cond, not, ◌||◌, List, refl, sym, ap, ◌∙◌, Some, None}
use Rattle.std.specs.FinMap as map
use Rattle.std.specs.Ordering.{eq_by_cmp}
use Rattle.finite_maps.proofs.Constructors.{none_is_not_some}
use Rattle.sync_path.specs.Path.{path_cmp, is_below}
use Rattle.entry_tree.specs.Atom.{is_dir}
use Rattle.entry_tree.specs.Tree.{Names, ByPath, set_at}
use Rattle.entry_tree.specs.declared.atom.Atom.{Atom}
use Rattle.entry_tree.proofs.Trees.{get-set, tie_is}
use Rattle.mode_rules.specs.declared.ancestor_line.AncestorLine.{AncestorLine}
use Rattle.mode_rules.specs.AncestorFold.{with_lines}
use Rattle.ancestor_store.specs.Settling.{IsOutcome, IsPart, touched}
use Rattle.ancestor_store.proofs.Values.{get-with_lines, value_touched, value_passed}

module _ (from to outcome : ByPath Atom) (ls : List AncestorLine) (folds : with_lines from ls ≡ Some to) (is : IsOutcome from ls outcome) where
  -- what a line decides, the two have in common
  pub decided : (q : Names) → touched q ls ≡ true → map.get outcome q ≡ map.get to q
  decided q t =
      get-with_lines q is.0 outcome ls is.2
      ∙ value_touched q (map.get is.0 q) (map.get from q) ls t
      ∙ sym (get-with_lines q from to ls folds)

  -- and what none decides stays
  pub passed : (q : Names) → touched q ls ≡ false → map.get to q ≡ map.get from q
  passed q t = get-with_lines q from to ls folds ∙ value_passed q (map.get from q) ls t

  -- what the part comes to hold the tree comes to hold
  pub within : (q : Names) (x : Atom) → map.get outcome q ≡ Some x → map.get to q ≡ Some x
  within q x held = by (touched q ls) refl
    where
      by : (b : Bool) → touched q ls ≡ b → map.get to q ≡ Some x
      by true t = sym (decided q t) ∙ held
      by false t = passed q t ∙ is.1 q x (sym (get-with_lines q is.0 outcome ls is.2 ∙ value_passed q (map.get is.0 q) ls t) ∙ held)

-- a part stays one where it comes to hold what the tree holds
pub part_step : (part tree : ByPath Atom) (p : Names) (x : Atom) → IsPart part tree → map.get tree p ≡ Some x → IsPart (set_at is_dir part p x) tree
part_step part tree p x is held q y e = by (eq_by_cmp path_cmp q p) (is_dir x || not (is_below q p)) refl (sym (get-set is_dir part p x q) ∙ e)
  where
    by : (a b : Bool) → eq_by_cmp path_cmp q p ≡ a → cond a (Some x) (cond b (map.get part q) None) ≡ Some y → map.get tree q ≡ Some y
    by true b t same = ap (map.get tree) (tie_is q p t) ∙ held ∙ same
    by false true t same = is q y same
    by false false t none = absurd (none_is_not_some y none)

-- nothing is a part of each tree
pub nothing_is_part : (tree : ByPath Atom) → IsPart map.empty tree
nothing_is_part tree q y e = absurd (none_is_not_some y (sym (map.get-empty path_cmp q) ∙ e))
