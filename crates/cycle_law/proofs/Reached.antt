-- Which paths a look reaches, and what a list of entries says of a tree.
use Rattle.std.proofs.Common.{◌≡◌, ℕ, Bool, true, false, cond, not, ◌&&◌, ◌||◌, List, [], ◌∷◌, ◌++◌, refl, sym, ap, subst, ◌∙◌, Some}
use Rattle.std.specs.FinMap as map
use Rattle.std.specs.List.{list_any}
use Rattle.std.specs.Ordering.{eq_by_cmp}
use Rattle.std.proofs.lemmas.Bool.{or_left, or_right}
use Rattle.std.proofs.lemmas.List.{append_assoc, append-nil}
use Rattle.finite_maps.proofs.Constructors.{none_is_not_some, some_same}
use Rattle.sync_path.specs.Path.{path_cmp}
use Rattle.entry_tree.specs.Tree.{Names, ByPath}
use Rattle.entry_tree.proofs.Trees.{tie_is}
use Rattle.ignore_glob.specs.Grammar.{Meaning}
use Rattle.scan_core.specs.Ignoring.{ignores}
use Rattle.scan_laws.specs.Look.{is_reached_from, is_reached}

and_true : (b : Bool) → (b && true) ≡ b
and_true true = refl
and_true false = refl

and_again : (a b c : Bool) → (a && (b && c)) ≡ ((a && b) && c)
and_again true b c = refl
and_again false b c = refl

reached_behind : (rules : List Meaning) (before names : Names) (n : List ℕ) → is_reached_from rules before (names ++ n ∷ []) ≡ (is_reached_from rules before names && not (ignores rules (before ++ names) true))
reached_behind rules before [] n = and_true (not (ignores rules before true)) ∙ ap (λ (l : Names). not (ignores rules l true)) (sym (append-nil before))
reached_behind rules before (x ∷ names) n =
    ap (λ b. not (ignores rules before true) && b) (reached_behind rules (before ++ x ∷ []) names n)
    ∙ and_again (not (ignores rules before true)) (is_reached_from rules (before ++ x ∷ []) names) (not (ignores rules ((before ++ x ∷ []) ++ names) true))
    ∙ ap (λ (l : Names). (not (ignores rules before true) && is_reached_from rules (before ++ x ∷ []) names) && not (ignores rules l true)) (append_assoc before (x ∷ []) names)

-- what lies in a folder is reached if the folder is, and the rules don't ignore it
pub reached_child : (rules : List Meaning) (f : Names) (n : List ℕ) → is_reached rules (f ++ n ∷ []) ≡ (is_reached rules f && not (ignores rules f true))
reached_child rules f n = reached_behind rules [] f n

module _ {X : Type 0} (test : Names × X → Bool) where
  found_any : (p : Names) (x : X) (es : List (Names × X)) → map.find path_cmp p es ≡ Some x → test (p, x) ≡ true → list_any test es ≡ true
  found_any p x [] e is = absurd (none_is_not_some x e)
  found_any p x (y ∷ es) e is = by (eq_by_cmp path_cmp p y.0) refl (λ f. found_any p x es f is)
    where
      by : (b : Bool) → eq_by_cmp path_cmp p y.0 ≡ b → (map.find path_cmp p es ≡ Some x → list_any test es ≡ true) → (test y || list_any test es) ≡ true
      by true t more =
          let value_is : x ≡ y.1 = sym (some_same y.1 x (ap (λ b. cond b (Some y.1) (map.find path_cmp p es)) (sym t) ∙ e)) in
          or_left (test y) (list_any test es) (subst (λ (q : Names). test (q, y.1) ≡ true) (tie_is p y.0 t) (subst (λ (v : X). test (p, v) ≡ true) value_is is))
      by false t more = or_right (test y) (list_any test es) (more (ap (λ b. cond b (Some y.1) (map.find path_cmp p es)) (sym t) ∙ e))

  -- what stands in a tree is one of its entries
  pub any_there : (tree : ByPath X) (p : Names) (x : X) → map.get tree p ≡ Some x → test (p, x) ≡ true → list_any test (map.entries tree) ≡ true
  any_there tree p x there is = found_any p x (map.entries tree) (sym (map.get-entries tree p) ∙ there) is
