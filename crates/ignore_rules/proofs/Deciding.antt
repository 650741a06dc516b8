-- The last of the rules that matches.
use Rattle.std.proofs.Common.{◌≡◌, ℕ, Bool, true, false, List, [], ◌∷◌, ◌++◌, refl, sym, ap, subst, ◌∙◌, append_assoc, not}
use Rattle.std.specs.List.{AllByRecursion}
use Rattle.ignore_glob.specs.Grammar.{Meaning}
use Rattle.ignore_glob.specs.Matching.{IsMatch}
use Rattle.ignore_rules.specs.Rules.{IsLastMatch, Ignores}

-- these rules are left, and those behind them don't match
pub record Looked (rules : List Meaning) (names : List (List ℕ)) (is_dir : Bool) (left : List Meaning) : Type 0 where
  pub behind : List Meaning
  pub rules_are : rules ≡ left ++ behind
  pub none : AllByRecursion (λ p. IsMatch p names is_dir → ⊥) behind

tails : {X : Type 0} (x y : X) (xs ys : List X) → x ∷ xs ≡ y ∷ ys → (x ≡ y) × (xs ≡ ys)
tails x y xs ys e = (cc, cc)

no_cons : {X : Type 0} (x : X) (xs : List X) → [] ≡ x ∷ xs → ⊥
no_cons x xs e = cc

module _ (names : List (List ℕ)) (is_dir : Bool) where
  pub looked_one : (rules before : List Meaning) (last : Meaning) (left : List Meaning) → Looked rules names is_dir left → left ≡ before ++ last ∷ [] → (IsMatch last names is_dir → ⊥) → Looked rules names is_dir before
  looked_one rules before last left so is unmatched = record {
    behind = last ∷ so.behind;
    rules_are = so.rules_are ∙ ap (λ (l : List Meaning). l ++ so.behind) is ∙ append_assoc before (last ∷ []) so.behind;
    none = (unmatched, so.none);
  }

  pub found_last : (rules before : List Meaning) (last : Meaning) (left : List Meaning) → Looked rules names is_dir left → left ≡ before ++ last ∷ [] → IsMatch last names is_dir → IsLastMatch rules names is_dir last
  found_last rules before last left so is matched = record {
    before = before;
    after = so.behind;
    rules_are = so.rules_are ∙ ap (λ (l : List Meaning). l ++ so.behind) is ∙ append_assoc before (last ∷ []) so.behind;
    matched = matched;
    later = so.none;
  }

  -- a rule within a list of which none matches
  none_within : (before after : List Meaning) (p : Meaning) → AllByRecursion (λ q. IsMatch q names is_dir → ⊥) (before ++ p ∷ after) → IsMatch p names is_dir → ⊥
  none_within [] after p none matched = none.0 matched
  none_within (q ∷ before) after p none matched = none_within before after p none.1 matched

  same_last : (xs ys as' bs : List Meaning) (p q : Meaning) → xs ++ p ∷ as' ≡ ys ++ q ∷ bs → IsMatch p names is_dir → IsMatch q names is_dir
      → AllByRecursion (λ r. IsMatch r names is_dir → ⊥) as' → AllByRecursion (λ r. IsMatch r names is_dir → ⊥) bs → p ≡ q
  same_last [] [] as' bs p q e m n none none' = (tails p q as' bs e).0
  same_last [] (y ∷ ys) as' bs p q e m n none none' =
      absurd (none_within ys bs q (subst (AllByRecursion (λ r. IsMatch r names is_dir → ⊥)) (tails p y as' (ys ++ q ∷ bs) e).1 none) n)
  same_last (x ∷ xs) [] as' bs p q e m n none none' =
      absurd (none_within xs as' p (subst (AllByRecursion (λ r. IsMatch r names is_dir → ⊥)) (sym (tails x q (xs ++ p ∷ as') bs e).1) none') m)
  same_last (x ∷ xs) (y ∷ ys) as' bs p q e m n none none' = same_last xs ys as' bs p q (tails x y (xs ++ p ∷ as') (ys ++ q ∷ bs) e).1 m n none none'

  -- two rules that are the last to match are one
  pub one_last : (rules : List Meaning) (p q : Meaning) → IsLastMatch rules names is_dir p → IsLastMatch rules names is_dir q → p ≡ q
  one_last rules p q h k = same_last h.before k.before h.after k.after p q (sym h.rules_are ∙ k.rules_are) h.matched k.matched h.later k.later

  none_at_all : (rules before after : List Meaning) (p : Meaning) → rules ≡ before ++ p ∷ after → AllByRecursion (λ q. IsMatch q names is_dir → ⊥) rules → IsMatch p names is_dir → ⊥
  none_at_all rules before after p e none matched = none_within before after p (subst (AllByRecursion (λ r. IsMatch r names is_dir → ⊥)) e none) matched

  -- where none is left to be looked at, none matches
  pub none_left : (rules left : List Meaning) → Looked rules names is_dir left → left ≡ [] → Ignores rules names is_dir → ⊥
  none_left rules left so is ignored =
      let last = ignored.1 in
      let all : rules ≡ so.behind = so.rules_are ∙ ap (λ (l : List Meaning). l ++ so.behind) is in
      none_at_all so.behind last.before last.after ignored.0 (sym all ∙ last.rules_are) so.none last.matched

pub not_true : (b : Bool) → not b ≡ true → b ≡ false
not_true true h = sym h
not_true false h = refl
