-- Words that are cut at a byte.
use Rattle.std.proofs.Common.{◌≡◌, ℕ, ◌+◌, ◌<◌, Bool, true, false, not, cond, ◌&&◌, List, [], ◌∷◌, ◌++◌, length, take, drop, refl, sym, ap, ap₂, subst, Some, None, arith, suc}
use Rattle.std.specs.Prelude.{◌==◌, nat_lt}
use Rattle.std.specs.List.{position, prefix_len}
use Rattle.std.proofs.lemmas.Bool.Decides.{nat_tests}
use Rattle.command_words.specs.Cuts.{has_no}
use Rattle.command_words.proofs.Classes.{both}

is_byte : (c b : ℕ) → not (c == b) ≡ false → c ≡ b
is_byte c b h = grind (arith, nat_tests)

pub record Found (b : ℕ) (word : List ℕ) (at : ℕ) : Type 0 where
  pub all : word ≡ take at word ++ b ∷ drop (suc at) word
  pub first : has_no b (take at word) ≡ true

-- how many bytes stand before the first such byte
abbrev before : ℕ → List ℕ → ℕ
before b word = prefix_len (λ c. not (c == b)) word

found_step : (b c : ℕ) (cs : List ℕ) (t : Bool) → not (c == b) ≡ t → (nat_lt (before b cs) (length cs) ≡ true → Found b cs (before b cs))
    → nat_lt (cond t (1 + before b cs) 0) (length (c ∷ cs)) ≡ true → Found b (c ∷ cs) (cond t (1 + before b cs) 0)
found_step b c cs true e more k =
    let less : nat_lt (before b cs) (length cs) ≡ true = grind (arith, nat_tests) in
    let rest = more less in
    let one : suc (before b cs) ≡ 1 + before b cs = omega arith in
    subst (Found b (c ∷ cs)) one (record { all = ap (λ xs. c ∷ xs) rest.all; first = ap₂ (λ x y. x && y) e rest.first })
found_step b c cs false e more k = record { all = ap (λ x. x ∷ cs) (is_byte c b e); first = refl }

found_at : (b : ℕ) (word : List ℕ) → nat_lt (before b word) (length word) ≡ true → Found b word (before b word)
found_at b [] h = absurd (cc)
found_at b (c ∷ cs) h = found_step b c cs (not (c == b)) refl (found_at b cs) h

pub cut_found : (b : ℕ) (word : List ℕ) (at : ℕ) → position (λ c. c == b) word ≡ Some at → Found b word at
cut_found b word at h = by (nat_lt (before b word) (length word)) refl h
  where
    by : (t : Bool) → nat_lt (before b word) (length word) ≡ t → cond t (Some (before b word)) None ≡ Some at → Found b word at
    by true e k = subst (Found b word) (let same : before b word ≡ at = cc in same) (found_at b word e)
    by false e k = absurd (cc)

pub cut_place : (b : ℕ) (word : List ℕ) (at : ℕ) → position (λ c. c == b) word ≡ Some at → at < length word
cut_place b word at h = by (nat_lt (before b word) (length word)) refl h
  where
    by : (t : Bool) → nat_lt (before b word) (length word) ≡ t → cond t (Some (before b word)) None ≡ Some at → at < length word
    by true e k = let same : before b word ≡ at = cc in let less : before b word < length word = grind (arith, nat_tests) in subst (λ x. x < length word) same less
    by false e k = absurd (cc)

none_step : (b c : ℕ) (cs : List ℕ) (t : Bool) → not (c == b) ≡ t → (nat_lt (before b cs) (length cs) ≡ false → has_no b cs ≡ true)
    → nat_lt (cond t (1 + before b cs) 0) (length (c ∷ cs)) ≡ false → (not (c == b) && has_no b cs) ≡ true
none_step b c cs true e more k =
    let less : nat_lt (before b cs) (length cs) ≡ false = grind (arith, nat_tests) in
    ap₂ (λ x y. x && y) e (more less)
none_step b c cs false e more k = absurd (grind (arith, nat_tests))

none_before : (b : ℕ) (word : List ℕ) → nat_lt (before b word) (length word) ≡ false → has_no b word ≡ true
none_before b [] h = refl
none_before b (c ∷ cs) h = none_step b c cs (not (c == b)) refl (none_before b cs) h

pub cut_none : (b : ℕ) (word : List ℕ) → position (λ c. c == b) word ≡ None → has_no b word ≡ true
cut_none b word h = by (nat_lt (before b word) (length word)) refl h
  where
    by : (t : Bool) → nat_lt (before b word) (length word) ≡ t → cond t (Some (before b word)) None ≡ None → has_no b word ≡ true
    by true e k = absurd (cc)
    by false e k = none_before b word e

itself : (b : ℕ) → not (b == b) ≡ true → ⊥
itself b h = absurd (grind (arith, nat_tests))

-- a word in which the byte stands
pub stands_in : (b : ℕ) (front back : List ℕ) → has_no b (front ++ b ∷ back) ≡ true → ⊥
stands_in b [] back h = itself b (both (not (b == b)) (has_no b back) h).0
stands_in b (c ∷ front) back h = stands_in b front back (both (not (c == b)) (has_no b (front ++ b ∷ back)) h).1

-- there is one cut
pub one_cut : (b : ℕ) (front back front' back' : List ℕ) → front ++ b ∷ back ≡ front' ++ b ∷ back' → has_no b front ≡ true → has_no b front' ≡ true
    → (front ≡ front') × (back ≡ back')
one_cut b [] back [] back' e h k = (refl, cc)
one_cut b [] back (c ∷ front') back' e h k =
    let same : b ≡ c = cc in absurd (itself b (subst (λ x. not (x == b) ≡ true) (sym same) (both (not (c == b)) (has_no b front') k).0))
one_cut b (c ∷ front) back [] back' e h k =
    let same : c ≡ b = cc in absurd (itself b (subst (λ x. not (x == b) ≡ true) same (both (not (c == b)) (has_no b front) h).0))
one_cut b (c ∷ front) back (d ∷ front') back' e h k =
    let first : c ≡ d = cc in
    let rest : front ++ b ∷ back ≡ front' ++ b ∷ back' = cc in
    let more = one_cut b front back front' back' rest (both (not (c == b)) (has_no b front) h).1 (both (not (d == b)) (has_no b front') k).1 in
    (ap₂ (λ x xs. x ∷ xs) first more.0, more.1)
