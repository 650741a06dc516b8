-- The frames of sessions in a keeper in memory are counted.
use Rattle.std.proofs.Common.{◌≡◌, ℕ, ◌+◌, Bool, true, false, cond, ◌||◌, List, [], ◌∷◌, length, refl, sym, ap, subst, ◌∙◌, Option, Some, arith}
use Rattle.std.specs.Prelude.{◌==◌}
use Rattle.std.proofs.lemmas.Bool.Decides.{nat_tests}
use Rattle.frame_text.specs.declared.frame.KeepKey.{KeepKey}
use Rattle.frame_text.specs.declared.frame.KeepKey.TheVariants.{Table, Session}
use Rattle.ancestor_store.specs.Counting.{Differ, IsCount, has_id, told_len, total}
use Rattle.ancestor_store.specs.MemCompacting.{sessions_in, sessions_of}
use Rattle.ancestor_store.specs.MemKept.{frames_of, same_key}
use Rattle.ancestor_store.specs.declared.mem_keeper.Kept.{Kept}

number_is : (m n : ℕ) → (m == n) ≡ true → m ≡ n
number_is m n h = grind (arith, nat_tests)

first_false : (b c : Bool) → (b || c) ≡ false → (b ≡ false) × (c ≡ false)
first_false true c h = absurd (cc)
first_false false c h = (refl, h)

total_same : (t u : ℕ → Option (List (List ℕ))) (ids : List ℕ) (i : ℕ) → has_id i ids ≡ false → ((id : ℕ) → (i == id) ≡ false → u id ≡ t id) → total u ids ≡ total t ids
total_same t u [] i h same = refl
total_same t u (j ∷ ids) i h same =
    let parts = first_false (j == i) (has_id i ids) h in
    ap (λ o. told_len o + total u ids) (same j (turned parts.0)) ∙ ap (λ n. told_len (t j) + n) (total_same t u ids i parts.1 same)
  where
    turned : (j == i) ≡ false → (i == j) ≡ false
    turned e = grind (arith, nat_tests)

total_more : (t u : ℕ → Option (List (List ℕ))) (ids : List ℕ) (i : ℕ) → Differ ids → has_id i ids ≡ true → ((id : ℕ) → (i == id) ≡ false → u id ≡ t id) → told_len (u i) ≡ 1 + told_len (t i)
    → total u ids ≡ 1 + total t ids
total_more t u [] i differ h same more = let bad : false ≡ true = h in absurd (cc)
total_more t u (j ∷ ids) i differ h same more = by (j == i) refl h (total_more t u ids i differ.1)
  where
    turned : (j == i) ≡ false → (i == j) ≡ false
    turned e = grind (arith, nat_tests)

    by : (b : Bool) → (j == i) ≡ b → (b || has_id i ids) ≡ true
        → (has_id i ids ≡ true → ((id : ℕ) → (i == id) ≡ false → u id ≡ t id) → told_len (u i) ≡ 1 + told_len (t i) → total u ids ≡ 1 + total t ids)
        → told_len (u j) + total u ids ≡ 1 + (told_len (t j) + total t ids)
    by true e k rec =
        let at : j ≡ i = number_is j i e in
        let here : told_len (u j) ≡ 1 + told_len (t j) = ap (λ x. told_len (u x)) at ∙ more ∙ ap (λ x. 1 + told_len (t x)) (sym at) in
        let rest : total u ids ≡ total t ids = total_same t u ids i (ap (λ x. has_id x ids) (sym at) ∙ differ.0) same in
        omega (arith, here, rest)
    by false e k rec =
        let here : told_len (u j) ≡ told_len (t j) = ap told_len (same j (turned e)) in
        let rest : total u ids ≡ 1 + total t ids = rec k same more in
        omega (arith, here, rest)

abbrev pub told_by : List Kept → ℕ → Option (List (List ℕ))
told_by kept id = Some (frames_of (Session id) kept)

module _ (k : Kept) (kept : List Kept) (count : IsCount (told_by kept) (sessions_of kept)) where
  more : (b : Bool) (id : ℕ) → same_key k.key (Session id) ≡ b → told_by (k ∷ kept) id ≡ Some (cond b (k.bytes ∷ frames_of (Session id) kept) (frames_of (Session id) kept))
  more b id e = ap (λ x. Some (cond x (k.bytes ∷ frames_of (Session id) kept) (frames_of (Session id) kept))) e

  at_table : k.key ≡ Table → IsCount (told_by (k ∷ kept)) (sessions_of kept)
  at_table key = record {
    ids = count.ids;
    differ = count.differ;
    others = λ id h. same id ∙ count.others id h;
    number_is = count.number_is ∙ sym (all count.ids);
  }
    where
      same : (id : ℕ) → told_by (k ∷ kept) id ≡ told_by kept id
      same id = more false id (ap (λ x. same_key x (Session id)) key)

      all : (ids : List ℕ) → total (told_by (k ∷ kept)) ids ≡ total (told_by kept) ids
      all [] = refl
      all (id ∷ ids) = ap (λ o. told_len o + total (told_by (k ∷ kept)) ids) (same id) ∙ ap (λ n. told_len (told_by kept id) + n) (all ids)

  module _ (i : ℕ) (key : k.key ≡ Session i) where
    apart : (id : ℕ) → (i == id) ≡ false → told_by (k ∷ kept) id ≡ told_by kept id
    apart id e = more false id (ap (λ x. same_key x (Session id)) key ∙ e)

    itself : (i == i) ≡ true
    itself = grind (arith, nat_tests)

    one_more : told_len (told_by (k ∷ kept) i) ≡ 1 + told_len (told_by kept i)
    one_more = ap told_len (more true i (ap (λ x. same_key x (Session i)) key ∙ itself)) ∙ size (frames_of (Session i) kept)
      where
        size : (fs : List (List ℕ)) → length (k.bytes ∷ fs) ≡ 1 + length fs
        size fs = omega arith

    among : has_id i count.ids ≡ true → IsCount (told_by (k ∷ kept)) (1 + sessions_of kept)
    among h = record {
      ids = count.ids;
      differ = count.differ;
      others = λ id out. apart id (out_apart id out (i == id) refl) ∙ count.others id out;
      number_is = ap (λ n. 1 + n) count.number_is ∙ sym (total_more (told_by kept) (told_by (k ∷ kept)) count.ids i count.differ h apart one_more);
    }
      where
        out_apart : (id : ℕ) → has_id id count.ids ≡ false → (b : Bool) → (i == id) ≡ b → b ≡ false
        out_apart id out true e = let bad : true ≡ false = sym h ∙ ap (λ x. has_id x count.ids) (number_is i id e) ∙ out in absurd (cc)
        out_apart id out false e = refl

    new : has_id i count.ids ≡ false → IsCount (told_by (k ∷ kept)) (1 + sessions_of kept)
    new h = record {
      ids = i ∷ count.ids;
      differ = (h, count.differ);
      others = λ id out. let parts = first_false (i == id) (has_id id count.ids) out in apart id parts.0 ∙ count.others id parts.1;
      number_is = whole;
    }
      where
        whole : 1 + sessions_of kept ≡ told_len (told_by (k ∷ kept) i) + total (told_by (k ∷ kept)) count.ids
        whole =
            let none : told_len (told_by kept i) ≡ 0 = ap told_len (count.others i h) in
            let rest : total (told_by (k ∷ kept)) count.ids ≡ total (told_by kept) count.ids = total_same (told_by kept) (told_by (k ∷ kept)) count.ids i h apart in
            omega (arith, none, rest, one_more, count.number_is)

    at_session : IsCount (told_by (k ∷ kept)) (1 + sessions_of kept)
    at_session = by (has_id i count.ids) refl
      where
        by : (b : Bool) → has_id i count.ids ≡ b → IsCount (told_by (k ∷ kept)) (1 + sessions_of kept)
        by true h = among h
        by false h = new h

zero_sum : (n : ℕ) → n ≡ 0 + n
zero_sum n = omega arith

pub counted : (kept : List Kept) → IsCount (told_by kept) (sessions_of kept)
counted [] = record { ids = []; differ = tt; others = λ id h. refl; number_is = refl }
counted (k ∷ kept) = by k.key refl (counted kept)
  where
    by : (key : KeepKey) → k.key ≡ key → IsCount (told_by kept) (sessions_of kept) → IsCount (told_by (k ∷ kept)) (sessions_in key + sessions_of kept)
    by Table e count = subst (IsCount (told_by (k ∷ kept))) (zero_sum (sessions_of kept)) (at_table k kept count e)
    by (Session i) e count = at_session k kept count i e
