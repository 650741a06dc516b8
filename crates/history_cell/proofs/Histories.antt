-- Histories that go on by one call, and beginnings of one history.
use Rattle.std.proofs.Common.{◌≡◌, ◌≢◌, ℕ, zero, suc, ◌==◌, ◌≤◌, true, false, cond, ltb, ◌⊎◌, List, [], ◌∷◌, ◌++◌, length, refl, sym, ap, ◌∙◌, inl, inr, ⊎_elim, append_assoc, arith, eq-eqb, ne_eqb}
use Rattle.std.proofs.lemmas.List.{append-nil}
use mathlib.Core.Option.{some, some-injective, some-ne-none}
use lib.ListN.{get_elem?}
use Rattle.history_cell.specs.declared.entry.Entry.{Entry}
use Rattle.finite_maps.specs.Lists.{BeginsWith}
use Rattle.history_cell.specs.History.{Leads, calls_by, longer, shorter}

module _ {A : Type 0} where
  -- what stands in a list one longer stood there, or is the new one at its end
  pub at_end : (l : List A) (a b : A) (j : ℕ) → get_elem? (l ++ a ∷ []) j ≡ some b → (get_elem? l j ≡ some b) ⊎ ((j ≡ length l) × (a ≡ b))
  at_end [] a b zero e = inr (refl, some-injective a b e)
  at_end [] a b (suc j) e = absurd (some-ne-none b (sym e))
  at_end (x ∷ xs) a b zero e = inl e
  at_end (x ∷ xs) a b (suc j) e = ⊎_elim inl (λ t. inr (ap suc t.0, t.1)) (at_end xs a b j e)

  pub begins_self : (xs : List A) → BeginsWith xs xs
  begins_self xs = ([], sym (append-nil xs))

  pub begins_none : (xs : List A) → BeginsWith xs []
  begins_none xs = (xs, refl)

  pub begins_longer : (xs start more : List A) → BeginsWith xs start → BeginsWith (xs ++ more) start
  begins_longer xs start more h = (h.0 ++ more, ap (λ l. l ++ more) h.1 ∙ append_assoc start h.0 more)

  -- of two beginnings of one list the longer begins with the shorter
  pub begins_shorter : (all xs ys : List A) → BeginsWith all xs → BeginsWith all ys → length ys ≤ length xs → BeginsWith xs ys
  begins_shorter all xs [] h k le = (xs, refl)
  begins_shorter all [] (y ∷ ys) h k le = absurd (omega arith)
  begins_shorter [] (x ∷ xs) (y ∷ ys) h k le = absurd (cc (h.1))
  begins_shorter (z ∷ all) (x ∷ xs) (y ∷ ys) h k le =
      let rest = begins_shorter all xs ys (h.0, cc (h.1)) (k.0, cc (k.1)) (omega arith) in
      (rest.0, cc (h.1, k.1, rest.1))

  pub begins_both : (all xs ys : List A) → BeginsWith all xs → BeginsWith all ys → BeginsWith all (longer xs ys) × BeginsWith all (shorter xs ys)
  begins_both all xs ys h k = elim (ltb (length xs) (length ys)) as (λ b. BeginsWith all (cond b ys xs) × BeginsWith all (cond b xs ys)) [
    | true ↦ (k, h)
    | false ↦ (h, k)
  ]

module _ {O A B : Type 0} (acts : O → A → B → O → Type 0) where
  -- one more call at the end
  pub leads_more : (before : O) (es : List (Entry A B)) (at after : O) (e : Entry A B) → Leads acts before es at → acts at e.op e.reply after → Leads acts before (es ++ e ∷ []) after
  leads_more before [] at after e h go = (after, rw h go, refl)
  leads_more before (d ∷ es) at after e h go = (h.0, h.1, leads_more h.0 es at after e h.2 go)

module _ {A B : Type 0} where
  calls_by-append : (by : ℕ) (ds es : List (Entry A B)) → calls_by by (ds ++ es) ≡ calls_by by ds ++ calls_by by es
  calls_by-append by [] es = refl
  calls_by-append by (d ∷ ds) es =
      let rest = calls_by-append by ds es in
      elim (d.by == by) as (λ b. cond b (d ∷ calls_by by (ds ++ es)) (calls_by by (ds ++ es)) ≡ cond b (d ∷ calls_by by ds) (calls_by by ds) ++ calls_by by es) [
        | true ↦ ap (λ l. d ∷ l) rest
        | false ↦ rest
      ]

  pub calls_by-own : (by : ℕ) (es : List (Entry A B)) (e : Entry A B) → e.by ≡ by → calls_by by (es ++ e ∷ []) ≡ calls_by by es ++ e ∷ []
  calls_by-own by es e own = calls_by-append by es (e ∷ []) ∙ ap (λ b. calls_by by es ++ cond b (e ∷ []) []) (eq-eqb e.by by own)

  pub calls_by-other : (by : ℕ) (es : List (Entry A B)) (e : Entry A B) → e.by ≢ by → calls_by by (es ++ e ∷ []) ≡ calls_by by es
  calls_by-other by es e other = calls_by-append by es (e ∷ []) ∙ ap (λ b. calls_by by es ++ cond b (e ∷ []) []) (ne_eqb e.by by other) ∙ append-nil (calls_by by es)
