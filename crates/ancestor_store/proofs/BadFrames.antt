-- Frames have a fold, or one bad frame.
use Rattle.std.proofs.Common.{◌≡◌, ℕ, ◌<◌, Bool, true, false, List, [], ◌∷◌, ◌++◌, length, refl, sym, ap, ap₂, subst, ◌∙◌, append_assoc, Option, Some, None, arith}
use Rattle.std.specs.Prelude.{nat_lt}
use Rattle.std.specs.Option.{option_and_then}
use Rattle.std.proofs.lemmas.Bool.{ltb-true}
use borrow.Author.Tests.{ltb-false}
use Rattle.std.proofs.lemmas.List.{append-nil}
use Rattle.finite_maps.proofs.Constructors.{cons_parts, none_is_not_some}
use Rattle.frame_text.specs.Folds.{AllSpell, Folded, FoldsTo, IsBadFrame, first_payload, fold_of, folded_from, unfolded, with_payload}
use Rattle.frame_text.specs.declared.payload.Payload.{Payload}
use Rattle.frame_text.proofs.Folding.{no_frames}

-- ---- the first of some frames have a fold where all have one

folded_front : (folded last : Folded) (front back : List Payload) → folded_from folded (front ++ back) ≡ Some last → (next : Folded) × (folded_from folded front ≡ Some next)
folded_front folded last [] back e = (folded, refl)
folded_front folded last (p ∷ front) back e = by (λ f. folded_front f last front back) (with_payload folded p) e
  where
    by : ((f : Folded) → folded_from f (front ++ back) ≡ Some last → (next : Folded) × (folded_from f front ≡ Some next)) → (step : Option Folded)
        → option_and_then (λ (f : Folded). folded_from f (front ++ back)) step ≡ Some last → (next : Folded) × (option_and_then (λ (f : Folded). folded_from f front) step ≡ Some next)
    by more None e = absurd (none_is_not_some last e)
    by more (Some f) e = more f e

fold_front : (last : Folded) (front back : List Payload) → fold_of (front ++ back) ≡ Some last → (next : Folded) × (fold_of front ≡ Some next)
fold_front last [] back e = (unfolded, refl)
fold_front last (p ∷ front) back e = by (first_payload p) e
  where
    by : (step : Option Folded) → option_and_then (λ (f : Folded). folded_from f (front ++ back)) step ≡ Some last → (next : Folded) × (option_and_then (λ (f : Folded). folded_from f front) step ≡ Some next)
    by None e = absurd (none_is_not_some last e)
    by (Some f) e = folded_front f last front back e

record Split (frames : List (List ℕ)) (payloads : List Payload) : Type 0 where
  front : List Payload
  back : List Payload
  all : payloads ≡ front ++ back
  spelt : AllSpell frames front

split : (frames more : List (List ℕ)) (payloads : List Payload) → AllSpell (frames ++ more) payloads → Split frames payloads
split [] more payloads h = record { front = []; back = payloads; all = refl; spelt = tt }
split (f ∷ frames) more [] h = absurd h
split (f ∷ frames) more (p ∷ payloads) h =
    let rest = split frames more payloads h.1 in
    record { front = p ∷ rest.front; back = rest.back; all = ap (λ ps. p ∷ ps) rest.all; spelt = (h.0, rest.spelt) }

front_folds : (frames more : List (List ℕ)) (folded : Folded) → FoldsTo (frames ++ more) folded → (next : Folded) × FoldsTo frames next
front_folds frames more folded h =
    let parts = split frames more h.0 h.1 in
    let fold = fold_front folded parts.front parts.back (ap fold_of (sym parts.all) ∙ h.2) in
    (fold.0, (parts.front, parts.spelt, fold.1))

pub not_both : (frames : List (List ℕ)) (folded : Folded) (number : ℕ) → FoldsTo frames folded → IsBadFrame frames number → ⊥
not_both frames folded number h b =
    let all : frames ≡ (b.before ++ b.bytes ∷ []) ++ b.behind = b.all ∙ sym (append_assoc b.before (b.bytes ∷ []) b.behind) in
    let front = front_folds (b.before ++ b.bytes ∷ []) b.behind folded (subst (λ fs. FoldsTo fs folded) all h) in
    b.bad front.0 front.1

-- ---- two fronts of one list

longer : (xs ys us vs : List (List ℕ)) (x : List ℕ) → xs ++ x ∷ us ≡ ys ++ vs → length xs < length ys → (rest : List (List ℕ)) × (ys ≡ (xs ++ x ∷ []) ++ rest)
longer [] [] us vs x e h = absurd (omega arith)
longer [] (y ∷ ys) us vs x e h = let parts = cons_parts x y us (ys ++ vs) e in (ys, ap (λ z. z ∷ ys) (sym parts.0))
longer (a ∷ xs) [] us vs x e h = absurd (omega arith)
longer (a ∷ xs) (y ∷ ys) us vs x e h =
    let parts = cons_parts a y (xs ++ x ∷ us) (ys ++ vs) e in
    let more = longer xs ys us vs x parts.1 (omega arith) in
    (more.0, ap₂ (λ z zs. z ∷ zs) (sym parts.0) more.1)

not_before : (frames : List (List ℕ)) (number other : ℕ) → IsBadFrame frames number → IsBadFrame frames other → number < other → ⊥
not_before frames number other b d h =
    let short : length b.before < length d.before = omega (arith, b.number_is, d.number_is) in
    let rest = longer b.before d.before b.behind (d.bytes ∷ d.behind) b.bytes (sym b.all ∙ d.all) short in
    let front = front_folds (b.before ++ b.bytes ∷ []) rest.0 d.folds.0 (subst (λ fs. FoldsTo fs d.folds.0) rest.1 d.folds.1) in
    b.bad front.0 front.1

pub one_bad : (frames : List (List ℕ)) (number other : ℕ) → IsBadFrame frames number → IsBadFrame frames other → number ≡ other
one_bad frames number other b d = by (nat_lt number other) (nat_lt other number) refl refl
  where
    by : (x y : Bool) → nat_lt number other ≡ x → nat_lt other number ≡ y → number ≡ other
    by true y p q = absurd (not_before frames number other b d (ltb-true number other p))
    by false true p q = absurd (not_before frames other number d b (ltb-true other number q))
    by false false p q = omega (arith, ltb-false number other p, ltb-false other number q)

-- ---- and not none of both

none_left : (left before : List (List ℕ)) (folded : Folded) → FoldsTo before folded → ((after : Folded) → FoldsTo (before ++ left) after → ⊥) → ((number : ℕ) → IsBadFrame (before ++ left) number → ⊥) → ⊥
none_left [] before folded h none good = none folded (subst (λ fs. FoldsTo fs folded) (sym (append-nil before)) h)
none_left (bytes ∷ left) before folded h none good =
    good (length before)
    (record {
      before = before;
      bytes = bytes;
      behind = left;
      all = refl;
      number_is = refl;
      folds = (folded, h);
      bad = λ after k.
          none_left left (before ++ bytes ∷ []) after k (λ last m. none last (subst (λ fs. FoldsTo fs last) (append_assoc before (bytes ∷ []) left) m))
          (λ number m. good number (subst (λ fs. IsBadFrame fs number) (append_assoc before (bytes ∷ []) left) m));
    })

pub not_neither : (frames : List (List ℕ)) → ((folded : Folded) → FoldsTo frames folded → ⊥) → ((number : ℕ) → IsBadFrame frames number → ⊥) → ⊥
not_neither frames none good = none_left frames [] unfolded no_frames none good
