-- The moments of two runs, one behind the other.
use Rattle.std.proofs.Common.{◌≡◌, ◌⊎◌, inl, inr, ℕ, ◌+◌, ◌≤◌, List, [], ◌∷◌, ◌++◌, length, drop, refl, ap, sym, ◌∙◌, append_assoc, arith}
use Rattle.std.proofs.lemmas.Bool.{cases_lt}
use Rattle.std.proofs.lemmas.List.{length-append}
use Rattle.disk_model.specs.Content.{Content, LeavesOnly}
use Rattle.disk_model.specs.Disk.{OnTold}
use Rattle.disk_model.specs.Moments.{GoesOn, IsMoment, LeftFrom, LeftSince, LeftAfter}

tails : (x y : Content) (xs ys : List Content) → x ∷ xs ≡ y ∷ ys → xs ≡ ys
tails x y xs ys e = cc

-- of two ends of one list, the longer one has the shorter one at its end
ends : (xs ys a b : List Content) → xs ++ a ≡ ys ++ b → length a ≤ length b → b ≡ drop (length ys) xs ++ a
ends xs [] a b e le = sym e
ends [] (y ∷ ys) a b e le = absurd (omega (arith, ap length e, length-append ys b))
ends (x ∷ xs) (y ∷ ys) a b e le = ends xs ys a b (tails x y (xs ++ a) (ys ++ b) e) le

-- those of one length are one
same_ends : (xs ys a b : List Content) → xs ++ a ≡ ys ++ b → length a ≡ length b → a ≡ b
same_ends [] [] a b e is = e
same_ends [] (y ∷ ys) a b e is = absurd (omega (arith, ap length e, length-append ys b))
same_ends (x ∷ xs) [] a b e is = absurd (omega (arith, ap length e, length-append xs a))
same_ends (x ∷ xs) (y ∷ ys) a b e is = same_ends xs ys a b (tails x y (xs ++ a) (ys ++ b) e) is

pub goes_nowhere : (old new : List Content) → new ≡ old → GoesOn old new
goes_nowhere old new is = record { later = []; is = is }

pub goes_on_by : (old mid new : List Content) (now : Content) → GoesOn old mid → new ≡ now ∷ mid → GoesOn old new
goes_on_by old mid new now on is = record { later = now ∷ on.later; is = is ∙ ap (λ l. now ∷ l) on.is }

pub go_on : (old mid new : List Content) → GoesOn old mid → GoesOn mid new → GoesOn old new
go_on old mid new a b = record { later = b.later ++ a.later; is = b.is ∙ ap (λ l. b.later ++ l) a.is ∙ sym (append_assoc b.later a.later old) }

pub no_shorter : (old new : List Content) → GoesOn old new → length old ≤ length new
no_shorter old new on = omega (arith, ap length on.is, length-append on.later old)

-- what is a moment of a history is one of each history that goes on from it
pub goes_on_moment : (n : ℕ) (mid new : List Content) (now : Content) → GoesOn mid new → IsMoment n mid now → IsMoment n new now
goes_on_moment n mid new now on m = record {
  later = on.later ++ m.later;
  past = m.past;
  stands = on.is ∙ ap (λ l. on.later ++ l) m.stands ∙ sym (append_assoc on.later m.later (now ∷ m.past));
  from = m.from;
}

pub goes_on_left : (n : ℕ) (mid new : List Content) (image : List ℕ) → GoesOn mid new → LeftFrom n mid image → LeftFrom n new image
goes_on_left n mid new image on left = (left.0, goes_on_moment n mid new left.0 on left.1, left.2)

-- from further back there are more moments
pub earlier_left : (n m : ℕ) (history : List Content) (image : List ℕ) → n ≤ m → LeftFrom m history image → LeftFrom n history image
earlier_left n m history image le left = (left.0, record { later = left.1.later; past = left.1.past; stands = left.1.stands; from = omega (arith, left.1.from, le) }, left.2)

-- A moment of a history that goes on is one behind the older one, or one of that.
pub split_moment : (n : ℕ) (mid new : List Content) (now : Content) → GoesOn mid new → IsMoment n new now → IsMoment (length mid + 1) new now ⊎ IsMoment n mid now
split_moment n mid new now on m = elim (cases_lt (length mid) (length (now ∷ m.past))) [
  | inl behind ↦ inl (record { later = m.later; past = m.past; stands = m.stands; from = omega arith })
  | inr within ↦ inr (record {
    later = drop (length on.later) m.later;
    past = m.past;
    stands = ends m.later on.later (now ∷ m.past) mid (sym m.stands ∙ on.is) within;
    from = m.from;
  })
]

pub split_left : (n : ℕ) (mid new : List Content) (image : List ℕ) → GoesOn mid new → LeftFrom n new image → LeftAfter mid new image ⊎ LeftFrom n mid image
split_left n mid new image on left = elim (split_moment n mid new left.0 on left.1) [
  | inl behind ↦ inl (left.0, behind, left.2)
  | inr within ↦ inr (left.0, within, left.2)
]

-- behind the newest content there is no moment
pub none_left : (history : List Content) (image : List ℕ) → LeftAfter history history image → ⊥
none_left history image left =
    let m = left.1 in omega (arith, m.from, ap length m.stands, length-append m.later (left.0 ∷ m.past))

-- the newest content alone is a moment since itself
newest : (past : List Content) (now then_now : Content) → IsMoment (length (now ∷ past)) (now ∷ past) then_now → then_now ≡ now
newest past now then_now m =
    let long : length (then_now ∷ m.past) ≤ length (now ∷ past) = omega (arith, ap length m.stands, length-append m.later (then_now ∷ m.past)) in
    let same = same_ends [] m.later (now ∷ past) (then_now ∷ m.past) m.stands (omega (arith, m.from, long)) in
    cc

pub newest_left : (history : List Content) (P : List ℕ → Type 0) → OnTold history (λ now. LeavesOnly now P) → (image : List ℕ) → LeftSince history history image → P image
newest_left [] P here image left = let m = left.1 in absurd (omega (arith, ap length m.stands, length-append m.later (left.0 ∷ m.past)))
newest_left (now ∷ past) P here image left = here image (let same = newest past now left.0 left.1 in rw (← same) left.2)

-- the content itself is one
pub first_moment : (now : Content) (past : List Content) → IsMoment (length (now ∷ past)) (now ∷ past) now
first_moment now past = record { later = []; past = past; stands = refl; from = omega arith }

-- of one more content
pub one_more_left : (n : ℕ) (mid new : List Content) (now : Content) (P : List ℕ → Type 0) → ((image : List ℕ) → LeftFrom n mid image → P image) → LeavesOnly now P → new ≡ now ∷ mid → (image : List ℕ) → LeftFrom n new image → P image
one_more_left n mid new now P so_far here is image left = elim (split_moment n mid new left.0 (goes_on_by mid mid new now (goes_nowhere mid mid refl) is) left.1) [
  | inl behind ↦ here image (
      let long : length (now ∷ mid) ≡ length (left.0 ∷ behind.past) = omega (arith, behind.from, ap length (sym is ∙ behind.stands), length-append behind.later (left.0 ∷ behind.past)) in
      let same = same_ends [] behind.later (now ∷ mid) (left.0 ∷ behind.past) (sym is ∙ behind.stands) long in
      let one : left.0 ≡ now = cc in rw (← one) left.2)
  | inr within ↦ so_far image (left.0, within, left.2)
]
