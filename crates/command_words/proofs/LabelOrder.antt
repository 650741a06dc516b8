-- Labels in order of their keys.
use Rattle.std.proofs.Common.{◌≡◌, ℕ, ◌+◌, ◌≤◌, Bool, true, false, not, cond, ◌&&◌, ◌||◌, List, [], ◌∷◌, length, refl, sym, ap, ap₂, subst, ◌∙◌, Some, None, arith, suc}
use Rattle.std.specs.Prelude.{nat_le, nat_lt, bytes_eq}
use Rattle.std.specs.Cmp.Lexicographic.{slice_cmp, nat_list_cmp_total, texts_ties}
use Rattle.std.proofs.Common.{Ordering, Less, Equal, Greater}
use Rattle.std.specs.Ordering.{nat_cmp, is_lt, is_eq, ordering_reverse}
use Rattle.std.specs.List.{insert, position, prefix_len}
use Rattle.std.proofs.lemmas.Bool.Decides.{nat_tests}
use Rattle.std.proofs.lemmas.List.Sums.{prefix_len-le-length}
use Rattle.command_words.specs.Labels.{AreLabels, are_in_order, can_take, has_key, is_before, place_in, with_label}
use Rattle.command_words.specs.declared.label.Label.{Label}
use Rattle.command_words.specs.declared.labels.TheConstants.{MAX_LABELS}
use Rattle.std.proofs.lemmas.Slice.Eq.{bytes_eq-Decides}
use Rattle.command_words.proofs.Classes.{both}
use Rattle.command_words.proofs.Values.{not_true}

pub place_some : {X : Type 0} (p : X → Bool) (xs : List X) (at : ℕ) → Some at ≡ position p xs → at ≡ prefix_len (λ x. not (p x)) xs
place_some {X} p xs at h = by (nat_lt (prefix_len (λ x. not (p x)) xs) (length xs)) h
  where
    by : (t : Bool) → Some at ≡ cond t (Some (prefix_len (λ x. not (p x)) xs)) None → at ≡ prefix_len (λ x. not (p x)) xs
    by true h = cc
    by false h = absurd (cc)

pub place_none : {X : Type 0} (p : X → Bool) (xs : List X) → None ≡ position p xs → length xs ≡ prefix_len (λ x. not (p x)) xs
place_none {X} p xs h = by (nat_lt (prefix_len (λ x. not (p x)) xs) (length xs)) refl h
  where
    by : (t : Bool) → nat_lt (prefix_len (λ x. not (p x)) xs) (length xs) ≡ t → None ≡ cond t (Some (prefix_len (λ x. not (p x)) xs)) None → length xs ≡ prefix_len (λ x. not (p x)) xs
    by true e h = absurd (cc)
    by false e h = let most = prefix_len-le-length (λ x. not (p x)) xs in let least : length xs ≤ prefix_len (λ x. not (p x)) xs = grind (arith, nat_tests) in omega (arith, most, least)

-- a label in its place
inserted_step : (label first : Label) (labels : List Label) (t : Bool) → with_label label labels ≡ insert labels (place_in label.key labels) label
    → cond t (label ∷ first ∷ labels) (first ∷ with_label label labels) ≡ insert (first ∷ labels) (cond (not t) (1 + place_in label.key labels) 0) label
inserted_step label first labels true h = refl
inserted_step label first labels false h =
    let one : suc (place_in label.key labels) ≡ 1 + place_in label.key labels = omega arith in
    subst (λ n. first ∷ with_label label labels ≡ insert (first ∷ labels) n label) one (ap (λ ls. first ∷ ls) h)

pub inserted : (label : Label) (labels : List Label) → with_label label labels ≡ insert labels (place_in label.key labels) label
inserted label [] = refl
inserted label (first ∷ labels) = inserted_step label first labels (is_before label.key first.key) (inserted label labels)

-- ---- the order

tied : (o : Ordering) → is_lt o ≡ false → is_eq o ≡ false → is_lt (ordering_reverse o) ≡ true
tied Less h k = absurd (cc)
tied Equal h k = absurd (cc)
tied Greater h k = refl

-- of two keys that differ one stands before the other
other_way : (key other : List ℕ) → is_before key other ≡ false → bytes_eq other key ≡ false → is_before other key ≡ true
other_way key other h k =
    let not_equal : is_eq (slice_cmp nat_cmp key other) ≡ false = sym (texts_ties key other) ∙ unequal in
    ap is_lt (nat_list_cmp_total.antisymm other key) ∙ tied (slice_cmp nat_cmp key other) h not_equal
  where
    unequal : bytes_eq key other ≡ false
    unequal = not_true (bytes_eq key other) (λ e. let same = (bytes_eq-Decides key other).0 e in let t = (bytes_eq-Decides other key).1 (sym same) in absurd (cc))

length_with : (label : Label) (labels : List Label) → length (with_label label labels) ≡ suc (length labels)
length_with label [] = refl
length_with label (first ∷ labels) = by (is_before label.key first.key) (length_with label labels)
  where
    by : (t : Bool) → length (with_label label labels) ≡ suc (length labels) → length (cond t (label ∷ first ∷ labels) (first ∷ with_label label labels)) ≡ suc (suc (length labels))
    by true h = refl
    by false h = ap suc h

split_or : (a b : Bool) → (a || b) ≡ false → (a ≡ false) × (b ≡ false)
split_or true b h = absurd (cc)
split_or false b h = (refl, h)

-- behind a label that stands before it
order_step : (front label next : Label) (labels : List Label) (t : Bool) → is_before label.key next.key ≡ t → is_before front.key label.key ≡ true → is_before front.key next.key ≡ true
    → are_in_order (next ∷ labels) ≡ true → (is_before label.key next.key ≡ false → are_in_order (next ∷ with_label label labels) ≡ true)
    → are_in_order (front ∷ cond t (label ∷ next ∷ labels) (next ∷ with_label label labels)) ≡ true
order_step front label next labels true e f g o more = ap₂ (λ x y. x && y) f (ap₂ (λ x y. x && y) e o)
order_step front label next labels false e f g o more = ap₂ (λ x y. x && y) g (more e)

in_order_behind : (front label : Label) (labels : List Label) → is_before front.key label.key ≡ true → are_in_order (front ∷ labels) ≡ true → has_key label.key labels ≡ false
    → are_in_order (front ∷ with_label label labels) ≡ true
in_order_behind front label [] f o new = ap (λ x. x && true) f
in_order_behind front label (next ∷ labels) f o new =
    let parts = both (is_before front.key next.key) (are_in_order (next ∷ labels)) o in
    let others = split_or (bytes_eq next.key label.key) (has_key label.key labels) new in
    order_step front label next labels (is_before label.key next.key) refl f parts.0 parts.1
    (λ e. in_order_behind next label labels (other_way label.key next.key e others.0) parts.1 others.1)

in_order_with : (label : Label) (labels : List Label) → are_in_order labels ≡ true → has_key label.key labels ≡ false → are_in_order (with_label label labels) ≡ true
in_order_with label [] o new = refl
in_order_with label (first ∷ labels) o new =
    let others = split_or (bytes_eq first.key label.key) (has_key label.key labels) new in
    by (is_before label.key first.key) refl
    (λ e. in_order_behind first label labels (other_way label.key first.key e others.0) o others.1)
  where
    by : (t : Bool) → is_before label.key first.key ≡ t → (is_before label.key first.key ≡ false → are_in_order (first ∷ with_label label labels) ≡ true)
        → are_in_order (cond t (label ∷ first ∷ labels) (first ∷ with_label label labels)) ≡ true
    by true e more = ap₂ (λ x y. x && y) e o
    by false e more = more e

negated : (b : Bool) → not b ≡ true → b ≡ false
negated true h = absurd (cc)
negated false h = refl

pub still_labels : (label : Label) (labels : List Label) → AreLabels labels → can_take label labels ≡ true → AreLabels (with_label label labels)
still_labels label labels are can =
    let room = both (nat_lt (length labels) MAX_LABELS) (not (has_key label.key labels)) can in
    let parts = both (nat_le (length labels) MAX_LABELS) (are_in_order labels) are in
    let more = length_with label labels in
    let fits : nat_le (length (with_label label labels)) MAX_LABELS ≡ true = ap (λ n. nat_le n MAX_LABELS) more ∙ (let k : nat_le (suc (length labels)) MAX_LABELS ≡ true = grind (arith, nat_tests) in k) in
    ap₂ (λ x y. x && y) fits (in_order_with label labels parts.1 (negated (has_key label.key labels) room.1))
