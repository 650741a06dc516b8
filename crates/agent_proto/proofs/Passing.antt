-- Bytes that may be any, passed over at once.
use Rattle.std.proofs.Common.{◌≡◌, ℕ, suc, ◌+◌, ◌-◌, ◌<◌, ◌≤◌, true, false, cond, List, [], ◌∷◌, ◌++◌, length, take, drop, refl, sym, ap, subst, ◌∙◌, arith, append_assoc, length-drop, inl, inr}
use Rattle.std.specs.Prelude.{nat_le}
use Rattle.std.proofs.lemmas.Bool.Decides.{nat_tests}
use Rattle.std.proofs.Math.Seq.{take-add}
use Rattle.std.proofs.lemmas.List.{append-nil, length-take-le}
use Rattle.mux_frames.specs.Numbers.{AreBytes}
use Rattle.agent_proto.specs.declared.behind.Behind.{Behind}
use Rattle.agent_proto.specs.declared.field_place.FieldPlace.TheVariants.{Any}
use Rattle.agent_proto.specs.declared.field_place.Next.TheVariants.{Whole as whole_field, On as on_field}
use Rattle.agent_proto.specs.declared.place.Place.{Place}
use Rattle.agent_proto.specs.declared.place.Place.TheVariants.{Field}
use Rattle.agent_proto.specs.declared.place.Step.TheVariants.{Bad, On}
use Rattle.agent_proto.specs.Behinds.{behind_sizes}
use Rattle.agent_proto.specs.Sizes.{Has, of_size, meets}
use Rattle.agent_proto.specs.Places.{IsReached, in_field, step}
use Rattle.agent_proto.specs.Follows.{Follows, Passes}
use Rattle.agent_proto.proofs.Sums.{Meet, meet_of, of_meet}
use Rattle.agent_proto.proofs.PlaceLaws.{range_field, range_behind}
use Rattle.agent_proto.proofs.Follows.{follows_on}
use Rattle.agent_proto.proofs.MeasuredWalks.{bytes_front, bytes_drop}
use Rattle.agent_proto.proofs.Walking.{Walked}

-- so many bytes are to come, and what is behind them
met : (count : ℕ) (b : Behind) (left : ℕ) → IsReached (Field (Any count) b left) → Meet (of_size count) (behind_sizes b) left
met count b left ok = meet_of (of_size count) (behind_sizes b) left (range_field (Any count) ok.0) (range_behind b) ok.1.1.1

is_count : (count n : ℕ) → Has (of_size count) n → n ≡ count
is_count count n has = elim has [ inl h ↦ h | inr h ↦ omega (arith, h.0, h.1) ]

pub count_left : (count : ℕ) (b : Behind) (left : ℕ) → IsReached (Field (Any count) b left) → count ≤ left
count_left count b left ok = let m = met count b left ok in omega (arith, is_count count m.first m.has_first, m.sum)

-- some of them have come
less_meets : (count n : ℕ) (b : Behind) (left : ℕ) → n ≤ count → IsReached (Field (Any count) b left) → meets (of_size (count - n)) (behind_sizes b) (left - n) ≡ true
less_meets count n b left few ok =
    let m = met count b left ok in
    of_meet (of_size (count - n)) (behind_sizes b) (left - n)
    (record { first = count - n; second = m.second; has_first = inl refl; has_second = m.has_second; sum = omega (arith, few, is_count count m.first m.has_first, m.sum) })

pub fewer_reached : (count n : ℕ) (b : Behind) (left : ℕ) → n < count → IsReached (Field (Any count) b left) → IsReached (Field (Any (count - n)) b (left - n))
fewer_reached count n b left few ok = ((omega (arith, few), omega (arith, ok.0.1)), (ok.1.0, (omega (arith, ok.1.1.0), less_meets count n b left (omega (arith, few)) ok)))

-- one of them has come
one_on : (count : ℕ) (b : Behind) (left byte : ℕ) → 1 < count → IsReached (Field (Any count) b left) → step (Field (Any count) b left) byte ≡ On (Field (Any (count - 1)) b (left - 1))
one_on count b left byte more ok =
    let some : nat_le count 1 ≡ false = grind (arith, nat_tests, more) in
    ap (λ t. in_field (cond t whole_field (on_field (Any (count - 1)))) b (left - 1)) some
    ∙ ap (λ t. cond t (On (Field (Any (count - 1)) b (left - 1))) Bad) (less_meets count 1 b left (omega (arith, more)) ok)

pub follows_past : (more : List ℕ) (count : ℕ) (b : Behind) (left : ℕ) (seen : List ℕ) → length more < count → AreBytes more → Follows seen (Field (Any count) b left)
    → Follows (seen ++ more) (Field (Any (count - length more)) b (left - length more))
follows_past [] count b left seen few each f =
    let c : count ≡ count - 0 = omega arith in
    let l : left ≡ left - 0 = omega arith in
    subst (λ (n : ℕ). Follows (seen ++ []) (Field (Any (count - 0)) b n)) l
    (subst (λ (n : ℕ). Follows (seen ++ []) (Field (Any n) b left)) c (subst (λ (xs : List ℕ). Follows xs (Field (Any count) b left)) (sym (append-nil seen)) f))
follows_past (x ∷ more) count b left seen few each f =
    let next = follows_on seen (Field (Any count) b left) (Field (Any (count - 1)) b (left - 1)) x each.0 f (one_on count b left x (omega (arith, few)) f.reached) in
    let rest = follows_past more (count - 1) b (left - 1) (seen ++ x ∷ []) (omega (arith, few)) each.1 next in
    let c : count - 1 - length more ≡ count - suc (length more) = omega arith in
    let l : left - 1 - length more ≡ left - suc (length more) = omega arith in
    subst (λ (n : ℕ). Follows (seen ++ (x ∷ more)) (Field (Any (count - suc (length more))) b n)) l
    (subst (λ (n : ℕ). Follows (seen ++ (x ∷ more)) (Field (Any n) b (left - 1 - length more))) c
    (subst (λ (xs : List ℕ). Follows xs (Field (Any (count - 1 - length more)) b (left - 1 - length more))) (append_assoc seen (x ∷ []) more) rest))

-- ---- as the code passes over them

pub passes_none : (place : Place) (most : ℕ) → IsReached place → Passes place most (place, 0)
passes_none place most ok = (omega arith, ok, λ seen more each none f. subst (λ (xs : List ℕ). Follows (seen ++ xs) place) (sym (empty more none)) (subst (λ (xs : List ℕ). Follows xs place) (sym (append-nil seen)) f))
  where
    empty : (xs : List ℕ) → length xs ≡ 0 → xs ≡ []
    empty [] e = refl
    empty (x ∷ xs) e = absurd (omega (arith, e))

pub passes_some : (count : ℕ) (b : Behind) (left most n : ℕ) → n < count → n ≤ most → IsReached (Field (Any count) b left) → Passes (Field (Any count) b left) most (Field (Any (count - n)) b (left - n), n)
passes_some count b left most n few within ok = (
  within,
  fewer_reached count n b left few ok,
  λ seen more each size f.
      subst (λ (k : ℕ). Follows (seen ++ more) (Field (Any (count - k)) b (left - k))) size (follows_past more count b left seen (omega (arith, few, size)) each f),
)

-- the walk goes on behind them
pub walks_past : (from at then : Place) (bytes : List ℕ) (index most many : ℕ) → Walked from bytes index at → AreBytes bytes → most ≡ length bytes - index → Passes at most (then, many) → Walked from bytes (index + many) then
walks_past from at then bytes index most many w each room passes =
    let rest : length (drop index bytes) ≡ length bytes - index = length-drop index bytes in
    let size : length (take many (drop index bytes)) ≡ many = length-take-le many (drop index bytes) (omega (arith, rest, room, passes.0)) in
    let longer : take (index + many) bytes ≡ take index bytes ++ take many (drop index bytes) = take-add index many bytes in
    record {
      within = omega (arith, w.within, room, passes.0);
      reached = passes.1;
      follows = λ seen f.
          subst (λ (xs : List ℕ). Follows xs then) (append_assoc seen (take index bytes) (take many (drop index bytes)) ∙ ap (λ (xs : List ℕ). seen ++ xs) (sym longer))
          (passes.2 (seen ++ take index bytes) (take many (drop index bytes)) (bytes_front many (drop index bytes) (bytes_drop index bytes each)) size (w.follows seen f));
    }
