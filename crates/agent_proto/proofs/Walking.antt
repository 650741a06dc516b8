-- A walk over bytes from a place, a byte at a time, and its ends.
use Rattle.std.proofs.Common.{◌≡◌, ℕ, ◌+◌, ◌<◌, ◌≤◌, List, [], ◌∷◌, ◌++◌, length, get_or, take, sym, ap, subst, ◌∙◌, arith, add-one, append_assoc, length-append}
use Rattle.std.proofs.Math.Seq.{take-suc, take-append-add}
use Rattle.std.proofs.lemmas.List.{append-nil}
use Rattle.mux_frames.specs.Prefix.{Continues}
use Rattle.agent_proto.specs.declared.place.Place.{Place}
use Rattle.agent_proto.specs.declared.place.Step.TheVariants.{Bad, Whole, On}
use Rattle.agent_proto.specs.declared.walk.End.TheVariants as ends
use Rattle.agent_proto.specs.Places.{IsReached, IsRest, step}
use Rattle.agent_proto.specs.Follows.{Follows, Ends}
use Rattle.agent_proto.specs.Streams.{IsSpelling}
use Rattle.agent_proto.proofs.PlaceLaws.{Means}
use Rattle.agent_proto.proofs.Follows.{place_means, follows_on, follows_whole, follows_bad, follows_continues}

-- so many of the bytes led from the one place to the other
pub record Walked (from : Place) (bytes : List ℕ) (index : ℕ) (at : Place) : Type 0 where
  pub within : index ≤ length bytes
  pub reached : IsReached at
  pub follows : (seen : List ℕ) → Follows seen from → Follows (seen ++ take index bytes) at

pub walk_starts : (from : Place) (bytes : List ℕ) → IsReached from → Walked from bytes 0 from
walk_starts from bytes ok = record {
  within = omega arith;
  reached = ok;
  follows = λ seen f. subst (λ (xs : List ℕ). Follows xs from) (sym (append-nil seen)) f;
}

-- one byte more
one_more : (seen bytes : List ℕ) (index : ℕ) → index < length bytes → seen ++ take (index + 1) bytes ≡ (seen ++ take index bytes) ++ get_or bytes index 0 ∷ []
one_more seen bytes index less =
    let longer : take (index + 1) bytes ≡ take index bytes ++ get_or bytes index 0 ∷ [] = rw add-one (take-suc bytes index 0 less) in
    ap (λ (xs : List ℕ). seen ++ xs) longer ∙ sym (append_assoc seen (take index bytes) (get_or bytes index 0 ∷ []))

-- a byte leads to one of the places
pub leads : (at then : Place) (byte : ℕ) → IsReached at → step at byte ≡ On then → IsReached then
leads at then byte ok is =
    let means : Means (On then) (λ rest. IsRest at (byte ∷ rest)) = subst (λ s. Means s (λ rest. IsRest at (byte ∷ rest))) is (place_means at byte ok) in
    means.0

pub walks_on : (from at then : Place) (bytes : List ℕ) (index : ℕ) → Walked from bytes index at → index < length bytes → get_or bytes index 0 < 256 → step at (get_or bytes index 0) ≡ On then → Walked from bytes (index + 1) then
walks_on from at then bytes index w less small is = record {
  within = omega (arith, less);
  reached = leads at then (get_or bytes index 0) w.reached is;
  follows = λ seen f. subst (λ (xs : List ℕ). Follows xs then) (sym (one_more seen bytes index less)) (follows_on (seen ++ take index bytes) at then (get_or bytes index 0) small (w.follows seen f) is);
}

pub walks_whole : (from at : Place) (bytes : List ℕ) (index : ℕ) → Walked from bytes index at → index < length bytes → get_or bytes index 0 < 256 → step at (get_or bytes index 0) ≡ Whole
    → (seen : List ℕ) → Follows seen from → Ends seen bytes (ends.Whole (index + 1))
walks_whole from at bytes index w less small is seen f =
    (omega arith, omega (arith, less), subst IsSpelling (sym (one_more seen bytes index less)) (follows_whole (seen ++ take index bytes) at (get_or bytes index 0) small (w.follows seen f) is))

pub walks_bad : (from at : Place) (bytes : List ℕ) (index : ℕ) → Walked from bytes index at → index < length bytes → step at (get_or bytes index 0) ≡ Bad
    → (seen : List ℕ) → Follows seen from → Ends seen bytes (ends.Bad index)
walks_bad from at bytes index w less is seen f =
    let there = w.follows seen f in
    let before : take (length seen + index) (seen ++ bytes) ≡ seen ++ take index bytes = take-append-add seen bytes index in
    let count : (length seen + index) + 1 ≡ length seen + (index + 1) = omega arith in
    let with_it : take ((length seen + index) + 1) (seen ++ bytes) ≡ (seen ++ take index bytes) ++ get_or bytes index 0 ∷ [] =
    ap (λ (n : ℕ). take n (seen ++ bytes)) count ∙ take-append-add seen bytes (index + 1) ∙ one_more seen bytes index less in (
      less,
      record {
        within = omega (arith, less, length-append seen bytes);
        before = subst (Continues IsSpelling) (sym before) (follows_continues (seen ++ take index bytes) at there);
        none = λ more spelled. follows_bad (seen ++ take index bytes) at (get_or bytes index 0) there is more (subst (λ (xs : List ℕ). IsSpelling (xs ++ more)) with_it spelled);
      },
    )
