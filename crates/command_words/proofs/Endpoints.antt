-- The parts of an endpoint.
use Rattle.std.proofs.Common.{◌≡◌, ℕ, ◌<◌, ◌≤◌, ◌^◌, ◌↔◌, Bool, true, false, not, ◌&&◌, List, [], ◌∷◌, ◌++◌, refl, sym, ap, ap₂, subst, ◌∙◌, arith, suc, zero, codes, inl, inr}
use Rattle.std.specs.Prelude.{◌==◌, IsTrue, decimal}
use Rattle.std.specs.Str.{IsAscii, IsUtf8}
use Rattle.std.specs.Str.Parse.{AllDigits}
use Rattle.std.proofs.lemmas.Bool.Decides.{nat_tests}
use Rattle.std.proofs.lemmas.Fmt.{decimal_is_IsNumeral, IsAscii-decimal}
use Rattle.std.proofs.lemmas.List.Folds.{list_all-append}
use Rattle.std.proofs.lemmas.Str.{IsAscii-append, IsUtf8-from_ascii}
use Rattle.std.proofs.lemmas.Str.Parse.{digit_from_value}
use Rattle.command_words.specs.Cuts.{has_no, IsCut}
use Rattle.command_words.specs.Endpoint.{AreOctets, IsEndpoint, IsHost, IsOctet, IsPort}
use Rattle.command_words.proofs.Classes.{ascii}
use Rattle.command_words.proofs.Cutting.{one_cut, stands_in}

-- ---- a word of two parts

module _ (b : ℕ) (First Second : List ℕ → Type 0) where
  abbrev pub Both : List ℕ → Type 0
  Both word = (front : List ℕ) × (back : List ℕ) × (word ≡ front ++ b ∷ back) × First front × Second back

  pub uncut : (word : List ℕ) → has_no b word ≡ true → IsTrue false ↔ Both word
  uncut word none = (λ t. absurd (cc), λ o. absurd (stands_in b o.0 o.1 (subst (λ w. has_no b w ≡ true) o.2 none)))

  module _ (plain : (front : List ℕ) → First front → has_no b front ≡ true) where
    pub behind : (word front back : List ℕ) (r : Bool) → IsCut b word front back → First front → IsTrue r ↔ Second back → IsTrue r ↔ Both word
    behind word front back r cut first second = (
      λ t. (front, back, cut.all, first, second.0 t),
      λ o. second.1 (subst Second (sym (one_cut b front back o.0 o.1 (sym cut.all ∙ o.2) cut.first (plain o.0 o.3)).1) o.4),
    )

    pub in_front : (word front back : List ℕ) → IsCut b word front back → (First front → ⊥) → IsTrue false ↔ Both word
    in_front word front back cut none = (
      λ t. absurd (cc),
      λ o. absurd (none (subst First (sym (one_cut b front back o.0 o.1 (sym cut.all ∙ o.2) cut.first (plain o.0 o.3)).0) o.3)),
    )

-- ---- bytes that don't stand in a part

digits_without : (b : ℕ) (ds : List ℕ) → ((c : ℕ) → 48 ≤ c → c ≤ 57 → not (c == b) ≡ true) → AllDigits 10 ds → has_no b ds ≡ true
digits_without b [] other h = refl
digits_without b (c ∷ cs) other h = let digit = digit_from_value c h.0 in ap₂ (λ x y. x && y) (other c digit.0 digit.1) (digits_without b cs other h.1)

no_dot : (c : ℕ) → 48 ≤ c → c ≤ 57 → not (c == 46) ≡ true
no_dot c low high = grind (arith, nat_tests)

no_colon : (c : ℕ) → 48 ≤ c → c ≤ 57 → not (c == 58) ≡ true
no_colon c low high = grind (arith, nat_tests)

number_without : (b n : ℕ) → n < 2 ^ 64 → ((c : ℕ) → 48 ≤ c → c ≤ 57 → not (c == b) ≡ true) → has_no b (decimal n) ≡ true
number_without b n small other = digits_without b (decimal n) other (decimal_is_IsNumeral n small).0.1

pub octet_has_no_dot : (word : List ℕ) → IsOctet word → has_no 46 word ≡ true
octet_has_no_dot word o = ap (has_no 46) o.2 ∙ number_without 46 o.0 (let k = o.1 in omega (arith, k)) no_dot

octet_has_no_colon : (word : List ℕ) → IsOctet word → has_no 58 word ≡ true
octet_has_no_colon word o = ap (has_no 58) o.2 ∙ number_without 58 o.0 (let k = o.1 in omega (arith, k)) no_colon

octets_have_no_colon : (more : ℕ) (word : List ℕ) → AreOctets more word → has_no 58 word ≡ true
octets_have_no_colon zero word o = octet_has_no_colon word o
octets_have_no_colon (suc more) word o =
    ap (has_no 58) o.2 ∙ list_all-append (λ c. not (c == 58)) o.0 (46 ∷ o.1) ∙ ap₂ (λ x y. x && y) (octet_has_no_colon o.0 o.3) (octets_have_no_colon more o.1 o.4)

pub host_has_no_colon : (word : List ℕ) → IsHost word → has_no 58 word ≡ true
host_has_no_colon word (inl e) = ap (has_no 58) e
host_has_no_colon word (inr o) = octets_have_no_colon 3 word o

pub scheme_has_no_colon : (word : List ℕ) → word ≡ codes "tcp" → has_no 58 word ≡ true
scheme_has_no_colon word e = ap (has_no 58) e

-- ---- an endpoint is text

single : (b : ℕ) → b < 128 → IsAscii (b ∷ [])
single b h zero = h
single b h (suc i) = omega arith

joined : (front back : List ℕ) (b : ℕ) → b < 128 → IsAscii front → IsAscii back → IsAscii (front ++ b ∷ back)
joined front back b small f k = IsAscii-append front (b ∷ back) f (IsAscii-append (b ∷ []) back (single b small) k)

octet_is_ascii : (word : List ℕ) → IsOctet word → IsAscii word
octet_is_ascii word o = subst IsAscii (sym o.2) (IsAscii-decimal o.0 (let k = o.1 in omega (arith, k)))

octets_are_ascii : (more : ℕ) (word : List ℕ) → AreOctets more word → IsAscii word
octets_are_ascii zero word o = octet_is_ascii word o
octets_are_ascii (suc more) word o = subst IsAscii (sym o.2) (joined o.0 o.1 46 (omega arith) (octet_is_ascii o.0 o.3) (octets_are_ascii more o.1 o.4))

host_is_ascii : (word : List ℕ) → IsHost word → IsAscii word
host_is_ascii word (inl e) = subst IsAscii (sym e) (ascii (codes "localhost") refl)
host_is_ascii word (inr o) = octets_are_ascii 3 word o

port_is_ascii : (word : List ℕ) → IsPort word → IsAscii word
port_is_ascii word o = subst IsAscii (sym o.3) (IsAscii-decimal o.0 (let k = o.2 in omega (arith, k)))

pub endpoint_is_text : (word : List ℕ) → IsEndpoint word → IsUtf8 word
endpoint_is_text word o =
    IsUtf8-from_ascii word (subst IsAscii (sym o.2)
    (joined o.0 o.1 58 (omega arith) (subst IsAscii (sym o.3) (ascii (codes "tcp") refl))
    (subst IsAscii (sym o.4.2) (joined o.4.0 o.4.1 58 (omega arith) (host_is_ascii o.4.0 o.4.3) (port_is_ascii o.4.1 o.4.4)))))
