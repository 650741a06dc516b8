-- A line of words is UTF-8: it holds nothing but spaces and plain bytes.
use Rattle.std.proofs.Common.{◌≡◌, ◌==◌, ℕ, ◌<◌, true, ◌&&◌, List, [], ◌∷◌, refl, sym, ap, ⊎_elim, arith, if◌then◌else◌, None, length, not, nat_lt, nat_le}
use Rattle.std.specs.List.{list_all, onto_first}
use Rattle.std.specs.Str.{IsAscii, IsUtf8}
use Rattle.std.proofs.lemmas.Bool.{and_parts, and_from, cases_Bool, eqb-true, leb-true}
use Rattle.std.proofs.lemmas.List.Splits.{slice_split-cons_yes, slice_split-cons_no}
use Rattle.std.proofs.lemmas.Str.{IsUtf8-from_ascii}
use Rattle.std.proofs.lemmas.Str.Ascii.{IsAscii-nil, IsAscii-cons}
use Rattle.script_engine.specs.Words.{is_plain, is_word, words_of}
use Rattle.script_engine.specs.Request.{request_of, form_of}

-- words hold plain bytes
plain_words : (words : List (List ℕ)) → list_all is_word words ≡ true → list_all (list_all is_plain) words ≡ true
plain_words [] h = refl
plain_words (word ∷ words) h =
    let parts = and_parts (is_word word) (list_all is_word words) h in
    and_from (list_all is_plain word) _ (and_parts (nat_lt 0 (length word)) (list_all is_plain word) parts.0).1 (plain_words words parts.1)

plain_ascii : (b : ℕ) → is_plain b ≡ true → b < 128
plain_ascii b h =
    let top = and_parts (nat_le b 0x7e) (not (b == 0x25)) (and_parts (nat_le 0x21 b) _ h).1 in
    omega (arith, leb-true b 0x7e top.0)

-- a byte before the first part belongs to it
plain_onto_first : (b : ℕ) (parts : List (List ℕ)) → list_all (list_all is_plain) (onto_first b parts) ≡ true
    → (is_plain b ≡ true) × (list_all (list_all is_plain) parts ≡ true)
plain_onto_first b [] h = ((and_parts (is_plain b) true (and_parts (is_plain b && true) true h).0).0, refl)
plain_onto_first b (part ∷ parts) h =
    let both = and_parts (is_plain b && list_all is_plain part) (list_all (list_all is_plain) parts) h in
    let first = and_parts (is_plain b) (list_all is_plain part) both.0 in
    (first.0, and_from (list_all is_plain part) _ first.1 both.1)

ascii_line : (line : List ℕ) → list_all (list_all is_plain) (words_of line) ≡ true → IsAscii line
ascii_line [] h = IsAscii-nil
ascii_line (b ∷ line) h =
    ⊎_elim
    (λ space.
    let parts = rw (slice_split-cons_yes (λ c. c == 0x20) b line space) at h in
    let is : b ≡ 0x20 = eqb-true b 0x20 space in
    IsAscii-cons b line (omega arith) (ascii_line line parts))
    (λ other.
    let parts = plain_onto_first b (words_of line) (rw (slice_split-cons_no (λ c. c == 0x20) b line other) at h) in
    IsAscii-cons b line (plain_ascii b parts.0) (ascii_line line parts.1))
    (cases_Bool (b == 0x20))

-- a line that is not UTF-8 has a part that is no word
pub no_request_unless_utf8 : (line : List ℕ) → ¬ IsUtf8 line → None ≡ request_of line
no_request_unless_utf8 line not_text =
    ⊎_elim
    (λ words. absurd (not_text (IsUtf8-from_ascii line (ascii_line line (plain_words (words_of line) words)))))
    (λ none. ap (λ b. if b then form_of (words_of line) else None) (sym none))
    (cases_Bool (list_all is_word (words_of line)))
