-- Bytes and texts that words carry.
use Rattle.std.proofs.Common.{◌≡◌, ℕ, ◌<◌, ◌↔◌, Bool, true, false, cond, ◌&&◌, List, length, refl, sym, ap, subst, ◌∙◌, Some, None, Option, arith}
use Rattle.std.specs.Prelude.{IsTrue, ◌==◌}
use Rattle.std.specs.Str.{is_utf8, IsUtf8}
use Rattle.std.proofs.lemmas.Bool.Decides.{nat_tests}
use Rattle.std.proofs.lemmas.Str.{is_utf8-from_IsUtf8, IsUtf8-from_is_utf8}
use Rattle.command_words.specs.Contents.{contents_word}
use Rattle.command_words.specs.Kept.{kept}

pub not_true : (b : Bool) → (b ≡ true → ⊥) → b ≡ false
not_true true h = absurd (h refl)
not_true false h = refl

pub stream_some : (word : List ℕ) (found : Option (List ℕ)) (bs : List ℕ) → found ≡ Some bs → ((b : List ℕ) → (found ≡ Some b) ↔ (word ≡ contents_word b))
    → (length bs == 0) ≡ false → (b : List ℕ) → (Some bs ≡ Some b) ↔ ((0 < length b) × (word ≡ contents_word b))
stream_some word found bs is h some b = (
  λ e. let same : bs ≡ b = cc in let positive : 0 < length bs = grind (arith, nat_tests) in (subst (λ x. 0 < length x) same positive, (h b).0 (is ∙ e)),
  λ k. sym is ∙ (h b).1 k.1,
)

pub stream_empty : (word : List ℕ) (found : Option (List ℕ)) (bs : List ℕ) → found ≡ Some bs → ((b : List ℕ) → (found ≡ Some b) ↔ (word ≡ contents_word b))
    → (length bs == 0) ≡ true → (b : List ℕ) → (◌≡◌ {A = Option (List ℕ)} None (Some b)) ↔ ((0 < length b) × (word ≡ contents_word b))
stream_empty word found bs is h none b = (
  λ e. absurd (cc),
  λ k. let same : Some bs ≡ Some b = sym is ∙ (h b).1 k.1 in let e : bs ≡ b = cc in let zero : length bs ≡ 0 = grind (arith, nat_tests) in
      let zero_b : length b ≡ 0 = ap length (sym e) ∙ zero in absurd (omega (arith, zero_b, k.0)),
)

pub stream_none : (word : List ℕ) (found : Option (List ℕ)) → found ≡ None → ((b : List ℕ) → (found ≡ Some b) ↔ (word ≡ contents_word b))
    → (b : List ℕ) → (◌≡◌ {A = Option (List ℕ)} None (Some b)) ↔ ((0 < length b) × (word ≡ contents_word b))
stream_none word found is h b = (λ e. absurd (cc), λ k. let got = (h b).1 k.1 in sym is ∙ got)

-- bytes that are UTF-8 by their type, and a test of their form behind that
pub text_passes : (bs : List ℕ) (b : Bool) → IsUtf8 bs → (is_utf8 bs && b) ≡ b
text_passes bs b h = ap (λ a. a && b) (is_utf8-from_IsUtf8 bs h)

pub kept_text : (bs text : List ℕ) → IsUtf8 bs → text ≡ bs → Some text ≡ kept is_utf8 bs
kept_text bs text h e = ap Some e ∙ ap (λ a. cond a (Some bs) None) (sym (is_utf8-from_IsUtf8 bs h))

pub utf8_true : (bs : List ℕ) → IsUtf8 bs → IsTrue (is_utf8 bs)
utf8_true bs h = is_utf8-from_IsUtf8 bs h

pub not_text : (bs : List ℕ) → (IsUtf8 bs → ⊥) → is_utf8 bs ≡ false
not_text bs h = not_true (is_utf8 bs) (λ e. h (IsUtf8-from_is_utf8 bs e))

pub kept_none : (bs : List ℕ) (form : Bool) → (IsUtf8 bs → ⊥) → ◌≡◌ {A = Option (List ℕ)} None (cond (is_utf8 bs && form) (Some bs) None)
kept_none bs form h = ap (λ a. cond (a && form) (Some bs) None) (sym (not_text bs h))

pub kept_no_text : (bs : List ℕ) → (IsUtf8 bs → ⊥) → ◌≡◌ {A = Option (List ℕ)} None (kept is_utf8 bs)
kept_no_text bs h = ap (λ a. cond a (Some bs) None) (sym (not_text bs h))
