-- Words as a writer spells them: no spelling has a space or an LF, and each tells its word, whatever the bytes are.
use Rattle.std.proofs.Common.{◌≡◌, ℕ, ◌+◌, ◌*◌, ◌/◌, ◌%◌, Bool, true, false, cond, not, ◌&&◌, List, [], ◌∷◌, ◌++◌, refl, sym, ap, ap₂, subst, ◌∙◌, arith, append_assoc}
use Rattle.std.specs.Prelude.{◌==◌}
use Rattle.std.proofs.Math.Nat.{mod-add-div}
use Rattle.std.proofs.lemmas.Bool.Decides.{nat_tests}
use Rattle.std.proofs.lemmas.List.Folds.{list_all-append}
use Rattle.line_words.specs.Spelling.{escaped, is_plain, percent, space, spelled, upper_digit}
use Rattle.command_words.specs.Cuts.{has_no}
use Rattle.reply_text.specs.Lines.{newline}

-- ---- no LF

plain_no_newline : (b : ℕ) → is_plain b ≡ true → not (b == newline) ≡ true
plain_no_newline b h = grind (arith, nat_tests)

digit_no_newline : (d : ℕ) → not (upper_digit d == newline) ≡ true
digit_no_newline d = grind (arith, nat_tests)

both_true : (a b : Bool) → a ≡ true → b ≡ true → (a && b) ≡ true
both_true true b h k = k
both_true false b h k = h

spelled_no_newline : (b : ℕ) → has_no newline (spelled b) ≡ true
spelled_no_newline b = by (is_plain b) refl
  where
    by : (t : Bool) → is_plain b ≡ t → has_no newline (cond t (b ∷ []) (percent ∷ upper_digit (b / 16) ∷ upper_digit (b % 16) ∷ [])) ≡ true
    by true e = both_true (not (b == newline)) true (plain_no_newline b e) refl
    by false e =
        both_true (not (upper_digit (b / 16) == newline)) (not (upper_digit (b % 16) == newline) && true) (digit_no_newline (b / 16))
        (both_true (not (upper_digit (b % 16) == newline)) true (digit_no_newline (b % 16)) refl)

pub no_newline_append : (xs ys : List ℕ) → has_no newline xs ≡ true → has_no newline ys ≡ true → has_no newline (xs ++ ys) ≡ true
no_newline_append xs ys h k = list_all-append (λ c. not (c == newline)) xs ys ∙ both_true (has_no newline xs) (has_no newline ys) h k

pub escaped_no_newline : (word : List ℕ) → has_no newline (escaped word) ≡ true
escaped_no_newline [] = refl
escaped_no_newline (b ∷ bs) = no_newline_append (spelled b) (escaped bs) (spelled_no_newline b) (escaped_no_newline bs)

-- ---- a spelling tells its word

-- nothing, or a space and anything
abbrev pub BeginsNext : List ℕ → Type 0
BeginsNext [] = Unit {0}
BeginsNext (b ∷ bs) = b ≡ space

digits_same : (d e : ℕ) → upper_digit d ≡ upper_digit e → d ≡ e
digits_same d e h = grind (arith, nat_tests)

bytes_same : (b c : ℕ) → b / 16 ≡ c / 16 → b % 16 ≡ c % 16 → b ≡ c
bytes_same b c h k = sym (mod-add-div b 16) ∙ ap₂ (λ low high. low + 16 * high) k h ∙ mod-add-div c 16

percent_not_plain : (b : ℕ) → is_plain b ≡ true → b ≡ percent → ⊥
percent_not_plain b h e = let no : false ≡ true = subst (λ c. is_plain c ≡ true) e h in absurd (cc)

space_not_plain : (b : ℕ) → is_plain b ≡ true → b ≡ space → ⊥
space_not_plain b h e = let no : false ≡ true = subst (λ c. is_plain c ≡ true) e h in absurd (cc)

-- no word goes on with a space
ends_word : (b : ℕ) (more x : List ℕ) → BeginsNext x → x ≡ spelled b ++ more → ⊥
ends_word b more x h = by (is_plain b) refl x h
  where
    by : (t : Bool) → is_plain b ≡ t → (x : List ℕ) → BeginsNext x → x ≡ cond t (b ∷ []) (percent ∷ upper_digit (b / 16) ∷ upper_digit (b % 16) ∷ []) ++ more → ⊥
    by true p [] h e = absurd (cc)
    by true p (c ∷ cs) h e = let first : c ≡ b = cc in space_not_plain b p (sym first ∙ h)
    by false p [] h e = absurd (cc)
    by false p (c ∷ cs) h e =
        let first : c ≡ percent = cc in
        let same : space ≡ percent = sym h ∙ first in
        let no : (space == percent) ≡ true = ap (λ n. space == n) (sym same) in absurd (cc)

-- a word and what stands behind it are told by the word's spelling with that behind it
pub word_told : (word other x y : List ℕ) → BeginsNext x → BeginsNext y → escaped word ++ x ≡ escaped other ++ y → (word ≡ other) × (x ≡ y)
word_told [] [] x y h k e = (refl, e)
word_told [] (c ∷ cs) x y h k e = absurd (ends_word c (escaped cs ++ y) x h (e ∙ append_assoc (spelled c) (escaped cs) y))
word_told (b ∷ bs) [] x y h k e = absurd (ends_word b (escaped bs ++ x) y k (sym e ∙ append_assoc (spelled b) (escaped bs) x))
word_told (b ∷ bs) (c ∷ cs) x y h k e =
    by (is_plain b) (is_plain c) refl refl (sym (append_assoc (spelled b) (escaped bs) x) ∙ e ∙ append_assoc (spelled c) (escaped cs) y) (word_told bs cs x y h k)
  where
    by : (s t : Bool) → is_plain b ≡ s → is_plain c ≡ t
        → cond s (b ∷ []) (percent ∷ upper_digit (b / 16) ∷ upper_digit (b % 16) ∷ []) ++ (escaped bs ++ x)
        ≡ cond t (c ∷ []) (percent ∷ upper_digit (c / 16) ∷ upper_digit (c % 16) ∷ []) ++ (escaped cs ++ y)
        → (escaped bs ++ x ≡ escaped cs ++ y → (bs ≡ cs) × (x ≡ y)) → (b ∷ bs ≡ c ∷ cs) × (x ≡ y)
    by true true p q e more =
        let first : b ≡ c = cc in
        let rest : escaped bs ++ x ≡ escaped cs ++ y = cc in
        let found = more rest in
        (ap₂ (λ n ns. n ∷ ns) first found.0, found.1)
    by true false p q e more = let first : b ≡ percent = cc in absurd (percent_not_plain b p first)
    by false true p q e more = let first : c ≡ percent = cc in absurd (percent_not_plain c q first)
    by false false p q e more =
        let high : upper_digit (b / 16) ≡ upper_digit (c / 16) = cc in
        let low : upper_digit (b % 16) ≡ upper_digit (c % 16) = cc in
        let rest : escaped bs ++ x ≡ escaped cs ++ y = cc in
        let found = more rest in
        (ap₂ (λ n ns. n ∷ ns) (bytes_same b c (digits_same (b / 16) (c / 16) high) (digits_same (b % 16) (c % 16) low)) found.0, found.1)
