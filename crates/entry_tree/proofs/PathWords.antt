-- The word of a path.
use Rattle.std.proofs.Common.{◌≡◌, ℕ, ◌<◌, true, List, [], ◌∷◌, ◌++◌, length, codes, refl, sym, ap, subst, ◌∙◌, append_assoc, arith, lit<, zero, suc}
use Rattle.std.specs.List.{list_all}
use Rattle.std.specs.Str.{IsUtf8, IsAscii, is_utf8}
use Rattle.std.proofs.lemmas.Bool.{and_parts}
use Rattle.std.proofs.lemmas.Str.{IsUtf8-from_ascii, IsUtf8-from_is_utf8, IsUtf8-append, IsUtf8-nil}
use Rattle.line_words.specs.Spelling.{escaped, spelled}
use Rattle.sync_path.specs.Name.{is_name, has_name_form}
use Rattle.sync_path.specs.Path.{IsPath, path_text}
use Rattle.sync_path.proofs.TextParts.{slashed, path_text-cons}
use Rattle.entry_tree.specs.PathWord.{path_word}

slash_is_ascii : IsAscii (47 ∷ [])
slash_is_ascii zero = lit< tt
slash_is_ascii (suc i) = lit< tt

dot_is_ascii : IsAscii (46 ∷ [])
dot_is_ascii zero = lit< tt
dot_is_ascii (suc i) = lit< tt

name_is_utf8 : (name : List ℕ) → is_name name ≡ true → IsUtf8 name
name_is_utf8 name h = IsUtf8-from_is_utf8 name (and_parts (is_utf8 name) (has_name_form name) h).0

slashed_is_utf8 : (names : List (List ℕ)) → list_all is_name names ≡ true → IsUtf8 (slashed names)
slashed_is_utf8 [] h = IsUtf8-nil
slashed_is_utf8 (name ∷ names) h =
    let parts = and_parts (is_name name) (list_all is_name names) h in
    IsUtf8-append (47 ∷ name) (slashed names) (IsUtf8-append (47 ∷ []) name (IsUtf8-from_ascii (47 ∷ []) slash_is_ascii) (name_is_utf8 name parts.0)) (slashed_is_utf8 names parts.1)

pub path_word_is_utf8 : (names : List (List ℕ)) → IsPath names → IsUtf8 (path_word names)
path_word_is_utf8 [] h = IsUtf8-from_ascii (46 ∷ []) dot_is_ascii
path_word_is_utf8 (name ∷ names) h =
    let parts = and_parts (is_name name) (list_all is_name names) h.each_name in
    subst IsUtf8 (sym (path_text-cons name names)) (IsUtf8-append name (slashed names) (name_is_utf8 name parts.0) (slashed_is_utf8 names parts.1))

-- a path with a text of at least one byte has that text for its word
pub word_is_text : (names : List (List ℕ)) (text : List ℕ) → 0 < length text → path_text names ≡ text → text ≡ path_word names
word_is_text [] text some e = absurd (omega (arith, ap length e))
word_is_text (name ∷ names) text some e = sym e

-- a word that isn't `.` is a path's word only if it is its text
pub text_is_word : (names : List (List ℕ)) (word : List ℕ) → (word ≡ codes "." → ⊥) → path_word names ≡ word → path_text names ≡ word
text_is_word [] word other e = absurd (other (sym e))
text_is_word (name ∷ names) word other e = e

-- ---- how the word is written

escaped-append : (a b : List ℕ) → escaped (a ++ b) ≡ escaped a ++ escaped b
escaped-append [] b = refl
escaped-append (x ∷ a) b = ap (λ bs. spelled x ++ bs) (escaped-append a b) ∙ sym (append_assoc (spelled x) (escaped a) (escaped b))

module _ (start : List ℕ) where
  pub first_name : (first text : List ℕ) (rest names : List (List ℕ)) → text ≡ start ++ escaped first → names ≡ first ∷ rest
      → text ++ escaped (slashed rest) ≡ start ++ escaped (path_word names)
  first_name first text rest names written is =
      ap (λ bs. bs ++ escaped (slashed rest)) written
      ∙ append_assoc start (escaped first) (escaped (slashed rest))
      ∙ ap (λ bs. start ++ bs) (sym (escaped-append first (slashed rest)) ∙ ap escaped (sym (path_text-cons first rest)) ∙ ap (λ ns. escaped (path_word ns)) (sym is))

pub next_name : (text text' name all : List ℕ) (names rest : List (List ℕ)) → text ++ escaped (slashed names) ≡ all → names ≡ name ∷ rest
    → text' ≡ (text ++ 47 ∷ []) ++ escaped name → text' ++ escaped (slashed rest) ≡ all
next_name text text' name all names rest so_far is written =
    ap (λ bs. bs ++ escaped (slashed rest)) written
    ∙ append_assoc (text ++ 47 ∷ []) (escaped name) (escaped (slashed rest))
    ∙ append_assoc text (47 ∷ []) (escaped name ++ escaped (slashed rest))
    ∙ ap (λ bs. text ++ 47 ∷ bs) (sym (escaped-append name (slashed rest)))
    ∙ ap (λ ns. text ++ escaped (slashed ns)) (sym is)
    ∙ so_far
