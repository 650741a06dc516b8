-- What words make, by how many they are, and by the tests that a create passes.
use Rattle.std.proofs.Common.{◌≡◌, ◌≢◌, ℕ, Bool, true, false, not, ◌&&◌, List, [], ◌∷◌, Option, None, Some, Bor, if◌then◌else◌, map, drop, codes, length, take, nat_eq, refl, sym, ◌∙◌}
use Rattle.std.specs.List.{list_all, starts_with}
use Rattle.std.specs.Str.{bytes_eq}
use Rattle.script_engine.specs.declared.request.Request.{Request}
use Rattle.script_engine.specs.declared.request.Request.TheVariants.{Create}
use Rattle.script_engine.specs.Words.{is_word, words_of, is_root, is_session_name}
use Rattle.script_engine.specs.Request.{create_of, form_of, request_of}

-- words that are neither two, three nor five make no form
pub no_form : (words : List (Bor (List ℕ))) → length words ≢ 2 → length words ≢ 3 → length words ≢ 5 → None ≡ form_of (map (λ word. word.now) words)
no_form [] two three five = refl
no_form (a ∷ []) two three five = refl
no_form (a ∷ b ∷ []) two three five = absurd (two refl)
no_form (a ∷ b ∷ c ∷ []) two three five = absurd (three refl)
no_form (a ∷ b ∷ c ∷ d ∷ []) two three five = refl
no_form (a ∷ b ∷ c ∷ d ∷ e ∷ []) two three five = absurd (five refl)
no_form (a ∷ b ∷ c ∷ d ∷ e ∷ f ∷ more) two three five = refl

none_either_way : (b : Bool) → let none : Option Request = None in (if b then none else none) ≡ none
none_either_way true = refl
none_either_way false = refl

-- the first six words show whether all words are a form: where there are six, they are none
pub first_six_words : (words : List (List ℕ))
    → (if list_all is_word (take 6 words) then form_of (take 6 words) else None) ≡ (if list_all is_word words then form_of words else None)
first_six_words [] = refl
first_six_words (a ∷ []) = refl
first_six_words (a ∷ b ∷ []) = refl
first_six_words (a ∷ b ∷ c ∷ []) = refl
first_six_words (a ∷ b ∷ c ∷ d ∷ []) = refl
first_six_words (a ∷ b ∷ c ∷ d ∷ e ∷ []) = refl
first_six_words (a ∷ b ∷ c ∷ d ∷ e ∷ f ∷ more) = none_either_way _ ∙ sym (none_either_way (list_all is_word (a ∷ b ∷ c ∷ d ∷ e ∷ f ∷ more)))

true_from_not : (b : Bool) → false ≡ not b → b ≡ true
true_from_not true h = refl
true_from_not false h = h

-- what `create_of` gives behind its three fixed words, where `may` is the rest of its test
pub create_of_is : (sync create option alpha beta name : List ℕ) (may : Bool) → false ≡ not (bytes_eq sync (codes "sync")) → false ≡ not (bytes_eq create (codes "create"))
    → starts_with nat_eq option (codes "--name=") ≡ true → name ≡ drop 7 option
    → may ≡ (is_session_name name && is_root alpha && is_root beta && not (bytes_eq alpha beta))
    → create_of sync create option alpha beta ≡ (if may then Some (Create name alpha beta) else None)
create_of_is sync create option alpha beta name may s c o n m = rw (true_from_not _ s, true_from_not _ c, o, m, n)

-- the request of a line, by its first six parts
pub request_by_first_words : (line : List ℕ) (words : List (List ℕ)) → words ≡ take 6 (words_of line)
    → (if list_all is_word words then form_of words else None) ≡ request_of line
request_by_first_words line words e = rw e (first_six_words (words_of line))
