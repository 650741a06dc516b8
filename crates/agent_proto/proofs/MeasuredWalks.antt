-- What the walk over a length and what is as long leaves behind it is what the reader of the field leaves.
use Rattle.std.proofs.Common.{◌≡◌, ℕ, zero, suc, ◌+◌, ◌*◌, ◌<◌, ◌≤◌, ◌^◌, Bool, true, false, cond, not, ◌&&◌, List, [], ◌∷◌, length, take, drop, refl, sym, ◌∙◌, ap, subst, arith, ◌⊎◌, inl, inr, Some, None, leb, eqb}
use Rattle.std.specs.Prelude.{Option, nat_le}
use Rattle.std.specs.Option.{option_map, option_and_then}
use Rattle.std.specs.List.{list_all, slice_split, All}
use Rattle.std.specs.Str.{is_utf8}
use Rattle.std.proofs.lemmas.Bool.{and_parts, leb-true, not-true}
use Rattle.std.proofs.lemmas.Bool.Decides.{nat_tests, leb_tells}
use Rattle.std.proofs.lemmas.List.{length-take-le}
use Rattle.std.proofs.lemmas.List.Elements.{All-nil, All-cons}
use Rattle.std.proofs.lemmas.List.Splits.{slice_split_none}
use Rattle.mux_frames.specs.Numbers.{value, AreBytes}
use Rattle.mux_frames.proofs.Digits.{value_from-most}
use Rattle.sync_path.specs.Name.{is_name, has_name_form, has_name_len, is_dots, is_name_byte}
use Rattle.sync_path.specs.Path.{path_text}
use Rattle.sync_path.specs.PathText.{parts_of}
use Rattle.sync_path.proofs.Texts.{path_text-parts_of}
use Rattle.entry_tree.specs.Text.{is_text, has_text_len}
use Rattle.roots_api.specs.declared.limits.TheConstants.{MAX_PIECE}
use Rattle.agent_proto.specs.declared.character.Begun.TheVariants.{Whole as whole_char}
use Rattle.agent_proto.specs.declared.field_place.Measured.TheVariants as measured
use Rattle.agent_proto.specs.declared.field_place.FieldPlace.TheVariants.{Any, Size, Path}
use Rattle.agent_proto.specs.declared.field_place.Next.TheVariants.{Whole, On}
use Rattle.agent_proto.specs.Characters.{ends_whole}
use Rattle.agent_proto.specs.PathPlaces.{name_start, ends_path}
use Rattle.agent_proto.specs.FieldPlaces.{some_bytes, taken}
use Rattle.agent_proto.specs.Reading.{made, front_in, sized_in, is_path, path_by, name_by, text_by, path_in, name_in, text_in, piece_by, piece_in}
use Rattle.agent_proto.proofs.Characters.{utf8_is}
use Rattle.agent_proto.proofs.PathWalk.{is_slash, follows, path_is, and_false}
use Rattle.agent_proto.proofs.FieldWalks.{left_of, front_left, left_front, front_all, any_taken, front_if, path_taken, text_taken, behind, behind_digits, size_taken, same_bool}
use Rattle.agent_proto.proofs.Comparisons.{le_suc, le_zero, suc_zero}

-- ---- a reader of what is as long as was said

made_sized : {W : Type 0} (by : List ℕ → Option W) (digits : ℕ) (bytes : List ℕ) → left_of (made by (sized_in digits bytes)) ≡ cond (nat_le digits (length bytes)) (left_of (made by (front_in (value (take digits bytes)) (drop digits bytes)))) None
made_sized by digits bytes = by_test (nat_le digits (length bytes))
  where
    by_test : (test : Bool)
        → left_of (made by (option_and_then (λ (p : ℕ × List ℕ). front_in p.0 p.1) (option_map (λ (p : List ℕ × List ℕ). (value p.0, p.1)) (cond test (Some (take digits bytes, drop digits bytes)) None))))
        ≡ cond test (left_of (made by (front_in (value (take digits bytes)) (drop digits bytes)))) None
    by_test true = refl
    by_test false = refl

made_front : {W : Type 0} (test : List ℕ → Bool) (f : List ℕ → W) (size : ℕ) (bytes : List ℕ) → left_of (made (λ text. cond (test text) (Some (f text)) None) (front_in size bytes)) ≡ front_if test size bytes
made_front {W} test f size bytes = by_fits (nat_le size (length bytes))
  where
    by_test : (passes : Bool) → left_of (option_map (λ w. (w, drop size bytes)) (cond passes (Some (f (take size bytes))) None)) ≡ cond passes (Some (drop size bytes)) None
    by_test true = refl
    by_test false = refl

    by_fits : (fits : Bool) → left_of (made (λ text. cond (test text) (Some (f text)) None) (cond fits (Some (take size bytes, drop size bytes)) None)) ≡ cond (fits && test (take size bytes)) (Some (drop size bytes)) None
    by_fits true = by_test (test (take size bytes))
    by_fits false = refl

-- a test that says the same of each text of this length
front_same : (a b : List ℕ → Bool) (size : ℕ) (bytes : List ℕ) → ((text : List ℕ) → length text ≡ size → a text ≡ b text) → front_if a size bytes ≡ front_if b size bytes
front_same a b size bytes same = elim (leb_tells size (length bytes)) [
  | inl p ↦ ap (λ t. cond (nat_le size (length bytes) && t) (Some (drop size bytes)) None) (same (take size bytes) (length-take-le size bytes p.1))
  | inr p ↦ ap (λ t. cond (t && a (take size bytes)) (Some (drop size bytes)) None) p.0 ∙ sym (ap (λ t. cond (t && b (take size bytes)) (Some (drop size bytes)) None) p.0)
]

-- a test that stands before
test_in : (before : Bool) (test : List ℕ → Bool) (size : ℕ) (bytes : List ℕ) → front_if (λ text. before && test text) size bytes ≡ cond before (front_if test size bytes) None
test_in true test size bytes = refl
test_in false test size bytes = ap (λ t. cond t (Some (drop size bytes)) None) (and_false (nat_le size (length bytes)))

-- ---- paths

some_parts : (names : ℕ) (parts : List (List ℕ)) (len : Bool)
    → (list_all is_name parts && (nat_le (length parts) (suc names) && len)) ≡ (len && follows [] names parts) ⊎ (length parts ≡ 0)
some_parts names [] len = inr refl
some_parts names (part ∷ parts) len = inl (ap (λ t. (is_name part && list_all is_name parts) && (t && len)) (le_suc (length parts) names) ∙ order (is_name part) (list_all is_name parts) (nat_le (length parts) names) len)
  where
    order : (a b c d : Bool) → (a && b) && (c && d) ≡ d && (a && (b && c))
    order true true true true = refl
    order true true true false = refl
    order true true false true = refl
    order true true false false = refl
    order true false c true = refl
    order true false c false = refl
    order false b c true = refl
    order false b c false = refl

path_test : (text : List ℕ) → 0 < length text → is_path (parts_of text) ≡ (nat_le (length text) 4096 && ends_path (Some (name_start 63)) text)
path_test [] some = absurd (omega arith)
path_test (b ∷ bytes) some =
    let text = b ∷ bytes in
    let parts = parts_of text in
    let len : nat_le (length (path_text parts)) 4096 ≡ nat_le (length text) 4096 = ap (λ xs. nat_le (length xs) 4096) (path_text-parts_of text) in
    elim (some_parts 63 parts (nat_le (length (path_text parts)) 4096)) [
      | inl same ↦ same ∙ ap (λ t. t && follows [] 63 parts) len ∙ ap (λ t. nat_le (length text) 4096 && t) (sym (path_is 63 text))
      | inr none ↦ absurd (no_parts text parts (path_text-parts_of text) none)
    ]
  where
    no_parts : (text : List ℕ) (parts : List (List ℕ)) → path_text parts ≡ b ∷ bytes → length parts ≡ 0 → ⊥
    no_parts text [] is none = absurd (omega (arith, ap length is))
    no_parts text (part ∷ parts) is none = omega (arith, none)

path_behind : (size : ℕ) (bytes : List ℕ) → front_if (λ text. is_path (parts_of text)) size bytes ≡ behind measured.Path size bytes
path_behind zero bytes = ap (λ t. cond (t && true) (Some bytes) None) (le_zero (length bytes))
path_behind (suc size) bytes =
    front_same (λ text. is_path (parts_of text)) (λ text. nat_le (suc size) 4096 && ends_path (Some (name_start 63)) text) (suc size) bytes
    (λ text len. path_test text (omega (arith, len)) ∙ ap (λ (n : ℕ). nat_le n 4096 && ends_path (Some (name_start 63)) text) len)
    ∙ test_in (nat_le (suc size) 4096) (ends_path (Some (name_start 63))) (suc size) bytes
    ∙ ap (λ (o : Option (List ℕ)). cond (nat_le (suc size) 4096) o None) (sym (path_taken size (name_start 63) bytes))
    ∙ sym (ap (λ z. cond (nat_le (suc size) 4096 && nat_le 0 (suc size)) (taken (cond z Whole (On (Path (name_start 63) (suc size)))) bytes) None) (suc_zero size)
    ∙ both_tests (nat_le (suc size) 4096) (taken (On (Path (name_start 63) (suc size))) bytes))
  where
    both_tests : (a : Bool) (o : Option (List ℕ)) → cond (a && nat_le 0 (suc size)) o None ≡ cond a o None
    both_tests true o = ap (λ t. cond t o None) (le_zero (suc size))
    both_tests false o = refl

-- ---- names

lacks_slash : (bs : List ℕ) → list_all is_name_byte bs ≡ true → All (λ b. eqb b 47 ≡ false) bs
lacks_slash [] h = All-nil (λ b. eqb b 47 ≡ false)
lacks_slash (b ∷ bs) h =
    let both = and_parts (is_name_byte b) (list_all is_name_byte bs) h in
    let first = and_parts (leb 32 b) (not (eqb b 47)) both.0 in
    All-cons (λ c. eqb c 47 ≡ false) b bs (not-true (eqb b 47) first.1) (lacks_slash bs both.1)

one_part : (text : List ℕ) (parts : List (List ℕ)) → path_text parts ≡ text → follows [] 0 parts ≡ true → is_name text ≡ true
one_part text [] is e = absurd cc
one_part text (part ∷ []) is e = let h = and_parts (is_name part) _ e in subst (λ xs. is_name xs ≡ true) is h.0
one_part text (part ∷ next ∷ parts) is e =
    let h = and_parts (is_name part) (list_all is_name (next ∷ parts) && nat_le (length (next ∷ parts)) 0) e in
    let few = and_parts (list_all is_name (next ∷ parts)) (nat_le (length (next ∷ parts)) 0) h.1 in
    let most : length (next ∷ parts) ≤ 0 = leb-true (length (next ∷ parts)) 0 few.1 in
    absurd (omega (arith, most))

name_test : (text : List ℕ) → 0 < length text → is_name text ≡ (nat_le (length text) 255 && ends_path (Some (name_start 0)) text)
name_test [] some = absurd (omega arith)
name_test (b ∷ bytes) some =
    let text = b ∷ bytes in
    same_bool (is_name text) (nat_le (length text) 255 && ends_path (Some (name_start 0)) text)
    (λ name.
    let form = (and_parts (is_utf8 text) (has_name_form text) name).1 in
    let shape = and_parts (has_name_len text && not (is_dots text)) (list_all is_name_byte text) form in
    let len = and_parts (leb 1 (length text)) (leb (length text) 255) (and_parts (has_name_len text) (not (is_dots text)) shape.0).0 in
    let alone : slice_split is_slash text ≡ text ∷ [] = slice_split_none is_slash text (lacks_slash text shape.1) in
    let ends : ends_path (Some (name_start 0)) text ≡ true = path_is 0 text ∙ ap (λ parts. follows [] 0 parts) alone ∙ ap (λ t. t && (true && nat_le 0 0)) name in
    rw (len.1, ends) refl)
    (λ both.
    let parts = and_parts (nat_le (length text) 255) (ends_path (Some (name_start 0)) text) both in
    one_part text (slice_split is_slash text) (path_text-parts_of text) (sym (path_is 0 text) ∙ parts.1))

name_behind : (size : ℕ) (bytes : List ℕ) → front_if is_name size bytes ≡ behind measured.Name size bytes
name_behind zero bytes = ap (λ t. cond (nat_le 0 (length bytes) && t) (Some bytes) None) (and_false (is_utf8 [])) ∙ ap (λ t. cond t (Some bytes) None) (and_false (nat_le 0 (length bytes)))
name_behind (suc size) bytes =
    front_same is_name (λ text. nat_le (suc size) 255 && ends_path (Some (name_start 0)) text) (suc size) bytes
    (λ text len. name_test text (omega (arith, len)) ∙ ap (λ (n : ℕ). nat_le n 255 && ends_path (Some (name_start 0)) text) len)
    ∙ test_in (nat_le (suc size) 255) (ends_path (Some (name_start 0))) (suc size) bytes
    ∙ ap (λ (o : Option (List ℕ)). cond (nat_le (suc size) 255) o None) (sym (path_taken size (name_start 0) bytes))
    ∙ sym (both_tests (nat_le (suc size) 255) (taken (On (Path (name_start 0) (suc size))) bytes))
  where
    both_tests : (a : Bool) (o : Option (List ℕ)) → cond (a && nat_le 1 (suc size)) o None ≡ cond a o None
    both_tests true o = ap (λ t. cond t o None) (le_suc 0 size ∙ le_zero size)
    both_tests false o = refl

-- ---- texts of links

text_behind : (size : ℕ) (bytes : List ℕ) → front_if is_text size bytes ≡ behind measured.Text size bytes
text_behind zero bytes = ap (λ t. cond (nat_le 0 (length bytes) && t) (Some bytes) None) (and_false (is_utf8 [])) ∙ ap (λ t. cond t (Some bytes) None) (and_false (nat_le 0 (length bytes)))
text_behind (suc size) bytes =
    front_same is_text (λ text. (nat_le (suc size) 4096 && nat_le 1 (suc size)) && ends_whole (Some whole_char) text) (suc size) bytes
    (λ text len. ap (λ t. t && has_text_len text) (utf8_is text) ∙ order (ends_whole (Some whole_char) text) (nat_le 1 (length text)) (nat_le (length text) 4096)
    ∙ ap (λ (n : ℕ). (nat_le n 4096 && nat_le 1 n) && ends_whole (Some whole_char) text) len)
    ∙ test_in (nat_le (suc size) 4096 && nat_le 1 (suc size)) (ends_whole (Some whole_char)) (suc size) bytes
    ∙ ap (λ (o : Option (List ℕ)). cond (nat_le (suc size) 4096 && nat_le 1 (suc size)) o None) (sym (text_taken size whole_char bytes))
  where
    order : (a b c : Bool) → a && (b && c) ≡ (c && b) && a
    order true true true = refl
    order true true false = refl
    order true false true = refl
    order true false false = refl
    order false true true = refl
    order false true false = refl
    order false false true = refl
    order false false false = refl

-- ---- bytes

pub some_bytes_taken : (size : ℕ) (bytes : List ℕ) → taken (some_bytes size) bytes ≡ front_left size bytes
some_bytes_taken zero bytes = sym (front_all bytes)
some_bytes_taken (suc size) bytes = ap (λ z. taken (cond z Whole (On (Any (suc size)))) bytes) (suc_zero size) ∙ any_taken size bytes

bytes_behind : (size : ℕ) (bytes : List ℕ) → size ≤ 4294967295 → front_left size bytes ≡ behind measured.Bytes size bytes
bytes_behind size bytes fits =
    let low : nat_le size 4294967295 ≡ true = grind (arith, nat_tests, fits) in
    sym (ap (λ t. cond (t && nat_le 0 size) (taken (some_bytes size) bytes) None) low ∙ ap (λ t. cond t (taken (some_bytes size) bytes) None) (le_zero size) ∙ some_bytes_taken size bytes)

piece_behind : (size : ℕ) (bytes : List ℕ) → front_if (λ text. nat_le (length text) MAX_PIECE) size bytes ≡ behind measured.Piece size bytes
piece_behind size bytes =
    front_same (λ text. nat_le (length text) MAX_PIECE) (λ text. nat_le size 65536 && true) size bytes (λ text len. ap (λ (n : ℕ). nat_le n 65536) len ∙ sym (true_right (nat_le size 65536)))
    ∙ test_in (nat_le size 65536) (λ text. true) size bytes
    ∙ ap (λ (o : Option (List ℕ)). cond (nat_le size 65536) o None) (ap (λ t. cond t (Some (drop size bytes)) None) (true_right (nat_le size (length bytes))) ∙ sym (some_bytes_taken size bytes))
    ∙ sym (both_tests (nat_le size 65536) (taken (some_bytes size) bytes))
  where
    true_right : (a : Bool) → a && true ≡ a
    true_right true = refl
    true_right false = refl

    both_tests : (a : Bool) (o : Option (List ℕ)) → cond (a && nat_le 0 size) o None ≡ cond a o None
    both_tests true o = ap (λ t. cond t o None) (le_zero size)
    both_tests false o = refl

-- ---- whole fields

pub path_field_taken : (bytes : List ℕ) → taken (On (Size measured.Path 2 0)) bytes ≡ left_of (path_in bytes)
path_field_taken bytes =
    size_taken measured.Path 1 0 bytes (omega arith)
    ∙ ap (λ (o : Option (List ℕ)). cond (nat_le 2 (length bytes)) o None) (sym (made_front (λ text. is_path (parts_of text)) parts_of (value (take 2 bytes)) (drop 2 bytes) ∙ path_behind (value (take 2 bytes)) (drop 2 bytes)))
    ∙ sym (made_sized path_by 2 bytes)

pub name_field_taken : (bytes : List ℕ) → taken (On (Size measured.Name 2 0)) bytes ≡ left_of (name_in bytes)
name_field_taken bytes =
    size_taken measured.Name 1 0 bytes (omega arith)
    ∙ ap (λ (o : Option (List ℕ)). cond (nat_le 2 (length bytes)) o None) (sym (made_front is_name (λ text. text) (value (take 2 bytes)) (drop 2 bytes) ∙ name_behind (value (take 2 bytes)) (drop 2 bytes)))
    ∙ sym (made_sized name_by 2 bytes)

pub text_field_taken : (bytes : List ℕ) → taken (On (Size measured.Text 2 0)) bytes ≡ left_of (text_in bytes)
text_field_taken bytes =
    size_taken measured.Text 1 0 bytes (omega arith)
    ∙ ap (λ (o : Option (List ℕ)). cond (nat_le 2 (length bytes)) o None) (sym (made_front is_text (λ text. text) (value (take 2 bytes)) (drop 2 bytes) ∙ text_behind (value (take 2 bytes)) (drop 2 bytes)))
    ∙ sym (made_sized text_by 2 bytes)

pub piece_field_taken : (bytes : List ℕ) → taken (On (Size measured.Piece 4 0)) bytes ≡ left_of (piece_in bytes)
piece_field_taken bytes =
    size_taken measured.Piece 3 0 bytes (omega arith)
    ∙ ap (λ (o : Option (List ℕ)). cond (nat_le 4 (length bytes)) o None) (sym (made_front (λ text. nat_le (length text) MAX_PIECE) (λ text. text) (value (take 4 bytes)) (drop 4 bytes) ∙ piece_behind (value (take 4 bytes)) (drop 4 bytes)))
    ∙ sym (made_sized piece_by 4 bytes)

sized_left : (digits : ℕ) (bytes : List ℕ) → left_of (sized_in digits bytes) ≡ cond (nat_le digits (length bytes)) (left_of (front_in (value (take digits bytes)) (drop digits bytes))) None
sized_left digits bytes = by_test (nat_le digits (length bytes))
  where
    by_test : (test : Bool)
        → left_of (option_and_then (λ (p : ℕ × List ℕ). front_in p.0 p.1) (option_map (λ (p : List ℕ × List ℕ). (value p.0, p.1)) (cond test (Some (take digits bytes, drop digits bytes)) None)))
        ≡ cond test (left_of (front_in (value (take digits bytes)) (drop digits bytes))) None
    by_test true = refl
    by_test false = refl

pub bytes_drop : (count : ℕ) (bytes : List ℕ) → AreBytes bytes → AreBytes (drop count bytes)
bytes_drop zero bytes each = each
bytes_drop (suc count) [] each = tt
bytes_drop (suc count) (b ∷ bytes) each = bytes_drop count bytes each.1

pub bytes_front : (count : ℕ) (bytes : List ℕ) → AreBytes bytes → AreBytes (take count bytes)
bytes_front zero bytes each = tt
bytes_front (suc count) [] each = tt
bytes_front (suc count) (b ∷ bytes) each = (each.0, bytes_front count bytes each.1)

pub bytes_field_taken : (bytes : List ℕ) → AreBytes bytes → taken (On (Size measured.Bytes 4 0)) bytes ≡ left_of (sized_in 4 bytes)
bytes_field_taken bytes each =
    size_taken measured.Bytes 3 0 bytes (omega arith) ∙ by_len (leb_tells 4 (length bytes)) ∙ sym (sized_left 4 bytes)
  where
    by_len : ((nat_le 4 (length bytes) ≡ true) × (4 ≤ length bytes)) ⊎ ((nat_le 4 (length bytes) ≡ false) × (length bytes < 4))
        → behind_digits measured.Bytes 4 0 bytes ≡ cond (nat_le 4 (length bytes)) (left_of (front_in (value (take 4 bytes)) (drop 4 bytes))) None
    by_len (inl p) =
        let size = value (take 4 bytes) in
        let len : length (take 4 bytes) ≡ 4 = length-take-le 4 bytes p.1 in
        let most : size < (0 + 1) * 256 ^ length (take 4 bytes) = value_from-most 0 (take 4 bytes) (bytes_front 4 bytes each) in
        let fits : size < (0 + 1) * 256 ^ 4 = subst (λ (n : ℕ). size < (0 + 1) * 256 ^ n) len most in
        ap (λ (o : Option (List ℕ)). cond (nat_le 4 (length bytes)) o None) (sym (left_front size (drop 4 bytes) ∙ bytes_behind size (drop 4 bytes) (omega (arith, fits))))
    by_len (inr p) =
        ap (λ t. cond t (behind measured.Bytes (value (take 4 bytes)) (drop 4 bytes)) None) p.0
        ∙ sym (ap (λ t. cond t (left_of (front_in (value (take 4 bytes)) (drop 4 bytes))) None) p.0)
