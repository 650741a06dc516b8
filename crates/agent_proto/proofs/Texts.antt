-- Texts that are no UTF-8 are no path.
use Rattle.std.proofs.Common.{◌≡◌, ℕ, zero, suc, ◌<◌, arith, List, [], ◌∷◌, true, false, sym, ap, subst, ◌∙◌, Some, None, Bool, refl}
use Rattle.std.specs.Prelude.{cond, IsUtf8, slice_index}
use Rattle.std.specs.List.{list_all}
use Rattle.std.specs.Str.{is_utf8}
use Rattle.std.proofs.lemmas.Bool.{and_parts}
use Rattle.std.proofs.lemmas.Str.{IsUtf8-append, IsUtf8-nil, IsUtf8-from_is_utf8, IsUtf8-from_ascii}
use Rattle.sync_path.specs.Name.{is_name, has_name_form}
use Rattle.sync_path.specs.Path.{IsPath, path_text}
use Rattle.sync_path.specs.PathText.{parts_of, IsBadPlace}
use Rattle.sync_path.proofs.Texts.{path_text-parts_of, path_has_no_bad}
use Rattle.entry_tree.specs.Text.{is_text, has_text_len}
use Rattle.agent_proto.specs.Reading.{is_path, path_by, name_by, text_by}
use Rattle.agent_proto.proofs.FieldLaws.{true_path, path_by-text}

slash_ascii : (i : ℕ) → slice_index (47 ∷ []) i < 128
slash_ascii zero = omega arith
slash_ascii (suc i) = omega arith

slash_utf8 : IsUtf8 (47 ∷ [])
slash_utf8 = IsUtf8-from_ascii (47 ∷ []) slash_ascii

names_utf8 : (names : List (List ℕ)) → list_all is_name names ≡ true → IsUtf8 (path_text names)
names_utf8 [] each = IsUtf8-nil
names_utf8 (name ∷ []) each = IsUtf8-from_is_utf8 name (and_parts (is_utf8 name) (has_name_form name) (and_parts (is_name name) true each).0).0
names_utf8 (name ∷ next ∷ names) each =
    let parts = and_parts (is_name name) (list_all is_name (next ∷ names)) each in
    let first = IsUtf8-from_is_utf8 name (and_parts (is_utf8 name) (has_name_form name) parts.0).0 in
    IsUtf8-append name (47 ∷ path_text (next ∷ names)) first (IsUtf8-append (47 ∷ []) (path_text (next ∷ names)) slash_utf8 (names_utf8 (next ∷ names) parts.1))

by_bool : (test : Bool) (text : List (List ℕ)) → ((test ≡ true) → ⊥) → cond test (Some text) None ≡ None
by_bool true text no_way = absurd (no_way refl)
by_bool false text no_way = refl

pub no_path_but_utf8 : (text : List ℕ) → (IsUtf8 text → ⊥) → path_by text ≡ None
no_path_but_utf8 text not_utf8 = by_bool (is_path (parts_of text)) (parts_of text) (λ test. not_utf8 (subst IsUtf8 (path_text-parts_of text) (names_utf8 (parts_of text) (true_path (parts_of text) test).each_name)))

pub no_path_at_bad : (text : List ℕ) (place : ℕ) → IsBadPlace text place → path_by text ≡ None
no_path_at_bad text place bad = by_bool (is_path (parts_of text)) (parts_of text) (λ test. path_has_no_bad text place (true_path (parts_of text) test) bad)

pub path_of_text : (text : List ℕ) (path : List (List ℕ)) → path_text path ≡ text → IsPath path → path_by text ≡ Some path
path_of_text text path is ok = ap path_by (sym is) ∙ path_by-text path ok

by_test : (test : Bool) (text : List ℕ) → ((test ≡ true) → ⊥) → cond test (Some text) None ≡ None
by_test true text no_way = absurd (no_way refl)
by_test false text no_way = refl

pub no_name_but_utf8 : (text : List ℕ) → (IsUtf8 text → ⊥) → name_by text ≡ None
no_name_but_utf8 text not_utf8 = by_test (is_name text) text (λ test. not_utf8 (IsUtf8-from_is_utf8 text (and_parts (is_utf8 text) (has_name_form text) test).0))

pub no_text_but_utf8 : (text : List ℕ) → (IsUtf8 text → ⊥) → text_by text ≡ None
no_text_but_utf8 text not_utf8 = by_test (is_text text) text (λ test. not_utf8 (IsUtf8-from_is_utf8 text (and_parts (is_utf8 text) (has_text_len text) test).0))
