-- Classes of ASCII bytes.
use Rattle.std.proofs.Common.{◌≡◌, ℕ, ◌<◌, Bool, true, false, ◌&&◌, ◌||◌, List, [], ◌∷◌, refl, ap, ap₂, arith, suc, zero, get_or}
use Rattle.std.specs.Prelude.{◌==◌}
use Rattle.std.specs.List.{list_all}
use Rattle.std.specs.Str.{IsAscii, IsUtf8}
use Rattle.std.proofs.lemmas.Str.{IsUtf8-from_ascii}
use Rattle.std.proofs.lemmas.Bool.Decides.{nat_tests}
use Rattle.command_words.specs.Ascii.{is_label_byte, is_name_byte}

pub both : (a b : Bool) → (a && b) ≡ true → (a ≡ true) × (b ≡ true)
both true b h = (refl, h)
both false b h = absurd (cc)

small : (b : ℕ) → is_label_byte b ≡ true → b < 128
small b h = grind (arith, nat_tests)

name_is_label : (b : ℕ) → is_name_byte b ≡ true → is_label_byte b ≡ true
name_is_label b h = ap (λ a. a || b == 46) h

pub names_are_labels : (bs : List ℕ) → list_all is_name_byte bs ≡ true → list_all is_label_byte bs ≡ true
names_are_labels [] h = refl
names_are_labels (b ∷ bs) h =
    let parts = both (is_name_byte b) (list_all is_name_byte bs) h in
    ap₂ (λ x y. x && y) (name_is_label b parts.0) (names_are_labels bs parts.1)

small_at : (bs : List ℕ) (i : ℕ) → list_all is_label_byte bs ≡ true → get_or bs i 0 < 128
small_at [] i h = omega arith
small_at (b ∷ bs) zero h = small b (both (is_label_byte b) (list_all is_label_byte bs) h).0
small_at (b ∷ bs) (suc i) h = small_at bs i (both (is_label_byte b) (list_all is_label_byte bs) h).1

pub ascii : (bs : List ℕ) → list_all is_label_byte bs ≡ true → IsAscii bs
ascii bs h = λ i. small_at bs i h

pub labels_are_text : (bs : List ℕ) → list_all is_label_byte bs ≡ true → IsUtf8 bs
labels_are_text bs h = IsUtf8-from_ascii bs (ascii bs h)
