-- A line as a list of words, each with its place.
use Rattle.std.specs.Prelude.{ℕ, ◌+◌, ◌<◌, ◌==◌, Bool, true, false, cond, List, [], ◌∷◌, length, Option, ◌≡◌, map, Some}
use Rattle.std.specs.List.{slice_split}
use Rattle.line_words.specs.Spelling.{space, word_of}
use Rattle.line_words.specs.declared.reading.Reading.{Reading}
use Rattle.line_words.specs.declared.reading.Reading.TheVariants.{Free, Canonical}

-- What stands in a line between spaces: the byte of the line at which it begins, and the word that it spells, or none where it
-- isn't spelt as a word.
pub record Item : Type 0 where
  pub place : ℕ
  pub word : Option (List ℕ)

-- read freely, a space more between words changes nothing; canonically nothing stands between two spaces, and that is no word
abbrev pub is_skipped : Reading → List ℕ → Bool
is_skipped Free [] = true
is_skipped Free (b ∷ bs) = false
is_skipped Canonical part = false

-- the items of the parts between the spaces, of which the first begins at this place
abbrev pub items_of : Reading → ℕ → List (List ℕ) → List Item
items_of reading at [] = []
items_of reading at (part ∷ parts) =
    cond (is_skipped reading part) (items_of reading (at + length part + 1) parts)
    (record { place = at; word = word_of reading part } ∷ items_of reading (at + length part + 1) parts)

-- the parts of some bytes between their spaces
abbrev pub parts_of : List ℕ → List (List ℕ)
parts_of bytes = slice_split (λ b. b == space) bytes

-- the items of bytes that begin at this place of a line
abbrev pub items_at : Reading → ℕ → List ℕ → List Item
items_at reading at bytes = items_of reading at (parts_of bytes)

-- The items of a line. The empty line has none.
abbrev pub line_items : Reading → List ℕ → List Item
line_items reading [] = []
line_items reading (b ∷ bs) = items_at reading 0 (b ∷ bs)

-- each item is spelt as a word, and these are the words
abbrev pub HasWords : List Item → List (List ℕ) → Type 0
HasWords items words = map (λ i. i.word) items ≡ map Some words

-- each of these numbers is a byte
abbrev pub AreBytes : List ℕ → Type 0
AreBytes [] = Unit {0}
AreBytes (b ∷ bs) = (b < 256) × AreBytes bs

-- each of these is a word: it has at least one byte
abbrev pub AreWords : List (List ℕ) → Type 0
AreWords [] = Unit {0}
AreWords (word ∷ words) = (0 < length word) × AreBytes word × AreWords words
