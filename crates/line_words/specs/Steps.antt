-- What the steps of a reader find.
use Rattle.std.specs.Prelude.{◌≡◌, ℕ, ◌+◌, ◌-◌, ◌<◌, ◌≤◌, List, [], ◌∷◌, length, drop, take, suc, Option, Some, None, Result, Ok, Err}
use Rattle.std.specs.Global.{Vec}
use denote.Ref.{Bor}
use Rattle.line_words.specs.Lines.{Item, items_at, parts_of}
use Rattle.line_words.specs.Placed.{Placed}
use Rattle.line_words.specs.Spelling.{onto, unescaped, word_of}
use Rattle.line_words.specs.declared.error.WordError.{WordError}
use Rattle.line_words.specs.declared.error.WordError.TheVariants.{Bad, Memory}
use Rattle.line_words.specs.declared.error.BadWord.{BadWord}
use Rattle.line_words.specs.declared.filled.Filled.{Filled}
use Rattle.line_words.specs.declared.part.Part.{Part}
use Rattle.line_words.specs.declared.reading.Reading.{Reading}
use Rattle.line_words.specs.declared.word.Held.{Held}
use Rattle.line_words.specs.declared.word.Held.TheVariants.{Lent, Made}

-- What `next` answers of the items that are left, and which are left then.
abbrev pub Reads : List Item → Result (Option Placed) WordError → List Item → Type 0
Reads items (Ok None) left = (items ≡ []) × (left ≡ [])
Reads items (Ok (Some word)) left = items ≡ record { place = word.place; word = Some word.bytes } ∷ left
Reads items (Err (Bad bad)) left = items ≡ record { place = bad.place; word = None } ∷ left
Reads items (Err Memory) left = (item : Item) × (items ≡ item ∷ left)

-- the bytes that a word keeps
abbrev pub bytes_of : Held → List ℕ
bytes_of (Lent bytes) = bytes.now
bytes_of (Made bytes) = bytes.items

-- the word that was read of a part
abbrev pub ReadsPart : Reading → List ℕ → Option Held → Type 0
ReadsPart reading part None = word_of reading part ≡ None
ReadsPart reading part (Some held) = word_of reading part ≡ Some (bytes_of held)

abbrev pub Unescapes : Reading → List ℕ → Option (Vec ℕ) → Type 0
Unescapes reading part None = unescaped reading part ≡ None
Unescapes reading part (Some bytes) = unescaped reading part ≡ Some bytes.items

-- a buffer of `most` bytes is too short for the word, if there is one
abbrev pub IsTooLong : ℕ → Option (List ℕ) → Type 0
IsTooLong most None = Unit {0}
IsTooLong most (Some word) = most < length word

-- the word stands at the beginning of the buffer and has this length, or there is none, or it's too long for the buffer
abbrev pub Fits : Option (List ℕ) → List ℕ → Option ℕ → Type 0
Fits word room None = IsTooLong (length room) word
Fits word room (Some len) = (len ≤ length room) × (word ≡ Some (take len room))

-- What `read_into` answers of the items that are left, with what stands in the buffer then, and which items are left.
abbrev pub ReadsInto : List Item → List ℕ → Result (Option Filled) BadWord → List Item → Type 0
ReadsInto items room (Ok None) left = (items ≡ []) × (left ≡ [])
ReadsInto items room (Ok (Some filled)) left = (filled.len ≤ length room) × (items ≡ record { place = filled.place; word = Some (take filled.len room) } ∷ left)
ReadsInto items room (Err bad) left = (word : Option (List ℕ)) × IsTooLong (length room) word × (items ≡ record { place = bad.place; word = word } ∷ left)

-- What `skip` answers of the items that are left, and which are left then.
abbrev pub Skips : List Item → Option ℕ → List Item → Type 0
Skips items None left = (items ≡ []) × (left ≡ [])
Skips items (Some place) left = (word : Option (List ℕ)) × (items ≡ record { place = place; word = word } ∷ left)

-- the first byte that a spelling stands for, and the spelling of the others
abbrev pub TakesByte : Reading → List ℕ → Option (ℕ × Bor (List ℕ)) → Type 0
TakesByte reading spelling None = unescaped reading spelling ≡ None
TakesByte reading spelling (Some taken) = (unescaped reading spelling ≡ onto (Some taken.0) (unescaped reading taken.1.now)) × (length taken.1.now < length spelling)

-- the items that are left of a line where the next part begins at this byte, if there is one
abbrev pub left_of : Reading → List ℕ → Option ℕ → List Item
left_of reading line None = []
left_of reading line (Some at) = items_at reading at (drop at line)

-- the next part begins within the line, or at its end
abbrev pub IsWithin : List ℕ → Option ℕ → Type 0
IsWithin line None = Unit {0}
IsWithin line (Some at) = at ≤ length line

-- how many bytes more there are at most
abbrev pub room_of : List ℕ → Option ℕ → ℕ
room_of line None = 0
room_of line (Some at) = suc (length line - at)

-- the parts from the next one on
abbrev pub parts_from : List ℕ → Option ℕ → List (List ℕ)
parts_from line None = []
parts_from line (Some at) = parts_of (drop at line)

-- the next part begins behind the space that ends this one
abbrev pub IsBehind : ℕ → List ℕ → Option ℕ → Type 0
IsBehind at bytes None = Unit {0}
IsBehind at bytes (Some next) = next ≡ at + length bytes + 1

-- the part of a line that begins at this byte
pub record Cuts (line : List ℕ) (at : ℕ) (bytes : List ℕ) (next : Option ℕ) : Type 0 where
  pub parts : parts_of (drop at line) ≡ bytes ∷ parts_from line next
  pub behind : IsBehind at bytes next
  pub within : IsWithin line next

-- this is the next part that isn't skipped
pub record IsNext (reading : Reading) (line : List ℕ) (from : Option ℕ) (part : Part) : Type 0 where
  pub items : left_of reading line from ≡ record { place = part.place; word = word_of reading part.bytes.now } ∷ left_of reading line part.next
  pub within : IsWithin line part.next
