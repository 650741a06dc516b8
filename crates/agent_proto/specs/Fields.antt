-- The fields of a message as bytes. Numbers stand high byte first.
use Rattle.std.specs.Prelude.{ℕ, Bool, true, false, List, [], ◌∷◌, ◌++◌, length, Option, Some, None}
use Rattle.std.specs.Int.{bytes_high_first}
use Rattle.std.specs.List.{flat_map}
use Rattle.sync_path.specs.Path.{path_text}
use Rattle.entry_tree.specs.declared.entry.Entry.{Entry}
use Rattle.entry_tree.specs.declared.entry.Entry.TheVariants.{Dir, File, Link, Other}
use Rattle.entry_tree.specs.declared.entry.Stamp.{Stamp}

-- a number in so many bytes
unfoldable pub number_field : ℕ → ℕ → List ℕ
number_field width n = bytes_high_first width n

-- a bit: 1 where it is set
abbrev pub bit_field : Bool → List ℕ
bit_field true = 1 ∷ []
bit_field false = 0 ∷ []

-- a name or text: its length in two bytes, and its bytes
abbrev pub text_field : List ℕ → List ℕ
text_field text = number_field 2 (length text) ++ text

-- a path: its text
abbrev pub path_field : List (List ℕ) → List ℕ
path_field path = text_field (path_text path)

-- bytes: their number in four bytes, and they themselves
abbrev pub bytes_field : List ℕ → List ℕ
bytes_field bytes = number_field 4 (length bytes) ++ bytes

-- a stamp: sixteen bytes
abbrev pub stamp_field : Stamp → List ℕ
stamp_field stamp = number_field 16 stamp.0

-- what stands at a path: 0 for nothing, 1 a folder, 2 a file with its stamp and bit, 3 a link with its text, 4 another thing
abbrev pub found_field : Option Entry → List ℕ
found_field None = 0 ∷ []
found_field (Some Dir) = 1 ∷ []
found_field (Some (File stamp exec)) = 2 ∷ (stamp_field stamp ++ bit_field exec)
found_field (Some (Link text)) = 3 ∷ text_field text
found_field (Some Other) = 4 ∷ []

-- a stamp that there may be: 0 for none, or 1 and the stamp
abbrev pub done_field : Option Stamp → List ℕ
done_field None = 0 ∷ []
done_field (Some stamp) = 1 ∷ stamp_field stamp

-- a row of a listing: a name and an entry
abbrev pub row_field : List ℕ × Entry → List ℕ
row_field row = text_field row.0 ++ found_field (Some row.1)

-- a listing: the number of its rows in four bytes, and the rows
abbrev pub rows_field : List (List ℕ × Entry) → List ℕ
rows_field rows = number_field 4 (length rows) ++ flat_map row_field rows
