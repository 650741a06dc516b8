-- How a path stands in a line.
use Rattle.std.specs.Prelude.{ℕ, List, [], ◌∷◌, codes}
use Rattle.sync_path.specs.Path.{path_text}

-- the word of a path: its text, and `.` for the root
abbrev pub path_word : List (List ℕ) → List ℕ
path_word [] = codes "."
path_word (name ∷ names) = path_text (name ∷ names)
