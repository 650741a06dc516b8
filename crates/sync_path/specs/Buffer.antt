-- How a path is kept: its names in one buffer, behind each the byte 0x00, which no name has.
use Rattle.std.specs.Prelude.{◌≡◌, ℕ, ◌==◌, cond, List, [], ◌∷◌, ◌++◌}
use Rattle.std.specs.List.{onto_first}
use Rattle.sync_path.specs.Path.{IsPath}

-- the buffer of a list of names
abbrev pub buffer_of : List (List ℕ) → List ℕ
buffer_of [] = []
buffer_of (name ∷ names) = name ++ 0 ∷ buffer_of names

-- the names in a buffer: what stands before each byte 0x00, and behind the last one if that isn't the end
abbrev pub names_in : List ℕ → List (List ℕ)
names_in [] = []
names_in (b ∷ bs) = cond (b == 0) ([] ∷ names_in bs) (onto_first b (names_in bs))

-- A buffer is that of a path.
pub record KeepsPath (buffer : List ℕ) : Type 0 where
  pub whole : buffer_of (names_in buffer) ≡ buffer
  pub path : IsPath (names_in buffer)

-- The first name in a buffer, and the buffer of the others.
pub record SplitsFirst (buffer name rest : List ℕ) : Type 0 where
  pub all : names_in buffer ≡ name ∷ names_in rest
  pub whole : buffer_of (names_in rest) ≡ rest

-- A buffer is the first part, which is the buffer of all names but the last, then the last name and the byte 0x00.
pub record SplitsLast (buffer front name : List ℕ) : Type 0 where
  pub names : List (List ℕ)
  pub all : names_in buffer ≡ names ++ name ∷ []
  pub front_is : front ≡ buffer_of names
