-- Numbers in bytes, high byte first.
use Rattle.std.specs.Prelude.{◌≡◌, ℕ, ◌+◌, ◌*◌, ◌<◌, ◌≤◌, List, [], ◌∷◌, length, take}
use Rattle.std.specs.List.{AllByRecursion}
use Rattle.mux_frames.specs.declared.field.Field.{Field}
use Rattle.mux_frames.specs.declared.field.Field.TheVariants.{Whole, Short, Bad}
use Rattle.mux_frames.specs.Prefix.{Continues, IsFault}

-- a number, and then these bytes below it
abbrev pub value_from : ℕ → List ℕ → ℕ
value_from high [] = high
value_from high (b ∷ bytes) = value_from (high * 256 + b) bytes

-- the number that the bytes are
abbrev pub value : List ℕ → ℕ
value bytes = value_from 0 bytes

abbrev pub AreBytes : List ℕ → Type 0
AreBytes bytes = AllByRecursion (λ b. b < 256) bytes

-- the bytes are a number of so many bytes, from low to high
pub record IsNumber (width low high : ℕ) (bytes : List ℕ) : Type 0 where
  pub width_is : length bytes ≡ width
  pub each : AreBytes bytes
  pub from_low : low ≤ value bytes
  pub to_high : value bytes ≤ high

-- what is read where such a number is to stand
abbrev pub ReadsNumber : ℕ → ℕ → ℕ → List ℕ → Field → Type 0
ReadsNumber width low high bytes (Whole n) = (width ≤ length bytes) × IsNumber width low high (take width bytes) × (n ≡ value (take width bytes))
ReadsNumber width low high bytes Short = (length bytes < width) × Continues (IsNumber width low high) bytes
ReadsNumber width low high bytes (Bad place) = (place < width) × IsFault (IsNumber width low high) bytes place
