-- The lines of an input. `lines` of `Rattle.std.specs.Str.Lines` gives them: a line ends at the byte 10, one 13 before
-- that is dropped, a last line needs no 10, and behind a last 10 there is no further line.
use Rattle.std.specs.Prelude.{◌≡◌, ◌≢◌, ℕ, ◌<◌, ◌≤◌, List, [], ◌∷◌, ◌++◌, ◌⊎◌, Option, length, All}
use Rattle.std.specs.Io.KnownBytes.{Consumes}
use Rattle.std.specs.Str.Lines.{lines}
use Rattle.outside_io.specs.declared.line.Line.{Line}
use Rattle.outside_io.specs.declared.line.Line.TheVariants.{Full, TooLong}
use Rattle.outside_io.specs.declared.limits.TheConstants.{MOST_LINE_BYTES}

-- no line ends within these bytes
abbrev pub HasNoNewline : List ℕ → Type 0
HasNoNewline bytes = All (λ b. b ≢ 10) bytes

-- these bytes end with the end of a line
abbrev pub EndsWithNewline : List ℕ → Type 0
EndsWithNewline bytes = (front : List ℕ) × (bytes ≡ front ++ 10 ∷ [])

-- no bytes, or bytes of which the last one ends a line
abbrev pub IsWholeLines : List ℕ → Type 0
IsWholeLines bytes = (bytes ≡ []) ⊎ EndsWithNewline bytes

-- what is answered for a line of these bytes: all of them, or only that there are more than 65,536
abbrev pub IsLine : List ℕ → Line → Type 0
IsLine bytes (Full v) = (v.items ≡ bytes) × (length bytes ≤ MOST_LINE_BYTES)
IsLine bytes TooLong = MOST_LINE_BYTES < length bytes

-- From the bytes old their first line was taken, and new is what stands behind it. Met says that the end of the input
-- was met.
pub record TakesFirst (Met : Type 0) (old new : List ℕ) (line : Line) : Type 0 where
  -- the bytes of the first line, of which the others are left
  pub bytes : List ℕ
  pub first : lines old ≡ bytes ∷ lines new
  pub answered : IsLine bytes line
  -- what was taken ends with the end of the line, or with the input, whose end was met
  pub taken : List ℕ
  pub cut : old ≡ taken ++ new
  pub ended : EndsWithNewline taken ⊎ ((new ≡ []) × Met)

-- What was taken since, of the bytes that were to be read, holds no end of a line.
abbrev pub TakesNoLine : Option (List ℕ) → Option (List ℕ) → Type 0
TakesNoLine rest left = (part : List ℕ) × HasNoNewline part × Consumes rest left part
