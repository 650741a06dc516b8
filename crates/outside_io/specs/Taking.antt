-- How a reader of lines takes bytes from its source.
use Rattle.std.specs.Prelude.{◌≡◌, ℕ, ◌+◌, List, [], ◌∷◌, ◌++◌, ◌⊎◌, Option, length}
use Rattle.std.specs.Io.KnownBytes.{Consumes, IsAtEnd, prepend_known}
use Rattle.outside_io.specs.Lines.{HasNoNewline}
use Rattle.finite_maps.specs.Told.{WhereTold}

-- what a read buffer is seen as: the bytes that it holds, and for how many it has room
pub record Buffered : Type 0 where
  pub held : List ℕ
  pub room : ℕ

-- what a reader's intake is seen as: the line in hand, the bytes behind it that the buffer holds, the buffer's room, and
-- how many bytes were taken from the source in all
pub record Taking : Type 0 where
  pub line : List ℕ
  pub held : List ℕ
  pub room : ℕ
  pub taken : ℕ

-- all that is held, and then what the source has left
abbrev pub rest_of_taking : Taking → Option (List ℕ) → Option (List ℕ)
rest_of_taking taking left = prepend_known (taking.line ++ taking.held) left

-- The source's told bytes lost as many as were counted.
abbrev pub CountsTaken : Option (List ℕ) → ℕ → Option (List ℕ) → ℕ → Type 0
CountsTaken left taken left' taken' = WhereTold left left' (λ old new. length old + taken ≡ length new + taken')

-- The source's bytes were passed over up to a newline and through it, or up to the end, which was met. What the buffer
-- holds behind the newline is left.
abbrev pub SkipsLine : Type 0 → Option (List ℕ) → List ℕ → Option (List ℕ) → Type 0
SkipsLine Met left held left' =
    (front : List ℕ) × HasNoNewline front
    × (Consumes left (prepend_known held left') (front ++ 10 ∷ []) ⊎ (Consumes left left' front × IsAtEnd left' × (held ≡ []) × Met))
