-- What a word of a line is.
use Rattle.std.specs.Prelude.{ℕ, List}

-- A word of a line: the byte of the line at which it begins, and its bytes. Contracts see a `Word` as this.
pub record Placed : Type 0 where
  pub place : ℕ
  pub bytes : List ℕ
