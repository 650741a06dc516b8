-- A value that is the word which spells it.
use Rattle.std.specs.Prelude.{ℕ, Bool, cond, List, Option, Some, None}

-- the word itself, if it passes the test
abbrev pub kept : (List ℕ → Bool) → List ℕ → Option (List ℕ)
kept test word = cond (test word) (Some word) None
