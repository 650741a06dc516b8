-- What draws give: the words of dice, the moments of ticks.
use Rattle.std.specs.Prelude.{◌≡◌, ℕ, ◌+◌, ◌%◌, ◌^◌, List, Option, Some, None, Result, Ok, Err, slice_get}
use Rattle.std.specs.Int.{to_be_bytes}
use Rattle.outside_io.specs.Calls.{Calls}
use Rattle.outside_io.specs.declared.source.Failed.{Failed}
use mir.Syntax.{w128}

-- What draws from now on give, by their number: the next one has number 0. Where the draws end, there is none from some number on.
abbrev pub Left : Type 0 → Type 0
Left A = ℕ → Option A

-- after one draw the second is the next one
abbrev pub IsBehind : {A : Type 0} → Left A → Left A → Type 0
IsBehind left old = (n : ℕ) → left n ≡ old (n + 1)

abbrev pub IsSame : {A : Type 0} → Left A → Left A → Type 0
IsSame left old = (n : ℕ) → left n ≡ old n

-- Where it is told what is left, a draw gives the next of it and takes it off. A draw that failed leaves it. Nothing is said of an object that
-- doesn't tell.
abbrev pub Draws : {A : Type 0} → Option (Left A) → Option (Left A) → Result A Failed → Type 0
Draws None new result = Unit {0}
Draws (Some old) None result = ⊥
Draws (Some old) (Some new) (Ok drawn) = (old 0 ≡ Some drawn) × IsBehind new old
Draws (Some old) (Some new) (Err failed) = IsSame new old

-- What dice or ticks in memory are seen as: what they still give, in order, the calls that are to fail, and how many faults there were.
pub record MemWords : Type 0 where
  pub words : List (List ℕ)
  pub calls : Calls
  pub faults : ℕ

pub record MemMoments : Type 0 where
  pub moments : List ℕ
  pub calls : Calls
  pub faults : ℕ

-- a list gives its elements in order
abbrev pub listed : {A : Type 0} → List A → Left A
listed xs n = slice_get xs n

-- the numbers from this one on, each as sixteen big-endian bytes; behind the greatest, 2^128 - 1, they begin again with 0
abbrev pub counted_words : ℕ → Left (List ℕ)
counted_words next n = Some (to_be_bytes w128 ((next + n) % 2 ^ 128))
