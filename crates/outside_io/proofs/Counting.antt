-- Numbers that begin again with 0 behind the greatest.
use Rattle.std.proofs.Common.{◌≡◌, ℕ, ◌+◌, ◌%◌, ◌^◌, ◌<◌, Some, ap, arith}
use Rattle.std.specs.Int.{to_be_bytes}
use Rattle.outside_io.specs.Draws.{counted_words, IsBehind}
use mir.Syntax.{w128}

pub count_first : (next : ℕ) → next < 2 ^ 128 → counted_words next 0 ≡ Some (to_be_bytes w128 next)
count_first next h = let e : (next + 0) % 2 ^ 128 ≡ next = omega arith in ap (λ n. Some (to_be_bytes w128 n)) e

pub count_behind : (next : ℕ) → IsBehind (counted_words ((next + 1) % 2 ^ 128)) (counted_words next)
count_behind next n =
    let e : ((next + 1) % 2 ^ 128 + n) % 2 ^ 128 ≡ (next + (n + 1)) % 2 ^ 128 = omega arith in ap (λ m. Some (to_be_bytes w128 m)) e
