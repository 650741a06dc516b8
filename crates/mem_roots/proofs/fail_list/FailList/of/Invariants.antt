use Rattle.std.proofs.Common.{◌≡◌, ℕ, take}
use Rattle.std.specs.Prelude.{◌==◌}
use Rattle.std.specs.List.{list_any}
use Rattle.mem_roots.proofs.fail_list.FailList.of.Given as goal

abbrev pub invariant-loop-call : goal.invariant-loop-call
invariant-loop-call l = (n : ℕ) → list_any (λ m. n == m) l.numbers.keys ≡ list_any (λ m. n == m) (take l.call-index l.calls)
