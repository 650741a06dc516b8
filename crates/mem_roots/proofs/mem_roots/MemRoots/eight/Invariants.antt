use Rattle.std.proofs.Common.{◌≡◌, replicate}
use Rattle.mem_roots.specs.MemRoot.{new_mem}
use Rattle.mem_roots.proofs.mem_roots.MemRoots.eight.Given as goal

abbrev pub invariant-loop-made : goal.invariant-loop-made
invariant-loop-made l = l.roots.items ≡ replicate l._made new_mem
