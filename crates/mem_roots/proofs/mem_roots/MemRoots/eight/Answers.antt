use Rattle.std.proofs.Common.{◌≡◌, ℕ, ◌≤◌, [], ◌∷◌, ◌++◌, length, replicate, ap, sym, subst, ◌∙◌, arith}
use Rattle.std.proofs.lemmas.List.{length-replicate, replicate-append-replicate}
use Rattle.mem_roots.specs.MemRoot.{new_mem}
use Rattle.mem_roots.specs.Named.{AreLegalLogs}
use Rattle.mem_roots.specs.declared.mem_roots.TheConstants.{ROOTS}
use Rattle.mem_roots.proofs.Naming.{legal_new}
use Rattle.mem_roots.proofs.mem_roots.MemRoots.eight.Goals as goal

pub loop-made-preserved : goal.loop-made-preserved
loop-made-preserved c =
    let before : c.loop-made.roots.items ≡ replicate c.loop-made._made new_mem = c.loop-made.invariant in
    c.in_ok-push.ensures.items ∙ (λ i. before i ++ c.in_ok-root.ensures i ∷ []) ∙ replicate-append-replicate c.loop-made._made 1 new_mem

all : (c : goal.After-loop-made) → c.loop-made.roots.items ≡ replicate ROOTS new_mem
all c =
    let made : c.loop-made.roots.items ≡ replicate c.loop-made._made new_mem = c.loop-made.invariant in
    let least : ROOTS ≤ c.loop-made._made = c.loop-made-test.false in
    let most : c.loop-made._made ≤ ROOTS = c.loop-made.auto._made-end in
    let end : c.loop-made._made ≡ ROOTS = omega arith in
    made ∙ ap (λ (n : ℕ). replicate n new_mem) end

pub invariant_of-result : goal.invariant_of-result
invariant_of-result c = (ap length (all c) ∙ length-replicate ROOTS new_mem, subst AreLegalLogs (sym (all c)) (legal_new ROOTS))

pub returns : goal.returns
returns c = all c
