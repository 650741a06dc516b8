use Rattle.std.proofs.Common.{◌≡◌, length}
use Rattle.mode_rules.specs.AncestorFold.{with_lines}
use Rattle.text_tests.proofs.ancestors.take_lines.Given as goal

abbrev pub invariant-loop-rest : goal.invariant-loop-rest
invariant-loop-rest l = with_lines l.fn.tree l.fn.lines ≡ with_lines l.tree l.rest

abbrev pub decreases-loop-rest : goal.decreases-loop-rest
decreases-loop-rest l = length l.rest
