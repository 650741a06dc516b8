use Rattle.std.proofs.Common.{◌≡◌, length}
use Rattle.frame_text.specs.Payloads.{is_whole}
use Rattle.frame_text.proofs.payload.is_whole.Given as goal

abbrev pub invariant-loop-rest : goal.invariant-loop-rest
invariant-loop-rest l = is_whole l.fn.lines ≡ is_whole l.rest

abbrev pub decreases-loop-rest : goal.decreases-loop-rest
decreases-loop-rest l = length l.rest
