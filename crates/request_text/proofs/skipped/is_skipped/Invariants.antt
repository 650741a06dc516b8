use Rattle.std.proofs.Common.{◌≡◌, drop}
use Rattle.request_text.specs.Skipped.{is_skipped}
use Rattle.request_text.proofs.skipped.is_skipped.Given as goal

abbrev pub invariant-loop-byte : goal.invariant-loop-byte
invariant-loop-byte l = is_skipped l.line ≡ is_skipped (drop l.byte-index l.line)
