use Rattle.std.proofs.lemmas.Result.{IfOk-weaker}
use Rattle.std.proofs.Common.{string_bytes, arith}
use Rattle.frame_text.proofs.Written.{reset_written}
use Rattle.frame_text.proofs.write.reset_head.Goals as goal

pub returns : goal.returns
returns c = IfOk-weaker c.format.result _ _ (λ text e. reset_written c.args.number (omega (arith, c.ranges.number.fits)) (string_bytes text) e) c.format.ensures.ok
