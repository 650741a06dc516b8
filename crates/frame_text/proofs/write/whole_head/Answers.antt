use Rattle.std.proofs.lemmas.Result.{IfOk-weaker}
use Rattle.std.proofs.Common.{string_bytes, arith}
use Rattle.frame_text.proofs.Written.{whole_written}
use Rattle.frame_text.proofs.write.whole_head.Goals as goal

pub returns : goal.returns
returns c = IfOk-weaker c.format.result _ _ (λ text e. whole_written c.args.run c.args.cycle c.args.served (omega (arith, c.ranges.run.fits)) (omega (arith, c.ranges.cycle.fits)) (omega (arith, c.ranges.served.fits)) (string_bytes text) e) c.format.ensures.ok
