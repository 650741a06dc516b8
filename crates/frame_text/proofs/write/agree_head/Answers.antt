use Rattle.std.proofs.lemmas.Result.{IfOk-weaker}
use Rattle.std.proofs.Common.{string_bytes, arith}
use Rattle.frame_text.proofs.Written.{agree_written}
use Rattle.frame_text.proofs.write.agree_head.Goals as goal

pub returns : goal.returns
returns c = IfOk-weaker c.format.result _ _ (λ text e. agree_written c.args.version c.args.run c.args.cycle (omega (arith, c.ranges.run.fits)) (omega (arith, c.ranges.cycle.fits)) c.word-version.result.now (string_bytes text) c.word-version.ensures e) c.format.ensures.ok
