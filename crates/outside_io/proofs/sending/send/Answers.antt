use Rattle.std.proofs.Common.{◌<◌, length, ap, arith, rules}
use Rattle.std.proofs.lemmas.List.{length-append}
use Rattle.outside_io.proofs.Sent.{OnErr-from, part_sent, more_sent}
use Rattle.outside_io.proofs.sending.send.Goals as goal

pub returns-in_err-count-clause-part : goal.returns-in_err-count-clause-part
returns-in_err-count-clause-part g c =
    let front = c.loop-rest.invariant.front in
    OnErr-from _ (part_sent _ _ _ front.0 _ _ front.1 front.2 (c.in_err-count.ensures.bytes) (search rules))

pub loop-rest-preserved : goal.loop-rest-preserved
loop-rest-preserved g c =
    let front = c.loop-rest.invariant.front in
    let some : 0 < length c.loop-rest.rest.now = search rules in
    record {
      front = more_sent _ _ _ front.0 _ _ c.in_ok-count.count front.1 front.2 c.in_ok-count.ensures.bytes;
      counts = omega arith;
      untouched = λ e. absurd (omega (arith, length-append front.0 c.loop-rest.rest.now, ap length front.1, ap length e, some));
    }
