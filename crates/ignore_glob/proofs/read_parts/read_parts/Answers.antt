use Rattle.std.proofs.Common.{◌-◌, length, rules, arith}
use Rattle.ignore_glob.proofs.Parts.{first_text, first_within, one_too_many, next_is_wrong, next_is_part, last_is_part}
use Rattle.ignore_glob.proofs.read_parts.read_parts.Goals as goal

pub returns-then-len-eq-MAX_PARTS : goal.returns-then-len-eq-MAX_PARTS
returns-then-len-eq-MAX_PARTS c =
    let so = c.loop-first.invariant.1 in
    let at = first_text c.loop-first.left.now c.cut_first.result.0.now c.cut_first.result.1 c.cut_first.ensures in (
      one_too_many c.args.text.now c.loop-first.left.now c.loop-first.parts.items c.cut_first.result.0.now at.0 (length c.args.text.now - length c.loop-first.left.now) so at.1
          (omega arith) (omega (arith, so.bytes)),
      omega arith,
    )

pub returns-in-Err-At : goal.returns-in-Err-At
returns-in-Err-At c =
    let so = c.loop-first.invariant.1 in
    let at = first_text c.loop-first.left.now c.cut_first.result.0.now c.cut_first.result.1 c.cut_first.ensures in
    let wrong = rw c.in-Err-At.field-0-is at c.in-Err-At.ensures in
    rw c.in-Err-At.field-0-is (
      next_is_wrong c.args.text.now c.loop-first.left.now c.loop-first.parts.items c.cut_first.result.0.now at.0 (length c.args.text.now - length c.loop-first.left.now) c.in-Err-At.offset so at.1
          (omega (arith, so.few)) (omega (arith, so.bytes)) wrong.0,
      omega (arith, so.bytes, wrong.1, first_within c.loop-first.left.now c.cut_first.result.0.now c.cut_first.result.1 c.cut_first.ensures),
    )

pub loop-first-preserved : goal.loop-first-preserved
loop-first-preserved c =
    let so = c.loop-first.invariant.1 in
    let cuts = rw c.in-Some.is at c.cut_first.ensures in
    (search rules, rw c.in_ok-push-in-Ok.ensures.items (next_is_part c.args.text.now c.loop-first.left.now c.loop-first.parts.items c.cut_first.result.0.now c.in-Some.behind.now c.in-Ok.part so cuts.0 cuts.1 (omega (arith, so.few)) c.in-Ok.ensures))

pub returns-in-None : goal.returns-in-None
returns-in-None c =
    let so = c.loop-first.invariant.1 in
    let cuts = rw c.in-None.is at c.cut_first.ensures in
    rw c.in_ok-push-in-Ok.ensures.items (last_is_part c.args.text.now c.loop-first.left.now c.loop-first.parts.items c.cut_first.result.0.now c.in-Ok.part so cuts.0 (omega (arith, so.few)) c.in-Ok.ensures)
