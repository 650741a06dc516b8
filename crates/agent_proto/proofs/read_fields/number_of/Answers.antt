use Rattle.std.proofs.Common.{◌+◌, ◌*◌, ◌<◌, ◌^◌, get_or, arith}
use Rattle.agent_proto.proofs.Numbers.{reads_on, reads_fits}
use Rattle.agent_proto.proofs.read_fields.number_of.Goals as goal

pub overflow_mul-number : goal.overflow_mul-number
overflow_mul-number c =
    let digits = c.args.digits.now in
    let i = c.loop-digit.digit-index in
    let fits = c.type_inv.digits i in
    let byte : get_or digits i 0 < 256 = omega arith in
    let step = reads_on digits i c.loop-digit.number c.loop-digit.invariant (omega arith) byte in
    let most : c.loop-digit.number * 256 + get_or digits i 0 < 2 ^ 128 = reads_fits digits (i + 1) (c.loop-digit.number * 256 + get_or digits i 0) step (omega (arith, c.requires)) in
    omega (arith, most)

pub overflow_add-number : goal.overflow_add-number
overflow_add-number c =
    let digits = c.args.digits.now in
    let i = c.loop-digit.digit-index in
    let fits = c.type_inv.digits i in
    let byte : get_or digits i 0 < 256 = omega arith in
    let step = reads_on digits i c.loop-digit.number c.loop-digit.invariant (omega arith) byte in
    let most : c.loop-digit.number * 256 + get_or digits i 0 < 2 ^ 128 = reads_fits digits (i + 1) (c.loop-digit.number * 256 + get_or digits i 0) step (omega (arith, c.requires)) in
    omega (arith, most)

pub loop-digit-preserved : goal.loop-digit-preserved
loop-digit-preserved c =
    let digits = c.args.digits.now in
    let i = c.loop-digit.digit-index in
    let fits = c.type_inv.digits i in
    let byte : get_or digits i 0 < 256 = omega arith in
    reads_on digits i c.loop-digit.number c.loop-digit.invariant (omega arith) byte
