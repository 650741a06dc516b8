use Rattle.std.proofs.Common.{◌≤◌, refl, arith}
use Rattle.line_words.proofs.number.read_u32.Goals as goal

pub overflow_cast-result : goal.overflow_cast-result
overflow_cast-result c =
    let most : c.in_ok-n.n ≤ c.args.most = ((c.in_ok-n.ensures c.in_ok-n.n).0 refl).0 in
    omega arith
