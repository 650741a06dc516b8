use Rattle.std.proofs.Common.{arith}
use Rattle.hex.specs.Hex.{IsBytes}
use Rattle.entry_tree.proofs.Atoms.{are_bytes}
use Rattle.request_laws.proofs.kept.are_bytes.Goals as goal

pub returns : goal.returns
returns c =
    let bytes : IsBytes c.args.bytes.now = λ i. let fits = c.type_inv.bytes i in omega arith in
    are_bytes c.args.bytes.now bytes
