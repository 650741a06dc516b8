use Rattle.std.proofs.Common.{◌≡◌, Ok, rules}
use Rattle.hex.specs.Hex.{decode_sized}
use Rattle.entry_tree.specs.Digest.{IsDigest}
use Rattle.entry_tree.proofs.Atoms.{are_bytes}
use Rattle.entry_tree.proofs.Digests.{sized_are_bytes}
use Rattle.entry_tree.proofs.digest.Digest.read.Goals as goal

pub returns-then-eq-clause-digest : goal.returns-then-eq-clause-digest
returns-then-eq-clause-digest c =
    let e : decode_sized c.args.digits.now 32 ≡ Ok c.in-Ok.bytes = search rules in
    let len : IsDigest c.in-Ok.bytes = search rules in
    (len, are_bytes c.in-Ok.bytes (sized_are_bytes c.args.digits.now 32 c.in-Ok.bytes e))
