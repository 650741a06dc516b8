use Rattle.std.proofs.Common.{ap, ◌∙◌, arith}
use Rattle.std.proofs.lemmas.Result.{IfOk-weaker}
use Rattle.hex.specs.Hex.{IsBytes}
use Rattle.entry_tree.specs.Digest.{is_digest_text}
use Rattle.entry_tree.proofs.Digests.{digest_is_read}
use Rattle.entry_tree.proofs.digest.digits_of.Goals as goal

pub returns-clause-read : goal.returns-clause-read
returns-clause-read c =
    let bytes : IsBytes c.args.bytes.now = λ i. let fits = c.type_inv.bytes i in omega arith in
    IfOk-weaker c.encode.result _ _ (λ text is. ap is_digest_text is ∙ digest_is_read c.args.bytes.now c.requires bytes) c.encode.ensures
