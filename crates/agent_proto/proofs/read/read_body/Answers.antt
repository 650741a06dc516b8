use Rattle.std.proofs.Common.{◌≡◌, ℕ, ◌<◌, ◌≤◌, length, get_or, arith}
use Rattle.std.proofs.lemmas.Result.{IfOk-weaker}
use Rattle.agent_proto.specs.Bodies.{ReadsBody}
use Rattle.agent_proto.specs.Reading.{message_in, whole}
use Rattle.agent_proto.specs.declared.limits.TheConstants.{MAX_MESSAGE}
use Rattle.agent_proto.proofs.Codecs.{AreBytes-from}
use Rattle.agent_proto.proofs.MessageLaws.{reads_body}
use Rattle.agent_proto.proofs.read.read_body.Goals as goal

pub returns : goal.returns
returns c =
    let bytes = c.args.bytes.now in
    let each : (i : ℕ) → get_or bytes i 0 < 256 = λ i. let fits = c.type_inv.bytes i in omega arith in
    let short : length bytes ≤ MAX_MESSAGE = omega arith in
    IfOk-weaker c.read_whole.result (λ found. found ≡ whole (message_in bytes)) (ReadsBody bytes) (λ found same. reads_body bytes found (AreBytes-from bytes each) short same) c.read_whole.ensures
