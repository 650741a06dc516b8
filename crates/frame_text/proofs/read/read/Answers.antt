use Rattle.frame_text.proofs.Bodies.{head_bad, whole_read}
use Rattle.frame_text.proofs.read.read.Goals as goal

pub returns-in-Ok-Some : goal.returns-in-Ok-Some
returns-in-Ok-Some c =
    let told = rw c.in-Ok-Some.field-0-is at c.in-Ok-Some.ensures in
    whole_read c.args.bytes.now _ _ c.in-Ok-Some.head c.read_body.result c.cut-next.ensures told c.read_body.ensures

pub returns-in-Ok-None : goal.returns-in-Ok-None
returns-in-Ok-None c =
    let told = rw c.in-Ok-None.field-0-is at c.in-Ok-None.ensures in
    head_bad c.args.bytes.now _ _ c.cut-next.ensures told
