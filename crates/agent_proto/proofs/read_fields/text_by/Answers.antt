use Rattle.std.proofs.Common.{sym}
use Rattle.agent_proto.proofs.Texts.{no_text_but_utf8}
use Rattle.agent_proto.proofs.read_fields.text_by.Goals as goal

pub returns-in-Err : goal.returns-in-Err
returns-in-Err c = sym (no_text_but_utf8 c.args.text.now c.in-Err.ensures.cases.0)
