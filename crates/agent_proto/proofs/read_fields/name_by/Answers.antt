use Rattle.std.proofs.Common.{sym}
use Rattle.agent_proto.proofs.Texts.{no_name_but_utf8}
use Rattle.agent_proto.proofs.read_fields.name_by.Goals as goal

pub returns-in-Err : goal.returns-in-Err
returns-in-Err c = sym (no_name_but_utf8 c.args.text.now c.in-Err.ensures.cases.0)
