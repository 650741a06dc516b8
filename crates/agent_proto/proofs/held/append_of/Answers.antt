use Rattle.agent_proto.proofs.Contents.{append_spelt}
use Rattle.agent_proto.proofs.held.append_of.Goals as goal

pub returns : goal.returns
returns c =
    let took = rw (c.of-fields.ensures, c.split_at.ensures.back) at c.in-Some.ensures in
    rw c.from_vec-bytes.ensures (append_spelt c.args.front.now c.args.content.items c.in-Some.who _ c.requires.front c.requires.spelled took)
