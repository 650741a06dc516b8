use Rattle.agent_proto.proofs.Running.{held_short}
use Rattle.agent_proto.proofs.reader.MessageReader.feed.Goals as goal

pub returns-in-Read-clause-held_back : goal.returns-in-Read-clause-held_back
returns-in-Read-clause-held_back c =
    let found = rw c.in-Read.is at c.in_ok-offset.ensures.ok in
    λ _. held_short _ found.0.partial
