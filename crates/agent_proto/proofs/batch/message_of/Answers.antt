use Rattle.std.proofs.Common.{None, Some, sym, subst}
use Rattle.agent_proto.specs.Batches.{IsSpelt}
use Rattle.agent_proto.proofs.Found.{some_is, none_found}
use Rattle.agent_proto.proofs.Batches.{has_length, reads_it}
use Rattle.agent_proto.proofs.batch.message_of.Goals as goal

pub split_at-requires : goal.split_at-requires
split_at-requires c = has_length c.args.bytes.now c.requires

pub unreachable-requires : goal.unreachable-requires
unreachable-requires c =
    let reads = rw (c.split_at.ensures.back, c.in-None.is) at c.in_ok-message.ensures in
    let found = reads_it c.args.bytes.now None c.requires reads in
    none_found found.0 found.1

pub returns : goal.returns
returns c =
    let reads = rw (c.split_at.ensures.back, c.in-Some.is) at c.in_ok-message.ensures in
    let found = reads_it c.args.bytes.now (Some c.in-Some.message) c.requires reads in
    subst (IsSpelt c.args.bytes.now) (sym (some_is c.in-Some.message found.0 found.1)) found.2
