use Rattle.std.proofs.Common.{◌+◌, ◌++◌, length, refl, arith}
use Rattle.agent_proto.specs.Held.{held_bytes}
use Rattle.agent_proto.proofs.Splitting.{stream_fault_of}
use Rattle.agent_proto.proofs.Batches.{follows_short, none_splits}
use Rattle.agent_proto.proofs.reader.take_in.Goals as goal

pub overflow_add-result : goal.overflow_add-result
overflow_add-result c =
    let short = follows_short (held_bytes c.args.held.now) c.args.place c.requires.place in
    let found = rw c.in-Bad.is at c.walk.ensures (held_bytes c.args.held.now) c.requires.place in
    omega (arith, short, c.count.ensures, found.0)

pub returns-in-Bad-clause-ok : goal.returns-in-Bad-clause-ok
returns-in-Bad-clause-ok c =
    let found = rw c.in-Bad.is at c.walk.ensures (held_bytes c.args.held.now) c.requires.place in
    rw c.count.ensures (stream_fault_of (held_bytes c.args.held.now ++ c.args.piece.now) (length (held_bytes c.args.held.now) + c.in-Bad.at) found.1, refl)

pub returns-in_ok-append-in-On-clause-ok : goal.returns-in_ok-append-in-On-clause-ok
returns-in_ok-append-in-On-clause-ok c =
    let f = rw c.in-On.is at c.walk.ensures (held_bytes c.args.held.now) c.requires.place in
    none_splits (held_bytes c.args.held.now ++ c.args.piece.now) (held_bytes c.append.new.held) c.new.result.items c.in-On.place f c.in_ok-append-in-On.ensures.ok c.new.ensures.items

pub count-requires : goal.count-requires
count-requires c =
    let short = follows_short (held_bytes c.args.held.now) c.args.place c.requires.place in
    omega (arith, short)
