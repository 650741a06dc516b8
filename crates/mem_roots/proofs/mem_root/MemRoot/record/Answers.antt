use Rattle.std.proofs.Common.{ap}
use Rattle.mem_roots.proofs.Recording.{has_room, row_here, logged_of, popped_of}
use Rattle.mem_roots.specs.MemRoot.{MemState}
use Rattle.mem_roots.proofs.mem_root.MemRoot.record.Goals as goal

pub with-sizes-requires : goal.with-sizes-requires
with-sizes-requires c =
    let room = has_room c.args.self.now c.self.inside.log.items c.self.inside.state c.self.inside.sizes c.args.who.now c.args.op.now c.args.answer.now c.id_of-id.result c.placed_len-placed.result
    (ap (λ (m : MemState). m.log) c.self.view_is) c.self.invariant c.requires.answer c.requires.logged c.id_of-id.ensures c.placed_len-placed.ensures in
    record { log = room.log; bytes = room.bytes; asked = room.asked }

pub invariant_of-self-in-Ok : goal.invariant_of-self-in-Ok
invariant_of-self-in-Ok c =
    logged_of c.args.self.now c.self.inside.log.items c.self.inside.state c.self.inside.sizes c.args.who.now c.args.op.now c.args.answer.now c.id_of-id.result c.placed_len-placed.result
    (ap (λ (m : MemState). m.log) c.self.view_is) c.self.invariant c.requires.answer c.requires.logged c.id_of-id.ensures c.placed_len-placed.ensures
    c.requires.session c.can_be_asked.ensures c.in_ok-event.event c.push.new.self.items c.apply.new.self c.with-sizes.result c.in_ok-event.ensures c.in_ok-push.ensures.items c.in-Ok.ensures.ok c.with-sizes.ensures

pub invariant_of-self-in-Err : goal.invariant_of-self-in-Err
invariant_of-self-in-Err c =
    popped_of c.self.inside.log.items c.push.new.self.items c.drop_last.new.log.items c.in_ok-event.event c.self.inside.state c.apply.new.self c.self.inside.sizes
    c.in_ok-push.ensures.items c.drop_last.ensures c.in-Err.ensures.err c.self.invariant

pub returns-in-Ok-clause-legal : goal.returns-in-Ok-clause-legal
returns-in-Ok-clause-legal c =
    (logged_of c.args.self.now c.self.inside.log.items c.self.inside.state c.self.inside.sizes c.args.who.now c.args.op.now c.args.answer.now c.id_of-id.result c.placed_len-placed.result
    (ap (λ (m : MemState). m.log) c.self.view_is) c.self.invariant c.requires.answer c.requires.logged c.id_of-id.ensures c.placed_len-placed.ensures
    c.requires.session c.can_be_asked.ensures c.in_ok-event.event c.push.new.self.items c.apply.new.self c.with-sizes.result c.in_ok-event.ensures c.in_ok-push.ensures.items c.in-Ok.ensures.ok c.with-sizes.ensures).legal

pub apply-requires : goal.apply-requires
apply-requires c =
    row_here c.args.self.now c.self.inside.log.items c.self.inside.state c.self.inside.sizes c.args.who.now c.args.op.now c.args.answer.now c.id_of-id.result c.placed_len-placed.result
    (ap (λ (m : MemState). m.log) c.self.view_is) c.self.invariant c.requires.answer c.requires.logged c.id_of-id.ensures c.placed_len-placed.ensures
