use Rattle.std.proofs.Common.{ap}
use Rattle.mem_roots.proofs.Recording.{edit_allowed, edit_log_room, edit_bytes_room, edited_of, popped_of}
use Rattle.mem_roots.specs.MemRoot.{MemState}
use Rattle.mem_roots.proofs.mem_root.MemRoot.record_edit.Goals as goal

pub with_edit-sizes-requires : goal.with_edit-sizes-requires
with_edit-sizes-requires c = record {
  log = edit_log_room c.args.self.now c.self.inside.log.items c.self.inside.state c.self.inside.sizes c.args.change.now c.put_len.result
      (ap (λ (m : MemState). m.log) c.self.view_is) c.self.invariant c.requires c.put_len.ensures;
  bytes = edit_bytes_room c.args.self.now c.self.inside.log.items c.self.inside.state c.self.inside.sizes c.args.change.now c.put_len.result
      (ap (λ (m : MemState). m.log) c.self.view_is) c.self.invariant c.requires c.put_len.ensures;
}

pub invariant_of-self-in-Ok : goal.invariant_of-self-in-Ok
invariant_of-self-in-Ok c =
    edited_of c.args.self.now c.self.inside.log.items c.self.inside.state c.self.inside.sizes c.args.change.now c.put_len.result
    (ap (λ (m : MemState). m.log) c.self.view_is) c.self.invariant c.requires c.put_len.ensures
    c.can_be_made.ensures c.in_ok-event.event c.push.new.self.items c.edit.new.self c.with_edit-sizes.result c.in_ok-event.ensures c.in_ok-push.ensures.items c.in-Ok.ensures.ok c.with_edit-sizes.ensures

pub invariant_of-self-in-Err : goal.invariant_of-self-in-Err
invariant_of-self-in-Err c =
    popped_of c.self.inside.log.items c.push.new.self.items c.drop_last.new.log.items c.in_ok-event.event c.self.inside.state c.edit.new.self c.self.inside.sizes
    c.in_ok-push.ensures.items c.drop_last.ensures c.in-Err.ensures.err c.self.invariant

pub returns-in-Ok-clause-legal : goal.returns-in-Ok-clause-legal
returns-in-Ok-clause-legal c =
    (edited_of c.args.self.now c.self.inside.log.items c.self.inside.state c.self.inside.sizes c.args.change.now c.put_len.result
    (ap (λ (m : MemState). m.log) c.self.view_is) c.self.invariant c.requires c.put_len.ensures
    c.can_be_made.ensures c.in_ok-event.event c.push.new.self.items c.edit.new.self c.with_edit-sizes.result c.in_ok-event.ensures c.in_ok-push.ensures.items c.in-Ok.ensures.ok c.with_edit-sizes.ensures).legal

pub edit-requires : goal.edit-requires
edit-requires c =
    edit_allowed c.args.self.now c.self.inside.log.items c.self.inside.state c.self.inside.sizes c.args.change.now c.put_len.result
    (ap (λ (m : MemState). m.log) c.self.view_is) c.self.invariant c.requires c.put_len.ensures
