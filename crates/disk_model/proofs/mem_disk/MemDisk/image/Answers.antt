use Rattle.std.proofs.Common.{◌<◌, length, rules}
use Rattle.disk_model.proofs.Tearing.{torn_more}
use Rattle.disk_model.proofs.mem_disk.MemDisk.image.Goals as goal

pub loop-event-preserved : goal.loop-event-preserved
loop-event-preserved c =
    let lt : c.loop-event.event-index < length c.args.self.now.events.items = search rules in
    let more = torn_more c.args.self.now.first.items c.args.self.now.events.items c.loop-event.event-index c.event-item.result _ _ _ _ lt (search rules)
    c.loop-event.invariant.reads c.loop-event.invariant.may_tear c.in_ok-tear_event.ensures in
    record { reads = more.0; may_tear = more.1 }
