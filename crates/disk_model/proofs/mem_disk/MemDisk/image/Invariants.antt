use Rattle.std.proofs.Common.{◌≡◌, take}
use Rattle.disk_model.specs.Content.{MayTearTo, settled}
use Rattle.disk_model.specs.Replay.{content_after}
use Rattle.disk_model.proofs.mem_disk.MemDisk.image.Given as goal

abbrev pub invariant-loop-event : goal.invariant-loop-event
invariant-loop-event l =
    let now = content_after (settled l.self.first.items) (take l.event-index l.self.events.items) in
    record { reads : now.bytes ≡ l.bytes.items; may_tear : MayTearTo now l.image.items }
