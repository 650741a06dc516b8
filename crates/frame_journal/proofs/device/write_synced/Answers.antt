use Rattle.std.proofs.Common.{length}
use Rattle.disk_model.specs.Content.{write_change}
use Rattle.frame_journal.proofs.Silent.{tells_then, tells_write, tells_failed, tells_syncing}
use Rattle.frame_journal.proofs.device.write_synced.Goals as goal

pub returns-in_err-write_at-clause-tells : goal.returns-in_err-write_at-clause-tells
returns-in_err-write_at-clause-tells g c = tells_failed (write_change c.args.place (length c.args.bytes.now)) (g.D.Disk.history c.args.disk.now) _ c.in_err-write_at.ensures.torn

pub returns-clause-tells : goal.returns-clause-tells
returns-clause-tells g c =
    tells_then (g.D.Disk.history c.args.disk.now) (g.D.Disk.history c.write_at.new.self) (g.D.Disk.history c.sync.new.self)
    (tells_write c.args.place c.args.bytes.now (g.D.Disk.history c.args.disk.now) (g.D.Disk.history c.write_at.new.self) c.in_ok-write_at.ensures.made)
    (tells_syncing c.sync.result _ _ c.sync.ensures.made c.sync.ensures.same)
