use Rattle.disk_model.specs.Content.{cut_change}
use Rattle.frame_journal.proofs.Silent.{tells_then, tells_cut, tells_failed, tells_syncing}
use Rattle.frame_journal.proofs.device.cut_synced.Goals as goal

pub returns-in_err-cut-clause-tells : goal.returns-in_err-cut-clause-tells
returns-in_err-cut-clause-tells g c = tells_failed (cut_change c.args.length) (g.D.Disk.history c.args.disk.now) _ c.in_err-cut.ensures.torn

pub returns-clause-tells : goal.returns-clause-tells
returns-clause-tells g c =
    tells_then (g.D.Disk.history c.args.disk.now) (g.D.Disk.history c.cut.new.self) (g.D.Disk.history c.sync.new.self)
    (tells_cut c.args.length (g.D.Disk.history c.args.disk.now) (g.D.Disk.history c.cut.new.self) c.in_ok-cut.ensures.made)
    (tells_syncing c.sync.result _ _ c.sync.ensures.made c.sync.ensures.same)
