use Rattle.frame_journal.proofs.Checkpointing.{cut_failed, behind_moments}
use Rattle.disk_model.specs.Content.{cut_change}
use Rattle.frame_journal.proofs.Silent.{tells_then, tells_cut, tells_failed}
use Rattle.frame_journal.proofs.checkpoint.replace_behind.Goals as goal

pub returns-in_err-cut-clause-moments : goal.returns-in_err-cut-clause-moments
returns-in_err-cut-clause-moments g c = λ shut. cut_failed (g.D.Disk.history c.args.disk.now) shut _ c.in_err-cut.ensures.torn

pub returns-clause-moments : goal.returns-clause-moments
returns-clause-moments g c = λ shut.
    behind_moments (g.D.Disk.history c.args.disk.now) shut (g.D.Disk.history c.cut.new.self) c.in_ok-cut.ensures.made c.write_synced.result _ c.args.behind.now c.write_synced.ensures.made c.write_synced.ensures.torn

pub returns-in_err-cut-clause-tells : goal.returns-in_err-cut-clause-tells
returns-in_err-cut-clause-tells g c = tells_failed (cut_change 1) (g.D.Disk.history c.args.disk.now) _ c.in_err-cut.ensures.torn

pub returns-clause-tells : goal.returns-clause-tells
returns-clause-tells g c =
    tells_then (g.D.Disk.history c.args.disk.now) (g.D.Disk.history c.cut.new.self) (g.D.Disk.history c.write_synced.new.disk) (tells_cut 1 (g.D.Disk.history c.args.disk.now) (g.D.Disk.history c.cut.new.self) c.in_ok-cut.ensures.made) c.write_synced.ensures.tells
