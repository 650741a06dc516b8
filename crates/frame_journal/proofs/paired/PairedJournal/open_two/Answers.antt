use Rattle.frame_journal.proofs.Checkpointed.{both_opened, reads_both}
use Rattle.frame_journal.proofs.PairOpening.{goes_on_with}
use Rattle.frame_journal.proofs.paired.PairedJournal.open_two.Goals as goal

pub returns-in-Ok-open_at-clause-opens : goal.returns-in-Ok-open_at-clause-opens
returns-in-Ok-open_at-clause-opens g c =
    reads_both (g.D.Disk.history c.args.first) (g.D.Disk.history c.args.second) _ _ _ c.of.ensures.payloads c.in-Ok.ensures.opens c.in-Ok-open_at.ensures.opens

pub returns-in-Ok-open_at-clause-moments : goal.returns-in-Ok-open_at-clause-moments
returns-in-Ok-open_at-clause-moments g c = λ ps qs first second.
    rw c.of.ensures.first
    (rw c.of.ensures.second
    (both_opened (g.D.Disk.history c.args.first) _ (g.D.Disk.history c.args.second) _ ps qs (c.in-Ok.ensures.moments ps first) (c.in-Ok-open_at.ensures.moments qs second)))

pub returns-in-Err-open_at-clause-moments_err : goal.returns-in-Err-open_at-clause-moments_err
returns-in-Err-open_at-clause-moments_err g c = λ ps qs first second.
    rw c.into_disk.ensures
    (both_opened (g.D.Disk.history c.args.first) _ (g.D.Disk.history c.args.second) _ ps qs (c.in-Ok.ensures.moments ps first) (c.in-Err-open_at.ensures.moments_err qs second))

pub returns-in-Ok-open_at-clause-goes_on : goal.returns-in-Ok-open_at-clause-goes_on
returns-in-Ok-open_at-clause-goes_on g c =
    goes_on_with (g.D.Disk.history c.args.first) (g.D.Disk.history c.args.second) _ _ _ _ c.of.ensures.on_second c.of.ensures.generation c.in-Ok.ensures.opens c.in-Ok-open_at.ensures.opens
