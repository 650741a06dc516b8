use Rattle.std.proofs.Common.{refl}
use Rattle.frame_journal.specs.Reading.{payloads_of}
use Rattle.frame_journal.proofs.Told.{told}
use Rattle.frame_journal.proofs.Appending.{stands_leaves}
use Rattle.frame_journal.proofs.Stepping.{same_kept}
use Rattle.frame_journal.proofs.journal.Journal.reopen.Goals as goal

pub returns-in-Err-clause-step : goal.returns-in-Err-clause-step
returns-in-Err-clause-step g c =
    let ps = payloads_of c.self.inside.payloads.items in
    let gate = c.self.inside.gate in
    let stands = c.in-Err.ensures.stands ps c.self.invariant.disk in
    rw (← c.self.view_is) (record {
      kept = told (g.D.Disk.history c.self.inside.disk) _ (λ _. same_kept ps ps _ _ refl (c.in-Err.ensures.pending ps));
      moments = c.ready_again.ensures.moments ps c.self.invariant.disk;
      durable = stands_leaves c.ready_again.new.standing (g.D.Disk.history c.ready_again.new.disk) ps gate stands;
    })
