use Rattle.std.proofs.Common.{refl, sym, ◌∙◌}
use Rattle.frame_journal.specs.Generation.{generation_of}
use Rattle.frame_journal.proofs.Reopening.{when_ok}
use Rattle.frame_journal.proofs.PairStepping.{failed_step, reopen_failed_sound, reopen_failed_step, reopened_sound, reopened_step}
use Rattle.frame_journal.proofs.paired.PairedJournal.reopen.Goals as goal

pub returns-then-is_err-clause-step : goal.returns-then-is_err-clause-step
returns-then-is_err-clause-step g c =
    let j = c.self.inside in
    let n = generation_of j.journal.payloads in
    rw (← c.self.view_is)
    (reopen_failed_step g.D.Disk.history j.journal j.journal j.spare c.clear_spare.new.disk j.on_second j.standing c.clear_spare.new.spare c.self.invariant (failed_step g.D.Disk.history j.journal c.self.invariant.leaves) (λ none. none)
    c.clear_spare.ensures.tells c.clear_spare.ensures.refused refl (c.clear_spare.ensures.stands j.on_second n) (c.clear_spare.ensures.later j.on_second n))

pub invariant_of-self-in-Err : goal.invariant_of-self-in-Err
invariant_of-self-in-Err g c =
    let j = c.self.inside in
    let n = generation_of j.journal.payloads in
    reopen_failed_sound g.D.Disk.history j.journal c.reopen.new.self j.spare c.clear_spare.new.disk j.on_second j.standing c.clear_spare.new.spare c.self.invariant c.in-Err.ensures.step c.in-Err.ensures.silent
    c.clear_spare.ensures.tells c.clear_spare.ensures.refused c.in-Err.ensures.err_pending (c.clear_spare.ensures.stands j.on_second n) (c.clear_spare.ensures.later j.on_second n)

pub returns-in-Err-clause-step : goal.returns-in-Err-clause-step
returns-in-Err-clause-step g c =
    let j = c.self.inside in
    let n = generation_of j.journal.payloads in
    rw (← c.self.view_is)
    (reopen_failed_step g.D.Disk.history j.journal c.reopen.new.self j.spare c.clear_spare.new.disk j.on_second j.standing c.clear_spare.new.spare c.self.invariant c.in-Err.ensures.step c.in-Err.ensures.silent
    c.clear_spare.ensures.tells c.clear_spare.ensures.refused c.in-Err.ensures.err_pending (c.clear_spare.ensures.stands j.on_second n) (c.clear_spare.ensures.later j.on_second n))

pub invariant_of-self-in-Ok : goal.invariant_of-self-in-Ok
invariant_of-self-in-Ok g c =
    let j = c.self.inside in
    let n = generation_of j.journal.payloads in
    let cleared = when_ok c.clear_spare.result _ (sym c.is_err.ensures.value ∙ c.if-is_err.false) c.clear_spare.ensures.cleared in
    reopened_sound g.D.Disk.history j.journal c.reopen.new.self j.spare c.clear_spare.new.disk j.on_second j.standing c.clear_spare.new.spare c.self.invariant c.in-Ok.ensures.step c.in-Ok.ensures.silent
    c.clear_spare.ensures.tells cleared.0 cleared.1 c.in-Ok.ensures.open.1 (c.clear_spare.ensures.stands j.on_second n) (c.clear_spare.ensures.later j.on_second n)

pub returns-in-Ok-clause-step : goal.returns-in-Ok-clause-step
returns-in-Ok-clause-step g c =
    let j = c.self.inside in
    let n = generation_of j.journal.payloads in
    let cleared = when_ok c.clear_spare.result _ (sym c.is_err.ensures.value ∙ c.if-is_err.false) c.clear_spare.ensures.cleared in
    rw (← c.self.view_is)
    (reopened_step g.D.Disk.history j.journal c.reopen.new.self j.spare c.clear_spare.new.disk j.on_second j.standing c.clear_spare.new.spare c.self.invariant c.in-Ok.ensures.step c.in-Ok.ensures.silent
    c.clear_spare.ensures.tells cleared.0 cleared.1 c.in-Ok.ensures.open.1 (c.clear_spare.ensures.stands j.on_second n) (c.clear_spare.ensures.later j.on_second n))
