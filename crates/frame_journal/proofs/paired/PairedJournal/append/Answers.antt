use Rattle.std.proofs.Common.{◌≡◌, ◌++◌, [], false, sym, subst, ◌∙◌}
use Rattle.frame_journal.specs.Generation.{is_generation}
use Rattle.frame_journal.specs.Calls.{append_call}
use Rattle.frame_journal.specs.PairState.{PairState}
use Rattle.frame_journal.proofs.PairStepping.{called_step, fits_append, pair_refused}
use Rattle.frame_journal.proofs.paired.PairedJournal.append.Goals as goal

pub returns-then-is_refused-clause-step : goal.returns-then-is_refused-clause-step
returns-then-is_refused-clause-step g c =
    let j = c.self.inside in
    rw (← c.self.view_is) (pair_refused g.D.Disk.history j.journal j.spare j.on_second j.standing c.self.invariant)

pub returns-clause-step : goal.returns-clause-step
returns-clause-step g c =
    let j = c.self.inside in
    let q = c.args.head.now ++ c.args.body.now in
    let one = subst (λ (v : PairState g.row.D.Denot). v.payloads ≡ [] → v.generation ≡ 0 → is_generation q ≡ false) (sym c.self.view_is) c.requires in
    rw (← c.self.view_is)
    (called_step g.D.Disk.history j.journal c.append.new.self j.spare j.on_second j.standing (append_call q c.append.result) (sym c.is_refused.ensures ∙ c.if-is_refused.false) c.self.invariant
    c.append.ensures.step c.append.ensures.silent (fits_append j.journal.payloads q c.append.result one))
