use Rattle.std.proofs.Common.{subst, sym, ◌∙◌}
use Rattle.disk_model.specs.Disk.{OnTold}
use Rattle.frame_journal.specs.Reading.{payloads_of}
use Rattle.frame_journal.specs.Standing.{Stands, MayBeOpen}
use Rattle.frame_journal.specs.declared.standing.Standing.{Standing}
use Rattle.frame_journal.proofs.Reopening.{when_ok, shut_moments, again_moments, again_faulty, again_synced, again_same, again_no_bad, again_rests}
use Rattle.frame_journal.proofs.Silent.{tells_then}
use Rattle.frame_journal.proofs.standing.ready_again.Goals as goal

pub returns-then-is_err-clause-moments : goal.returns-then-is_err-clause-moments
returns-then-is_err-clause-moments g c = λ ps stands.
    shut_moments c.args.standing.now (g.D.Disk.history c.args.disk.now) (g.D.Disk.history c.shut_refused.new.disk) ps c.args.gate stands (c.shut_refused.ensures.later ps stands)

pub returns-in-Ok-clause-moments : goal.returns-in-Ok-clause-moments
returns-in-Ok-clause-moments g c = λ ps stands.
    let s0 = c.args.standing.now in
    let s1 = c.shut_refused.new.standing in
    let h0 = g.D.Disk.history c.args.disk.now in
    let h1 = g.D.Disk.history c.shut_refused.new.disk in
    let h2 = g.D.Disk.history c.settle.new.disk in
    let shut : MayBeOpen s1 → ⊥ = when_ok c.shut_refused.result (MayBeOpen s1 → ⊥) (sym c.is_err.ensures.value ∙ c.if-is_err.false) c.shut_refused.ensures.shut in
    again_moments s0 s1 h0 h1 h2 ps c.args.gate stands (c.shut_refused.ensures.sound ps stands) (c.shut_refused.ensures.later ps stands) shut c.settle.ensures.later

pub returns-in-Ok-clause-same : goal.returns-in-Ok-clause-same
returns-in-Ok-clause-same g c = λ ps stands.
    let s0 = c.args.standing.now in
    let s1 = c.shut_refused.new.standing in
    let h0 = g.D.Disk.history c.args.disk.now in
    let h1 = g.D.Disk.history c.shut_refused.new.disk in
    let h2 = g.D.Disk.history c.settle.new.disk in
    let shut : MayBeOpen s1 → ⊥ = when_ok c.shut_refused.result (MayBeOpen s1 → ⊥) (sym c.is_err.ensures.value ∙ c.if-is_err.false) c.shut_refused.ensures.shut in
    again_same s0 s1 h0 h1 h2 ps c.args.gate stands (c.shut_refused.ensures.sound ps stands) (c.shut_refused.ensures.later ps stands) shut c.settle.ensures.later (payloads_of c.in-Ok.read.payloads.items) c.in-Ok.ensures.opens

pub returns-in-Ok-clause-rests : goal.returns-in-Ok-clause-rests
returns-in-Ok-clause-rests g c = λ ps stands.
    let s0 = c.args.standing.now in
    let s1 = c.shut_refused.new.standing in
    let h0 = g.D.Disk.history c.args.disk.now in
    let h1 = g.D.Disk.history c.shut_refused.new.disk in
    let h2 = g.D.Disk.history c.settle.new.disk in
    let shut : MayBeOpen s1 → ⊥ = when_ok c.shut_refused.result (MayBeOpen s1 → ⊥) (sym c.is_err.ensures.value ∙ c.if-is_err.false) c.shut_refused.ensures.shut in
    again_rests s0 s1 h0 h1 h2 ps c.args.gate stands (c.shut_refused.ensures.sound ps stands) (c.shut_refused.ensures.later ps stands) shut c.settle.ensures.later (payloads_of c.in-Ok.read.payloads.items) c.in-Ok.read.gate c.in-Ok.ensures.rests

pub returns-in-Err-DiskFault-clause-moments : goal.returns-in-Err-DiskFault-clause-moments
returns-in-Err-DiskFault-clause-moments g c = λ ps stands.
    let s0 = c.args.standing.now in
    let s1 = c.shut_refused.new.standing in
    let h0 = g.D.Disk.history c.args.disk.now in
    let h1 = g.D.Disk.history c.shut_refused.new.disk in
    let h2 = g.D.Disk.history c.settle.new.disk in
    let shut : MayBeOpen s1 → ⊥ = when_ok c.shut_refused.result (MayBeOpen s1 → ⊥) (sym c.is_err.ensures.value ∙ c.if-is_err.false) c.shut_refused.ensures.shut in
    again_moments s0 s1 h0 h1 h2 ps c.args.gate stands (c.shut_refused.ensures.sound ps stands) (c.shut_refused.ensures.later ps stands) shut c.settle.ensures.later

pub returns-in-Err-DiskFault-clause-stands : goal.returns-in-Err-DiskFault-clause-stands
returns-in-Err-DiskFault-clause-stands g c = λ ps stands.
    let s0 = c.args.standing.now in
    let s1 = c.shut_refused.new.standing in
    let h0 = g.D.Disk.history c.args.disk.now in
    let h1 = g.D.Disk.history c.shut_refused.new.disk in
    let h2 = g.D.Disk.history c.settle.new.disk in
    let shut : MayBeOpen s1 → ⊥ = when_ok c.shut_refused.result (MayBeOpen s1 → ⊥) (sym c.is_err.ensures.value ∙ c.if-is_err.false) c.shut_refused.ensures.shut in
    subst (λ (s : Standing). OnTold h2 (λ now. Stands s ps c.args.gate now)) (sym c.close.ensures) (again_faulty s0 s1 h0 h1 h2 ps c.args.gate stands (c.shut_refused.ensures.sound ps stands) (c.shut_refused.ensures.later ps stands) shut c.settle.ensures.later)

pub returns-in-Err-BadFrame-clause-moments : goal.returns-in-Err-BadFrame-clause-moments
returns-in-Err-BadFrame-clause-moments g c = λ ps stands.
    let s0 = c.args.standing.now in
    let s1 = c.shut_refused.new.standing in
    let h0 = g.D.Disk.history c.args.disk.now in
    let h1 = g.D.Disk.history c.shut_refused.new.disk in
    let h2 = g.D.Disk.history c.settle.new.disk in
    let shut : MayBeOpen s1 → ⊥ = when_ok c.shut_refused.result (MayBeOpen s1 → ⊥) (sym c.is_err.ensures.value ∙ c.if-is_err.false) c.shut_refused.ensures.shut in
    again_moments s0 s1 h0 h1 h2 ps c.args.gate stands (c.shut_refused.ensures.sound ps stands) (c.shut_refused.ensures.later ps stands) shut c.settle.ensures.later

pub returns-in-Err-BadFrame-clause-stands : goal.returns-in-Err-BadFrame-clause-stands
returns-in-Err-BadFrame-clause-stands g c = λ ps stands.
    let s0 = c.args.standing.now in
    let s1 = c.shut_refused.new.standing in
    let h0 = g.D.Disk.history c.args.disk.now in
    let h1 = g.D.Disk.history c.shut_refused.new.disk in
    let h2 = g.D.Disk.history c.settle.new.disk in
    let shut : MayBeOpen s1 → ⊥ = when_ok c.shut_refused.result (MayBeOpen s1 → ⊥) (sym c.is_err.ensures.value ∙ c.if-is_err.false) c.shut_refused.ensures.shut in
    again_synced s0 s1 h0 h1 h2 ps c.args.gate stands (c.shut_refused.ensures.sound ps stands) (c.shut_refused.ensures.later ps stands) shut c.settle.ensures.later (c.in-Err-BadFrame.ensures.synced (λ is. cc (c.in-Err-BadFrame.field-0-is, is)))

pub returns-in-Err-Memory-clause-moments : goal.returns-in-Err-Memory-clause-moments
returns-in-Err-Memory-clause-moments g c = λ ps stands.
    let s0 = c.args.standing.now in
    let s1 = c.shut_refused.new.standing in
    let h0 = g.D.Disk.history c.args.disk.now in
    let h1 = g.D.Disk.history c.shut_refused.new.disk in
    let h2 = g.D.Disk.history c.settle.new.disk in
    let shut : MayBeOpen s1 → ⊥ = when_ok c.shut_refused.result (MayBeOpen s1 → ⊥) (sym c.is_err.ensures.value ∙ c.if-is_err.false) c.shut_refused.ensures.shut in
    again_moments s0 s1 h0 h1 h2 ps c.args.gate stands (c.shut_refused.ensures.sound ps stands) (c.shut_refused.ensures.later ps stands) shut c.settle.ensures.later

pub returns-in-Err-Memory-clause-stands : goal.returns-in-Err-Memory-clause-stands
returns-in-Err-Memory-clause-stands g c = λ ps stands.
    let s0 = c.args.standing.now in
    let s1 = c.shut_refused.new.standing in
    let h0 = g.D.Disk.history c.args.disk.now in
    let h1 = g.D.Disk.history c.shut_refused.new.disk in
    let h2 = g.D.Disk.history c.settle.new.disk in
    let shut : MayBeOpen s1 → ⊥ = when_ok c.shut_refused.result (MayBeOpen s1 → ⊥) (sym c.is_err.ensures.value ∙ c.if-is_err.false) c.shut_refused.ensures.shut in
    again_synced s0 s1 h0 h1 h2 ps c.args.gate stands (c.shut_refused.ensures.sound ps stands) (c.shut_refused.ensures.later ps stands) shut c.settle.ensures.later (c.in-Err-Memory.ensures.synced (λ is. cc (c.in-Err-Memory.field-0-is, is)))

pub returns-in-Err-BadFrame-clause-bad : goal.returns-in-Err-BadFrame-clause-bad
returns-in-Err-BadFrame-clause-bad g c = λ ps stands.
    let s0 = c.args.standing.now in
    let s1 = c.shut_refused.new.standing in
    let h0 = g.D.Disk.history c.args.disk.now in
    let h1 = g.D.Disk.history c.shut_refused.new.disk in
    let h2 = g.D.Disk.history c.settle.new.disk in
    let shut : MayBeOpen s1 → ⊥ = when_ok c.shut_refused.result (MayBeOpen s1 → ⊥) (sym c.is_err.ensures.value ∙ c.if-is_err.false) c.shut_refused.ensures.shut in
    λ n is. again_no_bad s0 s1 h0 h1 h2 ps c.args.gate stands (c.shut_refused.ensures.sound ps stands) (c.shut_refused.ensures.later ps stands) shut c.settle.ensures.later n (c.in-Err-BadFrame.ensures.bad n (c.in-Err-BadFrame.field-0-is ∙ is))

pub returns-in-Ok-clause-tells : goal.returns-in-Ok-clause-tells
returns-in-Ok-clause-tells g c = tells_then (g.D.Disk.history c.args.disk.now) (g.D.Disk.history c.shut_refused.new.disk) (g.D.Disk.history c.settle.new.disk) c.shut_refused.ensures.tells c.settle.ensures.tells

pub returns-in-Err-DiskFault-clause-tells : goal.returns-in-Err-DiskFault-clause-tells
returns-in-Err-DiskFault-clause-tells g c = tells_then (g.D.Disk.history c.args.disk.now) (g.D.Disk.history c.shut_refused.new.disk) (g.D.Disk.history c.settle.new.disk) c.shut_refused.ensures.tells c.settle.ensures.tells

pub returns-in-Err-BadFrame-clause-tells : goal.returns-in-Err-BadFrame-clause-tells
returns-in-Err-BadFrame-clause-tells g c = tells_then (g.D.Disk.history c.args.disk.now) (g.D.Disk.history c.shut_refused.new.disk) (g.D.Disk.history c.settle.new.disk) c.shut_refused.ensures.tells c.settle.ensures.tells

pub returns-in-Err-Memory-clause-tells : goal.returns-in-Err-Memory-clause-tells
returns-in-Err-Memory-clause-tells g c = tells_then (g.D.Disk.history c.args.disk.now) (g.D.Disk.history c.shut_refused.new.disk) (g.D.Disk.history c.settle.new.disk) c.shut_refused.ensures.tells c.settle.ensures.tells
