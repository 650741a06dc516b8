use Rattle.std.proofs.Common.{ℕ, ◌+◌, List, length, subst, sym, ◌∙◌}
use Rattle.disk_model.specs.Content.{write_change}
use Rattle.disk_model.specs.Disk.{FailsInPart}
use Rattle.frame_journal.specs.Steps.{WritesSynced}
use Rattle.frame_journal.proofs.Reopening.{when_ok, when_err}
use Rattle.frame_journal.proofs.Appending.{block_failed, block_failed_moments, gate_failed, gate_failed_moments, made_rests, made_moments}
use Rattle.frame_journal.proofs.Silent.{tells_then}
use Rattle.frame_journal.proofs.commit.commit.Goals as goal

pub returns-then-is_err-clause-leaves : goal.returns-then-is_err-clause-leaves
returns-then-is_err-clause-leaves g c = λ ps q fits is rests.
    let old = g.D.Disk.history c.args.disk.now in
    let new = g.D.Disk.history c.write_synced.new.disk in
    let failed = when_err c.write_synced.result _ (sym c.is_err.ensures.value ∙ c.if-is_err.true) c.write_synced.ensures.torn in
    block_failed ps c.args.gate q fits old rests new (subst (λ (b : List ℕ). FailsInPart (write_change (c.args.gate + 1) (length b)) old new) is failed)

pub returns-then-is_err-clause-moments : goal.returns-then-is_err-clause-moments
returns-then-is_err-clause-moments g c = λ ps q fits is rests.
    let old = g.D.Disk.history c.args.disk.now in
    let new = g.D.Disk.history c.write_synced.new.disk in
    let failed = when_err c.write_synced.result _ (sym c.is_err.ensures.value ∙ c.if-is_err.true) c.write_synced.ensures.torn in
    block_failed_moments ps c.args.gate q fits old rests new (subst (λ (b : List ℕ). FailsInPart (write_change (c.args.gate + 1) (length b)) old new) is failed)

pub returns-then-is_err-2-clause-leaves : goal.returns-then-is_err-2-clause-leaves
returns-then-is_err-2-clause-leaves g c = λ ps q fits is rests.
    let old = g.D.Disk.history c.args.disk.now in
    let mid = g.D.Disk.history c.write_synced.new.disk in
    let made = when_ok c.write_synced.result _ (sym c.is_err.ensures.value ∙ c.if-is_err.false) c.write_synced.ensures.made in
    let failed = when_err c.write_synced-2.result _ (sym c.is_err-2.ensures.value ∙ c.if-is_err-2.true) c.write_synced-2.ensures.torn in
    gate_failed ps c.args.gate q fits old rests mid (subst (λ (b : List ℕ). WritesSynced (c.args.gate + 1) b old mid) is made) _ failed

pub returns-then-is_err-2-clause-moments : goal.returns-then-is_err-2-clause-moments
returns-then-is_err-2-clause-moments g c = λ ps q fits is rests.
    let old = g.D.Disk.history c.args.disk.now in
    let mid = g.D.Disk.history c.write_synced.new.disk in
    let made = when_ok c.write_synced.result _ (sym c.is_err.ensures.value ∙ c.if-is_err.false) c.write_synced.ensures.made in
    let failed = when_err c.write_synced-2.result _ (sym c.is_err-2.ensures.value ∙ c.if-is_err-2.true) c.write_synced-2.ensures.torn in
    gate_failed_moments ps c.args.gate q fits old rests mid (subst (λ (b : List ℕ). WritesSynced (c.args.gate + 1) b old mid) is made) _ failed

pub returns-clause-leaves : goal.returns-clause-leaves
returns-clause-leaves g c = λ ps q fits is rests.
    let old = g.D.Disk.history c.args.disk.now in
    let mid = g.D.Disk.history c.write_synced.new.disk in
    let made = when_ok c.write_synced.result _ (sym c.is_err.ensures.value ∙ c.if-is_err.false) c.write_synced.ensures.made in
    let opened = when_ok c.write_synced-2.result _ (sym c.is_err-2.ensures.value ∙ c.if-is_err-2.false) c.write_synced-2.ensures.made in
    made_rests ps c.args.gate q fits old rests mid (subst (λ (b : List ℕ). WritesSynced (c.args.gate + 1) b old mid) is made) _ opened

pub returns-clause-moments : goal.returns-clause-moments
returns-clause-moments g c = λ ps q fits is rests.
    let old = g.D.Disk.history c.args.disk.now in
    let mid = g.D.Disk.history c.write_synced.new.disk in
    let made = when_ok c.write_synced.result _ (sym c.is_err.ensures.value ∙ c.if-is_err.false) c.write_synced.ensures.made in
    let opened = when_ok c.write_synced-2.result _ (sym c.is_err-2.ensures.value ∙ c.if-is_err-2.false) c.write_synced-2.ensures.made in
    made_moments ps c.args.gate q fits old rests mid (subst (λ (b : List ℕ). WritesSynced (c.args.gate + 1) b old mid) is made) _ opened

pub returns-then-is_err-2-clause-tells : goal.returns-then-is_err-2-clause-tells
returns-then-is_err-2-clause-tells g c = tells_then (g.D.Disk.history c.args.disk.now) (g.D.Disk.history c.write_synced.new.disk) (g.D.Disk.history c.write_synced-2.new.disk) c.write_synced.ensures.tells c.write_synced-2.ensures.tells

pub returns-clause-tells : goal.returns-clause-tells
returns-clause-tells g c = tells_then (g.D.Disk.history c.args.disk.now) (g.D.Disk.history c.write_synced.new.disk) (g.D.Disk.history c.write_synced-2.new.disk) c.write_synced.ensures.tells c.write_synced-2.ensures.tells
