use Rattle.std.proofs.Common.{◌+◌, ◌≤◌, [], ◌∷◌, subst, sym, ◌∙◌, arith}
use Rattle.disk_model.specs.Content.{write_change, cut_change}
use Rattle.disk_model.specs.Disk.{OnTold}
use Rattle.frame_journal.specs.Layout.{OpensWith}
use Rattle.frame_journal.specs.Reading.{payloads_of, EndsAt, EndsAs}
use Rattle.frame_journal.proofs.Leaving.{then_fails, then_writes, then_cuts}
use Rattle.frame_journal.proofs.Settled.{synced_later, first_ready, cut_ready, cut_resting}
use Rattle.frame_journal.proofs.Silent.{tells_then, tells_synced}
use Rattle.frame_journal.proofs.settling.settle.Goals as goal

pub returns-in_err-end-clause-later : goal.returns-in_err-end-clause-later
returns-in_err-end-clause-later g c = λ ps opens. synced_later _ _ _ ps c.in_ok-sync.ensures.made c.length.ensures.same opens

pub returns-in_err-write_synced-clause-later : goal.returns-in_err-write_synced-clause-later
returns-in_err-write_synced-clause-later g c = λ ps opens.
    let short : c.in_ok-end.end ≤ 1 = omega arith in
    then_fails (g.D.Disk.history c.args.disk.now) (g.D.Disk.history c.length.new.self) _ (write_change 0 1) (OpensWith ps)
    (synced_later _ _ _ ps c.in_ok-sync.ensures.made c.length.ensures.same opens)
    (first_ready _ _ _ ps c.in_ok-end.end c.in_ok-sync.ensures.made c.length.ensures.same c.in_ok-end.ensures.value short opens)
    c.in_err-write_synced.ensures.torn

pub returns-then-end-le1-clause-later : goal.returns-then-end-le1-clause-later
returns-then-end-le1-clause-later g c = λ ps opens.
    let short : c.in_ok-end.end ≤ 1 = omega arith in
    then_writes (g.D.Disk.history c.args.disk.now) (g.D.Disk.history c.length.new.self) _ 0 (0 ∷ []) (OpensWith ps)
    (synced_later _ _ _ ps c.in_ok-sync.ensures.made c.length.ensures.same opens)
    (first_ready _ _ _ ps c.in_ok-end.end c.in_ok-sync.ensures.made c.length.ensures.same c.in_ok-end.ensures.value short opens)
    c.in_ok-write_synced.ensures.made

pub returns-in_err-read-clause-later : goal.returns-in_err-read-clause-later
returns-in_err-read-clause-later g c = λ ps opens. synced_later _ _ _ ps c.in_ok-sync.ensures.made (c.read_frames.ensures.same ∙ c.length.ensures.same) opens

pub returns-in_err-cut_synced-in-Shut-clause-later : goal.returns-in_err-cut_synced-in-Shut-clause-later
returns-in_err-cut_synced-in-Shut-clause-later g c = λ ps opens.
    let same = c.read_frames.ensures.same ∙ c.length.ensures.same in
    let read = payloads_of c.in_ok-read.read.payloads.items in
    let gate = c.in_ok-read.read.gate in
    let whole = subst (λ e. OnTold (g.D.Disk.history c.length.new.self) (λ now. EndsAs e read gate now.bytes)) c.in-Shut.is c.in_ok-read.ensures.read in
    let ends = subst (λ h. OnTold h (λ now. EndsAt read gate now.bytes)) (sym c.read_frames.ensures.same) whole in
    then_fails (g.D.Disk.history c.args.disk.now) (g.D.Disk.history c.read_frames.new.disk) _ (cut_change (gate + 1)) (OpensWith ps)
    (synced_later _ _ _ ps c.in_ok-sync.ensures.made same opens)
    (cut_ready _ _ _ ps read gate c.in_ok-sync.ensures.made same ends opens)
    c.in_err-cut_synced-in-Shut.ensures.torn

pub returns-in_ok-cut_synced-in-Shut-clause-later : goal.returns-in_ok-cut_synced-in-Shut-clause-later
returns-in_ok-cut_synced-in-Shut-clause-later g c = λ ps opens.
    let same = c.read_frames.ensures.same ∙ c.length.ensures.same in
    let read = payloads_of c.in_ok-read.read.payloads.items in
    let gate = c.in_ok-read.read.gate in
    let whole = subst (λ e. OnTold (g.D.Disk.history c.length.new.self) (λ now. EndsAs e read gate now.bytes)) c.in-Shut.is c.in_ok-read.ensures.read in
    let ends = subst (λ h. OnTold h (λ now. EndsAt read gate now.bytes)) (sym c.read_frames.ensures.same) whole in
    then_cuts (g.D.Disk.history c.args.disk.now) (g.D.Disk.history c.read_frames.new.disk) _ (gate + 1) (OpensWith ps)
    (synced_later _ _ _ ps c.in_ok-sync.ensures.made same opens)
    (cut_ready _ _ _ ps read gate c.in_ok-sync.ensures.made same ends opens)
    c.in_ok-cut_synced-in-Shut.ensures.made

pub returns-in_ok-cut_synced-in-Shut-clause-rests : goal.returns-in_ok-cut_synced-in-Shut-clause-rests
returns-in_ok-cut_synced-in-Shut-clause-rests g c =
    let read = payloads_of c.in_ok-read.read.payloads.items in
    let gate = c.in_ok-read.read.gate in
    let whole = subst (λ e. OnTold (g.D.Disk.history c.length.new.self) (λ now. EndsAs e read gate now.bytes)) c.in-Shut.is c.in_ok-read.ensures.read in
    let ends = subst (λ h. OnTold h (λ now. EndsAt read gate now.bytes)) (sym c.read_frames.ensures.same) whole in
    cut_resting (g.D.Disk.history c.read_frames.new.disk) _ read gate ends c.in_ok-cut_synced-in-Shut.ensures.made

pub returns-in-Bad-clause-later : goal.returns-in-Bad-clause-later
returns-in-Bad-clause-later g c = λ ps opens. synced_later _ _ _ ps c.in_ok-sync.ensures.made (c.read_frames.ensures.same ∙ c.length.ensures.same) opens

pub returns-in_err-end-clause-tells : goal.returns-in_err-end-clause-tells
returns-in_err-end-clause-tells g c = tells_synced _ _ _ c.in_ok-sync.ensures.made c.length.ensures.same

pub returns-in_err-write_synced-clause-tells : goal.returns-in_err-write_synced-clause-tells
returns-in_err-write_synced-clause-tells g c = tells_then _ _ _ (tells_synced _ _ _ c.in_ok-sync.ensures.made c.length.ensures.same) c.in_err-write_synced.ensures.tells

pub returns-then-end-le1-clause-tells : goal.returns-then-end-le1-clause-tells
returns-then-end-le1-clause-tells g c = tells_then _ _ _ (tells_synced _ _ _ c.in_ok-sync.ensures.made c.length.ensures.same) c.in_ok-write_synced.ensures.tells

pub returns-in_err-read-clause-tells : goal.returns-in_err-read-clause-tells
returns-in_err-read-clause-tells g c = tells_synced _ _ _ c.in_ok-sync.ensures.made (c.read_frames.ensures.same ∙ c.length.ensures.same)

pub returns-in_err-cut_synced-in-Shut-clause-tells : goal.returns-in_err-cut_synced-in-Shut-clause-tells
returns-in_err-cut_synced-in-Shut-clause-tells g c = tells_then _ _ _ (tells_synced _ _ _ c.in_ok-sync.ensures.made (c.read_frames.ensures.same ∙ c.length.ensures.same)) c.in_err-cut_synced-in-Shut.ensures.tells

pub returns-in_ok-cut_synced-in-Shut-clause-tells : goal.returns-in_ok-cut_synced-in-Shut-clause-tells
returns-in_ok-cut_synced-in-Shut-clause-tells g c = tells_then _ _ _ (tells_synced _ _ _ c.in_ok-sync.ensures.made (c.read_frames.ensures.same ∙ c.length.ensures.same)) c.in_ok-cut_synced-in-Shut.ensures.tells

pub returns-in-Bad-clause-tells : goal.returns-in-Bad-clause-tells
returns-in-Bad-clause-tells g c = tells_synced _ _ _ c.in_ok-sync.ensures.made (c.read_frames.ensures.same ∙ c.length.ensures.same)
