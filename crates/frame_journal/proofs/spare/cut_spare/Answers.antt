use Rattle.std.proofs.Common.{rules, subst, sym}
use Rattle.disk_model.specs.Disk.{OnTold}
use Rattle.frame_journal.specs.PairState.{LosesTo}
use Rattle.frame_journal.specs.SpareState.{StandsSpare, IsUncut}
use Rattle.frame_journal.specs.declared.spare.Spare.{Spare}
use Rattle.frame_journal.proofs.Clearing.{cut_failed_stands, cut_failed_later, cut_made_stands, cut_made_later}
use Rattle.frame_journal.proofs.spare.cut_spare.Goals as goal

pub returns-in_err-cut_synced-clause-stands : goal.returns-in_err-cut_synced-clause-stands
returns-in_err-cut_synced-clause-stands g c = λ b n least stands.
    let uncut : IsUncut c.args.spare.now = search rules in
    cut_failed_stands c.args.spare.now (g.D.Disk.history c.args.disk.now) _ (LosesTo b n) least uncut stands c.in_err-cut_synced.ensures.torn

pub returns-in_err-cut_synced-clause-later : goal.returns-in_err-cut_synced-clause-later
returns-in_err-cut_synced-clause-later g c = λ b n least stands.
    let uncut : IsUncut c.args.spare.now = search rules in
    cut_failed_later c.args.spare.now (g.D.Disk.history c.args.disk.now) _ (LosesTo b n) least uncut stands c.in_err-cut_synced.ensures.torn

pub returns-clause-stands : goal.returns-clause-stands
returns-clause-stands g c = λ b n least stands.
    let uncut : IsUncut c.args.spare.now = search rules in
    let cut = cut_made_stands c.args.spare.now (g.D.Disk.history c.args.disk.now) _ (LosesTo b n) uncut c.in_ok-cut_synced.ensures.made in
    subst (λ (s : Spare). OnTold (g.D.Disk.history c.cut_synced.new.disk) (λ now. StandsSpare s (LosesTo b n) now)) (sym c.note_cut.ensures) cut

pub returns-clause-later : goal.returns-clause-later
returns-clause-later g c = λ b n least stands.
    let uncut : IsUncut c.args.spare.now = search rules in
    cut_made_later c.args.spare.now (g.D.Disk.history c.args.disk.now) _ (LosesTo b n) least uncut stands c.in_ok-cut_synced.ensures.made
