use Rattle.std.proofs.Common.{rules, subst, sym}
use Rattle.disk_model.specs.Disk.{OnTold}
use Rattle.frame_journal.specs.PairState.{LosesTo}
use Rattle.frame_journal.specs.SpareState.{StandsSpare, MayCount}
use Rattle.frame_journal.specs.declared.spare.Spare.{Spare}
use Rattle.frame_journal.proofs.Clearing.{shut_failed_stands, shut_failed_later, shut_made_stands, shut_made_later}
use Rattle.frame_journal.proofs.spare.shut_spare.Goals as goal

pub returns-in_err-write_synced-clause-stands : goal.returns-in_err-write_synced-clause-stands
returns-in_err-write_synced-clause-stands g c = λ b n stands.
    let counts : MayCount c.args.spare.now = search rules in
    shut_failed_stands c.args.spare.now (g.D.Disk.history c.args.disk.now) _ (LosesTo b n) counts stands c.in_err-write_synced.ensures.torn

pub returns-in_err-write_synced-clause-later : goal.returns-in_err-write_synced-clause-later
returns-in_err-write_synced-clause-later g c = λ b n least raised stands.
    let counts : MayCount c.args.spare.now = search rules in
    shut_failed_later c.args.spare.now (g.D.Disk.history c.args.disk.now) _ (LosesTo b n) _ least raised counts stands c.in_err-write_synced.ensures.torn

pub returns-clause-stands : goal.returns-clause-stands
returns-clause-stands g c = λ b n stands.
    let counts : MayCount c.args.spare.now = search rules in
    let shut = shut_made_stands c.args.spare.now (g.D.Disk.history c.args.disk.now) _ (LosesTo b n) counts c.in_ok-write_synced.ensures.made in
    subst (λ (s : Spare). OnTold (g.D.Disk.history c.write_synced.new.disk) (λ now. StandsSpare s (LosesTo b n) now)) (sym c.note_shut.ensures) shut

pub returns-clause-later : goal.returns-clause-later
returns-clause-later g c = λ b n least raised stands.
    let counts : MayCount c.args.spare.now = search rules in
    shut_made_later c.args.spare.now (g.D.Disk.history c.args.disk.now) _ (LosesTo b n) _ least raised counts stands c.in_ok-write_synced.ensures.made
