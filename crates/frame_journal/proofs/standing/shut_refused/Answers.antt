use Rattle.std.proofs.Common.{rules, subst, sym}
use Rattle.disk_model.specs.Disk.{OnTold}
use Rattle.frame_journal.specs.Standing.{Stands, MayBeOpen}
use Rattle.frame_journal.specs.declared.standing.Standing.{Standing}
use Rattle.frame_journal.proofs.Shutting.{failed_sound, failed_later, shut_sound, shut_later}
use Rattle.frame_journal.proofs.standing.shut_refused.Goals as goal

pub returns-in_err-write_synced-clause-sound : goal.returns-in_err-write_synced-clause-sound
returns-in_err-write_synced-clause-sound g c = λ payloads stands.
    let staged : MayBeOpen c.args.standing.now = search rules in
    failed_sound c.args.standing.now (g.D.Disk.history c.args.disk.now) _ payloads c.args.gate staged stands c.in_err-write_synced.ensures.torn

pub returns-in_err-write_synced-clause-later : goal.returns-in_err-write_synced-clause-later
returns-in_err-write_synced-clause-later g c = λ payloads stands.
    let staged : MayBeOpen c.args.standing.now = search rules in
    failed_later c.args.standing.now (g.D.Disk.history c.args.disk.now) _ payloads c.args.gate staged stands c.in_err-write_synced.ensures.torn

pub returns-clause-later : goal.returns-clause-later
returns-clause-later g c = λ payloads stands.
    let staged : MayBeOpen c.args.standing.now = search rules in
    shut_later c.args.standing.now (g.D.Disk.history c.args.disk.now) _ payloads c.args.gate staged stands c.in_ok-write_synced.ensures.made

pub returns-clause-sound : goal.returns-clause-sound
returns-clause-sound g c = λ payloads stands.
    let staged : MayBeOpen c.args.standing.now = search rules in
    let sound = shut_sound c.args.standing.now (g.D.Disk.history c.args.disk.now) _ payloads c.args.gate staged stands c.in_ok-write_synced.ensures.made in
    subst (λ (s : Standing). OnTold (g.D.Disk.history c.write_synced.new.disk) (λ now. Stands s payloads c.args.gate now)) (sym c.note_shut.ensures) sound
