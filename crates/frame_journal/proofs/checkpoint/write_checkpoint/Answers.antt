use Rattle.std.proofs.Common.{◌≡◌, List, ℕ, [], subst, sym, ◌∙◌}
use Rattle.disk_model.specs.Content.{settled}
use Rattle.disk_model.specs.Disk.{OnTold}
use Rattle.frame_journal.specs.PairState.{LosesTo}
use Rattle.frame_journal.specs.Older.{StandsBehind}
use Rattle.frame_journal.proofs.Reopening.{when_ok, when_err}
use Rattle.frame_journal.proofs.Checkpointing.{shutting_failed, shutting_failed_moments, now_shut, leaves_shut, body_failed, body_failed_moments, opening_failed, opening_failed_moments, opened_rests, opened_moments, shut_now, rests_now}
use Rattle.frame_journal.proofs.Silent.{tells_then}
use Rattle.frame_journal.proofs.checkpoint.write_checkpoint.Goals as goal

pub returns-then-is_err-clause-leaves : goal.returns-then-is_err-clause-leaves
returns-then-is_err-clause-leaves g c = λ b n p ps fit is least older.
    let failed = when_err c.write_synced.result _ (sym c.is_err.ensures.value ∙ c.if-is_err.true) c.write_synced.ensures.torn in
    shutting_failed (LosesTo b n) least p ps fit (g.D.Disk.history c.args.disk.now) older _ failed

pub returns-then-is_err-clause-moments : goal.returns-then-is_err-clause-moments
returns-then-is_err-clause-moments g c = λ b n p ps fit is least older.
    let failed = when_err c.write_synced.result _ (sym c.is_err.ensures.value ∙ c.if-is_err.true) c.write_synced.ensures.torn in
    shutting_failed_moments (LosesTo b n) least p ps fit (g.D.Disk.history c.args.disk.now) older _ failed

pub returns-then-is_err-2-clause-leaves : goal.returns-then-is_err-2-clause-leaves
returns-then-is_err-2-clause-leaves g c = λ b n p ps fit is least older.
    let old = g.D.Disk.history c.args.disk.now in
    let mid = g.D.Disk.history c.write_synced.new.disk in
    let shuts = when_ok c.write_synced.result _ (sym c.is_err.ensures.value ∙ c.if-is_err.false) c.write_synced.ensures.made in
    let shut = leaves_shut (LosesTo b n) least p ps fit old older mid shuts in
    body_failed (LosesTo b n) least p ps fit old older mid shuts _ (c.replace_behind.ensures.moments shut)

pub returns-then-is_err-2-clause-moments : goal.returns-then-is_err-2-clause-moments
returns-then-is_err-2-clause-moments g c = λ b n p ps fit is least older.
    let old = g.D.Disk.history c.args.disk.now in
    let mid = g.D.Disk.history c.write_synced.new.disk in
    let shuts = when_ok c.write_synced.result _ (sym c.is_err.ensures.value ∙ c.if-is_err.false) c.write_synced.ensures.made in
    let shut = leaves_shut (LosesTo b n) least p ps fit old older mid shuts in
    body_failed_moments (LosesTo b n) least p ps fit old older mid shuts _ (c.replace_behind.ensures.moments shut)

pub returns-then-is_err-3-clause-leaves : goal.returns-then-is_err-3-clause-leaves
returns-then-is_err-3-clause-leaves g c = λ b n p ps fit is least older.
    let old = g.D.Disk.history c.args.disk.now in
    let mid = g.D.Disk.history c.write_synced.new.disk in
    let next = g.D.Disk.history c.replace_behind.new.disk in
    let shuts = when_ok c.write_synced.result _ (sym c.is_err.ensures.value ∙ c.if-is_err.false) c.write_synced.ensures.made in
    let shut = leaves_shut (LosesTo b n) least p ps fit old older mid shuts in
    let stands = when_ok c.replace_behind.result _ (sym c.is_err-2.ensures.value ∙ c.if-is_err-2.false) c.replace_behind.ensures.made (now_shut (LosesTo b n) least p ps fit old older mid shuts) in
    let body = subst (λ (l : List ℕ). OnTold next (λ now. (now ≡ settled now.bytes) × StandsBehind [] l now.bytes)) is stands in
    let failed = when_err c.write_synced-2.result _ (sym c.is_err-3.ensures.value ∙ c.if-is_err-3.true) c.write_synced-2.ensures.torn in
    opening_failed (LosesTo b n) least p ps fit old older mid shuts next (c.replace_behind.ensures.moments shut) body _ failed

pub returns-then-is_err-3-clause-moments : goal.returns-then-is_err-3-clause-moments
returns-then-is_err-3-clause-moments g c = λ b n p ps fit is least older.
    let old = g.D.Disk.history c.args.disk.now in
    let mid = g.D.Disk.history c.write_synced.new.disk in
    let next = g.D.Disk.history c.replace_behind.new.disk in
    let shuts = when_ok c.write_synced.result _ (sym c.is_err.ensures.value ∙ c.if-is_err.false) c.write_synced.ensures.made in
    let shut = leaves_shut (LosesTo b n) least p ps fit old older mid shuts in
    let stands = when_ok c.replace_behind.result _ (sym c.is_err-2.ensures.value ∙ c.if-is_err-2.false) c.replace_behind.ensures.made (now_shut (LosesTo b n) least p ps fit old older mid shuts) in
    let body = subst (λ (l : List ℕ). OnTold next (λ now. (now ≡ settled now.bytes) × StandsBehind [] l now.bytes)) is stands in
    let failed = when_err c.write_synced-2.result _ (sym c.is_err-3.ensures.value ∙ c.if-is_err-3.true) c.write_synced-2.ensures.torn in
    opening_failed_moments (LosesTo b n) least p ps fit old older mid shuts next (c.replace_behind.ensures.moments shut) body _ failed

pub returns-clause-leaves : goal.returns-clause-leaves
returns-clause-leaves g c = λ b n p ps fit is least older.
    let old = g.D.Disk.history c.args.disk.now in
    let mid = g.D.Disk.history c.write_synced.new.disk in
    let next = g.D.Disk.history c.replace_behind.new.disk in
    let shuts = when_ok c.write_synced.result _ (sym c.is_err.ensures.value ∙ c.if-is_err.false) c.write_synced.ensures.made in
    let shut = leaves_shut (LosesTo b n) least p ps fit old older mid shuts in
    let stands = when_ok c.replace_behind.result _ (sym c.is_err-2.ensures.value ∙ c.if-is_err-2.false) c.replace_behind.ensures.made (now_shut (LosesTo b n) least p ps fit old older mid shuts) in
    let body = subst (λ (l : List ℕ). OnTold next (λ now. (now ≡ settled now.bytes) × StandsBehind [] l now.bytes)) is stands in
    let opens = when_ok c.write_synced-2.result _ (sym c.is_err-3.ensures.value ∙ c.if-is_err-3.false) c.write_synced-2.ensures.made in
    opened_rests (LosesTo b n) least p ps fit old older mid shuts next (c.replace_behind.ensures.moments shut) body _ opens

pub returns-clause-moments : goal.returns-clause-moments
returns-clause-moments g c = λ b n p ps fit is least older.
    let old = g.D.Disk.history c.args.disk.now in
    let mid = g.D.Disk.history c.write_synced.new.disk in
    let next = g.D.Disk.history c.replace_behind.new.disk in
    let shuts = when_ok c.write_synced.result _ (sym c.is_err.ensures.value ∙ c.if-is_err.false) c.write_synced.ensures.made in
    let shut = leaves_shut (LosesTo b n) least p ps fit old older mid shuts in
    let stands = when_ok c.replace_behind.result _ (sym c.is_err-2.ensures.value ∙ c.if-is_err-2.false) c.replace_behind.ensures.made (now_shut (LosesTo b n) least p ps fit old older mid shuts) in
    let body = subst (λ (l : List ℕ). OnTold next (λ now. (now ≡ settled now.bytes) × StandsBehind [] l now.bytes)) is stands in
    let opens = when_ok c.write_synced-2.result _ (sym c.is_err-3.ensures.value ∙ c.if-is_err-3.false) c.write_synced-2.ensures.made in
    opened_moments (LosesTo b n) least p ps fit old older mid shuts next (c.replace_behind.ensures.moments shut) body _ opens

pub returns-then-is_err-2-clause-tells : goal.returns-then-is_err-2-clause-tells
returns-then-is_err-2-clause-tells g c = tells_then (g.D.Disk.history c.args.disk.now) (g.D.Disk.history c.write_synced.new.disk) (g.D.Disk.history c.replace_behind.new.disk) c.write_synced.ensures.tells c.replace_behind.ensures.tells

pub returns-then-is_err-3-clause-tells : goal.returns-then-is_err-3-clause-tells
returns-then-is_err-3-clause-tells g c =
    tells_then (g.D.Disk.history c.args.disk.now) (g.D.Disk.history c.replace_behind.new.disk) (g.D.Disk.history c.write_synced-2.new.disk)
    (tells_then (g.D.Disk.history c.args.disk.now) (g.D.Disk.history c.write_synced.new.disk) (g.D.Disk.history c.replace_behind.new.disk) c.write_synced.ensures.tells c.replace_behind.ensures.tells)
    c.write_synced-2.ensures.tells

pub returns-clause-tells : goal.returns-clause-tells
returns-clause-tells g c =
    tells_then (g.D.Disk.history c.args.disk.now) (g.D.Disk.history c.replace_behind.new.disk) (g.D.Disk.history c.write_synced-2.new.disk)
    (tells_then (g.D.Disk.history c.args.disk.now) (g.D.Disk.history c.write_synced.new.disk) (g.D.Disk.history c.replace_behind.new.disk) c.write_synced.ensures.tells c.replace_behind.ensures.tells)
    c.write_synced-2.ensures.tells

pub returns-clause-rests : goal.returns-clause-rests
returns-clause-rests g c = λ p ps fit is.
    let next = g.D.Disk.history c.replace_behind.new.disk in
    let shuts = when_ok c.write_synced.result _ (sym c.is_err.ensures.value ∙ c.if-is_err.false) c.write_synced.ensures.made in
    let stands = when_ok c.replace_behind.result _ (sym c.is_err-2.ensures.value ∙ c.if-is_err-2.false) c.replace_behind.ensures.made (shut_now (g.D.Disk.history c.args.disk.now) (g.D.Disk.history c.write_synced.new.disk) shuts) in
    let body = subst (λ (l : List ℕ). OnTold next (λ now. (now ≡ settled now.bytes) × StandsBehind [] l now.bytes)) is stands in
    let opens = when_ok c.write_synced-2.result _ (sym c.is_err-3.ensures.value ∙ c.if-is_err-3.false) c.write_synced-2.ensures.made in
    rests_now p ps next _ fit body opens
