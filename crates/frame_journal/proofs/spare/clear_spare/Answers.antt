use Rattle.frame_journal.specs.PairState.{LosesTo}
use Rattle.frame_journal.specs.Older.{OpensLesser}
use Rattle.frame_journal.specs.SpareState.{MayOpenSpare, refused_frames}
use Rattle.frame_journal.proofs.Leaving.{leaves_then}
use Rattle.frame_journal.proofs.Clearing.{lesser_or_more}
use Rattle.frame_journal.proofs.Silent.{tells_then}
use Rattle.frame_journal.proofs.spare.clear_spare.Goals as goal

pub returns-clause-later : goal.returns-clause-later
returns-clause-later g c = λ b n least raised stands.
    let first = c.shut_spare.ensures.later b n least raised stands in
    let second = c.cut_spare.ensures.later b n least (c.shut_spare.ensures.stands b n stands) in
    leaves_then (g.D.Disk.history c.args.disk.now) (g.D.Disk.history c.shut_spare.new.disk) (g.D.Disk.history c.cut_spare.new.disk) (MayOpenSpare (refused_frames c.args.spare.now) (LosesTo b n)) (OpensLesser (LosesTo b n))
    (λ image opens. lesser_or_more (refused_frames c.args.spare.now) (LosesTo b n) image opens) first second

pub returns-clause-tells : goal.returns-clause-tells
returns-clause-tells g c = tells_then (g.D.Disk.history c.args.disk.now) (g.D.Disk.history c.shut_spare.new.disk) (g.D.Disk.history c.cut_spare.new.disk) c.shut_spare.ensures.tells c.cut_spare.ensures.tells
