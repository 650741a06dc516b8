use Rattle.std.proofs.Common.{subst}
use Rattle.stage_core.proofs.Following.{in_course, told_all}
use Rattle.stage_core.specs.Staging.{new_stand}
use Rattle.stage_core.specs.Told.{AreAnswered, StagingTold}
use Rattle.stage_core.proofs.staging.Staging.follows.Goals as goal

pub returns : goal.returns
returns c =
    let told : StagingTold = c.args.self.now in
    let answered : AreAnswered told.side (new_stand told.needs) told.answers =
    subst (λ (m : StagingTold). AreAnswered m.side (new_stand m.needs) m.answers) c.self.view_is c.self.invariant.answered in
    record {
      course = in_course told.side (new_stand told.needs) told.answers answered;
      answers = told_all told.side (new_stand told.needs) told.answers answered;
    }
