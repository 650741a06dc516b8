use Rattle.std.proofs.Common.{subst, sym}
use Rattle.roots_api.specs.Answers.{IsAnswerTo}
use Rattle.mem_roots.proofs.Fitting.{answers_to}
use Rattle.mem_roots.proofs.mem_root.MemRoot.decide.Goals as goal

pub returns-clause-row : goal.returns-clause-row
returns-clause-row c =
    subst (IsAnswerTo c.args.op.now) (sym c.decided.ensures) (answers_to c.args.self.now c.id_of-id.result c.args.op.now c.in_ok-row.row c.in_ok-row.ensures.row)
