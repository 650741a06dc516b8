use Rattle.std.proofs.Common.{◌≡◌, true, subst}
use Rattle.roots_api.specs.Answers.{is_done}
use Rattle.roots_api.specs.Steps.{answer_of}
use Rattle.roots_api.specs.declared.op.Op.{Op}
use Rattle.mem_roots.proofs.Marking.{file_there}
use Rattle.mem_roots.proofs.state.State.act.Goals as goal

pub set_exec-requires : goal.set_exec-requires
set_exec-requires c =
    file_there c.args.self.now.tree c.in-SetExec.path c.in-SetExec.expected c.entry.ensures.file
    (subst (λ (op : Op). is_done (answer_of c.args.self.now c.args.id op) ≡ true) c.in-SetExec.is c.requires)
