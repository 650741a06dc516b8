use Rattle.mem_roots.proofs.Fitting.{row_result}
use Rattle.mem_roots.proofs.mem_root.MemRoot.row.Goals as goal

pub returns-clause-row : goal.returns-clause-row
returns-clause-row c = row_result c.self.inside.log.items c.self.inside.state c.self.inside.sizes c.args.id c.args.op.now c.answer.result c.self.invariant c.answer.ensures
