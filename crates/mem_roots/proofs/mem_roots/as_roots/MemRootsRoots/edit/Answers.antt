use Rattle.std.proofs.Common.{ap, Some}
use Rattle.mem_roots.specs.MemRoot.{MemState}
use Rattle.mem_roots.specs.Named.{root_at}
use Rattle.mem_roots.proofs.Calling.{edited_by}
use Rattle.mem_roots.proofs.Naming.{others_stay, all_faults, all_fulls}
use Rattle.mem_roots.proofs.mem_roots.as_roots.MemRootsRoots.edit.Goals as goal

pub returns-clause-log : goal.returns-clause-log
returns-clause-log c =
    (edited_by (root_at c.args.self.now c.args.root) (root_at c.edit.new.self c.args.root) c.args.change.now c.edit.result c.edit.ensures.step).log

pub returns-clause-faults : goal.returns-clause-faults
returns-clause-faults c any =
    all_faults c.args.self.now c.edit.new.self c.args.root any c.edit.ensures.others
    (edited_by (root_at c.args.self.now c.args.root) (root_at c.edit.new.self c.args.root) c.args.change.now c.edit.result c.edit.ensures.step).faults

pub returns-clause-fulls : goal.returns-clause-fulls
returns-clause-fulls c any =
    all_fulls c.args.self.now c.edit.new.self c.args.root any c.edit.ensures.others
    (edited_by (root_at c.args.self.now c.args.root) (root_at c.edit.new.self c.args.root) c.args.change.now c.edit.result c.edit.ensures.step).fulls

pub returns-clause-others : goal.returns-clause-others
returns-clause-others c other apart = ap (λ (m : MemState). Some m.log) (others_stay c.args.self.now c.edit.new.self c.args.root other c.edit.ensures.others apart)
