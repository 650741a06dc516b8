use Rattle.std.proofs.Common.{ap, Some}
use Rattle.roots_api.specs.Logs.{failed_in}
use Rattle.mem_roots.specs.MemRoot.{MemState}
use Rattle.mem_roots.specs.Named.{root_at}
use Rattle.mem_roots.proofs.Calling.{called}
use Rattle.mem_roots.proofs.Naming.{others_stay}
use Rattle.mem_roots.proofs.mem_roots.as_roots.MemRootsRoots.call.Goals as goal

pub returns-clause-log : goal.returns-clause-log
returns-clause-log c =
    (called (root_at c.args.self.now c.args.root) (root_at c.call.new.self c.args.root) c.args.who.now c.args.op.now c.call.result c.requires.session c.call.ensures.step).log

pub returns-clause-counts : goal.returns-clause-counts
returns-clause-counts c =
    (called (root_at c.args.self.now c.args.root) (root_at c.call.new.self c.args.root) c.args.who.now c.args.op.now c.call.result c.requires.session c.call.ensures.step).counts

pub returns-clause-failed : goal.returns-clause-failed
returns-clause-failed c =
    (called (root_at c.args.self.now c.args.root) (root_at c.call.new.self c.args.root) c.args.who.now c.args.op.now c.call.result c.requires.session c.call.ensures.step).failed

pub returns-clause-full : goal.returns-clause-full
returns-clause-full c =
    (called (root_at c.args.self.now c.args.root) (root_at c.call.new.self c.args.root) c.args.who.now c.args.op.now c.call.result c.requires.session c.call.ensures.step).full

pub returns-clause-no_link : goal.returns-clause-no_link
returns-clause-no_link c =
    (called (root_at c.args.self.now c.args.root) (root_at c.call.new.self c.args.root) c.args.who.now c.args.op.now c.call.result c.requires.session c.call.ensures.step).no_link

pub returns-clause-others : goal.returns-clause-others
returns-clause-others c other apart = ap (λ (m : MemState). Some m.log) (others_stay c.args.self.now c.call.new.self c.args.root other c.call.ensures.others apart)

pub returns-clause-other_faults : goal.returns-clause-other_faults
returns-clause-other_faults c other apart = ap (λ (m : MemState). failed_in m.log) (others_stay c.args.self.now c.call.new.self c.args.root other c.call.ensures.others apart)

pub returns-clause-other_fulls : goal.returns-clause-other_fulls
returns-clause-other_fulls c other apart = ap (λ (m : MemState). m.full_answers) (others_stay c.args.self.now c.call.new.self c.args.root other c.call.ensures.others apart)

pub returns-clause-no_exec : goal.returns-clause-no_exec
returns-clause-no_exec c =
    (called (root_at c.args.self.now c.args.root) (root_at c.call.new.self c.args.root) c.args.who.now c.args.op.now c.call.result c.requires.session c.call.ensures.step).no_exec

pub returns-clause-memory : goal.returns-clause-memory
returns-clause-memory c =
    (called (root_at c.args.self.now c.args.root) (root_at c.call.new.self c.args.root) c.args.who.now c.args.op.now c.call.result c.requires.session c.call.ensures.step).memory
