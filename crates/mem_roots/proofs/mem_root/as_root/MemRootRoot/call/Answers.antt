use Rattle.mem_roots.proofs.Calling.{called}
use Rattle.mem_roots.proofs.mem_root.as_root.MemRootRoot.call.Goals as goal

pub returns-clause-log : goal.returns-clause-log
returns-clause-log c = (called c.args.self.now c.call.new.self c.args.who.now c.args.op.now c.call.result c.requires c.call.ensures.step).log

pub returns-clause-counts : goal.returns-clause-counts
returns-clause-counts c = (called c.args.self.now c.call.new.self c.args.who.now c.args.op.now c.call.result c.requires c.call.ensures.step).counts

pub returns-clause-failed : goal.returns-clause-failed
returns-clause-failed c = (called c.args.self.now c.call.new.self c.args.who.now c.args.op.now c.call.result c.requires c.call.ensures.step).failed

pub returns-clause-full : goal.returns-clause-full
returns-clause-full c = (called c.args.self.now c.call.new.self c.args.who.now c.args.op.now c.call.result c.requires c.call.ensures.step).full

pub returns-clause-no_link : goal.returns-clause-no_link
returns-clause-no_link c = (called c.args.self.now c.call.new.self c.args.who.now c.args.op.now c.call.result c.requires c.call.ensures.step).no_link

pub returns-clause-no_exec : goal.returns-clause-no_exec
returns-clause-no_exec c = (called c.args.self.now c.call.new.self c.args.who.now c.args.op.now c.call.result c.requires c.call.ensures.step).no_exec

pub returns-clause-memory : goal.returns-clause-memory
returns-clause-memory c = (called c.args.self.now c.call.new.self c.args.who.now c.args.op.now c.call.result c.requires c.call.ensures.step).memory
