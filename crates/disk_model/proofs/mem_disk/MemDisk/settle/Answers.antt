use Rattle.disk_model.proofs.Replaying.{bytes_when_settled, history_of-more}
use Rattle.disk_model.proofs.mem_disk.MemDisk.settle.Goals as goal

pub invariant_of-self : goal.invariant_of-self
invariant_of-self c = record { current = bytes_when_settled c.push.result _ _ _ _ c.push.ensures.items c.args.self.now.current }

pub returns-clause-ok : goal.returns-clause-ok
returns-clause-ok c = history_of-more _ _ _ _ c.in_ok-push.ensures.items
