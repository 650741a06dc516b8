use Rattle.mem_roots.proofs.Sharing.{history_grew}
use Rattle.mem_roots.proofs.laws.shared_roots.Goals as goal

pub returns : goal.returns
returns c = history_grew
