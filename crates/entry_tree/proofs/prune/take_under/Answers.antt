use Rattle.entry_tree.proofs.Pruning.{without_top}
use Rattle.entry_tree.proofs.prune.take_under.Goals as goal

pub returns-in-Some-clause-held : goal.returns-in-Some-clause-held
returns-in-Some-clause-held g c = λ _. without_top c.args.map.now c.take_top.new.map c.args.path.now c.take_top.ensures.taken c.take_out.new.map.entries c.take_out.ensures
