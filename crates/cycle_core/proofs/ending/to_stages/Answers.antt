use Rattle.cycle_core.proofs.Memories.{stages_asked, stages_rested, stages_broken}
use Rattle.cycle_core.proofs.ending.to_stages.Goals as goal

pub returns-in-Asks : goal.returns-in-Asks
returns-in-Asks c = stages_asked c.args.tag.run c.args.tag.cycle c.args.work c.in-Asks.supply c.in-Asks.ensures.0 c.in-Asks.ensures.1

pub returns-in-Rests : goal.returns-in-Rests
returns-in-Rests c = stages_rested c.args.tag.run c.args.tag.cycle c.args.work _ c.in-Rests.work c.staged.result c.in-Rests.ensures.0 c.staged.ensures c.in-Rests.ensures.1 c.to_changes.ensures

pub returns-in-NoMemory : goal.returns-in-NoMemory
returns-in-NoMemory c = stages_broken c.args.tag.run c.args.tag.cycle c.args.work _ c.in-NoMemory.work c.in-NoMemory.ensures c.broken.ensures
