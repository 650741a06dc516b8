use Rattle.std.proofs.Common.{sym, ap, ◌∙◌}
use Rattle.cycle_core.specs.Going.{stopped}
use Rattle.cycle_core.proofs.Memories.{full}
use Rattle.cycle_core.proofs.turning.stopped.Goals as goal

pub returns-in-Forgets : goal.returns-in-Forgets
returns-in-Forgets c = (full, c.ended_early.ensures ∙ sym (ap (λ s. stopped c.args.setup.now full s) c.in-Forgets.is))

pub returns-in-Scans : goal.returns-in-Scans
returns-in-Scans c = (full, c.ended_early-in-Scans.ensures ∙ sym (ap (λ s. stopped c.args.setup.now full s) c.in-Scans.is))

pub returns-in-Clears : goal.returns-in-Clears
returns-in-Clears c = (full, sym (ap (λ s. stopped c.args.setup.now full s) c.in-Clears.is))

pub returns-in-Commits : goal.returns-in-Commits
returns-in-Commits c = (full, sym (ap (λ s. stopped c.args.setup.now full s) c.in-Commits.is))
