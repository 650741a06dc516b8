use Rattle.std.proofs.Common.{sym, ap, ◌∙◌}
use Rattle.cycle_core.specs.Going.{unasked}
use Rattle.cycle_core.specs.declared.stand.Next.TheVariants.{Ends}
use Rattle.cycle_core.proofs.Memories.{full}
use Rattle.cycle_core.proofs.turning.unasked.Goals as goal

pub returns-in-Forgets : goal.returns-in-Forgets
returns-in-Forgets c = (full, c.ended_early.ensures ∙ sym (ap (λ s. unasked c.args.setup.now full s) c.in-Forgets.is))

pub returns-in-Scans : goal.returns-in-Scans
returns-in-Scans c = (full, c.ended_early-in-Scans.ensures ∙ sym (ap (λ s. unasked c.args.setup.now full s) c.in-Scans.is))

pub returns : goal.returns
returns c = (full, ap Ends c.refused_report.ensures ∙ sym (ap (λ s. unasked c.args.setup.now full s) c.in-Commits.is))
