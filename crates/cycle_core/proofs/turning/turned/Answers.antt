use Rattle.std.proofs.Common.{sym, ap, ◌∙◌}
use Rattle.cycle_core.specs.Going.{after, caches_after}
use Rattle.cycle_core.proofs.Memories.{full}
use Rattle.cycle_core.proofs.turning.turned.Goals as goal

pub returns-in-Kept : goal.returns-in-Kept
returns-in-Kept c = (
  full,
  c.kept.ensures ∙ sym (ap (λ t. after c.args.setup.now full c.args.caches.now c.args.stand t) c.in-Kept.is),
  sym (ap (λ t. caches_after c.args.setup.now full c.args.caches.now c.args.stand t) c.in-Kept.is),
)

pub returns-in-KeepFailed : goal.returns-in-KeepFailed
returns-in-KeepFailed c = (
  full,
  c.refused.ensures ∙ sym (ap (λ t. after c.args.setup.now full c.args.caches.now c.args.stand t) c.in-KeepFailed.is),
  sym (ap (λ t. caches_after c.args.setup.now full c.args.caches.now c.args.stand t) c.in-KeepFailed.is),
)
