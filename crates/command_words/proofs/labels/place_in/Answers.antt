use Rattle.std.proofs.Common.{sym, ◌∙◌}
use Rattle.command_words.specs.Labels.{is_before}
use Rattle.command_words.specs.declared.label.Label.{Label}
use Rattle.command_words.proofs.LabelOrder.{place_none, place_some}
use Rattle.command_words.proofs.labels.place_in.Goals as goal

pub returns-in-Some : goal.returns-in-Some
returns-in-Some c = place_some (λ (l : Label). is_before c.args.key.now l.key) c.args.labels.now c.in-Some.at (sym c.in-Some.is ∙ c.place_before.ensures)

pub returns-in-None : goal.returns-in-None
returns-in-None c = place_none (λ (l : Label). is_before c.args.key.now l.key) c.args.labels.now (sym c.in-None.is ∙ c.place_before.ensures)
