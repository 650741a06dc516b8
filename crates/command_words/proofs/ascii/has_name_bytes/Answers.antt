use Rattle.std.proofs.Common.{sym, ◌∙◌}
use Rattle.command_words.proofs.Classes.{names_are_labels}
use Rattle.command_words.proofs.ascii.has_name_bytes.Goals as goal

pub returns-clause-label : goal.returns-clause-label
returns-clause-label c = λ h. names_are_labels c.args.word.now (sym c.are_name_bytes.ensures ∙ h)
