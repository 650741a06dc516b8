use Rattle.std.proofs.Common.{sym, ◌∙◌}
use Rattle.command_words.proofs.LabelWords.{label_read, no_key, no_value}
use Rattle.command_words.proofs.label.read_label.Goals as goal

pub returns-in_default-2 : goal.returns-in_default-2
returns-in_default-2 c = no_key c.args.word.now c.in-Some.key.now c.in-Some.value.now c.in-Some.ensures (sym c.in_ok-key.ensures ∙ c.in_default-2.is)

pub returns-in_default-3 : goal.returns-in_default-3
returns-in_default-3 c = no_value c.args.word.now c.in-Some.key.now c.in-Some.value.now c.in-Some.ensures (sym c.in_ok-value.ensures ∙ c.in_default-3.is)

pub returns : goal.returns
returns c =
    label_read c.args.word.now c.in-Some.key.now c.in-Some.value.now c.in-Some-2.key c.in-Some-3.value c.in-Some.ensures
    (sym c.in-Some-2.is ∙ c.in_ok-key.ensures) (sym c.in-Some-3.is ∙ c.in_ok-value.ensures)
