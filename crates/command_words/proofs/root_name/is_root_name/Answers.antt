use Rattle.std.proofs.Common.{ap, sym, ◌∙◌}
use Rattle.command_words.proofs.Values.{text_passes}
use Rattle.command_words.specs.RootName.{has_root_name_form}
use Rattle.command_words.proofs.root_name.is_root_name.Goals as goal

pub returns : goal.returns
returns c =
    c.has_root_name_form.ensures ∙ ap has_root_name_form c.as_bytes.ensures.value
    ∙ sym (text_passes c.args.text.now (has_root_name_form c.args.text.now) c.utf8.text)
