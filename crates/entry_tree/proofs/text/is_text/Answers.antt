use Rattle.std.proofs.Common.{◌∙◌, ap, sym}
use Rattle.std.specs.Prelude.{◌&&◌}
use Rattle.std.proofs.lemmas.Str.{is_utf8-from_IsUtf8}
use Rattle.entry_tree.specs.Text.{has_text_len}
use Rattle.entry_tree.proofs.text.is_text.Goals as goal

pub returns : goal.returns
returns c = c.has_text_len.ensures ∙ ap (λ b. b && has_text_len c.args.text.now) (sym (is_utf8-from_IsUtf8 c.args.text.now c.utf8.text))
