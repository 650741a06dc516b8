use Rattle.std.proofs.Common.{◌∙◌, ap, sym}
use Rattle.std.specs.Prelude.{◌&&◌}
use Rattle.std.proofs.lemmas.Str.{is_utf8-from_IsUtf8}
use Rattle.sync_path.specs.Name.{has_name_form}
use Rattle.sync_path.proofs.name.is_name.Goals as goal

pub returns : goal.returns
returns c = c.has_name_form.ensures ∙ ap (λ b. b && has_name_form c.args.text.now) (sym (is_utf8-from_IsUtf8 c.args.text.now c.utf8.text))
