use Rattle.std.proofs.Common.{◌≡◌, ◌++◌, ap, subst, ◌∙◌}
use Rattle.std.specs.Prelude.{OnOk, string_bytes}
use Rattle.uuid.specs.Text.{hyphenated_text, lower}
use Rattle.line_words.specs.Spelling.{escaped}
use Rattle.command_words.proofs.identifier.write_uuid.Goals as goal

pub returns : goal.returns
returns c =
    subst (λ w. OnOk c.write_word.result (string_bytes c.write_word.new.text ≡ string_bytes c.args.text.now ++ escaped w))
    (c.as_bytes.ensures.value ∙ c.encode_lower-written.ensures.text ∙ ap (hyphenated_text lower) (c.hyphenated.ensures ∙ c.from_u128.ensures))
    c.write_word.ensures.written
