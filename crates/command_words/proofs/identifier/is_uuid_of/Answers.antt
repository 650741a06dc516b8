use Rattle.std.proofs.Common.{ap, ◌∙◌}
use Rattle.uuid.specs.Text.{hyphenated_text, lower}
use Rattle.command_words.proofs.Identifiers.{uuid_same}
use Rattle.command_words.proofs.identifier.is_uuid_of.Goals as goal

pub returns : goal.returns
returns c =
    uuid_same c.args.text.now c.as_bytes.result.now c.args.id c.eq.result
    (c.as_bytes.ensures.value ∙ c.encode_lower-written.ensures.text ∙ ap (hyphenated_text lower) (c.hyphenated.ensures ∙ c.from_u128.ensures)) c.eq.ensures
