use Rattle.std.proofs.Common.{ap, sym, ◌∙◌, length}
use Rattle.std.specs.Prelude.{◌==◌}
use Rattle.command_words.proofs.Values.{stream_empty, stream_none, stream_some}
use Rattle.command_words.proofs.contents.StreamBytes.read.Goals as goal

pub returns-in_default : goal.returns-in_default
returns-in_default c = stream_none c.args.word.now c.in_ok-bytes.field-0 c.in_default.is c.in_ok-bytes.ensures

pub returns-then-is_empty : goal.returns-then-is_empty
returns-then-is_empty c =
    stream_empty c.args.word.now c.in_ok-bytes.field-0 c.in-Some.bytes c.in-Some.is c.in_ok-bytes.ensures
    (ap (λ xs. length xs == 0) (sym c.as_slice.ensures) ∙ sym c.is_empty.ensures ∙ c.if-is_empty.true)

pub returns : goal.returns
returns c =
    stream_some c.args.word.now c.in_ok-bytes.field-0 c.in-Some.bytes c.in-Some.is c.in_ok-bytes.ensures
    (ap (λ xs. length xs == 0) (sym c.as_slice.ensures) ∙ sym c.is_empty.ensures ∙ c.if-is_empty.false)
