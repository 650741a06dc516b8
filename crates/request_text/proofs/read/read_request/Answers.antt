use Rattle.std.proofs.Common.{length, subst}
use Rattle.line_words.specs.Lines.{line_items}
use Rattle.line_words.specs.declared.reading.Reading.TheVariants.{Free}
use Rattle.request_text.specs.States.{Answers}
use Rattle.request_text.proofs.ReadLines.{complete_of}
use Rattle.request_text.proofs.read.read_request.Goals as goal

pub returns-clause-complete : goal.returns-clause-complete
returns-clause-complete c =
    complete_of (line_items Free c.args.line.now) (length c.args.line.now) c.read_words.result (subst (λ items. Answers items (length c.args.line.now) c.read_words.result) c.new-words.ensures c.read_words.ensures)
