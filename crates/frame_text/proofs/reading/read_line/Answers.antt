use Rattle.std.proofs.Common.{rules, ◌≡◌, ◌∷◌, [], Some}
use Rattle.line_words.specs.Lines.{line_items}
use Rattle.line_words.specs.declared.reading.Reading.TheVariants.{Canonical}
use Rattle.frame_text.specs.LineText.{IsLine, words_of_line}
use Rattle.frame_text.proofs.Readers.{onward_ok}
use Rattle.frame_text.proofs.reading.read_line.Goals as goal

pub returns-in-Ok-Some : goal.returns-in-Ok-Some
returns-in-Ok-Some c =
    let e : line_items Canonical c.args.line.now ≡ record { place = c.in-Ok-Some.word.place; word = Some c.bytes.result.now } ∷ c.next.new.self = search rules in
    onward_ok (IsLine c.args.version) words_of_line [] (line_items Canonical c.args.line.now) c.next.new.self c.in-Ok-Some.word.place c.bytes.result.now c.read_kind.result e c.read_kind.ensures
