use Rattle.std.proofs.Common.{rules, ◌≡◌, ◌∷◌, [], Some, subst}
use Rattle.std.specs.Prelude.{IfOk}
use Rattle.line_words.specs.Lines.{line_items}
use Rattle.line_words.specs.declared.reading.Reading.TheVariants.{Canonical}
use Rattle.frame_text.specs.Heads.{IsHead, version_by, words_of_head}
use Rattle.frame_text.specs.Reading.{Reads}
use Rattle.frame_text.proofs.HeadWords.{version_is}
use Rattle.frame_text.proofs.Readers.{onward_ok}
use Rattle.frame_text.proofs.reading.read_head.Goals as goal

pub returns-in-Some : goal.returns-in-Some
returns-in-Some c =
    let e : line_items Canonical c.args.line.now ≡ record { place = c.in-Ok-Some.word.place; word = Some c.bytes.result.now } ∷ c.next.new.self = search rules in
    let v : version_by c.bytes.result.now ≡ Some c.in-Some.version = search rules in
    onward_ok IsHead words_of_head [] (line_items Canonical c.args.line.now) c.next.new.self c.in-Ok-Some.word.place c.bytes.result.now c.read_verb.result e
    (subst (λ w. IfOk c.read_verb.result (Reads IsHead words_of_head (w ∷ []) c.next.new.self)) (version_is c.bytes.result.now c.in-Some.version v) c.read_verb.ensures)
