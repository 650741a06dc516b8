use Rattle.std.proofs.Common.{◌∷◌, [], sym, ap, subst, ◌∙◌}
use Rattle.frame_text.specs.Heads.{IsHead, head_by, verb_word, version_word, words_of_head}
use Rattle.frame_text.specs.Reading.{Reads}
use Rattle.frame_text.proofs.HeadWords.{behind_numbers}
use Rattle.frame_text.proofs.reading.read_behind.Goals as goal

pub returns-in-Ok-Some : goal.returns-in-Ok-Some
returns-in-Ok-Some c =
    let told = rw c.in-Ok-Some.field-0-is at c.in-Ok-Some.ensures in
    subst (Reads IsHead words_of_head (version_word c.args.version ∷ verb_word c.args.verb ∷ []) c.args.words.now)
    (sym (c.head_by.ensures ∙ ap (head_by c.args.version c.args.verb) c.as_slice.ensures))
    (behind_numbers c.args.version c.args.verb c.args.words.now c.in-Ok-Some.numbers told)
