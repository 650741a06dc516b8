use Rattle.std.proofs.Common.{sym, ◌∙◌}
use Rattle.line_words.proofs.Unescaping.{all_stand_word}
use Rattle.line_words.proofs.word.read_part.Goals as goal

pub returns-then-all_stand : goal.returns-then-all_stand
returns-then-all_stand c = all_stand_word c.args.reading c.args.part.now (sym c.is_empty.ensures ∙ c.if-is_empty.false) (sym c.all_stand.ensures ∙ c.if-all_stand.true)
