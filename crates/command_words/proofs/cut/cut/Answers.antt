use Rattle.std.proofs.Common.{sym, ◌∙◌}
use Rattle.command_words.proofs.Cutting.{cut_none}
use Rattle.command_words.proofs.cut.cut.Goals as goal

pub returns-in-None : goal.returns-in-None
returns-in-None c = cut_none c.args.b c.args.word.now (sym c.place_of.ensures ∙ c.in-None.is)
