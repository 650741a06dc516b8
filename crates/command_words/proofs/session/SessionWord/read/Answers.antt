use Rattle.std.proofs.Common.{sym, ◌∙◌}
use Rattle.command_words.proofs.Sessions.{identified, named}
use Rattle.command_words.proofs.session.SessionWord.read.Goals as goal

pub returns-in-Some : goal.returns-in-Some
returns-in-Some c = identified c.args.word.now c.in-Some.identifier c.in-Some.ensures

pub returns-in-Some-2 : goal.returns-in-Some-2
returns-in-Some-2 c = named c.args.word.now c.in-Some-2.name (sym c.in-Some-2.is ∙ c.in_ok-name.ensures)
