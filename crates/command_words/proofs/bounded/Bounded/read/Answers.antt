use Rattle.command_words.proofs.Numbers.{within}
use Rattle.command_words.proofs.bounded.Bounded.read.Goals as goal

pub returns : goal.returns
returns g c = within g.row.LEAST g.row.MOST c.in_ok-number.number c.args.word.now c.of.result c.in_ok-number.ensures c.of.ensures
