use Rattle.std.proofs.Common.{Some, ap, sym, ◌∙◌}
use Rattle.outside_io.proofs.Counting.{count_first, count_behind}
use Rattle.outside_io.proofs.count_dice.CountDiceDice.sixteen.Goals as goal

pub returns-clause-drawn : goal.returns-clause-drawn
returns-clause-drawn c = rw (← c.self.view_is) (count_first c.self.inside.next c.self.invariant ∙ ap Some (sym c.to_be_bytes-word.ensures), count_behind c.self.inside.next)
