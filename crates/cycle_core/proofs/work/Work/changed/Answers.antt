use Rattle.std.proofs.Common.{sym, subst}
use Rattle.std.specs.Option.{option_copied}
use Rattle.cycle_core.specs.Rooms.{HasRoom}
use Rattle.cycle_core.proofs.Rooms.{room_answered}
use Rattle.cycle_core.proofs.work.Work.changed.Goals as goal

pub invariant_of-work : goal.invariant_of-work
invariant_of-work c =
    subst (HasRoom c.work.inside.lines) (sym c.take.ensures)
    (room_answered c.work.inside.lines c.work.inside.changing (option_copied c.args.answer) c.work.invariant)
