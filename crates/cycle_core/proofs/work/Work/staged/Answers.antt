use Rattle.std.proofs.Common.{sym, subst}
use Rattle.entry_tree.specs.declared.side.Side.TheVariants.{Alpha, Beta}
use Rattle.cycle_core.specs.Rooms.{HasRoom}
use Rattle.cycle_core.proofs.Rooms.{room_staged}
use Rattle.cycle_core.proofs.work.Work.staged.Goals as goal

pub invariant_of-work : goal.invariant_of-work
invariant_of-work c =
    subst (HasRoom c.work.inside.lines) (sym c.unstaged-2.ensures)
    (room_staged c.work.inside.lines c.unstaged.new.self Beta c.missing-2.result.now
    (subst (HasRoom c.work.inside.lines) (sym c.unstaged.ensures)
    (room_staged c.work.inside.lines c.work.inside.changing Alpha c.missing.result.now c.work.invariant)))
