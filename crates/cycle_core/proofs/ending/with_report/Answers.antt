use Rattle.cycle_core.proofs.Rooms.{room_landed}
use Rattle.cycle_core.proofs.ending.with_report.Goals as goal

pub land-requires : goal.land-requires
land-requires c = room_landed c.work.inside.lines c.work.inside.changing c.work.invariant
