-- What a request asks.
use Rattle.cycle_core.specs.Going.{Asked, AsksOp, KeepsFrame}
use Rattle.cycle_core.specs.declared.request.Request.{Request}
use Rattle.cycle_core.specs.declared.request.Request.TheVariants.{Ask, Keep}

-- the request, as what is asked
abbrev pub asked_in : Request → Asked
asked_in (Ask side op) = AsksOp side op.now
asked_in (Keep frame) = KeepsFrame frame.now
