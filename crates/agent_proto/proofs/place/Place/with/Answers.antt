use Rattle.std.proofs.Common.{sym, subst}
use Rattle.agent_proto.specs.Places.{IsReached, IsNext}
use Rattle.agent_proto.proofs.Follows.{field_left}
use Rattle.agent_proto.proofs.StepLaws.{step_ok}
use Rattle.agent_proto.proofs.place.Place.with.Goals as goal

pub overflow_sub-left-in-Field : goal.overflow_sub-left-in-Field
overflow_sub-left-in-Field c =
    let reached = subst IsReached c.in-Field.is c.requires in
    field_left c.in-Field.field c.in-Field.behind c.in-Field.left reached

pub in_field-requires-clause-place : goal.in_field-requires-clause-place
in_field-requires-clause-place c =
    let reached = subst IsReached c.in-Field.is c.requires in
    subst IsNext (sym c.with.ensures) (step_ok c.in-Field.field c.args.byte reached.0)
