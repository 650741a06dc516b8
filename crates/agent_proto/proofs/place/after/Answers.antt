use Rattle.std.proofs.Common.{sym, subst, ◌∙◌}
use Rattle.agent_proto.proofs.PlaceLaws.{IsNextField, next_ok}
use Rattle.agent_proto.proofs.place.after.Goals as goal

pub start-requires-clause-place : goal.start-requires-clause-place
start-requires-clause-place c =
    (subst IsNextField (sym c.next_field.ensures ∙ c.in-Some.is) (next_ok c.args.behind c.requires)).0
