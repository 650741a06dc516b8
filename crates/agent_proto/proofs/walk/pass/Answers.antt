use Rattle.std.proofs.Common.{◌≡◌, ◌<◌, subst, ◌∙◌, ap, arith}
use Rattle.agent_proto.specs.declared.place.Place.TheVariants.{Field}
use Rattle.agent_proto.specs.Places.{IsReached}
use Rattle.agent_proto.specs.declared.field_place.FieldPlace.TheVariants.{Any}
use Rattle.agent_proto.proofs.Passing.{passes_some}
use Rattle.agent_proto.proofs.walk.pass.Goals as goal

pub returns-in-Field-Any-default-default : goal.returns-in-Field-Any-default-default
returns-in-Field-Any-default-default c =
    let count = c.in-Field-Any-default-default.count in
    let b = c.in-Field-Any-default-default.behind in
    let left = c.in-Field-Any-default-default.left in
    let field_is = rw c.in-Field-Any-default-default.is at c.in-Field-Any-default-default.field-0-is in
    let place_is : c.args.place ≡ Field (Any count) b left = c.in-Field-Any-default-default.is ∙ ap (λ f. Field f b left) field_is in
    let reached = subst IsReached place_is c.requires in
    let few : c.min-passed.result < count = omega (arith, c.min-passed.ensures, reached.0.0) in
    rw place_is (passes_some count b left c.args.most c.min-passed.result few (omega (arith, c.min-passed.ensures)) reached)
