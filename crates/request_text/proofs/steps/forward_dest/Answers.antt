use Rattle.std.proofs.Common.{ℕ, List}
use Rattle.request_text.specs.Given.{forward_create}
use Rattle.request_text.specs.Places.{IsEndpointOf}
use Rattle.request_text.specs.declared.place.Place.TheVariants as at
use Rattle.request_text.specs.declared.request.Request.TheVariants as requests
use Rattle.request_text.proofs.Leading.{found_at, not_found}
use Rattle.request_text.proofs.steps.forward_dest.Goals as goal

pub returns-in-Some : goal.returns-in-Some
returns-in-Some c = rw c.forward_create.ensures (found_at {V = List ℕ} c.in_ok-found.field-0 (IsEndpointOf c.args.word.now) (λ dest. at.Done (requests.ForwardCreate (forward_create c.args.given c.args.source dest))) c.in-Some.found c.in_ok-found.ensures c.in-Some.is)

pub returns-in-None : goal.returns-in-None
returns-in-None c = not_found {V = List ℕ} c.in_ok-found.field-0 (IsEndpointOf c.args.word.now) (λ dest. at.Done (requests.ForwardCreate (forward_create c.args.given c.args.source dest))) c.in_ok-found.ensures c.in-None.is
