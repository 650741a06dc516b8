use Rattle.std.proofs.Common.{subst}
use Rattle.std.specs.Prelude.{is_some}
use Rattle.request_text.specs.Places.{Goes, Steps}
use Rattle.request_text.specs.declared.state.State.TheVariants.{Behind}
use Rattle.request_text.proofs.LineSteps.{goes_nowhere, goes_on}
use Rattle.request_text.proofs.read.behind.Goals as goal

pub returns-in-Some : goal.returns-in-Some
returns-in-Some c =
    let h = subst (λ n. Steps (Goes n c.args.place c.args.word.now) c.in_ok-found.field-0) c.is_some.ensures c.in_ok-found.ensures in
    goes_on (is_some c.args.client) c.args.place c.args.word.now (Behind c.args.client) c.in_ok-found.field-0 c.in-Some.found h c.in-Some.is

pub returns-in-None : goal.returns-in-None
returns-in-None c =
    let h = subst (λ n. Steps (Goes n c.args.place c.args.word.now) c.in_ok-found.field-0) c.is_some.ensures c.in_ok-found.ensures in
    goes_nowhere (is_some c.args.client) c.args.place c.args.word.now (Behind c.args.client) c.in_ok-found.field-0 h c.in-None.is
