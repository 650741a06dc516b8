use Rattle.std.proofs.Common.{None, false}
use Rattle.request_text.specs.declared.place.Place.TheVariants as at
use Rattle.request_text.specs.declared.state.State.TheVariants.{Behind}
use Rattle.request_text.proofs.LineSteps.{goes_nowhere, goes_on}
use Rattle.request_text.proofs.read.unnamed.Goals as goal

pub returns-in-Some : goal.returns-in-Some
returns-in-Some c = goes_on false at.Begin c.args.word.now (Behind None) c.begin.result c.in-Some.found c.begin.ensures c.in-Some.is

pub returns-in-None : goal.returns-in-None
returns-in-None c = goes_nowhere false at.Begin c.args.word.now (Behind None) c.begin.result c.begin.ensures c.in-None.is
