use Rattle.request_text.specs.Places.{IsForwardOption}
use Rattle.request_text.specs.declared.options.ForwardOptions.{ForwardOptions}
use Rattle.request_text.specs.declared.place.Place.TheVariants as at
use Rattle.request_text.proofs.Leading.{found_at, not_found}
use Rattle.request_text.proofs.advance.forward_option.Goals as goal

pub returns-in-Some : goal.returns-in-Some
returns-in-Some c = found_at {V = ForwardOptions} c.in_ok-found.field-0 (IsForwardOption c.args.given c.args.word.now) at.ForwardCreate c.in-Some.found c.in_ok-found.ensures c.in-Some.is

pub returns-in-None : goal.returns-in-None
returns-in-None c = not_found {V = ForwardOptions} c.in_ok-found.field-0 (IsForwardOption c.args.given c.args.word.now) at.ForwardCreate c.in_ok-found.ensures c.in-None.is
