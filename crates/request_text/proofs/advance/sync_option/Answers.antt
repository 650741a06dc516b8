use Rattle.request_text.specs.Places.{IsSyncOption}
use Rattle.request_text.specs.declared.options.SyncOptions.{SyncOptions}
use Rattle.request_text.specs.declared.place.Place.TheVariants as at
use Rattle.request_text.proofs.Leading.{found_at, not_found}
use Rattle.request_text.proofs.advance.sync_option.Goals as goal

pub returns-in-Some : goal.returns-in-Some
returns-in-Some c = found_at {V = SyncOptions} c.in_ok-found.field-0 (IsSyncOption c.args.given c.args.word.now) at.SyncCreate c.in-Some.found c.in_ok-found.ensures c.in-Some.is

pub returns-in-None : goal.returns-in-None
returns-in-None c = not_found {V = SyncOptions} c.in_ok-found.field-0 (IsSyncOption c.args.given c.args.word.now) at.SyncCreate c.in_ok-found.ensures c.in-None.is
