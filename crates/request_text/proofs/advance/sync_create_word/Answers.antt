use Rattle.std.proofs.Common.{◌≡◌, true, codes, rules, ℕ, List}
use Rattle.std.specs.Prelude.{nat_eq}
use Rattle.std.specs.List.{starts_with}
use Rattle.std.proofs.lemmas.Result.{IfOk-weaker}
use Rattle.request_text.specs.Places.{IsRoot, IsSyncOption, Via}
use Rattle.request_text.specs.declared.options.SyncOptions.{SyncOptions}
use Rattle.request_text.specs.declared.place.Place.TheVariants as at
use Rattle.request_text.proofs.Choices.{left_step, no_root}
use Rattle.request_text.proofs.advance.sync_create_word.Goals as goal

pub returns-then-starts_with : goal.returns-then-starts_with
returns-then-starts_with c =
    let is : starts_with nat_eq c.args.word.now (codes "--") ≡ true = search rules in
    IfOk-weaker c.sync_option.result _ _ (λ found h. left_step found (Via {V = SyncOptions} (IsSyncOption c.args.given c.args.word.now) at.SyncCreate) (Via {V = List ℕ} (IsRoot c.args.word.now) (at.SyncAlpha c.args.given)) h
    (λ t r. no_root c.args.word.now r.value is r.is)) c.sync_option.ensures
