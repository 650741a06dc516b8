use Rattle.std.proofs.Common.{◌≡◌, true, codes, rules, ℕ, List, false}
use Rattle.std.specs.Prelude.{nat_eq}
use Rattle.std.specs.List.{starts_with}
use Rattle.std.proofs.lemmas.Result.{IfOk-weaker}
use Rattle.request_text.specs.Places.{IsEndpointOf, IsForwardOption, Via}
use Rattle.request_text.specs.declared.options.ForwardOptions.{ForwardOptions}
use Rattle.request_text.specs.declared.place.Place.TheVariants as at
use Rattle.request_text.proofs.Choices.{left_step, no_endpoint, no_option, right_step}
use Rattle.request_text.proofs.Leading.{found_at, not_found}
use Rattle.request_text.proofs.advance.forward_create_word.Goals as goal

pub returns-then-starts_with : goal.returns-then-starts_with
returns-then-starts_with c =
    let is : starts_with nat_eq c.args.word.now (codes "--") ≡ true = search rules in
    IfOk-weaker c.forward_option.result _ _ (λ found h. left_step found (Via {V = ForwardOptions} (IsForwardOption c.args.given c.args.word.now) at.ForwardCreate) (Via {V = List ℕ} (IsEndpointOf c.args.word.now) (at.ForwardSource c.args.given)) h
    (λ t r. no_endpoint c.args.word.now r.value is r.is)) c.forward_option.ensures

pub returns-in-Some : goal.returns-in-Some
returns-in-Some c =
    let is : starts_with nat_eq c.args.word.now (codes "--") ≡ false = search rules in
    right_step _ (Via {V = ForwardOptions} (IsForwardOption c.args.given c.args.word.now) at.ForwardCreate) (Via {V = List ℕ} (IsEndpointOf c.args.word.now) (at.ForwardSource c.args.given))
    (found_at {V = List ℕ} c.in_ok-found.field-0 (IsEndpointOf c.args.word.now) (at.ForwardSource c.args.given) c.in-Some.found c.in_ok-found.ensures c.in-Some.is)
    (λ t o. no_option c.args.word.now o.is.setting is o.is.is)

pub returns-in-None : goal.returns-in-None
returns-in-None c =
    let is : starts_with nat_eq c.args.word.now (codes "--") ≡ false = search rules in
    right_step _ (Via {V = ForwardOptions} (IsForwardOption c.args.given c.args.word.now) at.ForwardCreate) (Via {V = List ℕ} (IsEndpointOf c.args.word.now) (at.ForwardSource c.args.given))
    (not_found {V = List ℕ} c.in_ok-found.field-0 (IsEndpointOf c.args.word.now) (at.ForwardSource c.args.given) c.in_ok-found.ensures c.in-None.is)
    (λ t o. no_option c.args.word.now o.is.setting is o.is.is)
