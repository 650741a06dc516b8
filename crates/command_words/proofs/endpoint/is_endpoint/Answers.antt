use Rattle.std.proofs.Common.{◌≡◌, ◌↔◌, Bool, sym, subst, ◌∙◌, codes, List, ℕ}
use Rattle.std.specs.Prelude.{IsTrue}
use Rattle.std.proofs.lemmas.Slice.Eq.{bytes_eq-Decides}
use Rattle.command_words.specs.Endpoint.{IsEndpoint, IsHostAndPort}
use Rattle.command_words.proofs.Endpoints.{behind, in_front, scheme_has_no_colon}
use Rattle.command_words.proofs.endpoint.is_endpoint.Goals as goal

pub returns-else-eq : goal.returns-else-eq
returns-else-eq c =
    subst (λ (b : Bool). IsTrue b ↔ IsEndpoint c.args.word.now) (sym c.if-eq.false)
    (in_front 58 (λ (w : List ℕ). w ≡ codes "tcp") IsHostAndPort scheme_has_no_colon c.args.word.now c.in-Some.scheme.now c.in-Some.rest.now c.in-Some.ensures
    (λ is. let yes = c.eq.ensures ∙ (bytes_eq-Decides c.in-Some.scheme.now c.as_slice.result.now).1 (is ∙ sym c.as_slice.ensures) in let not = c.if-eq.false in absurd (cc)))

pub returns-then-eq : goal.returns-then-eq
returns-then-eq c =
    behind 58 (λ (w : List ℕ). w ≡ codes "tcp") IsHostAndPort scheme_has_no_colon c.args.word.now c.in-Some.scheme.now c.in-Some.rest.now c.is_host_and_port.result c.in-Some.ensures
    ((bytes_eq-Decides c.in-Some.scheme.now c.as_slice.result.now).0 (sym c.eq.ensures ∙ c.if-eq.true) ∙ c.as_slice.ensures) c.is_host_and_port.ensures
