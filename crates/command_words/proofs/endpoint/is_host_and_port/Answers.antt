use Rattle.std.proofs.Common.{◌↔◌, Bool, sym, subst}
use Rattle.std.specs.Prelude.{IsTrue}
use Rattle.command_words.specs.Endpoint.{IsHost, IsHostAndPort, IsPort}
use Rattle.command_words.proofs.Endpoints.{behind, host_has_no_colon, in_front}
use Rattle.command_words.proofs.endpoint.is_host_and_port.Goals as goal

pub returns-then-is_host : goal.returns-then-is_host
returns-then-is_host c =
    behind 58 IsHost IsPort host_has_no_colon c.args.word.now c.in-Some.host.now c.in-Some.port.now c.is_port.result c.in-Some.ensures (c.is_host.ensures.0 c.if-is_host.true) c.is_port.ensures

pub returns-else-is_host : goal.returns-else-is_host
returns-else-is_host c =
    subst (λ (b : Bool). IsTrue b ↔ IsHostAndPort c.args.word.now) (sym c.if-is_host.false)
    (in_front 58 IsHost IsPort host_has_no_colon c.args.word.now c.in-Some.host.now c.in-Some.port.now c.in-Some.ensures
    (λ is. let yes = c.is_host.ensures.1 is in let not = c.if-is_host.false in absurd (cc)))
