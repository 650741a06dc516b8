use Rattle.std.proofs.Common.{◌≡◌, ◌↔◌, ◌-◌, Bool, false, sym, subst, suc, arith, ℕ}
use Rattle.std.specs.Prelude.{IsTrue}
use Rattle.command_words.specs.Endpoint.{AreOctets, IsOctet}
use Rattle.command_words.proofs.Endpoints.{behind, in_front, octet_has_no_dot}
use Rattle.command_words.proofs.endpoint.+are_octets.Goals as goal

pub returns-then-is_octet : goal.returns-then-is_octet
returns-then-is_octet n c =
    let one : suc (c.args.more - 1) ≡ c.args.more = omega (arith, c.if-more-eq0.false) in
    subst (λ (m : ℕ). IsTrue c.are_octets.result ↔ AreOctets m c.args.word.now) one
    (behind 46 IsOctet (AreOctets (c.args.more - 1)) octet_has_no_dot c.args.word.now c.in-Some.first.now c.in-Some.rest.now c.are_octets.result c.in-Some.ensures
    (c.is_octet-in-Some.ensures.0 c.if-is_octet.true) c.are_octets.ensures)

pub returns-else-is_octet : goal.returns-else-is_octet
returns-else-is_octet n c =
    let one : suc (c.args.more - 1) ≡ c.args.more = omega (arith, c.if-more-eq0.false) in
    subst (λ (b : Bool). IsTrue b ↔ AreOctets c.args.more c.args.word.now) (sym c.if-is_octet.false)
    (subst (λ (m : ℕ). IsTrue false ↔ AreOctets m c.args.word.now) one
    (in_front 46 IsOctet (AreOctets (c.args.more - 1)) octet_has_no_dot c.args.word.now c.in-Some.first.now c.in-Some.rest.now c.in-Some.ensures
    (λ is. let yes = c.is_octet-in-Some.ensures.1 is in let not = c.if-is_octet.false in absurd (cc))))
