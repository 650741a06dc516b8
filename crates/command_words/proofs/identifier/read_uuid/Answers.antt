use Rattle.command_words.proofs.Identifiers.{uuid_found, uuid_none, uuid_other}
use Rattle.command_words.proofs.identifier.read_uuid.Goals as goal

pub returns-in_default : goal.returns-in_default
returns-in_default c = uuid_none c.args.text.now (λ u. let told = c.in_default.ensures.ok.1 u in absurd (cc))

pub returns-then-is_uuid_of : goal.returns-then-is_uuid_of
returns-then-is_uuid_of c = uuid_found c.args.text.now c.as_u128-id.result c.as_u128-id.type_inv (c.is_uuid_of.ensures.0 c.if-is_uuid_of.true)

pub returns-else-is_uuid_of : goal.returns-else-is_uuid_of
returns-else-is_uuid_of c =
    uuid_other c.args.text.now c.in-Ok.uuid c.as_u128-id.result c.in-Ok.ensures.bytes c.as_u128-id.ensures
    (λ same. let told = c.is_uuid_of.ensures.1 same in let no = c.if-is_uuid_of.false in absurd (cc))
