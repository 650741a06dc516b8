use Rattle.std.proofs.Common.{sym, ◌∙◌}
use Rattle.command_words.proofs.Identifiers.{identified, no_uuid}
use Rattle.command_words.proofs.identifier.Identifier.read.Goals as goal

pub returns-in_err-id : goal.returns-in_err-id
returns-in_err-id c =
    no_uuid c.args.word.now c.split_at.result.1.now c.from_residual-in_err-id.result c.from_residual-in_err-id.ensures c.split_at.ensures.back c.in_err-id.ensures

pub returns : goal.returns
returns c =
    identified c.args.word.now c.split_at.result.0.now c.split_at.result.1.now c.in_ok-kind.kind c.in_ok-id.id c.split_at.ensures.front c.split_at.ensures.back
    (sym c.kind_by.ensures ∙ c.in_ok-kind.was) c.in_ok-id.ensures
