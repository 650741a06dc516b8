use Rattle.std.proofs.Common.{◌∷◌, [], string_bytes, length}
use Rattle.std.proofs.lemmas.Result.{on_ok_weaker}
use Rattle.std.specs.Fmt.{decimal}
use Rattle.std.specs.Prelude.{codes}
use Rattle.command_words.specs.Identifier.{identifier_word}
use Rattle.reply_text.specs.Lines.{newline}
use Rattle.reply_text.specs.Reports.{outcome_words}
use Rattle.reply_text.proofs.Joins.{three_lists}
use Rattle.reply_text.proofs.report_rows.write_first.Goals as goal

pub returns : goal.returns
returns c =
    on_ok_weaker c.write_words.result
    (λ last. three_lists (string_bytes c.args.text.now) (string_bytes c.write_pieces.new.text) (string_bytes c.write_outcome.new.text) (string_bytes c.write_words.new.text)
    (newline ∷ [])
    (identifier_word c.args.identifier ∷ codes "cycle" ∷ decimal c.args.report.now.cycle ∷ [])
    (outcome_words c.args.report.now.outcome)
    (codes "conflicts" ∷ decimal (length c.args.report.now.conflicts) ∷ codes "problems" ∷ decimal (length c.args.report.now.problems) ∷ [])
    c.in_ok-write_pieces.ensures c.in_ok-write_outcome.ensures (rw (c.len.ensures, c.len-2.ensures) at last))
    c.write_words.ensures
