use Rattle.std.proofs.Common.{◌∷◌, [], string_bytes, length}
use Rattle.std.proofs.lemmas.Result.{on_ok_weaker}
use Rattle.std.specs.Fmt.{decimal}
use Rattle.std.specs.List.{flat_map}
use Rattle.std.specs.Prelude.{codes}
use Rattle.command_words.specs.Identifier.{identifier_word}
use Rattle.reply_text.specs.Listed.{listed_line}
use Rattle.reply_text.specs.Lines.{ok_line}
use Rattle.reply_text.proofs.Joins.{and_then}
use Rattle.reply_text.proofs.reply_lines.write_ancestor.Goals as goal

pub returns : goal.returns
returns c =
    on_ok_weaker c.write_listed.result
    (λ last. and_then (string_bytes c.args.text.now) (string_bytes c.write_ok.new.text) (string_bytes c.write_listed.new.text)
    (ok_line (codes "ancestor" ∷ identifier_word c.args.identifier ∷ decimal (length c.args.entries.now) ∷ []))
    (flat_map listed_line c.args.entries.now)
    c.in_ok-write_ok.ensures last)
    c.write_listed.ensures
