use Rattle.std.proofs.Common.{rules, ◌≡◌, ◌++◌}
use Rattle.std.specs.Prelude.{string_bytes}
use Rattle.std.proofs.lemmas.Result.{on_ok_weaker}
use Rattle.line_words.specs.Spelling.{escaped}
use Rattle.request_text.proofs.Writing.{line_of_pieces}
use Rattle.request_text.proofs.write_rows.write_line.Goals as goal

pub returns : goal.returns
returns c =
    let first : string_bytes c.write_word.new.text ≡ string_bytes c.args.text.now ++ escaped c.args.first.now = search rules in
    on_ok_weaker c.write_pieces.result (λ behind. line_of_pieces (string_bytes c.args.text.now) (string_bytes c.write_word.new.text) (string_bytes c.write_pieces.new.text) c.args.first.now c.args.behind.now first behind) c.write_pieces.ensures
