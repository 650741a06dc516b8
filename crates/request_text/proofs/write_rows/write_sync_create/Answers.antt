use Rattle.std.proofs.Common.{codes, rules, ◌≡◌, ◌++◌, ◌∷◌, []}
use Rattle.std.specs.Prelude.{string_bytes}
use Rattle.std.proofs.lemmas.Result.{on_ok_weaker}
use Rattle.line_words.specs.Spelling.{written}
use Rattle.command_words.specs.Piece.{next_words}
use Rattle.request_text.specs.Settings.{setting_words, sync_settings}
use Rattle.request_text.proofs.Writing.{create_written}
use Rattle.request_text.proofs.write_rows.write_sync_create.Goals as goal

pub returns : goal.returns
returns c =
    let old = string_bytes c.args.text.now in
    let start = string_bytes c.write_line.new.text in
    let given = string_bytes c.write_sync_settings.new.text in
    let settings = setting_words (sync_settings c.args.create.now) in
    let begun : start ≡ old ++ written (codes "sync" ∷ codes "create" ∷ []) = search rules in
    let set : given ≡ start ++ next_words settings = search rules in
    on_ok_weaker c.write_pieces.result (λ ended. create_written old start given (string_bytes c.write_pieces.new.text) (codes "sync") (codes "create") settings c.as_str.result.now c.as_str-2.result.now
    c.args.create.now.alpha c.args.create.now.beta begun set c.as_str.ensures.value c.as_str-2.ensures.value ended) c.write_pieces.ensures
