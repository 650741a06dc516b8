use Rattle.std.proofs.Common.{◌∷◌, [], string_bytes}
use Rattle.std.proofs.lemmas.Result.{on_ok_weaker}
use Rattle.reply_text.specs.Lines.{newline}
use Rattle.reply_text.specs.Rows.{count_words, labels_words, state_words, sync_line, what_words}
use Rattle.reply_text.proofs.Joins.{detail_of_four}
use Rattle.reply_text.proofs.sync_row.write_sync_row.Goals as goal

pub returns : goal.returns
unfolding sync_line
returns c =
    on_ok_weaker c.end_line.result
    (λ last. detail_of_four (string_bytes c.args.text.now) (string_bytes c.begin_detail.new.text) (string_bytes c.write_what.new.text) (string_bytes c.write_state.new.text)
    (string_bytes c.write_counts.new.text) (string_bytes c.write_labels.new.text) (string_bytes c.end_line.new.text)
    (newline ∷ [])
    (what_words c.args.row.now) (state_words c.args.row.now.state) (count_words c.args.row.now) (labels_words c.args.row.now.labels)
    c.in_ok-begin_detail.ensures c.in_ok-write_what.ensures c.in_ok-write_state.ensures c.in_ok-write_counts.ensures (rw c.as_slice.ensures.value at c.in_ok-write_labels.ensures) last)
    c.end_line.ensures
