use Rattle.std.proofs.Common.{◌≡◌, ◌++◌, take, string_bytes}
use Rattle.command_words.specs.Piece.{next_words}
use Rattle.reply_text.specs.Rows.{labels_words}
use Rattle.reply_text.proofs.sync_row.write_labels.Given as goal

-- what is written so far is that of the labels so far
abbrev pub invariant-loop-label : goal.invariant-loop-label
invariant-loop-label l = string_bytes l.text ≡ string_bytes l.fn.text ++ next_words (labels_words (take l.label-index l.labels))
