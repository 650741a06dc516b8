-- Replies as lines of words.
use Rattle.std.proofs.Common.{◌≡◌, ℕ, List, [], ◌∷◌, ◌++◌, codes, length, map, refl, sym, ap, ap₂, ◌∙◌, append_assoc}
use Rattle.std.specs.Fmt.{decimal}
use Rattle.std.specs.List.{flat_map}
use Rattle.std.proofs.lemmas.Grind.{flat_map-append}
use Rattle.std.proofs.lemmas.List.Folds.{flat_map-map}
use Rattle.line_words.specs.Spelling.{space}
use Rattle.command_words.specs.Identifier.{identifier_word}
use Rattle.command_words.specs.Piece.{next_words}
use Rattle.reply_text.specs.Listed.{listed_line, listed_words}
use Rattle.reply_text.specs.Lines.{detail_line, newline, ok_line}
use Rattle.reply_text.specs.Replies.{reply_bytes, rows_of_report}
use Rattle.reply_text.specs.Reports.{conflict_line, conflict_words, problem_line, problem_words, report_words}
use Rattle.reply_text.specs.Rows.{forward_line, forward_words, sync_line, sync_words}
use Rattle.reply_text.specs.declared.listed.Listed.{Listed}
use Rattle.reply_text.specs.declared.conflict_row.ConflictRow.{ConflictRow}
use Rattle.reply_text.specs.declared.forward_row.ForwardRow.{ForwardRow}
use Rattle.reply_text.specs.declared.report_rows.ReportRows.{ReportRows}
use Rattle.reply_text.specs.declared.sync_row.SyncRow.{SyncRow}
use Rattle.mode_rules.specs.declared.problem.Problem.{Problem}
use Rattle.reply_text.specs.declared.reply.Reply.{Reply}
use Rattle.reply_text.specs.declared.reply.Reply.TheVariants.{Edited, Shown, Ancestor, Stepped, Reached, Created, SyncList, ForwardList, Awaits, Flushed, Reported, Unreported, Paused, Resumed, Reset, Terminated, Opened, Wrote, Read, WriteClosed, Closed, Moved, Cut, Refused}
use Rattle.reply_laws.specs.Words.{detail_words, first_words, spelt, words_of_rows}
use Rattle.reply_laws.proofs.Lines.{spelt_told}

-- ---- the lines of rows

listed_lines : (rows : List Listed) → flat_map listed_line rows ≡ flat_map detail_line (map listed_words rows)
unfolding listed_line
listed_lines rows = sym (flat_map-map detail_line listed_words rows)

sync_lines : (rows : List SyncRow) → flat_map sync_line rows ≡ flat_map detail_line (map sync_words rows)
unfolding sync_line
sync_lines rows = sym (flat_map-map detail_line sync_words rows)

forward_lines : (rows : List ForwardRow) → flat_map forward_line rows ≡ flat_map detail_line (map forward_words rows)
unfolding forward_line
forward_lines rows = sym (flat_map-map detail_line forward_words rows)

conflict_lines : (rows : List ConflictRow) → flat_map conflict_line rows ≡ flat_map detail_line (map conflict_words rows)
unfolding conflict_line
conflict_lines rows = sym (flat_map-map detail_line conflict_words rows)

problem_lines : (rows : List Problem) → flat_map problem_line rows ≡ flat_map detail_line (map problem_words rows)
unfolding problem_line
problem_lines rows = sym (flat_map-map detail_line problem_words rows)

report_lines : (report : ReportRows) → rows_of_report report ≡ flat_map detail_line (words_of_rows report)
report_lines report =
    ap₂ (λ xs ys. xs ++ ys) (conflict_lines report.conflicts) (problem_lines report.problems)
    ∙ sym (flat_map-append detail_line (map conflict_words report.conflicts) (map problem_words report.problems))

-- ---- the lines of a reply

with_rows : (words : List (List ℕ)) (rows : List ℕ) (details : List (List (List ℕ))) → rows ≡ flat_map detail_line details
    → space ∷ (ok_line words ++ rows) ≡ spelt (codes "ok" ∷ words) details
with_rows words rows details e =
    ap (λ l. space ∷ 111 ∷ 107 ∷ l) (append_assoc (next_words words) (newline ∷ []) rows ∙ ap (λ l. next_words words ++ newline ∷ l) e)

pub are_lines : (reply : Reply) → space ∷ reply_bytes reply ≡ spelt (first_words reply) (detail_words reply)
are_lines Edited = refl
are_lines (Shown root entries) = with_rows (codes "show" ∷ root ∷ decimal (length entries) ∷ []) (flat_map listed_line entries) (map listed_words entries) (listed_lines entries)
are_lines (Ancestor identifier entries) =
    with_rows (codes "ancestor" ∷ identifier_word identifier ∷ decimal (length entries) ∷ []) (flat_map listed_line entries) (map listed_words entries) (listed_lines entries)
are_lines (Stepped phase) = refl
are_lines (Reached phase) = refl
are_lines (Created identifier) = refl
are_lines (SyncList rows) = with_rows (codes "list" ∷ decimal (length rows) ∷ []) (flat_map sync_line rows) (map sync_words rows) (sync_lines rows)
are_lines (ForwardList rows) = with_rows (codes "list" ∷ decimal (length rows) ∷ []) (flat_map forward_line rows) (map forward_words rows) (forward_lines rows)
are_lines (Awaits identifier cycle) = refl
are_lines (Flushed identifier report) = with_rows (codes "flush" ∷ report_words identifier report) (rows_of_report report) (words_of_rows report) (report_lines report)
are_lines (Reported identifier report) = with_rows (codes "report" ∷ report_words identifier report) (rows_of_report report) (words_of_rows report) (report_lines report)
are_lines (Unreported identifier) = refl
are_lines (Paused identifier) = refl
are_lines (Resumed identifier) = refl
are_lines (Reset identifier) = refl
are_lines (Terminated identifier) = refl
are_lines (Opened stream) = refl
are_lines (Wrote count) = refl
are_lines (Read read) = refl
are_lines WriteClosed = refl
are_lines Closed = refl
are_lines (Moved count) = refl
are_lines Cut = refl
are_lines (Refused refusal) = refl

pub same_words : (reply other : Reply) → reply_bytes reply ≡ reply_bytes other → (first_words reply ≡ first_words other) × (detail_words reply ≡ detail_words other)
same_words reply other e =
    spelt_told (first_words reply) (first_words other) (detail_words reply) (detail_words other)
    (sym (are_lines reply) ∙ ap (λ l. space ∷ l) e ∙ are_lines other)
