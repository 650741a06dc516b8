-- The words of a reply's lines.
use Rattle.std.specs.Prelude.{ℕ, List, [], ◌∷◌, ◌++◌, codes, length, map}
use Rattle.std.specs.Fmt.{decimal}
use Rattle.std.specs.List.{flat_map}
use Rattle.command_words.specs.Identifier.{identifier_word}
use Rattle.command_words.specs.Keywords.{phase_word}
use Rattle.command_words.specs.Piece.{next_words}
use Rattle.reply_text.specs.Listed.{listed_words}
use Rattle.reply_text.specs.Lines.{detail_line, newline}
use Rattle.reply_text.specs.Refusals.{refusal_words}
use Rattle.reply_text.specs.Replies.{read_words}
use Rattle.reply_text.specs.Reports.{conflict_words, problem_words, report_words}
use Rattle.reply_text.specs.Rows.{forward_words, sync_words}
use Rattle.reply_text.specs.declared.report_rows.ReportRows.{ReportRows}
use Rattle.reply_text.specs.declared.reply.Reply.{Reply}
use Rattle.reply_text.specs.declared.reply.Reply.TheVariants.{Edited, Shown, Ancestor, Stepped, Reached, Created, SyncList, ForwardList, Awaits, Flushed, Reported, Unreported, Paused, Resumed, Reset, Terminated, Opened, Wrote, Read, WriteClosed, Closed, Moved, Cut, Refused}

-- the words of the first line
abbrev pub first_words : Reply → List (List ℕ)
first_words Edited = codes "ok" ∷ codes "edit" ∷ []
first_words (Shown root entries) = codes "ok" ∷ codes "show" ∷ root ∷ decimal (length entries) ∷ []
first_words (Ancestor identifier entries) = codes "ok" ∷ codes "ancestor" ∷ identifier_word identifier ∷ decimal (length entries) ∷ []
first_words (Stepped phase) = codes "ok" ∷ codes "step" ∷ phase_word phase ∷ []
first_words (Reached phase) = codes "ok" ∷ codes "until" ∷ phase_word phase ∷ []
first_words (Created identifier) = codes "ok" ∷ codes "create" ∷ identifier_word identifier ∷ []
first_words (SyncList rows) = codes "ok" ∷ codes "list" ∷ decimal (length rows) ∷ []
first_words (ForwardList rows) = codes "ok" ∷ codes "list" ∷ decimal (length rows) ∷ []
first_words (Awaits identifier cycle) = codes "ok" ∷ codes "awaits" ∷ identifier_word identifier ∷ codes "cycle" ∷ decimal cycle ∷ []
first_words (Flushed identifier report) = codes "ok" ∷ codes "flush" ∷ report_words identifier report
first_words (Reported identifier report) = codes "ok" ∷ codes "report" ∷ report_words identifier report
first_words (Unreported identifier) = codes "ok" ∷ codes "report" ∷ identifier_word identifier ∷ codes "none" ∷ []
first_words (Paused identifier) = codes "ok" ∷ codes "pause" ∷ identifier_word identifier ∷ []
first_words (Resumed identifier) = codes "ok" ∷ codes "resume" ∷ identifier_word identifier ∷ []
first_words (Reset identifier) = codes "ok" ∷ codes "reset" ∷ identifier_word identifier ∷ []
first_words (Terminated identifier) = codes "ok" ∷ codes "terminate" ∷ identifier_word identifier ∷ []
first_words (Opened stream) = codes "ok" ∷ codes "opened" ∷ decimal stream ∷ []
first_words (Wrote count) = codes "ok" ∷ codes "wrote" ∷ decimal count ∷ []
first_words (Read read) = codes "ok" ∷ codes "read" ∷ read_words read
first_words WriteClosed = codes "ok" ∷ codes "close-write" ∷ []
first_words Closed = codes "ok" ∷ codes "close" ∷ []
first_words (Moved count) = codes "ok" ∷ codes "moved" ∷ decimal count ∷ []
first_words Cut = codes "ok" ∷ codes "cut" ∷ []
first_words (Refused refusal) = codes "refused" ∷ refusal_words refusal

-- the words of the rows of a report
abbrev pub words_of_rows : ReportRows → List (List (List ℕ))
words_of_rows report = map conflict_words report.conflicts ++ map problem_words report.problems

-- the words of each line of detail
abbrev pub detail_words : Reply → List (List (List ℕ))
detail_words (Shown root entries) = map listed_words entries
detail_words (Ancestor identifier entries) = map listed_words entries
detail_words (SyncList rows) = map sync_words rows
detail_words (ForwardList rows) = map forward_words rows
detail_words (Flushed identifier report) = words_of_rows report
detail_words (Reported identifier report) = words_of_rows report
detail_words _ = []

-- a first line of these words, each behind a space, and lines of detail of these
abbrev pub spelt : List (List ℕ) → List (List (List ℕ)) → List ℕ
spelt first details = next_words first ++ newline ∷ flat_map detail_line details
