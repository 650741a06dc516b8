-- The bytes of replies, a row for each row of the table in docs/FORMATS.md.
use Rattle.std.specs.Prelude.{ℕ, List, [], ◌∷◌, ◌++◌, codes, length}
use Rattle.std.specs.Fmt.{decimal}
use Rattle.std.specs.List.{flat_map}
use Rattle.command_words.specs.Contents.{contents_word}
use Rattle.command_words.specs.Identifier.{identifier_word}
use Rattle.command_words.specs.Keywords.{phase_word}
use Rattle.reply_text.specs.Listed.{listed_line}
use Rattle.reply_text.specs.Lines.{ok_line}
use Rattle.reply_text.specs.Refusals.{refusal_line}
use Rattle.reply_text.specs.Reports.{conflict_line, problem_line, report_words}
use Rattle.reply_text.specs.Rows.{forward_line, sync_line}
use Rattle.reply_text.specs.declared.report_rows.ReportRows.{ReportRows}
use Rattle.reply_text.specs.declared.reply.Reply.{Reply}
use Rattle.reply_text.specs.declared.reply.Reply.TheVariants.{Edited, Shown, Ancestor, Stepped, Reached, Created, SyncList, ForwardList, Awaits, Flushed, Reported, Unreported, Paused, Resumed, Reset, Terminated, Opened, Wrote, Read, WriteClosed, Closed, Moved, Cut, Refused}
use Rattle.reply_text.specs.declared.stream_read.StreamRead.{StreamRead}
use Rattle.reply_text.specs.declared.stream_read.StreamRead.TheVariants.{Got, Empty, End, Broken}

-- what a read of a stream gives: the number of bytes and the bytes, or why there are none
abbrev pub read_words : StreamRead → List (List ℕ)
read_words (Got bytes) = decimal (length bytes) ∷ contents_word bytes ∷ []
read_words Empty = codes "empty" ∷ []
read_words End = codes "end" ∷ []
read_words Broken = codes "broken" ∷ []

-- the line of a read
abbrev pub read_line : StreamRead → List ℕ
read_line read = ok_line (codes "read" ∷ read_words read)

-- the lines of the conflicts and problems of a report
abbrev pub rows_of_report : ReportRows → List ℕ
rows_of_report report = flat_map conflict_line report.conflicts ++ flat_map problem_line report.problems

-- the bytes of a reply: its lines, each with the LF that ends it
abbrev pub reply_bytes : Reply → List ℕ
reply_bytes Edited = ok_line (codes "edit" ∷ [])
reply_bytes (Shown root entries) = ok_line (codes "show" ∷ root ∷ decimal (length entries) ∷ []) ++ flat_map listed_line entries
reply_bytes (Ancestor identifier entries) = ok_line (codes "ancestor" ∷ identifier_word identifier ∷ decimal (length entries) ∷ []) ++ flat_map listed_line entries
reply_bytes (Stepped phase) = ok_line (codes "step" ∷ phase_word phase ∷ [])
reply_bytes (Reached phase) = ok_line (codes "until" ∷ phase_word phase ∷ [])
reply_bytes (Created identifier) = ok_line (codes "create" ∷ identifier_word identifier ∷ [])
reply_bytes (SyncList rows) = ok_line (codes "list" ∷ decimal (length rows) ∷ []) ++ flat_map sync_line rows
reply_bytes (ForwardList rows) = ok_line (codes "list" ∷ decimal (length rows) ∷ []) ++ flat_map forward_line rows
reply_bytes (Awaits identifier cycle) = ok_line (codes "awaits" ∷ identifier_word identifier ∷ codes "cycle" ∷ decimal cycle ∷ [])
reply_bytes (Flushed identifier report) = ok_line (codes "flush" ∷ report_words identifier report) ++ rows_of_report report
reply_bytes (Reported identifier report) = ok_line (codes "report" ∷ report_words identifier report) ++ rows_of_report report
reply_bytes (Unreported identifier) = ok_line (codes "report" ∷ identifier_word identifier ∷ codes "none" ∷ [])
reply_bytes (Paused identifier) = ok_line (codes "pause" ∷ identifier_word identifier ∷ [])
reply_bytes (Resumed identifier) = ok_line (codes "resume" ∷ identifier_word identifier ∷ [])
reply_bytes (Reset identifier) = ok_line (codes "reset" ∷ identifier_word identifier ∷ [])
reply_bytes (Terminated identifier) = ok_line (codes "terminate" ∷ identifier_word identifier ∷ [])
reply_bytes (Opened stream) = ok_line (codes "opened" ∷ decimal stream ∷ [])
reply_bytes (Wrote count) = ok_line (codes "wrote" ∷ decimal count ∷ [])
reply_bytes (Read read) = read_line read
reply_bytes WriteClosed = ok_line (codes "close-write" ∷ [])
reply_bytes Closed = ok_line (codes "close" ∷ [])
reply_bytes (Moved count) = ok_line (codes "moved" ∷ decimal count ∷ [])
reply_bytes Cut = ok_line (codes "cut" ∷ [])
reply_bytes (Refused refusal) = refusal_line refusal
