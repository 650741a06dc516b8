-- What the types of a reply keep of it.
use Rattle.std.specs.Prelude.{ℕ, ◌<◌, ◌^◌, ◌⊎◌, ◌≡◌, List, [], Option, Some, None}
use Rattle.std.specs.List.{AllByRecursion}
use Rattle.line_words.specs.Lines.{AreBytes}
use Rattle.sync_path.specs.Path.{IsPath}
use Rattle.entry_tree.specs.AtomText.{IsAtom}
use Rattle.entry_tree.specs.Digest.{IsDigest}
use Rattle.entry_tree.specs.declared.atom.Atom.{Atom}
use Rattle.command_words.specs.GivenName.{IsGivenName}
use Rattle.command_words.specs.Identifier.{IsIdentifier}
use Rattle.command_words.specs.Label.{IsLabel}
use Rattle.mode_rules.specs.declared.problem.Cause.{Cause}
use Rattle.mode_rules.specs.declared.problem.Cause.TheVariants.{DigestDiffers, Skipped}
use Rattle.mode_rules.specs.declared.problem.Problem.{Problem}
use Rattle.reply_text.specs.declared.conflict_row.ConflictRow.{ConflictRow}
use Rattle.reply_text.specs.declared.forward_row.ForwardRow.{ForwardRow}
use Rattle.reply_text.specs.declared.listed.Listed.{Listed}
use Rattle.reply_text.specs.declared.refusal.Refusal.{Refusal}
use Rattle.reply_text.specs.declared.refusal.Refusal.TheVariants.{BadPattern, EditRefused, LogFull, BytesFull, NameTaken, IdTaken, OldNumber, BadLine, StreamsFull, OldRun}
use Rattle.reply_text.specs.declared.reply.Reply.{Reply}
use Rattle.reply_text.specs.declared.reply.Reply.TheVariants.{Shown, Ancestor, Created, SyncList, ForwardList, Awaits, Flushed, Reported, Unreported, Paused, Resumed, Reset, Terminated, Opened, Wrote, Moved, Refused}
use Rattle.reply_text.specs.declared.report_rows.ReportRows.{ReportRows}
use Rattle.reply_text.specs.declared.sync_row.SyncRow.{SyncRow}

-- a number of at most 64 bits
abbrev pub IsNumber : ℕ → Type 0
IsNumber n = n < 2 ^ 64

abbrev pub IsListed : Listed → Type 0
IsListed listed = IsPath listed.path × IsAtom listed.atom

abbrev pub IsFound : Option Atom → Type 0
IsFound None = Unit {0}
IsFound (Some atom) = IsAtom atom

abbrev pub IsName : Option (List ℕ) → Type 0
IsName None = Unit {0}
IsName (Some name) = IsGivenName name

abbrev pub IsSyncRow : SyncRow → Type 0
IsSyncRow row =
    IsIdentifier row.identifier × IsName row.name × IsNumber row.cycles × IsNumber row.conflicts × IsNumber row.problems × AllByRecursion IsLabel row.labels

abbrev pub IsForwardRow : ForwardRow → Type 0
IsForwardRow row = IsIdentifier row.identifier × IsName row.name

abbrev pub IsConflictRow : ConflictRow → Type 0
IsConflictRow row = IsPath row.at × IsNumber row.alpha × IsNumber row.beta

abbrev pub IsCause : Cause → Type 0
IsCause (DigestDiffers wanted got) = IsDigest wanted × AreBytes wanted × IsDigest got × AreBytes got
IsCause (Skipped path) = IsPath path
IsCause _ = Unit {0}

abbrev pub IsProblem : Problem → Type 0
IsProblem problem = IsPath problem.path × IsCause problem.cause

abbrev pub IsReport : ReportRows → Type 0
IsReport report = IsNumber report.cycle × AllByRecursion IsConflictRow report.conflicts × AllByRecursion IsProblem report.problems

abbrev pub IsRefusal : Refusal → Type 0
IsRefusal (BadPattern index place) = IsNumber index × IsNumber place
IsRefusal (EditRefused path found) = IsPath path × IsFound found
IsRefusal (LogFull size) = IsNumber size
IsRefusal (BytesFull bytes) = IsNumber bytes
IsRefusal (NameTaken identifier) = IsIdentifier identifier
IsRefusal (IdTaken identifier) = IsIdentifier identifier
IsRefusal (OldNumber last) = IsNumber last
IsRefusal (BadLine place) = IsNumber place
IsRefusal (StreamsFull live) = IsNumber live
IsRefusal (OldRun run) = IsNumber run
IsRefusal _ = Unit {0}

abbrev pub IsReply : Reply → Type 0
IsReply (Shown root entries) = AllByRecursion IsListed entries
IsReply (Ancestor identifier entries) = IsIdentifier identifier × AllByRecursion IsListed entries
IsReply (Created identifier) = IsIdentifier identifier
IsReply (SyncList rows) = AllByRecursion IsSyncRow rows
IsReply (ForwardList rows) = AllByRecursion IsForwardRow rows
IsReply (Awaits identifier cycle) = IsIdentifier identifier × IsNumber cycle
IsReply (Flushed identifier report) = IsIdentifier identifier × IsReport report
IsReply (Reported identifier report) = IsIdentifier identifier × IsReport report
IsReply (Unreported identifier) = IsIdentifier identifier
IsReply (Paused identifier) = IsIdentifier identifier
IsReply (Resumed identifier) = IsIdentifier identifier
IsReply (Reset identifier) = IsIdentifier identifier
IsReply (Terminated identifier) = IsIdentifier identifier
IsReply (Opened stream) = IsNumber stream
IsReply (Wrote count) = IsNumber count
IsReply (Moved count) = IsNumber count
IsReply (Refused refusal) = IsRefusal refusal
IsReply _ = Unit {0}

-- a list of no sessions; whether it lists those of one kind or of the other, its line doesn't say
abbrev pub IsEmptyList : Reply → Type 0
IsEmptyList (SyncList []) = Unit {0}
IsEmptyList (ForwardList []) = Unit {0}
IsEmptyList _ = ⊥

-- the same reply, or two lists of no sessions
abbrev pub IsSameReply : Reply → Reply → Type 0
IsSameReply reply other = (reply ≡ other) ⊎ (IsEmptyList reply × IsEmptyList other)
