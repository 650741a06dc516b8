-- The reports of cycles, and how they are spelt.
use Rattle.std.specs.Prelude.{ℕ, List, [], ◌∷◌, ◌++◌, codes, length, map}
use Rattle.std.specs.Fmt.{decimal}
use Rattle.hex.specs.Hex.{encode_lower}
use Rattle.entry_tree.specs.PathWord.{path_word}
use Rattle.command_words.specs.Identifier.{identifier_word}
use Rattle.command_words.specs.Keywords.{halt_word, side_word}
use Rattle.command_words.specs.declared.identifier.Identifier.{Identifier}
use Rattle.mode_rules.specs.declared.conflict.Conflict.{Conflict}
use Rattle.mode_rules.specs.declared.conflict.Reason.{Reason}
use Rattle.mode_rules.specs.declared.conflict.Reason.TheVariants.{Both, Blocked}
use Rattle.mode_rules.specs.declared.problem.Cause.{Cause}
use Rattle.mode_rules.specs.declared.problem.Cause.TheVariants as causes
use Rattle.mode_rules.specs.declared.problem.Problem.{Problem}
use Rattle.mode_rules.specs.declared.report.CycleReport.{CycleReport}
use Rattle.mode_rules.specs.declared.report.Outcome.{Outcome}
use Rattle.mode_rules.specs.declared.report.Outcome.TheVariants.{Done, Halted, Stopped, TooMany, Fault, RootFull, KeeperFault, NoMemory}
use Rattle.reply_text.specs.Lines.{detail_line}
use Rattle.reply_text.specs.declared.conflict_row.ConflictRow.{ConflictRow}
use Rattle.reply_text.specs.declared.report_rows.ReportRows.{ReportRows}

-- ---- what a reply tells of a report

-- of a conflict: where it is, why it is one, and at how many paths each side differs from the ancestor
abbrev pub conflict_row : Conflict → ConflictRow
conflict_row conflict = record { at = conflict.at; reason = conflict.reason; alpha = length conflict.alpha; beta = length conflict.beta }

-- of a report: the cycle, how it ended, its conflicts and its problems
abbrev pub report_rows : CycleReport → ReportRows
report_rows report = record { cycle = report.cycle; outcome = report.outcome; conflicts = map conflict_row report.conflicts; problems = report.problems }

-- ---- how it is spelt

-- how a cycle ended
abbrev pub outcome_words : Outcome → List (List ℕ)
outcome_words Done = codes "done" ∷ []
outcome_words (Halted halt) = codes "halted" ∷ halt_word halt ∷ []
outcome_words Stopped = codes "stopped" ∷ []
outcome_words (TooMany side) = codes "too-many" ∷ side_word side ∷ []
outcome_words (Fault side) = codes "fault" ∷ side_word side ∷ []
outcome_words (RootFull side) = codes "root-full" ∷ side_word side ∷ []
outcome_words KeeperFault = codes "keeper-fault" ∷ []
outcome_words NoMemory = codes "no-memory" ∷ []

-- why something is a conflict
abbrev pub reason_word : Reason → List ℕ
reason_word Both = codes "both"
reason_word Blocked = codes "blocked"

-- why something was not seen or not done
abbrev pub cause_words : Cause → List (List ℕ)
cause_words causes.Changed = codes "changed" ∷ []
cause_words causes.TooLarge = codes "too-large" ∷ []
cause_words causes.Failed = codes "failed" ∷ []
cause_words causes.Differs = codes "differs" ∷ []
cause_words causes.NotEmpty = codes "not-empty" ∷ []
cause_words causes.NoParent = codes "no-parent" ∷ []
cause_words causes.NoLink = codes "no-link" ∷ []
cause_words causes.NoExec = codes "no-exec" ∷ []
cause_words (causes.DigestDiffers wanted got) = codes "digest-differs" ∷ encode_lower wanted ∷ encode_lower got ∷ []
cause_words causes.NotStaged = codes "not-staged" ∷ []
cause_words causes.NoMemory = codes "no-memory" ∷ []
cause_words (causes.Skipped path) = codes "skipped" ∷ path_word path ∷ []

-- the words of a conflict: its path, its reason, and at how many paths each side differs from the ancestor
abbrev pub conflict_words : ConflictRow → List (List ℕ)
conflict_words row =
    codes "conflict" ∷ path_word row.at ∷ reason_word row.reason ∷ codes "alpha" ∷ decimal row.alpha ∷ codes "beta" ∷ decimal row.beta ∷ []

-- the line of a conflict
unfoldable pub conflict_line : ConflictRow → List ℕ
conflict_line row = detail_line (conflict_words row)

-- the words of a problem: its side, its path and its cause
abbrev pub problem_words : Problem → List (List ℕ)
problem_words problem = codes "problem" ∷ side_word problem.side ∷ path_word problem.path ∷ cause_words problem.cause

-- the line of a problem
unfoldable pub problem_line : Problem → List ℕ
problem_line problem = detail_line (problem_words problem)

-- the words behind `ok flush` and `ok report`: the session, the cycle, how it ended, and how many conflicts and problems there are
abbrev pub report_words : Identifier → ReportRows → List (List ℕ)
report_words identifier report =
    identifier_word identifier ∷ codes "cycle" ∷ decimal report.cycle ∷ (outcome_words report.outcome
    ++ (codes "conflicts" ∷ decimal (length report.conflicts) ∷ codes "problems" ∷ decimal (length report.problems) ∷ []))
