-- What the table answers to questions.
use Rattle.std.specs.Prelude.{ℕ, Bool, true, cond, ◌&&◌, ◌++◌, List, [], ◌∷◌, Option, Some, None, length, nat_eq, nat_lt, nat_le, bytes_eq}
use Rattle.std.specs.Map.{lookup}
use Rattle.std.specs.List.{list_any}
use Rattle.command_words.specs.declared.label.Label.{Label}
use Rattle.command_words.specs.declared.session_kind.SessionKind.TheVariants as kinds
use Rattle.mode_rules.specs.declared.halt.Halt.{Halt}
use Rattle.mode_rules.specs.declared.report.CycleReport.{CycleReport}
use Rattle.session_control.specs.Control.{is_paused}
use Rattle.session_control.specs.declared.standing.Standing.{Standing}
use Rattle.session_table.specs.Finding.{id_by}
use Rattle.session_table.specs.States.{Machine}
use Rattle.session_table.specs.declared.create.Create.TheVariants as creates
use Rattle.session_table.specs.declared.create.Create.{Create}
use Rattle.session_table.specs.declared.create.SyncCreate.{SyncCreate}
use Rattle.session_table.specs.declared.create.ForwardCreate.{ForwardCreate}
use Rattle.session_table.specs.declared.refusal.TableRefusal.TheVariants.{NoSession, OldRun}
use Rattle.session_table.specs.declared.reply.ForwardRow.{ForwardRow}
use Rattle.session_table.specs.declared.reply.SyncRow.{SyncRow}
use Rattle.session_table.specs.declared.reply.SyncState.{SyncState}
use Rattle.session_table.specs.declared.reply.SyncState.TheVariants.{Halted, Paused, Cycling, Due, Resting}
use Rattle.session_table.specs.declared.reply.TableReply.{TableReply}
use Rattle.session_table.specs.declared.reply.TableReply.TheVariants.{SyncList, ForwardList, Reported, Flushed, Pending, Refused}
use Rattle.session_table.specs.declared.request.TableQuery.{TableQuery}
use Rattle.session_table.specs.declared.request.TableQuery.TheVariants as queries
use Rattle.session_table.specs.declared.session.Session.{Session}

abbrev pub if_not_halted : Option Halt → SyncState → SyncState
if_not_halted None next = next
if_not_halted (Some halt) next = Halted halt

-- the state that is listed: the first that holds
abbrev pub state_of : Standing → SyncState
state_of s =
    if_not_halted s.halted
    (cond (is_paused s.wish) Paused (cond (nat_lt s.finished s.begun) Cycling (cond (nat_lt s.finished s.wanted) Due Resting)))

abbrev pub conflicts_in : Option CycleReport → ℕ
conflicts_in None = 0
conflicts_in (Some report) = length report.conflicts

abbrev pub problems_in : Option CycleReport → ℕ
problems_in None = 0
problems_in (Some report) = length report.problems

-- whether a session has the label, where one is asked for
abbrev pub has_label : Option Label → List Label → Bool
has_label None labels = true
has_label (Some label) labels = list_any (λ (l : Label). bytes_eq l.key label.key && bytes_eq l.value label.value) labels

abbrev pub sync_row : ℕ → SyncCreate → Session → SyncRow
sync_row id c s =
    record {
      id = id;
      name = c.name;
      mode = c.mode;
      alpha = c.alpha;
      beta = c.beta;
      state = state_of s.standing;
      cycles = s.standing.finished;
      conflicts = conflicts_in s.report;
      problems = problems_in s.report;
      labels = c.labels;
    }

abbrev pub rows_of : Option Label → ℕ → Create → Session → List SyncRow
rows_of label id (creates.Sync c) s = cond (has_label label c.labels) (sync_row id c s ∷ []) []
rows_of label id (creates.Forward c) s = []

-- the row of a session, if it keeps two roots the same, and has the label
abbrev pub rows_for : Option Label → ℕ → Session → List SyncRow
rows_for label id s = rows_of label id s.row.create s

-- the sessions that keep two roots the same, in order of creation, or those with the label
abbrev pub sync_rows : Option Label → List (ℕ × Session) → List SyncRow
sync_rows label [] = []
sync_rows label (e ∷ es) = rows_for label e.0 e.1 ++ sync_rows label es

abbrev pub forward_row : ℕ → ForwardCreate → Session → ForwardRow
forward_row id c s = record { id = id; name = c.name; source = c.source; dest = c.dest; wish = s.standing.wish }

abbrev pub forwards_of : ℕ → Create → Session → List ForwardRow
forwards_of id (creates.Sync c) s = []
forwards_of id (creates.Forward c) s = forward_row id c s ∷ []

-- the row of a session, if it carries streams
abbrev pub forward_for : ℕ → Session → List ForwardRow
forward_for id s = forwards_of id s.row.create s

-- the sessions that carry streams, in order of creation
abbrev pub forward_rows : List (ℕ × Session) → List ForwardRow
forward_rows [] = []
forward_rows (e ∷ es) = forward_for e.0 e.1 ++ forward_rows es

abbrev pub report_of : ℕ → Option Session → TableReply
report_of id None = Refused NoSession
report_of id (Some s) = Reported id s.report

abbrev pub report_reply : Option ℕ → List (ℕ × Session) → TableReply
report_reply None live = Refused NoSession
report_reply (Some id) live = report_of id (lookup (nat_eq id) live)

abbrev pub query_reply : TableQuery → Machine → TableReply
query_reply (queries.SyncList label) m = SyncList (sync_rows label m.live)
query_reply queries.ForwardList m = ForwardList (forward_rows m.live)
query_reply (queries.Report word) m = report_reply (id_by kinds.Sync word m.live) m.live

-- the last report, if there is one and as many cycles have finished
abbrev pub waited : ℕ → ℕ → ℕ → Option CycleReport → TableReply
waited id finished cycle None = Pending finished cycle
waited id finished cycle (Some report) = cond (nat_le cycle finished) (Flushed id report) (Pending finished cycle)

abbrev pub wait_on : ℕ → ℕ → ℕ → ℕ → Option Session → TableReply
wait_on id run cycle now None = Refused NoSession
wait_on id run cycle now (Some s) = cond (nat_eq run now) (waited id s.standing.finished cycle s.report) (Refused (OldRun now))

-- A wait is refused where the session isn't live, and where it awaits a cycle of another run.
abbrev pub wait_reply : ℕ → ℕ → ℕ → Machine → TableReply
wait_reply id run cycle m = wait_on id run cycle m.run (lookup (nat_eq id) m.live)
