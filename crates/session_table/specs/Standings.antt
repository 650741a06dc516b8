-- How commands and cycles change a session's standing.
use Rattle.std.specs.Prelude.{ℕ, ◌+◌, ◌-◌, ◌^◌, min, Bool, cond, Option, Some, None}
use Rattle.mode_rules.specs.declared.halt.Halt.{Halt}
use Rattle.mode_rules.specs.declared.report.Outcome.{Outcome}
use Rattle.mode_rules.specs.declared.report.Outcome.TheVariants.{Halted}
use Rattle.mode_rules.specs.declared.report.CycleReport.{CycleReport}
use Rattle.session_control.specs.declared.standing.Standing.{Standing}
use Rattle.session_control.specs.declared.standing.Wish.TheVariants.{Run, Paused}
use Rattle.session_table.specs.Creates.{is_paused}
use Rattle.session_table.specs.declared.change.Change.{Change}
use Rattle.session_table.specs.declared.change.Change.TheVariants as changes
use Rattle.session_table.specs.declared.create.Create.{Create}
use Rattle.session_table.specs.declared.session.Session.{Session}

-- the number behind this one; the last number of 64 bits stays
abbrev pub after : ℕ → ℕ
after n = min (n + 1) (2 ^ 64 - 1)

-- a new session has begun, finished and reset nothing, and one cycle is wanted
abbrev pub new_standing : Bool → Standing
new_standing paused = record { wish = cond paused Paused Run; begun = 0; finished = 0; wanted = 1; resets = 0; halted = None }

abbrev pub new_session : ℕ → Create → Session
new_session id create = record { row = record { id = id; create = create }; standing = new_standing (is_paused create); report = None }

-- a flush wants a whole new cycle
abbrev pub flushed : Standing → Standing
flushed s = record { wish = s.wish; begun = s.begun; finished = s.finished; wanted = after s.begun; resets = s.resets; halted = s.halted }

abbrev pub paused : Standing → Standing
paused s = record { wish = Paused; begun = s.begun; finished = s.finished; wanted = s.wanted; resets = s.resets; halted = s.halted }

-- a resume takes a halt away, and wants a whole new cycle
abbrev pub resumed : Standing → Standing
resumed s = record { wish = Run; begun = s.begun; finished = s.finished; wanted = after s.begun; resets = s.resets; halted = None }

-- a reset is counted, takes a halt away, and wants a whole new cycle
abbrev pub reset : Standing → Standing
reset s = record { wish = s.wish; begun = s.begun; finished = s.finished; wanted = after s.begun; resets = after s.resets; halted = None }

-- the cycle behind the last that finished is in course
abbrev pub begun : Standing → Standing
begun s = record { wish = s.wish; begun = after s.finished; finished = s.finished; wanted = s.wanted; resets = s.resets; halted = s.halted }

-- a cycle that halts says why, and any other leaves what was
abbrev pub halt_after : Outcome → Option Halt → Option Halt
halt_after (Halted halt) was = Some halt
halt_after _ was = was

-- the cycle in course has ended so
abbrev pub ended : Outcome → Standing → Standing
ended outcome s =
    record { wish = s.wish; begun = s.begun; finished = s.begun; wanted = s.wanted; resets = s.resets; halted = halt_after outcome s.halted }

abbrev pub with_standing : (Standing → Standing) → Session → Session
with_standing change s = record { row = s.row; standing = change s.standing; report = s.report }

-- a session whose cycle in course has ended with this report
abbrev pub with_report : CycleReport → Session → Session
with_report report s = record { row = s.row; standing = ended report.outcome s.standing; report = Some report }

-- what a change makes of a standing
abbrev pub change_by : Change → Standing → Standing
change_by changes.Flush s = flushed s
change_by changes.Pause s = paused s
change_by changes.Resume s = resumed s
change_by changes.Reset s = reset s
change_by changes.Begin s = begun s
