-- The words that stand for modes, phases, halts, sides and switches.
use Rattle.std.specs.Prelude.{ℕ, Bool, true, false, cond, List, codes, bytes_eq, Option, Some, None}
use Rattle.command_words.specs.declared.stream_side.StreamSide.{StreamSide}
use Rattle.command_words.specs.declared.stream_side.StreamSide.TheVariants.{Near, Far}
use Rattle.entry_tree.specs.declared.side.Side.{Side}
use Rattle.entry_tree.specs.declared.side.Side.TheVariants.{Alpha, Beta}
use Rattle.mode_rules.specs.declared.halt.Halt.{Halt}
use Rattle.mode_rules.specs.declared.halt.Halt.TheVariants.{RootDeleted, RootTypeChanged, RootEmptied}
use Rattle.mode_rules.specs.declared.mode.Mode.{Mode}
use Rattle.mode_rules.specs.declared.mode.Mode.TheVariants.{TwoWaySafe, TwoWayResolved, OneWaySafe, OneWayReplica}
use Rattle.mode_rules.specs.declared.phase.Phase.{Phase}
use Rattle.mode_rules.specs.declared.phase.Phase.TheVariants.{Idle, Forget, ScanAlpha, ScanBeta, Stage, Change, Clear, Commit}

-- the word of a mode
abbrev pub mode_word : Mode → List ℕ
mode_word TwoWaySafe = codes "two-way-safe"
mode_word TwoWayResolved = codes "two-way-resolved"
mode_word OneWaySafe = codes "one-way-safe"
mode_word OneWayReplica = codes "one-way-replica"

-- the mode that a word stands for
abbrev pub mode_by : List ℕ → Option Mode
mode_by word =
    cond (bytes_eq word (codes "two-way-safe")) (Some TwoWaySafe)
    (cond (bytes_eq word (codes "two-way-resolved")) (Some TwoWayResolved)
    (cond (bytes_eq word (codes "one-way-safe")) (Some OneWaySafe)
    (cond (bytes_eq word (codes "one-way-replica")) (Some OneWayReplica) None)))

-- the word of a phase
abbrev pub phase_word : Phase → List ℕ
phase_word Idle = codes "idle"
phase_word Forget = codes "forget"
phase_word ScanAlpha = codes "scan-alpha"
phase_word ScanBeta = codes "scan-beta"
phase_word Stage = codes "stage"
phase_word Change = codes "change"
phase_word Clear = codes "clear"
phase_word Commit = codes "commit"

-- the phase that a word stands for
abbrev pub phase_by : List ℕ → Option Phase
phase_by word =
    cond (bytes_eq word (codes "idle")) (Some Idle)
    (cond (bytes_eq word (codes "forget")) (Some Forget)
    (cond (bytes_eq word (codes "scan-alpha")) (Some ScanAlpha)
    (cond (bytes_eq word (codes "scan-beta")) (Some ScanBeta)
    (cond (bytes_eq word (codes "stage")) (Some Stage)
    (cond (bytes_eq word (codes "change")) (Some Change)
    (cond (bytes_eq word (codes "clear")) (Some Clear)
    (cond (bytes_eq word (codes "commit")) (Some Commit) None)))))))

-- the word of a halt
abbrev pub halt_word : Halt → List ℕ
halt_word RootDeleted = codes "root-deleted"
halt_word RootTypeChanged = codes "root-type-changed"
halt_word RootEmptied = codes "root-emptied"

-- the word of a side of a session
abbrev pub side_word : Side → List ℕ
side_word Alpha = codes "alpha"
side_word Beta = codes "beta"

-- the word of an end of a stream
abbrev pub stream_side_word : StreamSide → List ℕ
stream_side_word Near = codes "near"
stream_side_word Far = codes "far"

-- the end of a stream that a word stands for
abbrev pub stream_side_by : List ℕ → Option StreamSide
stream_side_by word =
    cond (bytes_eq word (codes "near")) (Some Near)
    (cond (bytes_eq word (codes "far")) (Some Far) None)

-- the word of a switch
abbrev pub switch_word : Bool → List ℕ
switch_word true = codes "on"
switch_word false = codes "off"

-- whether a word switches on or off
abbrev pub switch_by : List ℕ → Option Bool
switch_by word =
    cond (bytes_eq word (codes "on")) (Some true)
    (cond (bytes_eq word (codes "off")) (Some false) None)
