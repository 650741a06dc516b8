-- Tests of sameness of what a report holds.
use lib.Pointwise.{pointwise}
use Rattle.std.specs.Prelude.{Bool, true, false, ◌&&◌, List, [], ◌∷◌, bytes_eq, if◌then◌else◌}
use Rattle.std.specs.List.{list_any}
use Rattle.mode_rules.specs.Laws.{is_of}
use Rattle.mode_rules.specs.declared.conflict.Conflict.{Conflict}
use Rattle.mode_rules.specs.declared.conflict.Reason.{Reason}
use Rattle.mode_rules.specs.declared.conflict.Reason.TheVariants as reasons
use Rattle.mode_rules.specs.declared.halt.Halt.{Halt}
use Rattle.mode_rules.specs.declared.halt.Halt.TheVariants.{RootDeleted, RootTypeChanged, RootEmptied}
use Rattle.mode_rules.specs.declared.problem.Cause.{Cause}
use Rattle.mode_rules.specs.declared.problem.Cause.TheVariants.{Changed, TooLarge, Failed, Differs, NotEmpty, NoParent, NoLink, NoExec, DigestDiffers, NotStaged, NoMemory, Skipped}
use Rattle.mode_rules.specs.declared.problem.Problem.{Problem}
use Rattle.mode_rules.specs.declared.report.Outcome.{Outcome}
use Rattle.mode_rules.specs.declared.report.Outcome.TheVariants as outcome
use Rattle.scan_laws.specs.Seen.{same_path}

abbrev pub same_halt : Halt → Halt → Bool
same_halt RootDeleted RootDeleted = true
same_halt RootTypeChanged RootTypeChanged = true
same_halt RootEmptied RootEmptied = true
same_halt halt other = false

abbrev pub same_outcome : Outcome → Outcome → Bool
same_outcome outcome.Done outcome.Done = true
same_outcome (outcome.Halted x) (outcome.Halted y) = same_halt x y
same_outcome outcome.Stopped outcome.Stopped = true
same_outcome (outcome.TooMany x) (outcome.TooMany y) = is_of x y
same_outcome (outcome.Fault x) (outcome.Fault y) = is_of x y
same_outcome (outcome.RootFull x) (outcome.RootFull y) = is_of x y
same_outcome outcome.KeeperFault outcome.KeeperFault = true
same_outcome outcome.NoMemory outcome.NoMemory = true
same_outcome end other = false

abbrev pub same_reason : Reason → Reason → Bool
same_reason reasons.Both reasons.Both = true
same_reason reasons.Blocked reasons.Blocked = true
same_reason reason other = false

-- whether two conflicts are the same, with the paths at which each side differs
abbrev pub same_conflict : Conflict → Conflict → Bool
same_conflict x y = same_path x.at y.at && (same_reason x.reason y.reason && (pointwise same_path x.alpha y.alpha && pointwise same_path x.beta y.beta))

abbrev pub same_cause : Cause → Cause → Bool
same_cause Changed Changed = true
same_cause TooLarge TooLarge = true
same_cause Failed Failed = true
same_cause Differs Differs = true
same_cause NotEmpty NotEmpty = true
same_cause NoParent NoParent = true
same_cause NoLink NoLink = true
same_cause NoExec NoExec = true
same_cause (DigestDiffers wanted got) (DigestDiffers other other_got) = bytes_eq wanted other && bytes_eq got other_got
same_cause NotStaged NotStaged = true
same_cause NoMemory NoMemory = true
same_cause (Skipped p) (Skipped q) = same_path p q
same_cause why other = false

abbrev pub same_problem : Problem → Problem → Bool
same_problem x y = is_of x.side y.side && (same_path x.path y.path && same_cause x.cause y.cause)

-- whether a problem is one of these
abbrev pub is_among : List Problem → Problem → Bool
is_among problems problem = list_any (same_problem problem) problems

-- whether these problems stand among those, in the same order; some may be left out
abbrev pub is_part : List Problem → List Problem → Bool
is_part [] all = true
is_part (p ∷ ps) [] = false
is_part (p ∷ ps) (q ∷ qs) = if same_problem p q then is_part ps qs else is_part (p ∷ ps) qs
