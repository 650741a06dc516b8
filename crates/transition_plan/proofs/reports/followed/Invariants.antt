use Rattle.std.proofs.Common.{◌≡◌, drop}
use Rattle.std.specs.List.{find}
use Rattle.transition_plan.specs.Resting.{rests_on}
use Rattle.transition_plan.specs.declared.undone.Undone.{Undone}
use Rattle.transition_plan.proofs.reports.followed.Given as goal

-- what is to come has the first of all
abbrev pub invariant-all : goal.invariant-all
invariant-all l = find (λ (first : Undone). rests_on l.skipped.op first.op) (drop l.first-index l.undone) ≡ find (λ (first : Undone). rests_on l.skipped.op first.op) l.undone
