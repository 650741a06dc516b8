-- What is under way once a plan stands: what is to be done by it, and what became of it.
use Rattle.std.specs.Prelude.{◌≡◌, ℕ, Bool, true, false, not, ◌||◌, List, ◌++◌, Option, Some, None, if◌then◌else◌, is_some}
use Rattle.entry_tree.specs.declared.side.Side.{Side}
use Rattle.mode_rules.specs.declared.ancestor_line.AncestorLine.{AncestorLine}
use Rattle.mode_rules.specs.declared.conflict.Conflict.{Conflict}
use Rattle.mode_rules.specs.declared.problem.Problem.{Problem}
use Rattle.mode_rules.specs.declared.report.Outcome.{Outcome}
use Rattle.roots_api.specs.declared.answer.Answer.{Answer}
use Rattle.roots_api.specs.declared.op.Op.{Op}
use Rattle.stage_core.specs.Staging.{asked as staging_asked, op_of}
use Rattle.stage_core.specs.Told.{StagingTold, state_of, with_answer}
use Rattle.transition_plan.specs.Courses.{Course}
use Rattle.cycle_core.specs.Changing.{all_landed, all_problems, all_staged, answered}
use Rattle.entry_tree.specs.declared.side.Side.TheVariants.{Alpha, Beta}

-- The outcome so far, the plan's conflicts, the problems of the scans, the agreed lines, both stagings and whether each side was asked to clear for
-- one, and the course of each change, alpha's first.
pub record UnderWay : Type 0 where
  pub outcome : Outcome
  pub conflicts : List Conflict
  pub seen : List Problem
  pub agreed : List AncestorLine
  pub alpha : StagingTold
  pub beta : StagingTold
  pub alpha_asked : Bool
  pub beta_asked : Bool
  pub courses : List Course

-- ---- what it asks

-- what a staging asks next
abbrev pub next_of : StagingTold → Option (Side × Op)
next_of staging = staging_asked staging.side (state_of staging)

-- the first of two, if there is one
abbrev pub first_of : {A : Type 0} → Option A → Option A → Option A
first_of None other = other
first_of (Some next) other = Some next

-- what both stagings ask next, alpha's first
abbrev pub stages_next : UnderWay → Option (Side × Op)
stages_next w = first_of (next_of w.alpha) (next_of w.beta)

-- whether the staging in course is alpha's
abbrev pub is_alpha_staged : UnderWay → Bool
is_alpha_staged w = is_some (next_of w.alpha)

-- the side that needs the files of the staging in course
abbrev pub IsNeeding : Side → UnderWay → Type 0
IsNeeding Alpha w = is_alpha_staged w ≡ true
IsNeeding Beta w = is_alpha_staged w ≡ false

-- the operation that the staging in course asks next
abbrev pub staging_op : UnderWay → Option Op
staging_op w = if is_alpha_staged w then op_of (state_of w.alpha) else op_of (state_of w.beta)

-- ---- what it comes to

-- all lines of the cycle's frame: the agreed ones, and then those of the operations that are done
abbrev pub lines_of : UnderWay → List AncestorLine
lines_of w = w.agreed ++ all_landed w.courses

-- the problems of the files that weren't staged, alpha's first
abbrev pub missing_of : UnderWay → List Problem
missing_of w = (state_of w.alpha).missing ++ (state_of w.beta).missing

-- all problems: those of the scans, of the files that weren't staged, and of the operations that weren't done
abbrev pub problems_of : UnderWay → List Problem
problems_of w = w.seen ++ (missing_of w ++ all_problems w.courses)

-- ---- what is made of it

abbrev pub with_outcome : UnderWay → Outcome → UnderWay
with_outcome w outcome = record {
  outcome = outcome;
  conflicts = w.conflicts;
  seen = w.seen;
  agreed = w.agreed;
  alpha = w.alpha;
  beta = w.beta;
  alpha_asked = w.alpha_asked;
  beta_asked = w.beta_asked;
  courses = w.courses;
}

abbrev pub with_courses : UnderWay → List Course → UnderWay
with_courses w courses = record {
  outcome = w.outcome;
  conflicts = w.conflicts;
  seen = w.seen;
  agreed = w.agreed;
  alpha = w.alpha;
  beta = w.beta;
  alpha_asked = w.alpha_asked;
  beta_asked = w.beta_asked;
  courses = courses;
}

-- what wasn't staged is known once the changes begin
abbrev pub with_staged : UnderWay → UnderWay
with_staged w = with_courses w (all_staged Beta (state_of w.beta).missing (all_staged Alpha (state_of w.alpha).missing w.courses))

-- an operation of a change is answered; none is want of memory
abbrev pub with_changed : UnderWay → Option (Answer (List ℕ)) → UnderWay
with_changed w answer = with_courses w (answered w.courses answer)

-- a request of the staging in course was made, the first of which asks its side to clear
abbrev pub with_asked : UnderWay → UnderWay
with_asked w = record {
  outcome = w.outcome;
  conflicts = w.conflicts;
  seen = w.seen;
  agreed = w.agreed;
  alpha = w.alpha;
  beta = w.beta;
  alpha_asked = w.alpha_asked || is_alpha_staged w;
  beta_asked = w.beta_asked || not (is_alpha_staged w);
  courses = w.courses;
}

-- and this is the answer
abbrev pub with_staging : UnderWay → Answer (List ℕ) → UnderWay
with_staging w answer = record {
  outcome = w.outcome;
  conflicts = w.conflicts;
  seen = w.seen;
  agreed = w.agreed;
  alpha = if is_alpha_staged w then with_answer w.alpha answer else w.alpha;
  beta = if is_alpha_staged w then w.beta else with_answer w.beta answer;
  alpha_asked = w.alpha_asked;
  beta_asked = w.beta_asked;
  courses = w.courses;
}
