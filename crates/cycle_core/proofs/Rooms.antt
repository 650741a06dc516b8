-- No step makes more lines possible: the room that was made is enough to the end.
use Rattle.std.proofs.Common.{◌≡◌, ◌≤◌, ◌+◌, ℕ, suc, Bool, true, false, List, [], ◌∷◌, ◌++◌, length, not, filter, Option, Some, None, arith, refl, ap, length-append}
use Rattle.std.specs.Prelude.{if◌then◌else◌}
use Rattle.std.specs.Global.{Vec}
use Rattle.std.specs.List.{list_any}
use Rattle.std.specs.Vec.{vec_capacity}
use Rattle.entry_tree.specs.Tree.{Names}
use Rattle.entry_tree.specs.declared.side.Side.{Side}
use Rattle.mode_rules.specs.Laws.{is_of}
use Rattle.mode_rules.specs.declared.ancestor_line.AncestorLine.{AncestorLine}
use Rattle.mode_rules.specs.declared.problem.Problem.{Problem}
use Rattle.roots_api.specs.declared.answer.Answer.{Answer}
use Rattle.transition_plan.specs.Courses.{Course, fate_of, is_blocked, is_unstaged, is_unstaged_at, met, not_done, settled, taken, without_unstaged}
use Rattle.transition_plan.specs.declared.fate.Fate.{Fate}
use Rattle.transition_plan.specs.declared.fate.Fate.TheVariants.{Landed, Ended, Missed}
use Rattle.transition_plan.specs.declared.step.Step.{Step}
use Rattle.transition_plan.specs.declared.undone.Undone.{Undone}
use Rattle.cycle_core.specs.Changing.{all_landed, all_staged, answered, is_over, staged_on}
use Rattle.cycle_core.specs.Rooms.{HasRoom, most_lines, most_of}

most_settled : (side : Side) (at : Names) (landed : List AncestorLine) (undone : List Undone) (steps : List Step)
    → most_lines (settled side at landed undone steps) ≤ length landed + length steps
most_settled side at landed undone [] = omega arith
most_settled side at landed undone (step ∷ rest) = go (is_blocked undone step.op) (most_settled side at landed (undone ++ not_done None step ∷ []) rest)
  where
    go : (b : Bool) → most_lines (settled side at landed (undone ++ not_done None step ∷ []) rest) ≤ length landed + length rest
        → most_lines (if b then settled side at landed (undone ++ not_done None step ∷ []) rest else
        record { side = side; at = at; rest = step ∷ rest; landed = landed; undone = undone }) ≤ length landed + suc (length rest)
    go true h = omega arith
    go false h = omega arith

most_met : (c : Course) (steps : List Step) (fate : Fate) → c.rest ≡ steps → most_lines (met c steps fate) ≤ length c.landed + length steps
most_met c [] fate e = omega (arith, ap length e)
most_met c (step ∷ rest) Landed e =
    omega (arith, most_settled c.side c.at (c.landed ++ step.line ∷ []) c.undone rest, length-append c.landed (step.line ∷ []))
most_met c (step ∷ rest) Ended e = omega arith
most_met c (step ∷ rest) (Missed why) e = omega (arith, most_settled c.side c.at c.landed (c.undone ++ not_done (Some why) step ∷ []) rest)

most_taken : (c : Course) (answer : Option (Answer (List ℕ))) → most_lines (taken c answer) ≤ most_lines c
most_taken c answer = most_met c c.rest (fate_of answer) refl

fewer : {A : Type 0} (p : A → Bool) (xs : List A) → length (filter p xs) ≤ length xs
fewer p [] = omega arith
fewer p (x ∷ xs) = go (p x) (fewer p xs)
  where
    go : (b : Bool) → length (filter p xs) ≤ length xs → length (if b then x ∷ filter p xs else filter p xs) ≤ suc (length xs)
    go true h = omega arith
    go false h = omega arith

most_unstaged : (c : Course) (missing : List Problem) → most_lines (without_unstaged c missing) ≤ most_lines c
most_unstaged c missing = go (list_any (is_unstaged_at missing c.at) c.rest) (fewer (λ (step : Step). not (is_unstaged missing step.op)) c.rest)
  where
    go : (b : Bool) → length (filter (λ (step : Step). not (is_unstaged missing step.op)) c.rest) ≤ length c.rest
        → length c.landed + length (if b then [] else filter (λ (step : Step). not (is_unstaged missing step.op)) c.rest) ≤ most_lines c
    go true h = omega arith
    go false h = omega arith

most_staged_on : (side : Side) (missing : List Problem) (c : Course) → most_lines (staged_on side missing c) ≤ most_lines c
most_staged_on side missing c = go (is_of side c.side) (most_unstaged c missing)
  where
    go : (b : Bool) → most_lines (without_unstaged c missing) ≤ most_lines c → most_lines (if b then without_unstaged c missing else c) ≤ most_lines c
    go true h = h
    go false h = omega arith

most_all_staged : (side : Side) (missing : List Problem) (courses : List Course) → most_of (all_staged side missing courses) ≤ most_of courses
most_all_staged side missing [] = omega arith
most_all_staged side missing (c ∷ courses) = omega (arith, most_staged_on side missing c, most_all_staged side missing courses)

most_answered : (courses : List Course) (answer : Option (Answer (List ℕ))) → most_of (answered courses answer) ≤ most_of courses
most_answered [] answer = omega arith
most_answered (c ∷ courses) answer = go (is_over c) (most_taken c answer) (most_answered courses answer)
  where
    go : (b : Bool) → most_lines (taken c answer) ≤ most_lines c → most_of (answered courses answer) ≤ most_of courses
        → most_of (if b then c ∷ answered courses answer else taken c answer ∷ courses) ≤ most_lines c + most_of courses
    go true one rest = omega arith
    go false one rest = omega arith

-- the lines that landed have room
pub landed_within : (courses : List Course) → length (all_landed courses) ≤ most_of courses
landed_within [] = omega arith
landed_within (c ∷ courses) = omega (arith, length-append c.landed (all_landed courses), landed_within courses)

pub room_landed : (lines : Vec AncestorLine) (courses : List Course) → HasRoom lines courses → length lines.items + length (all_landed courses) ≤ vec_capacity lines
room_landed lines courses room = omega (arith, room, landed_within courses)

-- there is still room once an operation is answered
pub room_answered : (lines : Vec AncestorLine) (courses : List Course) (answer : Option (Answer (List ℕ))) → HasRoom lines courses → HasRoom lines (answered courses answer)
room_answered lines courses answer room = omega (arith, room, most_answered courses answer)

-- and once it is known what wasn't staged
pub room_staged : (lines : Vec AncestorLine) (courses : List Course) (side : Side) (missing : List Problem) → HasRoom lines courses
    → HasRoom lines (all_staged side missing courses)
room_staged lines courses side missing room = omega (arith, room, most_all_staged side missing courses)
