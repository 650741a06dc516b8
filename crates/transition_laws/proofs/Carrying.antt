-- The turns of a change whose answers are the rows', as a walk over its steps.
use Rattle.std.proofs.Common.{◌≡◌, ℕ, Bool, true, false, List, [], ◌∷◌, ◌++◌, Option, Some, None, refl, sym, subst, ap, ◌∙◌}
use Rattle.std.specs.Prelude.{if◌then◌else◌}
use Rattle.finite_maps.proofs.Constructors.{none_is_not_some, some_is_not_none, some_same}
use Rattle.entry_tree.specs.Tree.{Names}
use Rattle.entry_tree.specs.declared.side.Side.{Side}
use Rattle.mode_rules.specs.declared.ancestor_line.AncestorLine.{AncestorLine}
use Rattle.mode_rules.specs.declared.problem.Cause.{Cause}
use Rattle.roots_api.specs.States.{RootState}
use Rattle.roots_api.specs.Steps.{answer_of, after}
use Rattle.roots_api.specs.declared.answer.Answer.{Answer}
use Rattle.roots_api.specs.declared.op.Op.{Op}
use Rattle.transition_plan.specs.Courses.{Course, fate_of, first_op, is_blocked, met, next_op, not_done, settled, taken}
use Rattle.transition_plan.specs.declared.fate.Fate.{Fate}
use Rattle.transition_plan.specs.declared.fate.Fate.TheVariants.{Landed, Ended, Missed}
use Rattle.transition_plan.specs.declared.step.Step.{Step}
use Rattle.transition_plan.specs.declared.undone.Undone.{Undone}
use Rattle.transition_laws.specs.Turns.{Turn, AreTurns, course_with}
use Rattle.transition_laws.specs.Undisturbed.{AreAnswered, state_behind}

-- what a walk comes to: a state, and what wasn't done
pub record Walk : Type 0 where
  pub state : RootState
  pub undone : List Undone

abbrev pub by_fate : {X : Type 0} → X → X → (Cause → X) → Fate → X
by_fate landed ended missed Landed = landed
by_fate landed ended missed Ended = ended
by_fate landed ended missed (Missed why) = missed why

-- the walk over some steps
abbrev pub carry : ℕ → RootState → List Undone → List Step → Walk
carry id s undone [] = record { state = s; undone = undone }
carry id s undone (step ∷ rest) =
    if is_blocked undone step.op then carry id s (undone ++ not_done None step ∷ []) rest else
    by_fate (carry id (after s id step.op (answer_of s id step.op)) undone rest)
    (record { state = after s id step.op (answer_of s id step.op); undone = undone })
    (λ why. carry id (after s id step.op (answer_of s id step.op)) (undone ++ not_done (Some why) step ∷ []) rest)
    (fate_of (Some (answer_of s id step.op)))

-- a course comes to what the walk comes to
pub record ComesTo (id : ℕ) (s : RootState) (side : Side) (turns : List Turn) (course : Course) (walk : Walk) : Type 0 where
  pub state : state_behind id s turns ≡ walk.state
  pub undone : (course_with course turns).undone ≡ walk.undone
  pub side_is : (course_with course turns).side ≡ side

module _ (id : ℕ) (side : Side) (at : Names) where
  -- a course that has nothing left
  at_end : (s : RootState) (undone : List Undone) (landed : List AncestorLine) (turns : List Turn) → (course : Course) → course ≡ record { side = side; at = at; rest = []; landed = landed; undone = undone }
      → AreTurns course turns → ComesTo id s side turns course (record { state = s; undone = undone })
  at_end s undone landed [] course is h = record { state = refl; undone = ap (λ (c : Course). c.undone) is; side_is = ap (λ (c : Course). c.side) is }
  at_end s undone landed (t ∷ ts) course is h = absurd (none_is_not_some t.op (ap (λ (c : Course). first_op c.rest) (sym is) ∙ h.0))

  walked : (steps : List Step) (s : RootState) (undone : List Undone) (landed : List AncestorLine) (turns : List Turn) → AreTurns (settled side at landed undone steps) turns
      → AreAnswered id s turns → next_op (course_with (settled side at landed undone steps) turns) ≡ None → ComesTo id s side turns (settled side at landed undone steps) (carry id s undone steps)
  walked [] s undone landed turns h a end = at_end s undone landed turns (settled side at landed undone []) refl h
  walked (step ∷ rest) s undone landed turns h a end = by (walked rest) (is_blocked undone step.op) turns h a end
    where
      -- what holds of the steps behind
      Walked : Type 0
      Walked =
          (s : RootState) (undone : List Undone) (landed : List AncestorLine) (turns : List Turn) → AreTurns (settled side at landed undone rest) turns
          → AreAnswered id s turns → next_op (course_with (settled side at landed undone rest) turns) ≡ None → ComesTo id s side turns (settled side at landed undone rest) (carry id s undone rest)

      answer : Answer (List ℕ)
      answer = answer_of s id step.op

      next : RootState
      next = after s id step.op answer

      here : Course
      here = record { side = side; at = at; rest = step ∷ rest; landed = landed; undone = undone }

      course_by : Bool → Course
      course_by b = if b then settled side at landed (undone ++ not_done None step ∷ []) rest else here

      walk_by : Fate → Walk
      walk_by fate = by_fate (carry id next undone rest) (record { state = next; undone = undone }) (λ why. carry id next (undone ++ not_done (Some why) step ∷ []) rest) fate

      walk_if : Bool → Walk
      walk_if b = if b then carry id s (undone ++ not_done None step ∷ []) rest else walk_by (fate_of (Some answer))

      -- behind the turn
      one : Walked → (fate : Fate) (ts : List Turn) → AreTurns (met here (step ∷ rest) fate) ts → AreAnswered id next ts → next_op (course_with (met here (step ∷ rest) fate) ts) ≡ None
          → ComesTo id next side ts (met here (step ∷ rest) fate) (walk_by fate)
      one more Landed ts h a end = more next undone (landed ++ step.line ∷ []) ts h a end
      one more Ended ts h a end = at_end next undone landed ts (met here (step ∷ rest) Ended) refl h
      one more (Missed why) ts h a end = more next (undone ++ not_done (Some why) step ∷ []) landed ts h a end

      -- the turn, whose operation and answer are these
      turn : Walked → (op : Op) (told : Option (Answer (List ℕ))) (ts : List Turn) → step.op ≡ op → Some answer ≡ told → AreTurns (met here (step ∷ rest) (fate_of told)) ts
          → AreAnswered id (after s id op (answer_of s id op)) ts → next_op (course_with (met here (step ∷ rest) (fate_of told)) ts) ≡ None
          → ComesTo id (after s id op (answer_of s id op)) side ts (met here (step ∷ rest) (fate_of told)) (walk_by (fate_of (Some answer)))
      turn more op told ts is said =
          subst (λ (o : Op). AreTurns (met here (step ∷ rest) (fate_of told)) ts → AreAnswered id (after s id o (answer_of s id o)) ts → next_op (course_with (met here (step ∷ rest) (fate_of told)) ts) ≡ None
          → ComesTo id (after s id o (answer_of s id o)) side ts (met here (step ∷ rest) (fate_of told)) (walk_by (fate_of (Some answer)))) is
          (subst (λ (x : Option (Answer (List ℕ))). AreTurns (met here (step ∷ rest) (fate_of x)) ts → AreAnswered id next ts → next_op (course_with (met here (step ∷ rest) (fate_of x)) ts) ≡ None
          → ComesTo id next side ts (met here (step ∷ rest) (fate_of x)) (walk_by (fate_of (Some answer)))) said
          (one more (fate_of (Some answer)) ts))

      asked : Walked → (turns : List Turn) → AreTurns here turns → AreAnswered id s turns → next_op (course_with here turns) ≡ None → ComesTo id s side turns here (walk_by (fate_of (Some answer)))
      asked more [] h a end = absurd (some_is_not_none step.op end)
      asked more (t ∷ ts) h a end =
          let is : step.op ≡ t.op = some_same step.op t.op h.0 in
          let said : Some answer ≡ t.answer = ap (λ (o : Op). Some (answer_of s id o)) is ∙ sym a.0 in
          let behind = turn more t.op t.answer ts is said h.1 a.1 end in
          record { state = behind.state; undone = behind.undone; side_is = behind.side_is }

      by : Walked → (b : Bool) (turns : List Turn) → AreTurns (course_by b) turns → AreAnswered id s turns → next_op (course_with (course_by b) turns) ≡ None → ComesTo id s side turns (course_by b) (walk_if b)
      by more true turns h a end = more s (undone ++ not_done None step ∷ []) landed turns h a end
      by more false turns h a end = asked more turns h a end

  course_is : (steps : List Step) → settled side at [] [] steps ≡ record { side = side; at = at; rest = steps; landed = []; undone = [] }
  course_is [] = refl
  course_is (step ∷ rest) = refl

  -- a course that begins
  pub carried : (steps : List Step) (s : RootState) (turns : List Turn) (course : Course) → course ≡ record { side = side; at = at; rest = steps; landed = []; undone = [] }
      → AreTurns course turns → AreAnswered id s turns → next_op (course_with course turns) ≡ None → ComesTo id s side turns course (carry id s [] steps)
  carried steps s turns course is =
      subst (λ (c : Course). AreTurns c turns → AreAnswered id s turns → next_op (course_with c turns) ≡ None → ComesTo id s side turns c (carry id s [] steps)) (course_is steps ∙ sym is)
      (walked steps s [] [] turns)
