-- What a course asks, and what lands.
use Rattle.std.proofs.Common.{◌≡◌, ◌+◌, true, false, List, [], ◌∷◌, ◌++◌, length, length-append, map, arith, Some, None, refl, sym, ap, ◌∙◌, inl, inr}
use Rattle.std.specs.Prelude.{if◌then◌else◌}
use Rattle.entry_tree.specs.Tree.{Names}
use Rattle.entry_tree.specs.declared.side.Side.{Side}
use Rattle.mode_rules.specs.declared.ancestor_line.AncestorLine.{AncestorLine}
use Rattle.roots_api.specs.declared.op.Op.{Op}
use Rattle.transition_plan.specs.Courses.{Course, course_of, fate_of, first_op, is_blocked, met, next_op, not_done, settled, taken}
use Rattle.transition_plan.specs.declared.fate.Fate.{Fate}
use Rattle.transition_plan.specs.declared.fate.Fate.TheVariants.{Landed, Ended, Missed}
use Rattle.transition_plan.specs.declared.step.Step.{Step}
use Rattle.transition_plan.specs.declared.undone.Undone.{Undone}
use Rattle.transition_laws.specs.Laws.{AskInOrder, EachIsCounted}
use Rattle.transition_laws.specs.Turns.{Turn, AreTurns, IsPart, count_done, course_with, lines_of}

abbrev ops : List Step → List Op
ops steps = map (λ (step : Step). step.op) steps

module _ {X : Type 0} where
  -- with more in front
  part_behind : (xs : List X) (y : X) (ys : List X) → IsPart xs ys → IsPart xs (y ∷ ys)
  part_behind [] y ys h = tt
  part_behind (x ∷ xs) y ys h = inr h

module _ (side : Side) (at : Names) (landed : List AncestorLine) where
  -- what is part of the steps that are left, is part of all
  settled_part : (os : List Op) (undone : List Undone) (rest : List Step) → IsPart os (ops (settled side at landed undone rest).rest) → IsPart os (ops rest)
  settled_part os undone [] h = h
  settled_part os undone (step ∷ rest) h =
      elim (is_blocked undone step.op) as (λ b. IsPart os (ops (if b then settled side at landed (undone ++ not_done None step ∷ []) rest else record { side = side; at = at; rest = step ∷ rest; landed = landed; undone = undone }).rest) → IsPart os (ops (step ∷ rest))) [
        | true ↦ λ g. part_behind os step.op (ops rest) (settled_part os (undone ++ not_done None step ∷ []) rest g)
        | false ↦ λ g. g
      ] h

  -- the lines stay
  settled_lines : (undone : List Undone) (rest : List Step) → (settled side at landed undone rest).landed ≡ landed
  settled_lines undone [] = refl
  settled_lines undone (step ∷ rest) =
      elim (is_blocked undone step.op) as (λ b. (if b then settled side at landed (undone ++ not_done None step ∷ []) rest else record { side = side; at = at; rest = step ∷ rest; landed = landed; undone = undone }).landed ≡ landed) [
        | true ↦ settled_lines (undone ++ not_done None step ∷ []) rest
        | false ↦ refl
      ]

-- what is asked behind an operation comes behind it
met_part : (os : List Op) (course : Course) (step : Step) (rest : List Step) (fate : Fate) → IsPart os (ops (met course (step ∷ rest) fate).rest) → IsPart os (ops rest)
met_part os course step rest Landed h = settled_part course.side course.at (course.landed ++ step.line ∷ []) os course.undone rest h
met_part [] course step rest Ended h = tt
met_part (o ∷ os) course step rest Ended h = absurd h
met_part os course step rest (Missed why) h = settled_part course.side course.at course.landed os (course.undone ++ not_done (Some why) step ∷ []) rest h

met_lines : (course : Course) (step : Step) (rest : List Step) (fate : Fate) → length (met course (step ∷ rest) fate).landed ≡ length course.landed + lines_of fate
met_lines course step rest Landed = ap length (settled_lines course.side course.at (course.landed ++ step.line ∷ []) course.undone rest) ∙ length-append course.landed (step.line ∷ [])
met_lines course step rest Ended = omega arith
met_lines course step rest (Missed why) = ap length (settled_lines course.side course.at course.landed (course.undone ++ not_done (Some why) step ∷ []) rest) ∙ omega arith

-- one turn
turn_part : (os : List Op) (course : Course) (rest : List Step) (t : Turn) → course.rest ≡ rest → next_op course ≡ Some t.op → IsPart os (ops (met course rest (fate_of t.answer)).rest) → IsPart (t.op ∷ os) (ops rest)
turn_part os course [] t is next h = absurd (cc (ap (λ (r : List Step). first_op r) is))
turn_part os course (step ∷ rest) t is next h = inl (same step.op t.op (ap (λ (r : List Step). first_op r) (sym is) ∙ next), met_part os course step rest (fate_of t.answer) h)
  where
    same : (a b : Op) → Some a ≡ Some b → b ≡ a
    same a b e = cc

asked_part : (course : Course) (turns : List Turn) → AreTurns course turns → IsPart (map (λ (t : Turn). t.op) turns) (ops course.rest)
asked_part course [] h = tt
asked_part course (t ∷ ts) h = turn_part (map (λ (t : Turn). t.op) ts) course course.rest t refl h.0 (asked_part (taken course t.answer) ts h.1)

turn_lines : (course : Course) (rest : List Step) (t : Turn) → course.rest ≡ rest → next_op course ≡ Some t.op → length (met course rest (fate_of t.answer)).landed ≡ length course.landed + lines_of (fate_of t.answer)
turn_lines course [] t is next = absurd (cc (ap (λ (r : List Step). first_op r) is))
turn_lines course (step ∷ rest) t is next = met_lines course step rest (fate_of t.answer)

counted : (course : Course) (turns : List Turn) → AreTurns course turns → length (course_with course turns).landed ≡ length course.landed + count_done turns
counted course [] h = omega arith
counted course (t ∷ ts) h =
    let one = turn_lines course course.rest t refl h.0 in
    let all = counted (taken course t.answer) ts h.1 in
    omega (arith, one, all)

pub ask_in_order : AskInOrder
ask_in_order stamps change turns h = asked_part (course_of stamps change) turns h

pub each_is_counted : EachIsCounted
each_is_counted stamps change turns h = let all = counted (course_of stamps change) turns h in omega (arith, all)
