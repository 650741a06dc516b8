-- What a staging was told follows what it asked.
use Rattle.std.proofs.Common.{◌≡◌, ℕ, List, [], ◌∷◌, ◌++◌, None, Option, Some, refl, sym, subst, ap, ◌∙◌}
use Rattle.std.specs.Option.{option_map}
use Rattle.entry_tree.specs.declared.side.Side.{Side}
use Rattle.roots_api.specs.declared.answer.Answer.{Answer}
use Rattle.roots_api.specs.declared.op.Op.{Op}
use Rattle.stage_core.proofs.Runs.{told_by}
use Rattle.stage_core.specs.Staging.{Stand, asked_side, op_of, after}
use Rattle.stage_core.specs.Told.{AreAnswered, IsAnswered}
use Rattle.stage_core.specs.Turns.{Turn, IsTurn, IsCourse, turn_of, turns_of}

module _ (side : Side) where
  abbrev asked_as : Stand → Option Op → Option (Side × Op)
  asked_as s o = option_map (λ op. (asked_side side s.doing, op)) o

  first : (s : Stand) (o : Option Op) (answer : Answer (List ℕ)) (rest : List Turn) → op_of s ≡ o → IsAnswered o answer → IsCourse side (after side s answer) rest
      → IsCourse side s (turn_of (asked_as s o) answer ++ rest)
  first s None answer rest e h c = absurd h
  first s (Some op) answer rest e h c =
      (subst (λ (o : Option Op). IsTurn (asked_as s o) (record { side = asked_side side s.doing; op = op; answer = answer })) (sym e) (refl, refl, h), c)

  pub in_course : (s : Stand) (answers : List (Answer (List ℕ))) → AreAnswered side s answers → IsCourse side s (turns_of side s answers)
  in_course s [] h = tt
  in_course s (answer ∷ answers) h = first s (op_of s) answer (turns_of side (after side s answer) answers) refl h.0 (in_course (after side s answer) answers h.1)

  told_first : (s : Stand) (o : Option Op) (answer : Answer (List ℕ)) (rest : List Turn) → IsAnswered o answer
      → told_by (turn_of (asked_as s o) answer ++ rest) ≡ answer ∷ told_by rest
  told_first s None answer rest h = absurd h
  told_first s (Some op) answer rest h = refl

  pub told_all : (s : Stand) (answers : List (Answer (List ℕ))) → AreAnswered side s answers → told_by (turns_of side s answers) ≡ answers
  told_all s [] h = refl
  told_all s (answer ∷ answers) h =
      told_first s (op_of s) answer (turns_of side (after side s answer) answers) h.0
      ∙ ap (λ (l : List (Answer (List ℕ))). answer ∷ l) (told_all (after side s answer) answers h.1)
