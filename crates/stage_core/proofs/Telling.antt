-- A staging that takes an answer.
use Rattle.std.proofs.Common.{◌≡◌, ℕ, List, [], ◌∷◌, ◌++◌, sym, subst, ap, ◌∙◌}
use Rattle.entry_tree.specs.declared.side.Side.{Side}
use Rattle.roots_api.specs.declared.answer.Answer.{Answer}
use Rattle.stage_core.proofs.Runs.{answered_more}
use Rattle.stage_core.specs.Staging.{Stand, op_of, after, after_all, new_stand, turned, heard}
use Rattle.stage_core.specs.Told.{AreAnswered, IsAnswered, IsStaging}
use Rattle.stage_core.specs.declared.need.Need.{Need}

module _ (side : Side) where
  all_answered : (s : Stand) (answers : List (Answer (List ℕ))) (answer : Answer (List ℕ)) → AreAnswered side s answers → IsAnswered (op_of (after_all side s answers)) answer
      → AreAnswered side s (answers ++ answer ∷ [])
  all_answered s [] answer h here = (here, tt)
  all_answered s (a ∷ answers) answer h here = (h.0, all_answered (after side s a) answers answer h.1 here)

  -- with one answer more
  pub told_one : (needs : List Need) (answers more : List (Answer (List ℕ))) (work after_it : Stand) (answer : Answer (List ℕ)) → IsStaging side needs answers work
      → IsAnswered (op_of (after_all side (new_stand needs) answers)) answer → more ≡ answers ++ answer ∷ [] → after_it ≡ turned side work (heard answer)
      → IsStaging side needs more after_it
  told_one needs answers more work after_it answer old here is new =
      subst (λ (l : List (Answer (List ℕ))). IsStaging side needs l after_it) (sym is) (record {
        work_is = new ∙ (ap (λ (s : Stand). after side s answer) old.work_is ∙ sym (answered_more side (new_stand needs) answers answer));
        answered = all_answered (new_stand needs) answers answer old.answered here;
      })
