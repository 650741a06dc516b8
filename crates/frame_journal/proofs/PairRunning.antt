-- The law of every list of calls on two disks.
use Rattle.std.proofs.Common.{◌≡◌, ℕ, List, [], ◌∷◌, ◌++◌, refl, ap, subst, ◌∙◌}
use Rattle.disk_model.specs.Content.{Content}
use Rattle.disk_model.specs.Disk.{OnTold}
use Rattle.disk_model.specs.Moments.{GoesOn, LeftSince}
use Rattle.disk_model.proofs.Moments.{goes_nowhere, go_on}
use Rattle.frame_journal.specs.Calls.{Kept, Tells}
use Rattle.frame_journal.specs.PairState.{PairState, MayOpenPairWith}
use Rattle.frame_journal.specs.PairCalls.{PairCall, PairRun, IsPairStep, ArePairSteps, last_pair, kept_of_pair, kept_after_pair, kept_behind_pair, pair_in_course, pair_calls_of}
use Rattle.frame_journal.proofs.Running.{tells_on, told_is}

module _ {D : Type 0} (history : D → List Content) where
  pub pair_goes_on : (old : PairState D) (run : PairRun D) → ArePairSteps history old run → GoesOn (history old.first) (history (last_pair old run).first) × GoesOn (history old.second) (history (last_pair old run).second)
  pair_goes_on old [] steps = (goes_nowhere (history old.first) (history old.first) refl, goes_nowhere (history old.second) (history old.second) refl)
  pair_goes_on old (step ∷ run) steps =
      let rest = pair_goes_on step.1 run steps.1 in (
        go_on (history old.first) (history step.1.first) (history (last_pair step.1 run).first) steps.0.moments.goes_on rest.0,
        go_on (history old.second) (history step.1.second) (history (last_pair step.1 run).second) steps.0.moments.goes_on' rest.1,
      )

  pair_step_kept : (old new : PairState D) (call : PairCall) → Tells (history old.first) → Tells (history old.second) → IsPairStep history old call new → kept_of_pair new ≡ kept_after_pair (kept_of_pair old) call
  pair_step_kept old new call tells tells' step =
      told_is (history old.second) (kept_of_pair new ≡ kept_after_pair (kept_of_pair old) call) tells'
      (told_is (history old.first) (OnTold (history old.second) (λ _. kept_of_pair new ≡ kept_after_pair (kept_of_pair old) call)) tells step.kept)

  -- what is acknowledged is what the calls acknowledged
  pub pair_kept : (old : PairState D) (run : PairRun D) → ArePairSteps history old run → Tells (history old.first) → Tells (history old.second) → kept_of_pair (last_pair old run) ≡ kept_behind_pair (kept_of_pair old) (pair_calls_of run)
  pair_kept old [] steps tells tells' = refl
  pair_kept old (step ∷ run) steps tells tells' =
      pair_kept step.1 run steps.1 (tells_on (history old.first) (history step.1.first) steps.0.moments.goes_on tells) (tells_on (history old.second) (history step.1.second) steps.0.moments.goes_on' tells')
      ∙ ap (λ k. kept_behind_pair k (pair_calls_of run)) (pair_step_kept old step.1 step.0 tells tells' steps.0)

  split_pair : (old : PairState D) (before behind : PairRun D) → ArePairSteps history old (before ++ behind) → ArePairSteps history old before × ArePairSteps history (last_pair old before) behind
  split_pair old [] behind steps = (tt, steps)
  split_pair old (step ∷ before) behind steps = let rest = split_pair step.1 before behind steps.1 in ((steps.0, rest.0), rest.1)

  -- the moments of each call, with what was acknowledged then
  pub every_moment : (old : PairState D) (before : PairRun D) (call : PairCall) (new : PairState D) (behind : PairRun D) (image image' : List ℕ)
      → ArePairSteps history old (before ++ (call, new) ∷ behind) → Tells (history old.first) → Tells (history old.second)
      → LeftSince (history (last_pair old before).first) (history new.first) image → LeftSince (history (last_pair old before).second) (history new.second) image'
      → MayOpenPairWith (kept_behind_pair (kept_of_pair old) (pair_calls_of before)).payloads (pair_in_course (kept_behind_pair (kept_of_pair old) (pair_calls_of before)) call) image image'
  every_moment old before call new behind image image' steps tells tells' left left' =
      let both = split_pair old before ((call, new) ∷ behind) steps in
      let opens : MayOpenPairWith (kept_of_pair (last_pair old before)).payloads (pair_in_course (kept_of_pair (last_pair old before)) call) image image' = both.1.0.moments.leaves image image' left left' in
      subst (λ (k : Kept). MayOpenPairWith k.payloads (pair_in_course k call) image image') (pair_kept old before both.0 tells tells') opens
