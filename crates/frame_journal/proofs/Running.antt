-- The law of every list of calls.
use Rattle.std.proofs.Common.{◌≡◌, inl, inr, ℕ, List, [], ◌∷◌, ◌++◌, Option, Some, None, refl, ap, sym, subst, ◌∙◌, append_assoc}
use Rattle.std.proofs.lemmas.List.{append-nil}
use Rattle.disk_model.specs.Content.{Content}
use Rattle.disk_model.specs.Disk.{OnTold}
use Rattle.disk_model.specs.Moments.{GoesOn, LeftSince}
use Rattle.disk_model.proofs.Moments.{goes_nowhere, go_on, newest_left}
use Rattle.frame_journal.specs.Layout.{OpensWith}
use Rattle.frame_journal.specs.JournalState.{JournalState, MayOpenWith, LeavesJournal}
use Rattle.frame_journal.specs.Calls.{Call, Appended, AppendFailed, Reopened, ReopenFailed, Refused, Kept, Run, IsStep, AreSteps, last, kept_of, kept_after, kept_behind, in_course, calls_of, LeftIn, Tells}

pub tells_on : (h h' : List Content) → GoesOn h h' → Tells h → Tells h'
tells_on [] h' on tells = absurd tells
tells_on (now ∷ past) [] on tells = absurd (none (on.later) on.is) where
  none : (later : List Content) → [] ≡ later ++ now ∷ past → ⊥
  none [] e = cc
  none (c ∷ later) e = cc
tells_on (now ∷ past) (now' ∷ past') on tells = tt

pub told_is : (h : List Content) (X : Type 0) → Tells h → OnTold h (λ _. X) → X
told_is [] X tells x = absurd tells
told_is (now ∷ past) X tells x = x

-- payloads begin with others
abbrev Begins : List (List ℕ) → List (List ℕ) → Type 0
Begins base payloads = (more : List (List ℕ)) × (payloads ≡ base ++ more)

abbrev BeginsIfSome : List (List ℕ) → Option (List (List ℕ)) → Type 0
BeginsIfSome base None = Unit {0}
BeginsIfSome base (Some payloads) = Begins base payloads

record BeginsAll (base : List (List ℕ)) (kept : Kept) : Type 0 where
  payloads : Begins base kept.payloads
  pending : BeginsIfSome base kept.pending

one_more : (base ps : List (List ℕ)) (q : List ℕ) → Begins base ps → Begins base (ps ++ q ∷ [])
one_more base ps q begins = (begins.0 ++ q ∷ [], ap (λ l. l ++ q ∷ []) begins.1 ∙ append_assoc base begins.0 (q ∷ []))

after_begins : (base : List (List ℕ)) (kept : Kept) (call : Call) → BeginsAll base kept → BeginsAll base (kept_after kept call)
after_begins base kept (Appended q) all = record { payloads = one_more base kept.payloads q all.payloads; pending = tt }
after_begins base kept (AppendFailed q) all = record { payloads = all.payloads; pending = one_more base kept.payloads q all.payloads }
after_begins base kept Reopened all = record { payloads = all.payloads; pending = tt }
after_begins base kept ReopenFailed all = all
after_begins base kept Refused all = all

course_begins : (base : List (List ℕ)) (kept : Kept) (call : Call) → BeginsAll base kept → BeginsIfSome base (in_course kept call)
course_begins base kept (Appended q) all = one_more base kept.payloads q all.payloads
course_begins base kept (AppendFailed q) all = one_more base kept.payloads q all.payloads
course_begins base kept Reopened all = all.pending
course_begins base kept ReopenFailed all = all.pending
course_begins base kept Refused all = all.pending

opens_begins : (base ps : List (List ℕ)) (pending : Option (List (List ℕ))) (image : List ℕ) → Begins base ps → BeginsIfSome base pending → MayOpenWith ps pending image → (more : List (List ℕ)) × OpensWith (base ++ more) image
opens_begins base ps None image begins also opens = (begins.0, subst (λ l. OpensWith l image) begins.1 opens)
opens_begins base ps (Some other) image begins also (inl opens) = (begins.0, subst (λ l. OpensWith l image) begins.1 opens)
opens_begins base ps (Some other) image begins also (inr opens) = (also.0, subst (λ l. OpensWith l image) also.1 opens)

module _ {D : Type 0} (history : D → List Content) where
  -- the histories go on
  pub run_goes_on : (old : JournalState D) (run : Run D) → AreSteps history old run → GoesOn (history old.disk) (history (last old run).disk)
  run_goes_on old [] steps = goes_nowhere (history old.disk) (history old.disk) refl
  run_goes_on old (step ∷ run) steps = go_on (history old.disk) (history step.1.disk) (history (last step.1 run).disk) steps.0.moments.goes_on (run_goes_on step.1 run steps.1)

  step_kept : (old new : JournalState D) (call : Call) → Tells (history old.disk) → IsStep history old call new → kept_of new ≡ kept_after (kept_of old) call
  step_kept old new call tells step = told_is (history old.disk) (kept_of new ≡ kept_after (kept_of old) call) tells step.kept

  -- what is acknowledged is what the calls acknowledged
  pub run_kept : (old : JournalState D) (run : Run D) → AreSteps history old run → Tells (history old.disk) → kept_of (last old run) ≡ kept_behind (kept_of old) (calls_of run)
  run_kept old [] steps tells = refl
  run_kept old (step ∷ run) steps tells =
      run_kept step.1 run steps.1 (tells_on (history old.disk) (history step.1.disk) steps.0.moments.goes_on tells)
      ∙ ap (λ k. kept_behind k (calls_of run)) (step_kept old step.1 step.0 tells steps.0)

  split_steps : (old : JournalState D) (before behind : Run D) → AreSteps history old (before ++ behind) → AreSteps history old before × AreSteps history (last old before) behind
  split_steps old [] behind steps = (tt, steps)
  split_steps old (step ∷ before) behind steps = let rest = split_steps step.1 before behind steps.1 in ((steps.0, rest.0), rest.1)

  -- each moment, paired with what was acknowledged then
  pub run_moments : (old : JournalState D) (before : Run D) (call : Call) (new : JournalState D) (behind : Run D) (image : List ℕ)
      → AreSteps history old (before ++ (call, new) ∷ behind) → Tells (history old.disk) → LeftSince (history (last old before).disk) (history new.disk) image
      → MayOpenWith (kept_behind (kept_of old) (calls_of before)).payloads (in_course (kept_behind (kept_of old) (calls_of before)) call) image
  run_moments old before call new behind image steps tells left =
      let both = split_steps old before ((call, new) ∷ behind) steps in
      let opens : MayOpenWith (kept_of (last old before)).payloads (in_course (kept_of (last old before)) call) image = both.1.0.moments.leaves image left in
      subst (λ (k : Kept). MayOpenWith k.payloads (in_course k call) image) (run_kept old before both.0 tells) opens

  begins_run : (base : List (List ℕ)) (old : JournalState D) (run : Run D) (image : List ℕ) → AreSteps history old run → Tells (history old.disk) → BeginsAll base (kept_of old) → OnTold (history old.disk) (LeavesJournal old)
      → LeftIn history old run image → (more : List (List ℕ)) × OpensWith (base ++ more) image
  begins_run base old [] image steps tells all durable left =
      opens_begins base old.payloads old.pending image all.payloads all.pending (newest_left (history old.disk) (MayOpenWith old.payloads old.pending) durable image left)
  begins_run base old (step ∷ run) image steps tells all durable (inl left) =
      opens_begins base old.payloads (in_course (kept_of old) step.0) image all.payloads (course_begins base (kept_of old) step.0 all) (steps.0.moments.leaves image left)
  begins_run base old (step ∷ run) image steps tells all durable (inr left) =
      begins_run base step.1 run image steps.1 (tells_on (history old.disk) (history step.1.disk) steps.0.moments.goes_on tells)
      (subst (λ k. BeginsAll base k) (sym (step_kept old step.1 step.0 tells steps.0)) (after_begins base (kept_of old) step.0 all)) steps.0.durable left

  -- what is acknowledged stays
  pub run_acknowledged : (old : JournalState D) (run : Run D) (image : List ℕ) → AreSteps history old run → Tells (history old.disk) → old.pending ≡ None → OnTold (history old.disk) (LeavesJournal old)
      → LeftIn history old run image → (more : List (List ℕ)) × OpensWith (old.payloads ++ more) image
  run_acknowledged old run image steps tells none durable left =
      begins_run old.payloads old run image steps tells (record { payloads = ([], sym (append-nil old.payloads)); pending = subst (λ o. BeginsIfSome old.payloads o) (sym none) tt }) durable left
