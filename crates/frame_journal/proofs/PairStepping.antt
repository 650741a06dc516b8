-- A call of a journal on two disks, from that of the journal on the disk gone on with and what became of the spare one.
use Rattle.std.proofs.Common.{◌≡◌, ℕ, ◌+◌, Bool, false, cond, Result, Ok, Err, Option, Some, None, List, [], refl, sym, ap, subst, ◌∙◌}
use Rattle.disk_model.specs.Content.{Content}
use Rattle.disk_model.specs.Disk.{OnTold}
use Rattle.disk_model.specs.Moments.{LeftSince, LeavesAfter, LeavesBothSince}
use Rattle.frame_journal.specs.Generation.{is_generation, generation_of, without_generation}
use Rattle.frame_journal.specs.JournalState.{JournalState, MayOpenWith, LeavesJournal}
use Rattle.frame_journal.specs.Calls.{Call, Appended, AppendFailed, Reopened, ReopenFailed, Refused, Kept, kept_of, kept_after, in_course, append_call, IsStep}
use Rattle.frame_journal.specs.PairState.{MayOpenPairWith, LosesTo}
use Rattle.frame_journal.specs.PairCalls.{Called, kept_of_pair, IsPairStep}
use Rattle.frame_journal.specs.SpareState.{StandsSpare, MayCount, IsUncut, MayOpenSpare, IsRaised, KeepsGeneration, StandsAlone, SpareStand, IsPairSound, is_refused, refused_frames, pending_without, pending_with, pair_of}
use Rattle.frame_journal.specs.Steps.{TellsOn}
use Rattle.frame_journal.specs.declared.spare.Spare.{Spare}
use Rattle.frame_journal.specs.declared.spare.Spare.TheVariants as standing
use Rattle.frame_journal.specs.declared.error.AppendError.{AppendError}
use Rattle.frame_journal.specs.declared.error.AppendError.TheVariants as appending
use Rattle.frame_journal.proofs.Told.{told, told_from, told_from_two}
use Rattle.frame_journal.proofs.Leaving.{since_from, since_same, same_leaves}
use Rattle.frame_journal.proofs.Silent.{tells_same}
use Rattle.frame_journal.proofs.Stepping.{same_kept}
use Rattle.frame_journal.proofs.Tellings.{generation_push, without_push}
use Rattle.frame_journal.proofs.Pairing.{pair_moments, opens_pair, stand_leaves, pair_leaves, carry, move_stand, told_pair}

-- a payload that is appended to no frames tells no generation
abbrev pub Fits : List (List ℕ) → Call → Type 0
Fits ps (Appended q) = ps ≡ [] → is_generation q ≡ false
Fits ps (AppendFailed q) = ps ≡ [] → is_generation q ≡ false
Fits ps Reopened = Unit {0}
Fits ps ReopenFailed = Unit {0}
Fits ps Refused = Unit {0}

pub generation_after : (kept : Kept) (call : Call) → Fits kept.payloads call → generation_of (kept_after kept call).payloads ≡ generation_of kept.payloads
generation_after kept (Appended q) fits = generation_push kept.payloads q fits
generation_after kept (AppendFailed q) fits = refl
generation_after kept Reopened fits = refl
generation_after kept ReopenFailed fits = refl
generation_after kept Refused fits = refl

keeps_after : (kept : Kept) (call : Call) → Fits kept.payloads call → KeepsGeneration kept.pending (generation_of kept.payloads) → KeepsGeneration (kept_after kept call).pending (generation_of (kept_after kept call).payloads)
keeps_after kept (Appended q) fits keeps = tt
keeps_after kept (AppendFailed q) fits keeps = generation_push kept.payloads q fits
keeps_after kept Reopened fits keeps = tt
keeps_after kept ReopenFailed fits keeps = keeps
keeps_after kept Refused fits keeps = keeps

keeps_course : (kept : Kept) (call : Call) → Fits kept.payloads call → KeepsGeneration kept.pending (generation_of kept.payloads) → KeepsGeneration (in_course kept call) (generation_of kept.payloads)
keeps_course kept (Appended q) fits keeps = generation_push kept.payloads q fits
keeps_course kept (AppendFailed q) fits keeps = generation_push kept.payloads q fits
keeps_course kept Reopened fits keeps = keeps
keeps_course kept ReopenFailed fits keeps = keeps
keeps_course kept Refused fits keeps = keeps

module _ {D : Type 0} (history : D → List Content) (journal new : JournalState D) (spare spare' : D) (b : Bool) (s s' : Spare) (call : Call) (sound : IsPairSound history journal spare b s) (step : IsStep history journal call new)
    (silent : history journal.disk ≡ [] → history new.disk ≡ []) (tells : TellsOn (history spare) (history spare')) (fits : Fits journal.payloads call) where
  abbrev loses : ℕ → Type 0
  loses n = LosesTo b (generation_of journal.payloads) n

  -- both stand as they are to, behind the call
  pub called_sound : StandsAlone (refused_frames s') new.pending → (IsRaised (refused_frames s) (generation_of journal.payloads + 1) → IsRaised (refused_frames s') (generation_of journal.payloads + 1))
      → (loses 0 → OnTold (history spare) (λ now. StandsSpare s loses now) → OnTold (history spare') (λ now. StandsSpare s' loses now)) → IsPairSound history new spare' b s'
  called_sound alone raised stands = record {
    alone = alone;
    leaves = step.durable;
    stand = carry (history journal.disk) (history new.disk) (OnTold (history spare') (SpareStand new.payloads new.pending b s')) silent
        (told_from_two (history journal.disk) (λ _. kept_of new ≡ kept_after (kept_of journal) call) (λ _. OnTold (history spare) (SpareStand journal.payloads journal.pending b s)) (λ _. OnTold (history spare') (SpareStand new.payloads new.pending b s'))
        (λ _ is stand. moved is stand) step.kept sound.stand);
  } where
    moved : kept_of new ≡ kept_after (kept_of journal) call → OnTold (history spare) (SpareStand journal.payloads journal.pending b s) → OnTold (history spare') (SpareStand new.payloads new.pending b s')
    moved is stand =
        let same : generation_of journal.payloads ≡ generation_of new.payloads = sym (ap (λ (k : Kept). generation_of k.payloads) is ∙ generation_after (kept_of journal) call fits) in
        move_stand (history spare) (history spare') journal.payloads new.payloads journal.pending new.pending b b s s' tells.silent stand
        (λ least. subst (λ n. LosesTo b n 0) same least)
        (λ was. subst (λ n. IsRaised (refused_frames s') (n + 1)) same (raised was))
        (λ keeps. subst (λ (k : Kept). KeepsGeneration k.pending (generation_of k.payloads)) (sym is) (keeps_after (kept_of journal) call fits keeps))
        (λ least here. subst (λ n. OnTold (history spare') (λ now. StandsSpare s' (LosesTo b n) now)) same (stands least here))

  -- what it may leave at each moment
  abbrev Course : Type 0
  Course = (i j : List ℕ) → LeftSince (history journal.disk) (history new.disk) i → LeftSince (history spare) (history spare') j
      → MayOpenPairWith (without_generation journal.payloads) (pending_with (refused_frames s) (in_course (kept_of journal) call)) (cond b j i) (cond b i j)

  abbrev Later : Type 0
  Later = loses 0 → IsRaised (refused_frames s) (generation_of journal.payloads + 1) → OnTold (history spare) (λ now. StandsSpare s loses now) → LeavesAfter (history spare) (history spare') (MayOpenSpare (refused_frames s) loses)

  at : StandsAlone (refused_frames s) (in_course (kept_of journal) call) → Later → OnTold (history spare) (SpareStand journal.payloads journal.pending b s) → OnTold (history spare) (λ _. Course)
  at alone later stand = told_from (history spare) (SpareStand journal.payloads journal.pending b s) (λ _. Course)
      (λ now st i j left left'.
      opens_pair b (refused_frames s) (in_course (kept_of journal) call) journal.payloads i j alone st.raised (keeps_course (kept_of journal) call fits st.kept)
      (step.moments.leaves i left)
      ((since_from (history spare) (history spare') (MayOpenSpare (refused_frames s) loses) (stand_leaves (history spare) journal.payloads journal.pending b s stand)
      (later st.least st.raised (told_from (history spare) (SpareStand journal.payloads journal.pending b s) (λ n. StandsSpare s loses n) (λ n t. t.spare) stand))).leaves j left')) stand

  pub called_moments : StandsAlone (refused_frames s) (in_course (kept_of journal) call)
      → (loses 0 → IsRaised (refused_frames s) (generation_of journal.payloads + 1) → OnTold (history spare) (λ now. StandsSpare s loses now) → LeavesAfter (history spare) (history spare') (MayOpenSpare (refused_frames s) loses))
      → LeavesBothSince (history (cond b spare journal.disk)) (history (cond b spare' new.disk)) (history (cond b journal.disk spare)) (history (cond b new.disk spare'))
      (MayOpenPairWith (without_generation journal.payloads) (pending_with (refused_frames s) (in_course (kept_of journal) call)))
  called_moments alone later =
      pair_moments history b journal.disk new.disk spare spare' (MayOpenPairWith (without_generation journal.payloads) (pending_with (refused_frames s) (in_course (kept_of journal) call)))
      step.moments.goes_on tells.goes_on silent tells.silent
      (told_from (history journal.disk) (λ _. OnTold (history spare) (SpareStand journal.payloads journal.pending b s)) (λ _. OnTold (history spare) (λ _. Course)) (λ _ stand. at alone later stand) sound.stand)

-- a payload that is appended
pub fits_append : (ps : List (List ℕ)) (q : List ℕ) (r : Result (Unit {0}) AppendError) → (without_generation ps ≡ [] → generation_of ps ≡ 0 → is_generation q ≡ false) → Fits ps (append_call q r)
fits_append ps q (Ok done) one = λ none. one (ap without_generation none) (ap generation_of none)
fits_append ps q (Err appending.DiskFault) one = λ none. one (ap without_generation none) (ap generation_of none)
fits_append ps q (Err appending.Closed) one = tt
fits_append ps q (Err appending.Memory) one = tt

without : Kept → Kept
without kept = record { payloads = without_generation kept.payloads; pending = pending_without kept.pending }

without_after : (kept : Kept) (call : Call) → Fits kept.payloads call → without (kept_after kept call) ≡ kept_after (without kept) call
unfolding without
without_after kept (Appended q) fits = same_kept _ _ None None (without_push kept.payloads q fits) refl
without_after kept (AppendFailed q) fits = same_kept (without_generation kept.payloads) (without_generation kept.payloads) _ _ refl (ap (λ l. Some l) (without_push kept.payloads q fits))
without_after kept Reopened fits = refl
without_after kept ReopenFailed fits = refl
without_after kept Refused fits = refl

without_course : (kept : Kept) (call : Call) → Fits kept.payloads call → pending_without (in_course kept call) ≡ in_course (without kept) call
unfolding without
without_course kept (Appended q) fits = ap (λ l. Some l) (without_push kept.payloads q fits)
without_course kept (AppendFailed q) fits = ap (λ l. Some l) (without_push kept.payloads q fits)
without_course kept Reopened fits = refl
without_course kept ReopenFailed fits = refl
without_course kept Refused fits = refl

-- a call of the journal on the disk gone on with, where no checkpoint was refused
module _ {D : Type 0} (history : D → List Content) (journal new : JournalState D) (spare : D) (b : Bool) (call : Call) (sound : IsPairSound history journal spare b standing.Idle) (step : IsStep history journal call new)
    (silent : history journal.disk ≡ [] → history new.disk ≡ []) (fits : Fits journal.payloads call) where
  pub idle_sound : IsPairSound history new spare b standing.Idle
  idle_sound = called_sound history journal new spare spare b standing.Idle standing.Idle call sound step silent (tells_same (history spare) (history spare) refl) fits tt (λ raised. raised) (λ least stands. stands)

  pub idle_step : IsPairStep history (pair_of journal spare b standing.Idle) (Called call) (pair_of new spare b standing.Idle)
  unfolding without
  idle_step = record {
    kept = told_pair history b journal.disk spare (kept_of_pair (pair_of new spare b standing.Idle) ≡ kept_after (kept_of_pair (pair_of journal spare b standing.Idle)) call)
        (told_from (history journal.disk) (λ _. kept_of new ≡ kept_after (kept_of journal) call) (λ _. OnTold (history spare) (λ _. kept_of_pair (pair_of new spare b standing.Idle) ≡ kept_after (kept_of_pair (pair_of journal spare b standing.Idle)) call))
        (λ _ is. told (history spare) (λ _. kept_of_pair (pair_of new spare b standing.Idle) ≡ kept_after (kept_of_pair (pair_of journal spare b standing.Idle)) call) (λ _. ap without is ∙ without_after (kept_of journal) call fits)) step.kept);
    moments = subst (λ (o : Option (List (List ℕ))). LeavesBothSince (history (cond b spare journal.disk)) (history (cond b spare new.disk)) (history (cond b journal.disk spare)) (history (cond b new.disk spare)) (MayOpenPairWith (without_generation journal.payloads) o))
        (without_course (kept_of journal) call fits)
        (called_moments history journal new spare spare b standing.Idle standing.Idle call sound step silent (tells_same (history spare) (history spare) refl) fits tt
        (λ least raised stands. same_leaves (history spare) (history spare) (MayOpenSpare None (LosesTo b (generation_of journal.payloads))) refl));
    durable = pair_leaves history new spare b standing.Idle idle_sound;
  }

-- a journal whose opening was refused before anything was done with the disk gone on with
pub failed_step : {D : Type 0} (history : D → List Content) (old : JournalState D) → OnTold (history old.disk) (LeavesJournal old) → IsStep history old ReopenFailed old
failed_step history old leaves = record {
  kept = told (history old.disk) (λ _. kept_of old ≡ kept_of old) (λ _. refl);
  moments = since_same (history old.disk) (MayOpenWith old.payloads old.pending) leaves;
  durable = leaves;
}

-- an opening that is refused, whatever was taken from the spare disk
module _ {D : Type 0} (history : D → List Content) (journal new : JournalState D) (spare spare' : D) (b : Bool) (s s' : Spare) (sound : IsPairSound history journal spare b s) (step : IsStep history journal ReopenFailed new)
    (silent : history journal.disk ≡ [] → history new.disk ≡ []) (tells : TellsOn (history spare) (history spare')) (same : refused_frames s' ≡ refused_frames s) (pending : new.pending ≡ journal.pending)
    (stands : LosesTo b (generation_of journal.payloads) 0 → OnTold (history spare) (λ now. StandsSpare s (LosesTo b (generation_of journal.payloads)) now) → OnTold (history spare') (λ now. StandsSpare s' (LosesTo b (generation_of journal.payloads)) now))
    (later : LosesTo b (generation_of journal.payloads) 0 → IsRaised (refused_frames s) (generation_of journal.payloads + 1) → OnTold (history spare) (λ now. StandsSpare s (LosesTo b (generation_of journal.payloads)) now)
    → LeavesAfter (history spare) (history spare') (MayOpenSpare (refused_frames s) (LosesTo b (generation_of journal.payloads)))) where
  pub reopen_failed_sound : IsPairSound history new spare' b s'
  reopen_failed_sound = called_sound history journal new spare spare' b s s' ReopenFailed sound step silent tells tt
      (subst (λ (o : Option (List (List ℕ))). StandsAlone o new.pending) (sym same) (subst (λ (o : Option (List (List ℕ))). StandsAlone (refused_frames s) o) (sym pending) sound.alone))
      (λ raised. subst (λ (o : Option (List (List ℕ))). IsRaised o (generation_of journal.payloads + 1)) (sym same) raised) stands

  abbrev Kept_same : Type 0
  Kept_same = kept_of_pair (pair_of new spare' b s') ≡ kept_of_pair (pair_of journal spare b s)

  pub reopen_failed_step : IsPairStep history (pair_of journal spare b s) (Called ReopenFailed) (pair_of new spare' b s')
  reopen_failed_step = record {
    kept = told_pair history b journal.disk spare Kept_same
        (told_from (history journal.disk) (λ _. kept_of new ≡ kept_of journal) (λ _. OnTold (history spare) (λ _. Kept_same))
        (λ _ is. told (history spare) (λ _. Kept_same) (λ _. same_kept _ _ _ _ (ap (λ (k : Kept). without_generation k.payloads) is)
        (ap (λ (o : Option (List (List ℕ))). pending_with o new.pending) same ∙ ap (pending_with (refused_frames s)) pending))) step.kept);
    moments = called_moments history journal new spare spare' b s s' ReopenFailed sound step silent tells tt sound.alone later;
    durable = pair_leaves history new spare' b s' reopen_failed_sound;
  }

-- one that succeeds
module _ {D : Type 0} (history : D → List Content) (journal new : JournalState D) (spare spare' : D) (b : Bool) (s s' : Spare) (sound : IsPairSound history journal spare b s) (step : IsStep history journal Reopened new)
    (silent : history journal.disk ≡ [] → history new.disk ≡ []) (tells : TellsOn (history spare) (history spare')) (uncounted : MayCount s' → ⊥) (cut : IsUncut s' → ⊥) (pending : new.pending ≡ None)
    (stands : LosesTo b (generation_of journal.payloads) 0 → OnTold (history spare) (λ now. StandsSpare s (LosesTo b (generation_of journal.payloads)) now) → OnTold (history spare') (λ now. StandsSpare s' (LosesTo b (generation_of journal.payloads)) now))
    (later : LosesTo b (generation_of journal.payloads) 0 → IsRaised (refused_frames s) (generation_of journal.payloads + 1) → OnTold (history spare) (λ now. StandsSpare s (LosesTo b (generation_of journal.payloads)) now)
    → LeavesAfter (history spare) (history spare') (MayOpenSpare (refused_frames s) (LosesTo b (generation_of journal.payloads)))) where
  older : (loses : ℕ → Type 0) (t : Spare) → (MayCount t → ⊥) → (IsUncut t → ⊥) → OnTold (history spare') (λ now. StandsSpare t loses now) → OnTold (history spare') (λ now. StandsSpare standing.Idle loses now)
  older loses standing.Idle no_count no_cut here = here
  older loses (standing.Untouched fs) no_count no_cut here = here
  older loses (standing.Shut fs) no_count no_cut here = absurd (no_cut tt)
  older loses (standing.Staged fs) no_count no_cut here = absurd (no_count tt)

  pub reopened_sound : IsPairSound history new spare' b standing.Idle
  reopened_sound = called_sound history journal new spare spare' b s standing.Idle Reopened sound step silent tells tt tt (λ raised. tt)
      (λ least here. older (LosesTo b (generation_of journal.payloads)) s' uncounted cut (stands least here))

  abbrev Kept_now : Type 0
  Kept_now = kept_of_pair (pair_of new spare' b standing.Idle) ≡ kept_after (kept_of_pair (pair_of journal spare b s)) Reopened

  pub reopened_step : IsPairStep history (pair_of journal spare b s) (Called Reopened) (pair_of new spare' b standing.Idle)
  reopened_step = record {
    kept = told_pair history b journal.disk spare Kept_now
        (told_from (history journal.disk) (λ _. kept_of new ≡ kept_after (kept_of journal) Reopened) (λ _. OnTold (history spare) (λ _. Kept_now))
        (λ _ is. told (history spare) (λ _. Kept_now) (λ _. same_kept _ _ _ _ (ap (λ (k : Kept). without_generation k.payloads) is) (ap pending_without pending))) step.kept);
    moments = called_moments history journal new spare spare' b s standing.Idle Reopened sound step silent tells tt sound.alone later;
    durable = pair_leaves history new spare' b standing.Idle reopened_sound;
  }

-- a call that changes nothing
pub pair_refused : {D : Type 0} (history : D → List Content) (journal : JournalState D) (spare : D) (b : Bool) (s : Spare) → IsPairSound history journal spare b s
    → IsPairStep history (pair_of journal spare b s) (Called Refused) (pair_of journal spare b s)
pair_refused history journal spare b s sound =
    let step = reopen_failed_step history journal journal spare spare b s s sound (failed_step history journal sound.leaves) (λ none. none) (tells_same (history spare) (history spare) refl) refl refl (λ least stands. stands)
    (λ least raised stands. same_leaves (history spare) (history spare) (MayOpenSpare (refused_frames s) (LosesTo b (generation_of journal.payloads))) refl) in
    record { kept = step.kept; moments = step.moments; durable = step.durable }

-- the same, of a spare disk that stands without a refused checkpoint
pub called_step : {D : Type 0} (history : D → List Content) (journal new : JournalState D) (spare : D) (b : Bool) (s : Spare) (call : Call) → is_refused s ≡ false → IsPairSound history journal spare b s → IsStep history journal call new
    → (history journal.disk ≡ [] → history new.disk ≡ []) → Fits journal.payloads call → IsPairStep history (pair_of journal spare b s) (Called call) (pair_of new spare b s)
called_step history journal new spare b standing.Idle call idle sound step silent fits = idle_step history journal new spare b call sound step silent fits
called_step history journal new spare b (standing.Untouched fs) call idle sound step silent fits = absurd cc
called_step history journal new spare b (standing.Shut fs) call idle sound step silent fits = absurd cc
called_step history journal new spare b (standing.Staged fs) call idle sound step silent fits = absurd cc

pub called_invariant : {D : Type 0} (history : D → List Content) (journal new : JournalState D) (spare : D) (b : Bool) (s : Spare) (call : Call) → is_refused s ≡ false → IsPairSound history journal spare b s → IsStep history journal call new
    → (history journal.disk ≡ [] → history new.disk ≡ []) → Fits journal.payloads call → IsPairSound history new spare b s
called_invariant history journal new spare b standing.Idle call idle sound step silent fits = idle_sound history journal new spare b call sound step silent fits
called_invariant history journal new spare b (standing.Untouched fs) call idle sound step silent fits = absurd cc
called_invariant history journal new spare b (standing.Shut fs) call idle sound step silent fits = absurd cc
called_invariant history journal new spare b (standing.Staged fs) call idle sound step silent fits = absurd cc
