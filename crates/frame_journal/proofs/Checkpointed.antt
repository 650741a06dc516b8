-- A checkpoint of a journal on two disks, from what became of the spare one.
use Rattle.std.proofs.Common.{◌≡◌, ◌⊎◌, inl, inr, ℕ, ◌+◌, ◌-◌, ◌^◌, ◌<◌, Bool, true, false, cond, not, Result, Err, Option, Some, None, Vec, List, [], ◌∷◌, ◌++◌, length, drop, refl, sym, ap, subst, ◌∙◌, arith}
use Rattle.std.specs.declared.alloc.Global.{Global}
use Rattle.disk_model.specs.Content.{Content, LeavesOnly}
use Rattle.disk_model.specs.Disk.{OnTold}
use Rattle.disk_model.specs.Moments.{LeftSince, LeavesAfter, LeavesSince, LeavesBothSince, LeavesBothAfter}
use Rattle.disk_model.proofs.Moments.{newest_left, goes_nowhere}
use Rattle.frame_journal.specs.Layout.{frames, ArePayloads, OpensWith, IsAtRest}
use Rattle.frame_journal.specs.Reading.{payloads_of}
use Rattle.frame_journal.specs.Resting.{Rests}
use Rattle.frame_journal.specs.Generation.{generation_of, without_generation, generation_payload, checkpoint_of}
use Rattle.frame_journal.specs.JournalState.{JournalState, MayOpenWith, LeavesJournal}
use Rattle.frame_journal.specs.Older.{OpensLesser, IsOlder, behind_first}
use Rattle.frame_journal.specs.PairState.{OpensPairWith, MayOpenPairWith, LosesTo, chosen}
use Rattle.frame_journal.specs.PairCalls.{Checkpointed, CheckpointFailed, kept_of_pair, kept_after_pair, IsPairStep}
use Rattle.frame_journal.specs.SpareState.{StandsSpare, IsRaised, KeepsGeneration, StandsAlone, SpareStand, IsPairSound, is_refused, refused_frames, refused_at_step, pending_with, pair_of}
use Rattle.frame_journal.specs.SpareSteps.{CheckpointLeaves}
use Rattle.frame_journal.specs.Steps.{TellsOn}
use Rattle.frame_journal.specs.declared.checkpoint.CheckpointFault.{CheckpointFault}
use Rattle.frame_journal.specs.declared.checkpoint.CheckpointFault.TheVariants.{AtShutting, AtBody, AtOpening}
use Rattle.frame_journal.specs.declared.spare.Spare.{Spare}
use Rattle.frame_journal.specs.declared.spare.Spare.TheVariants as standing
use Rattle.frame_journal.proofs.Told.{told, told_from}
use Rattle.frame_journal.proofs.Leaving.{synced_leaves}
use Rattle.frame_journal.proofs.Committing.{rest_opens}
use Rattle.frame_journal.proofs.Appending.{resting_leaves}
use Rattle.frame_journal.proofs.Stepping.{same_kept}
use Rattle.frame_journal.proofs.Tellings.{checkpoint_generation, checkpoint_without}
use Rattle.frame_journal.proofs.Pairing.{pair_moments, opens_pair, pair_leaves, move_stand, told_pair}

-- a disk at rest with frames of a lesser generation is an older one
pub rests_older : (loses : ℕ → Type 0) (ps : List (List ℕ)) (now : Content) → loses (generation_of ps) → Rests ps now → LeavesOnly now (IsOlder loses)
rests_older loses ps now lesser rests = synced_leaves now (IsOlder loses) rests.synced (older ps now.bytes lesser rests.rests) where
  older : (qs : List (List ℕ)) (file : List ℕ) → loses (generation_of qs) → IsAtRest qs (length (frames qs)) file → IsOlder loses file
  older [] file lesser rest = inl (omega (arith, ap length rest.split))
  older (q ∷ qs) file lesser rest =
      inr (drop 1 (frames (q ∷ qs) ++ rest.gate ∷ []), record { gate = 1; split = rest.split }, (q ∷ qs, subst (OpensWith (q ∷ qs)) rest.split (rest_opens (q ∷ qs) (length (frames (q ∷ qs))) file rest), lesser))

pub refused_is : (fault : CheckpointFault) (v : Vec (Vec ℕ Global) Global) → refused_frames (refused_at_step fault v) ≡ Some (payloads_of v.items)
refused_is AtShutting v = refl
refused_is AtBody v = refl
refused_is AtOpening v = refl

pub fault_spare : (fault : CheckpointFault) (v : Vec (Vec ℕ Global) Global) (loses : ℕ → Type 0) (history : List Content) → OnTold history (λ now. CheckpointLeaves (Err fault) loses (payloads_of v.items) now) → OnTold history (λ now. StandsSpare (refused_at_step fault v) loses now)
fault_spare AtShutting v loses history leaves = leaves
fault_spare AtBody v loses history leaves = leaves
fault_spare AtOpening v loses history leaves = leaves

-- the two moments of a checkpoint, on the disk gone on with and on the spare one
module _ {D : Type 0} (history : D → List Content) (journal : JournalState D) (spare spare' : D) (b : Bool) (s : Spare) (sound : IsPairSound history journal spare b s) (tells : TellsOn (history spare) (history spare')) (none : journal.pending ≡ None)
    (fs : List (List ℕ)) (raised : generation_of fs ≡ generation_of journal.payloads + 1) (fit : ArePayloads fs) (some : 0 < length fs)
    (moments : LosesTo b (generation_of journal.payloads) 0 → OnTold (history spare) (λ now. StandsSpare s (LosesTo b (generation_of journal.payloads)) now)
    → LeavesSince (history spare) (history spare') (λ image. OpensLesser (LosesTo b (generation_of journal.payloads)) image ⊎ OpensWith fs image)) where
  abbrev Both : Type 0
  Both = (i j : List ℕ) → LeftSince (history journal.disk) (history journal.disk) i → LeftSince (history spare) (history spare') j
      → MayOpenPairWith (without_generation journal.payloads) (Some (without_generation fs)) (cond b j i) (cond b i j)

  at : OnTold (history spare) (SpareStand journal.payloads journal.pending b s) → OnTold (history spare) (λ _. Both)
  at stand = told_from (history spare) (SpareStand journal.payloads journal.pending b s) (λ _. Both)
      (λ now st i j left left'.
      opens_pair b (Some fs) None journal.payloads i j refl (raised, fit, some) tt
      (subst (λ (o : Option (List (List ℕ))). MayOpenWith journal.payloads o i) none (newest_left (history journal.disk) (MayOpenWith journal.payloads journal.pending) sound.leaves i left))
      ((moments st.least (told_from (history spare) (SpareStand journal.payloads journal.pending b s) (λ n. StandsSpare s (LosesTo b (generation_of journal.payloads)) n) (λ n t. t.spare) stand)).leaves j left')) stand

  pub checkpoint_moments : LeavesBothSince (history (cond b spare journal.disk)) (history (cond b spare' journal.disk)) (history (cond b journal.disk spare)) (history (cond b journal.disk spare'))
      (MayOpenPairWith (without_generation journal.payloads) (Some (without_generation fs)))
  checkpoint_moments =
      pair_moments history b journal.disk journal.disk spare spare' (MayOpenPairWith (without_generation journal.payloads) (Some (without_generation fs)))
      (goes_nowhere (history journal.disk) (history journal.disk) refl) tells.goes_on (λ silent. silent) tells.silent
      (told_from (history journal.disk) (λ _. OnTold (history spare) (SpareStand journal.payloads journal.pending b s)) (λ _. OnTold (history spare) (λ _. Both)) (λ _ stand. at stand) sound.stand)

-- a checkpoint that was refused with a device fault
module _ {D : Type 0} (history : D → List Content) (journal : JournalState D) (spare spare' : D) (b : Bool) (s : Spare) (sound : IsPairSound history journal spare b s) (idle : refused_frames s ≡ None) (tells : TellsOn (history spare) (history spare')) (none : journal.pending ≡ None)
    (qs : List (List ℕ)) (fault : CheckpointFault) (v : Vec (Vec ℕ Global) Global) (is : payloads_of v.items ≡ checkpoint_of (generation_of journal.payloads + 1) qs) (small : generation_of journal.payloads + 1 < 2 ^ 64) (fit : ArePayloads (payloads_of v.items))
    (leaves : LosesTo b (generation_of journal.payloads) 0 → OnTold (history spare) (λ now. StandsSpare s (LosesTo b (generation_of journal.payloads)) now)
    → OnTold (history spare') (λ now. CheckpointLeaves (Err fault) (LosesTo b (generation_of journal.payloads)) (payloads_of v.items) now))
    (moments : LosesTo b (generation_of journal.payloads) 0 → OnTold (history spare) (λ now. StandsSpare s (LosesTo b (generation_of journal.payloads)) now)
    → LeavesSince (history spare) (history spare') (λ image. OpensLesser (LosesTo b (generation_of journal.payloads)) image ⊎ OpensWith (payloads_of v.items) image)) where
  raised : generation_of (payloads_of v.items) ≡ generation_of journal.payloads + 1
  raised = ap generation_of is ∙ checkpoint_generation (generation_of journal.payloads + 1) qs small

  some : 0 < length (payloads_of v.items)
  some = omega (arith, ap length is)

  pub fault_sound : IsPairSound history journal spare' b (refused_at_step fault v)
  fault_sound = record {
    alone = subst (λ (o : Option (List (List ℕ))). StandsAlone o journal.pending) (sym (refused_is fault v)) none;
    leaves = sound.leaves;
    stand = told_from (history journal.disk) (λ _. OnTold (history spare) (SpareStand journal.payloads journal.pending b s)) (λ _. OnTold (history spare') (SpareStand journal.payloads journal.pending b (refused_at_step fault v)))
        (λ _ stand. move_stand (history spare) (history spare') journal.payloads journal.payloads journal.pending journal.pending b b s (refused_at_step fault v) tells.silent stand
        (λ least. least) (λ _. subst (λ (o : Option (List (List ℕ))). IsRaised o (generation_of journal.payloads + 1)) (sym (refused_is fault v)) (raised, fit, some)) (λ keeps. keeps)
        (λ least here. fault_spare fault v (LosesTo b (generation_of journal.payloads)) (history spare') (leaves least here))) sound.stand;
  }

  without : without_generation (payloads_of v.items) ≡ qs
  without = ap without_generation is ∙ checkpoint_without (generation_of journal.payloads + 1) qs

  abbrev Kept_now : Type 0
  Kept_now = kept_of_pair (pair_of journal spare' b (refused_at_step fault v)) ≡ kept_after_pair (kept_of_pair (pair_of journal spare b s)) (CheckpointFailed qs)

  kept_now : Kept_now
  kept_now = same_kept (without_generation journal.payloads) (without_generation journal.payloads) _ _ refl (ap (λ (o : Option (List (List ℕ))). pending_with o journal.pending) (refused_is fault v) ∙ ap (λ l. Some l) without)

  pub fault_step : IsPairStep history (pair_of journal spare b s) (CheckpointFailed qs) (pair_of journal spare' b (refused_at_step fault v))
  fault_step = record {
    kept = told_pair history b journal.disk spare Kept_now (told (history journal.disk) (λ _. OnTold (history spare) (λ _. Kept_now)) (λ _. told (history spare) (λ _. Kept_now) (λ _. kept_now)));
    moments = subst (λ l. LeavesBothSince (history (cond b spare journal.disk)) (history (cond b spare' journal.disk)) (history (cond b journal.disk spare)) (history (cond b journal.disk spare')) (MayOpenPairWith (without_generation journal.payloads) (Some l))) without
        (checkpoint_moments history journal spare spare' b s sound tells none (payloads_of v.items) raised fit some moments);
    durable = pair_leaves history journal spare' b (refused_at_step fault v) fault_sound;
  }

-- the journal on the spare disk
abbrev pub moved : {D : Type 0} → D → List (List ℕ) → JournalState D
moved disk payloads = record { disk = disk; payloads = payloads; closed = false; pending = None }

-- one that is acknowledged: the disks change places
module _ {D : Type 0} (history : D → List Content) (journal : JournalState D) (spare spare' : D) (b : Bool) (s : Spare) (sound : IsPairSound history journal spare b s) (idle : refused_frames s ≡ None) (tells : TellsOn (history spare) (history spare')) (none : journal.pending ≡ None)
    (rests : OnTold (history journal.disk) (Rests journal.payloads))
    (qs fs : List (List ℕ)) (is : fs ≡ checkpoint_of (generation_of journal.payloads + 1) qs) (small : generation_of journal.payloads + 1 < 2 ^ 64) (fit : ArePayloads fs)
    (here : OnTold (history spare') (Rests fs))
    (moments : LosesTo b (generation_of journal.payloads) 0 → OnTold (history spare) (λ now. StandsSpare s (LosesTo b (generation_of journal.payloads)) now)
    → LeavesSince (history spare) (history spare') (λ image. OpensLesser (LosesTo b (generation_of journal.payloads)) image ⊎ OpensWith fs image)) where
  new_raised : generation_of fs ≡ generation_of journal.payloads + 1
  new_raised = ap generation_of is ∙ checkpoint_generation (generation_of journal.payloads + 1) qs small

  new_without : without_generation fs ≡ qs
  new_without = ap without_generation is ∙ checkpoint_without (generation_of journal.payloads + 1) qs

  lesser : (c : Bool) → LosesTo (not c) (generation_of fs) (generation_of journal.payloads)
  lesser true = omega (arith, new_raised)
  lesser false = omega (arith, new_raised)

  least : (c : Bool) → LosesTo (not c) (generation_of fs) 0
  least true = omega arith
  least false = omega (arith, new_raised)

  pub moved_sound : IsPairSound history (moved spare' fs) journal.disk (not b) standing.Idle
  moved_sound = record {
    alone = tt;
    leaves = told_from (history spare') (Rests fs) (LeavesJournal (moved spare' fs)) (λ now rest. resting_leaves fs (length (frames fs)) now rest) here;
    stand = told (history spare') (λ _. OnTold (history journal.disk) (SpareStand fs None (not b) standing.Idle))
        (λ _. told_from (history journal.disk) (Rests journal.payloads) (SpareStand fs None (not b) standing.Idle)
        (λ now rest. record { spare = rests_older (LosesTo (not b) (generation_of fs)) journal.payloads now (lesser b) rest; least = least b; raised = tt; kept = tt }) rests);
  }

  turned : (c : Bool) (x y : D) → cond c y x ≡ cond (not c) x y
  turned true x y = refl
  turned false x y = refl

  abbrev Kept_after : Type 0
  Kept_after = kept_of_pair (pair_of (moved spare' fs) journal.disk (not b) standing.Idle) ≡ kept_after_pair (kept_of_pair (pair_of journal spare b s)) (Checkpointed qs)

  kept_after_it : Kept_after
  kept_after_it = same_kept _ _ None None new_without refl

  pub moved_step : IsPairStep history (pair_of journal spare b s) (Checkpointed qs) (pair_of (moved spare' fs) journal.disk (not b) standing.Idle)
  moved_step = record {
    kept = told_pair history b journal.disk spare Kept_after (told (history journal.disk) (λ _. OnTold (history spare) (λ _. Kept_after)) (λ _. told (history spare) (λ _. Kept_after) (λ _. kept_after_it)));
    moments = subst (λ (d : D). LeavesBothSince (history (cond b spare journal.disk)) (history d) (history (cond b journal.disk spare)) (history (cond (not b) spare' journal.disk)) (MayOpenPairWith (without_generation journal.payloads) (Some qs)))
        (turned b journal.disk spare')
        (subst (λ (d : D). LeavesBothSince (history (cond b spare journal.disk)) (history (cond b spare' journal.disk)) (history (cond b journal.disk spare)) (history d) (MayOpenPairWith (without_generation journal.payloads) (Some qs)))
        (turned b spare' journal.disk)
        (subst (λ l. LeavesBothSince (history (cond b spare journal.disk)) (history (cond b spare' journal.disk)) (history (cond b journal.disk spare)) (history (cond b journal.disk spare')) (MayOpenPairWith (without_generation journal.payloads) (Some l))) new_without
        (checkpoint_moments history journal spare spare' b s sound tells none fs new_raised fit (omega (arith, ap length is)) moments)));
    durable = pair_leaves history (moved spare' fs) journal.disk (not b) standing.Idle moved_sound;
  }

-- two disks that were just opened: the one that goes on and the other one, whose frames lose
pub opened_sound : {D : Type 0} (history : D → List Content) (journal other : JournalState D) (b : Bool) → journal.pending ≡ None → OnTold (history journal.disk) (Rests journal.payloads) → OnTold (history other.disk) (Rests other.payloads)
    → LosesTo b (generation_of journal.payloads) (generation_of other.payloads) → IsPairSound history journal other.disk b standing.Idle
opened_sound history journal other b none rests rests' lesser = record {
  alone = tt;
  leaves = told_from (history journal.disk) (Rests journal.payloads) (LeavesJournal journal)
      (λ now rest. subst (λ (o : Option (List (List ℕ))). LeavesOnly now (MayOpenWith journal.payloads o)) (sym none) (resting_leaves journal.payloads (length (frames journal.payloads)) now rest)) rests;
  stand = told (history journal.disk) (λ _. OnTold (history other.disk) (SpareStand journal.payloads journal.pending b standing.Idle))
      (λ _. told_from (history other.disk) (Rests other.payloads) (SpareStand journal.payloads journal.pending b standing.Idle)
      (λ now rest. record {
        spare = rests_older (LosesTo b (generation_of journal.payloads)) other.payloads now lesser rest;
        least = least b lesser;
        raised = tt;
        kept = subst (λ (o : Option (List (List ℕ))). KeepsGeneration o (generation_of journal.payloads)) (sym none) tt;
      }) rests');
} where
  least : (c : Bool) → LosesTo c (generation_of journal.payloads) (generation_of other.payloads) → LosesTo c (generation_of journal.payloads) 0
  least true l = omega (arith, l)
  least false l = omega (arith, l)

-- both opened disks, and their moments
pub both_opened : (h h' k k' : List Content) (ps qs : List (List ℕ)) → LeavesAfter h h' (OpensWith ps) → LeavesAfter k k' (OpensWith qs) → LeavesBothAfter h h' k k' (OpensPairWith (without_generation (chosen ps qs)))
both_opened h h' k k' ps qs a b = record {
  goes_on = a.goes_on;
  goes_on' = b.goes_on;
  leaves = λ i j left left'. record { in_first = ps; in_second = qs; opens_first = a.leaves i left; opens_second = b.leaves j left'; goes_on = refl };
}

pub reads_both : (h k : List Content) (ps qs payloads : List (List ℕ)) → payloads ≡ without_generation (chosen ps qs) → OnTold h (λ now. OpensWith ps now.bytes) → OnTold k (λ now. OpensWith qs now.bytes)
    → OnTold h (λ now. OnTold k (λ now'. OpensPairWith payloads now.bytes now'.bytes))
reads_both h k ps qs payloads is first second =
    told_from h (λ now. OpensWith ps now.bytes) (λ now. OnTold k (λ now'. OpensPairWith payloads now.bytes now'.bytes))
    (λ now p. told_from k (λ now'. OpensWith qs now'.bytes) (λ now'. OpensPairWith payloads now.bytes now'.bytes)
    (λ now' q. record { in_first = ps; in_second = qs; opens_first = p; opens_second = q; goes_on = is }) second) first

pub idle_is : (s : Spare) → is_refused s ≡ false → s ≡ standing.Idle
idle_is standing.Idle is = refl
idle_is (standing.Untouched fs) is = absurd cc
idle_is (standing.Shut fs) is = absurd cc
idle_is (standing.Staged fs) is = absurd cc

-- What the code's values are of a checkpoint, and what its clauses say of the spare disk.
module _ {D : Type 0} (history : D → List Content) (journal : JournalState D) (spare spare' : D) (b : Bool) (r : Result (Unit {0}) CheckpointFault) (v : Vec (Vec ℕ Global) Global) (behind : List ℕ) (n : ℕ) (qs : List (List ℕ))
    (sound : IsPairSound history journal spare b standing.Idle) (tells : TellsOn (history spare) (history spare')) (none : journal.pending ≡ None)
    (is : payloads_of v.items ≡ checkpoint_of (n + 1) qs) (number : n ≡ generation_of journal.payloads) (bound : generation_of journal.payloads < 2 ^ 64 - 1) (fit : ArePayloads (payloads_of v.items))
    (spelt : behind ≡ behind_first (payloads_of v.items))
    (leaves : (on_second : Bool) (generation : ℕ) (payload : List ℕ) (payloads : List (List ℕ)) → ArePayloads (payload ∷ payloads) → behind ≡ behind_first (payload ∷ payloads) → LosesTo on_second generation 0
    → OnTold (history spare) (λ now. LeavesOnly now (IsOlder (LosesTo on_second generation))) → OnTold (history spare') (λ now. CheckpointLeaves r (LosesTo on_second generation) (payload ∷ payloads) now))
    (moments : (on_second : Bool) (generation : ℕ) (payload : List ℕ) (payloads : List (List ℕ)) → ArePayloads (payload ∷ payloads) → behind ≡ behind_first (payload ∷ payloads) → LosesTo on_second generation 0
    → OnTold (history spare) (λ now. LeavesOnly now (IsOlder (LosesTo on_second generation)))
    → LeavesSince (history spare) (history spare') (λ image. OpensLesser (LosesTo on_second generation) image ⊎ OpensWith (payload ∷ payloads) image)) where
  abbrev g : ℕ
  g = generation_of journal.payloads

  small : g + 1 < 2 ^ 64
  small = omega (arith, bound)

  pub all_is : payloads_of v.items ≡ checkpoint_of (g + 1) qs
  all_is = is ∙ ap (λ k. checkpoint_of (k + 1) qs) number

  all_fit : ArePayloads (checkpoint_of (g + 1) qs)
  all_fit = subst ArePayloads all_is fit

  all_spelt : behind ≡ behind_first (checkpoint_of (g + 1) qs)
  all_spelt = spelt ∙ ap behind_first all_is

  its_leaves : LosesTo b g 0 → OnTold (history spare) (λ now. StandsSpare standing.Idle (LosesTo b g) now) → OnTold (history spare') (λ now. CheckpointLeaves r (LosesTo b g) (payloads_of v.items) now)
  its_leaves least here = subst (λ l. OnTold (history spare') (λ now. CheckpointLeaves r (LosesTo b g) l now)) (sym all_is) (leaves b g (generation_payload (g + 1)) qs all_fit all_spelt least here)

  its_moments : LosesTo b g 0 → OnTold (history spare) (λ now. StandsSpare standing.Idle (LosesTo b g) now) → LeavesSince (history spare) (history spare') (λ image. OpensLesser (LosesTo b g) image ⊎ OpensWith (payloads_of v.items) image)
  its_moments least here = subst (λ l. LeavesSince (history spare) (history spare') (λ image. OpensLesser (LosesTo b g) image ⊎ OpensWith l image)) (sym all_is) (moments b g (generation_payload (g + 1)) qs all_fit all_spelt least here)

  module _ (fault : CheckpointFault) (failed : r ≡ Err fault) where
    fault_leaves : LosesTo b g 0 → OnTold (history spare) (λ now. StandsSpare standing.Idle (LosesTo b g) now) → OnTold (history spare') (λ now. CheckpointLeaves (Err fault) (LosesTo b g) (payloads_of v.items) now)
    fault_leaves least here = subst (λ (k : Result (Unit {0}) CheckpointFault). OnTold (history spare') (λ now. CheckpointLeaves k (LosesTo b g) (payloads_of v.items) now)) failed (its_leaves least here)

    pub refused_sound : IsPairSound history journal spare' b (refused_at_step fault v)
    refused_sound = fault_sound history journal spare spare' b standing.Idle sound refl tells none qs fault v all_is small fit fault_leaves its_moments

    pub refused_step : IsPairStep history (pair_of journal spare b standing.Idle) (CheckpointFailed qs) (pair_of journal spare' b (refused_at_step fault v))
    refused_step = fault_step history journal spare spare' b standing.Idle sound refl tells none qs fault v all_is small fit fault_leaves its_moments

  module _ (rests : OnTold (history journal.disk) (Rests journal.payloads))
      (written : (payload : List ℕ) (payloads : List (List ℕ)) → ArePayloads (payload ∷ payloads) → behind ≡ behind_first (payload ∷ payloads) → OnTold (history spare') (Rests (payload ∷ payloads))) where
    here : OnTold (history spare') (Rests (payloads_of v.items))
    here = subst (λ l. OnTold (history spare') (Rests l)) (sym all_is) (written (generation_payload (g + 1)) qs all_fit all_spelt)

    pub done_sound : IsPairSound history (moved spare' (payloads_of v.items)) journal.disk (not b) standing.Idle
    done_sound = moved_sound history journal spare spare' b standing.Idle sound refl tells none rests qs (payloads_of v.items) all_is small fit here its_moments

    pub done_step : IsPairStep history (pair_of journal spare b standing.Idle) (Checkpointed qs) (pair_of (moved spare' (payloads_of v.items)) journal.disk (not b) standing.Idle)
    done_step = moved_step history journal spare spare' b standing.Idle sound refl tells none rests qs (payloads_of v.items) all_is small fit here its_moments
