-- Two disks: what a crash may leave of both, from what it may leave of each.
use Rattle.std.proofs.Common.{◌≡◌, inl, inr, ℕ, ◌+◌, Bool, true, false, cond, Option, Some, None, List, [], ◌∷◌, length, refl, sym, ap, subst, arith}
use Rattle.std.proofs.lemmas.List.{length-append}
use Rattle.disk_model.specs.Content.{Content, LeavesOnly}
use Rattle.disk_model.specs.Disk.{OnTold}
use Rattle.disk_model.specs.Moments.{GoesOn, LeftSince, LeavesBothSince}
use Rattle.frame_journal.specs.Generation.{generation_of, without_generation}
use Rattle.frame_journal.specs.Older.{OpensLesser}
use Rattle.frame_journal.specs.JournalState.{JournalState, MayOpenWith, LeavesJournal}
use Rattle.frame_journal.specs.PairState.{MayOpenPairWith, LeavesPair, LosesTo}
use Rattle.frame_journal.specs.SpareState.{StandsSpare, MayOpenSpare, IsRaised, KeepsGeneration, StandsAlone, SpareStand, IsPairSound, refused_frames, pending_with, pair_of}
use Rattle.frame_journal.specs.declared.spare.Spare.{Spare}
use Rattle.frame_journal.proofs.Told.{told, told_from}
use Rattle.frame_journal.proofs.Tellings.{opens_by, opens_greater}
use Rattle.frame_journal.proofs.Clearing.{spare_leaves}

-- of a disk that tells nothing there is no moment
none_since : (image : List ℕ) → LeftSince [] [] image → ⊥
none_since image left = let m = left.1 in omega (arith, ap length m.stands, length-append m.later (left.0 ∷ m.past))

pub both_left : (h h' k k' : List Content) → (h ≡ [] → h' ≡ []) → (k ≡ [] → k' ≡ []) → (Q : List ℕ → List ℕ → Type 0)
    → OnTold h (λ _. OnTold k (λ _. (i j : List ℕ) → LeftSince h h' i → LeftSince k k' j → Q i j)) → (i j : List ℕ) → LeftSince h h' i → LeftSince k k' j → Q i j
both_left [] h' k k' h-silent k-silent Q both i j left left' = absurd (none_since i (subst (λ l. LeftSince [] l i) (h-silent refl) left))
both_left (now ∷ past) h' [] k' h-silent k-silent Q both i j left left' = absurd (none_since j (subst (λ l. LeftSince [] l j) (k-silent refl) left'))
both_left (now ∷ past) h' (now' ∷ past') k' h-silent k-silent Q both i j left left' = both i j left left'

-- the moments of the disk gone on with and of the spare one, as those of the first and the second
pub pair_moments : {D : Type 0} (history : D → List Content) (b : Bool) (disk disk' spare spare' : D) (Q : List ℕ → List ℕ → Type 0)
    → GoesOn (history disk) (history disk') → GoesOn (history spare) (history spare') → (history disk ≡ [] → history disk' ≡ []) → (history spare ≡ [] → history spare' ≡ [])
    → OnTold (history disk) (λ _. OnTold (history spare) (λ _. (i j : List ℕ) → LeftSince (history disk) (history disk') i → LeftSince (history spare) (history spare') j → Q (cond b j i) (cond b i j)))
    → LeavesBothSince (history (cond b spare disk)) (history (cond b spare' disk')) (history (cond b disk spare)) (history (cond b disk' spare')) Q
pair_moments history false disk disk' spare spare' Q on on' quiet quiet' both = record {
  goes_on = on;
  goes_on' = on';
  leaves = λ i j left left'. both_left (history disk) (history disk') (history spare) (history spare') quiet quiet' Q both i j left left';
}
pair_moments history true disk disk' spare spare' Q on on' quiet quiet' both = record {
  goes_on = on';
  goes_on' = on;
  leaves = λ j i left' left. both_left (history disk) (history disk') (history spare) (history spare') quiet quiet' (λ i j. Q j i) both i j left left';
}

-- two images, one of the disk gone on with and one of the spare disk
pub opens_pair : (b : Bool) (refused pending : Option (List (List ℕ))) (ps : List (List ℕ)) (i j : List ℕ) → StandsAlone refused pending → IsRaised refused (generation_of ps + 1) → KeepsGeneration pending (generation_of ps)
    → MayOpenWith ps pending i → MayOpenSpare refused (LosesTo b (generation_of ps)) j → MayOpenPairWith (without_generation ps) (pending_with refused pending) (cond b j i) (cond b i j)
opens_pair b None None ps i j alone raised kept opens spare = opens_by b ps i j opens spare
opens_pair b None (Some other) ps i j alone raised kept (inl opens) spare = inl (opens_by b ps i j opens spare)
opens_pair b None (Some other) ps i j alone raised kept (inr opens) spare = inr (opens_by b other i j opens (subst (λ n. OpensLesser (LosesTo b n) j) (sym kept) spare))
opens_pair b (Some fs) None ps i j alone raised kept opens (inl spare) = inl (opens_by b ps i j opens spare)
opens_pair b (Some fs) None ps i j alone raised kept opens (inr spare) = inr (opens_greater b ps fs i j opens spare (omega (arith, raised.0)))
opens_pair b (Some fs) (Some other) ps i j alone raised kept opens spare = absurd cc

-- what the spare disk leaves where it stands so
pub stand_leaves : (history : List Content) (ps : List (List ℕ)) (pending : Option (List (List ℕ))) (b : Bool) (s : Spare) → OnTold history (SpareStand ps pending b s)
    → OnTold history (λ now. LeavesOnly now (MayOpenSpare (refused_frames s) (LosesTo b (generation_of ps))))
stand_leaves history ps pending b s stand =
    told_from history (SpareStand ps pending b s) (λ now. LeavesOnly now (MayOpenSpare (refused_frames s) (LosesTo b (generation_of ps))))
    (λ now st. spare_leaves s (now ∷ []) (LosesTo b (generation_of ps)) (generation_of ps + 1) st.least st.raised st.spare) stand

-- what a crash may leave behind a call
pub pair_leaves : {D : Type 0} (history : D → List Content) (journal : JournalState D) (spare : D) (b : Bool) (s : Spare) → IsPairSound history journal spare b s
    → OnTold (history (pair_of journal spare b s).first) (λ first. OnTold (history (pair_of journal spare b s).second) (λ second. LeavesPair (pair_of journal spare b s) first second))
pair_leaves history journal spare false s sound = both (history journal.disk) sound.leaves sound.stand where
  at : (now now' : Content) → LeavesJournal journal now → SpareStand journal.payloads journal.pending false s now' → LeavesPair (pair_of journal spare false s) now now'
  at now now' leaves st i j left left' =
      opens_pair false (refused_frames s) journal.pending journal.payloads i j sound.alone st.raised st.kept (leaves i left)
      (spare_leaves s (now' ∷ []) (LosesTo false (generation_of journal.payloads)) (generation_of journal.payloads + 1) st.least st.raised st.spare j left')

  both : (h : List Content) → OnTold h (LeavesJournal journal) → OnTold h (λ _. OnTold (history spare) (SpareStand journal.payloads journal.pending false s))
      → OnTold h (λ first. OnTold (history spare) (λ second. LeavesPair (pair_of journal spare false s) first second))
  both [] leaves stand = tt
  both (now ∷ past) leaves stand = told_from (history spare) (SpareStand journal.payloads journal.pending false s) (λ second. LeavesPair (pair_of journal spare false s) now second) (λ now' st. at now now' leaves st) stand
pair_leaves history journal spare true s sound = both (history journal.disk) (history spare) sound.leaves sound.stand where
  at : (now now' : Content) → LeavesJournal journal now → SpareStand journal.payloads journal.pending true s now' → LeavesPair (pair_of journal spare true s) now' now
  at now now' leaves st j i left' left =
      opens_pair true (refused_frames s) journal.pending journal.payloads i j sound.alone st.raised st.kept (leaves i left)
      (spare_leaves s (now' ∷ []) (LosesTo true (generation_of journal.payloads)) (generation_of journal.payloads + 1) st.least st.raised st.spare j left')

  both : (h k : List Content) → OnTold h (LeavesJournal journal) → OnTold h (λ _. OnTold k (SpareStand journal.payloads journal.pending true s))
      → OnTold k (λ first. OnTold h (λ second. LeavesPair (pair_of journal spare true s) first second))
  both h [] leaves stand = tt
  both [] (now' ∷ past') leaves stand = tt
  both (now ∷ past) (now' ∷ past') leaves stand = at now now' leaves stand

-- what is so where a disk tells, is so behind a call
pub carry : (h h' : List Content) (X : Type 0) → (h ≡ [] → h' ≡ []) → OnTold h (λ _. X) → OnTold h' (λ _. X)
carry [] h' X silent x = subst (λ l. OnTold l (λ _. X)) (sym (silent refl)) tt
carry (now ∷ past) h' X silent x = told h' (λ _. X) (λ _. x)

-- the spare disk stands so behind a call
pub move_stand : (k k' : List Content) (ps qs : List (List ℕ)) (pending pending' : Option (List (List ℕ))) (b b' : Bool) (s s' : Spare) → (k ≡ [] → k' ≡ []) → OnTold k (SpareStand ps pending b s)
    → (LosesTo b (generation_of ps) 0 → LosesTo b' (generation_of qs) 0)
    → (IsRaised (refused_frames s) (generation_of ps + 1) → IsRaised (refused_frames s') (generation_of qs + 1))
    → (KeepsGeneration pending (generation_of ps) → KeepsGeneration pending' (generation_of qs))
    → (LosesTo b (generation_of ps) 0 → OnTold k (λ now. StandsSpare s (LosesTo b (generation_of ps)) now) → OnTold k' (λ now. StandsSpare s' (LosesTo b' (generation_of qs)) now))
    → OnTold k' (SpareStand qs pending' b' s')
move_stand [] k' ps qs pending pending' b b' s s' silent stand least raised kept spare = subst (λ l. OnTold l (SpareStand qs pending' b' s')) (sym (silent refl)) tt
move_stand (now ∷ past) k' ps qs pending pending' b b' s s' silent stand least raised kept spare =
    told_from k' (λ n. StandsSpare s' (LosesTo b' (generation_of qs)) n) (SpareStand qs pending' b' s')
    (λ n st. record { spare = st; least = least stand.least; raised = raised stand.raised; kept = kept stand.kept }) (spare stand.least stand.spare)

-- two disks in either order
pub told_pair : {D : Type 0} (history : D → List Content) (b : Bool) (disk spare : D) (X : Type 0) → OnTold (history disk) (λ _. OnTold (history spare) (λ _. X)) → OnTold (history (cond b spare disk)) (λ _. OnTold (history (cond b disk spare)) (λ _. X))
told_pair history false disk spare X x = x
told_pair history true disk spare X x = turned (history disk) (history spare) x where
  turned : (h k : List Content) → OnTold h (λ _. OnTold k (λ _. X)) → OnTold k (λ _. OnTold h (λ _. X))
  turned h [] x = tt
  turned [] (now' ∷ past') x = tt
  turned (now ∷ past) (now' ∷ past') x = x

pub told_back_pair : {D : Type 0} (history : D → List Content) (b : Bool) (disk spare : D) (X : Type 0) → OnTold (history (cond b spare disk)) (λ _. OnTold (history (cond b disk spare)) (λ _. X)) → OnTold (history disk) (λ _. OnTold (history spare) (λ _. X))
told_back_pair history false disk spare X x = x
told_back_pair history true disk spare X x = turned (history spare) (history disk) x where
  turned : (h k : List Content) → OnTold h (λ _. OnTold k (λ _. X)) → OnTold k (λ _. OnTold h (λ _. X))
  turned h [] x = tt
  turned [] (now' ∷ past') x = tt
  turned (now ∷ past) (now' ∷ past') x = x
