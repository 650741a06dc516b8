-- What a refused checkpoint left is taken from the spare disk.
use Rattle.std.proofs.Common.{◌≡◌, ◌⊎◌, inl, ℕ, ◌<◌, min, Option, Some, None, List, [], ◌∷◌, length, take, refl, subst, arith}
use Rattle.disk_model.specs.Content.{Content, TornWrite, LeavesOnly, settled, written_over, write_change, cut_change}
use Rattle.disk_model.specs.Disk.{OnTold, FailsInPart}
use Rattle.disk_model.specs.Moments.{LeavesAfter}
use Rattle.frame_journal.specs.Layout.{ArePayloads, OpensWith}
use Rattle.frame_journal.specs.Reading.{payloads_of, BeginsShut}
use Rattle.frame_journal.specs.Older.{StandsBehind, OpensLesser, IsOlder, behind_first}
use Rattle.frame_journal.specs.SpareState.{StandsSpare, MayCount, IsUncut, MayOpenSpare, IsRaised, refused_frames, after_shutting_spare, after_cutting_spare}
use Rattle.frame_journal.specs.Steps.{WritesSynced, CutsSynced}
use Rattle.frame_journal.specs.declared.spare.Spare.{Spare}
use Rattle.frame_journal.specs.declared.spare.Spare.TheVariants as spare
use Rattle.frame_journal.proofs.Told.{told, told_from}
use Rattle.frame_journal.proofs.Leaving.{IsReady, ready_when, ready_weaker, synced_leaves, same_leaves, then_fails, then_writes, then_cuts, now_failed, now_written, now_cut}
use Rattle.frame_journal.proofs.Gates.{byte_torn}
use Rattle.frame_journal.proofs.Olders.{older_opens, shut_opens, first_shut, cut_torn, cut_older, checkpoint_opens}

-- what stands whole behind the first gate counts or doesn't
staged_opens : (loses : ℕ → Type 0) → loses 0 → (fs : List (List ℕ)) → ArePayloads fs → 0 < length fs → (file : List ℕ) → StandsBehind [] (behind_first fs) file → OpensLesser loses file ⊎ OpensWith fs file
staged_opens loses least [] fit some file stands = absurd (omega arith)
staged_opens loses least (p ∷ ps) fit some file stands = checkpoint_opens p ps fit loses least file stands

-- what a crash may find on the spare disk
pub spare_leaves : (s : Spare) (history : List Content) (loses : ℕ → Type 0) (generation : ℕ) → loses 0 → IsRaised (refused_frames s) generation → OnTold history (λ now. StandsSpare s loses now)
    → OnTold history (λ now. LeavesOnly now (MayOpenSpare (refused_frames s) loses))
spare_leaves spare.Idle history loses generation least raised stands =
    told_from history (λ now. LeavesOnly now (IsOlder loses)) (λ now. LeavesOnly now (OpensLesser loses)) (λ now leaves image left. older_opens loses least image (leaves image left)) stands
spare_leaves (spare.Untouched fs) history loses generation least raised stands =
    told_from history (λ now. LeavesOnly now (IsOlder loses)) (λ now. LeavesOnly now (MayOpenSpare (refused_frames (spare.Untouched fs)) loses))
    (λ now leaves image left. inl (older_opens loses least image (leaves image left))) stands
spare_leaves (spare.Shut fs) history loses generation least raised stands =
    told_from history (λ now. LeavesOnly now BeginsShut) (λ now. LeavesOnly now (MayOpenSpare (refused_frames (spare.Shut fs)) loses))
    (λ now leaves image left. inl (shut_opens loses least image (leaves image left))) stands
spare_leaves (spare.Staged fs) history loses generation least raised stands =
    told_from history (λ now. LeavesOnly now (StandsBehind [] (behind_first (payloads_of fs.items)))) (λ now. LeavesOnly now (MayOpenSpare (refused_frames (spare.Staged fs)) loses))
    (λ now leaves image left. staged_opens loses least (payloads_of fs.items) raised.1 raised.2 image (leaves image left)) stands

-- a write at the first gate leaves what stands behind it
gate_ready : (history : List Content) (behind : List ℕ) → OnTold history (λ now. LeavesOnly now (StandsBehind [] behind)) → OnTold history (IsReady (write_change 0 1) (StandsBehind [] behind))
gate_ready history behind stands = told_from history (λ now. LeavesOnly now (StandsBehind [] behind)) (IsReady (write_change 0 1) (StandsBehind [] behind))
    (λ now leaves. ready_when (write_change 0 1) (StandsBehind [] behind) (StandsBehind [] behind) now leaves (λ file image s torn.
    let same : min 0 (length now.bytes) ≡ min 0 (length file) = omega arith in
    byte_torn [] behind 0 refl file image s (subst (λ k. TornWrite k 1 file image) same torn))) stands

-- where the write failed
pub shut_failed_stands : (s : Spare) (old new : List Content) (loses : ℕ → Type 0) → MayCount s → OnTold old (λ now. StandsSpare s loses now) → FailsInPart (write_change 0 1) old new → OnTold new (λ now. StandsSpare s loses now)
shut_failed_stands spare.Idle old new loses counts stands fails = absurd counts
shut_failed_stands (spare.Untouched fs) old new loses counts stands fails = absurd counts
shut_failed_stands (spare.Shut fs) old new loses counts stands fails = absurd counts
shut_failed_stands (spare.Staged fs) old new loses counts stands fails =
    let behind = behind_first (payloads_of fs.items) in
    now_failed old new (write_change 0 1) (StandsBehind [] behind) stands (gate_ready old behind stands) fails

-- where it was made
pub shut_made_stands : (s : Spare) (old new : List Content) (loses : ℕ → Type 0) → MayCount s → WritesSynced 0 (0 ∷ []) old new → OnTold new (λ now. StandsSpare (after_shutting_spare s) loses now)
shut_made_stands spare.Idle old new loses counts writes = absurd counts
shut_made_stands (spare.Untouched fs) old new loses counts writes = absurd counts
shut_made_stands (spare.Shut fs) old new loses counts writes = absurd counts
shut_made_stands (spare.Staged fs) old new loses counts writes =
    told_from new (λ now. (now ≡ settled now.bytes) × BeginsShut now.bytes) (λ now. LeavesOnly now BeginsShut) (λ now both. synced_leaves now BeginsShut both.0 both.1)
    (now_written old new 0 (0 ∷ []) BeginsShut writes (told old (λ now. BeginsShut (written_over now.bytes 0 (0 ∷ []))) (λ now. first_shut now.bytes)))

-- the moments of either
module _ (fs : List (List ℕ)) (loses : ℕ → Type 0) (least : loses 0) (fit : ArePayloads fs) (some : 0 < length fs) (old : List Content) (stands : OnTold old (λ now. LeavesOnly now (StandsBehind [] (behind_first fs)))) where
  abbrev P : List ℕ → Type 0
  P image = OpensLesser loses image ⊎ OpensWith fs image

  ready : OnTold old (IsReady (write_change 0 1) P)
  ready = told_from old (IsReady (write_change 0 1) (StandsBehind [] (behind_first fs))) (IsReady (write_change 0 1) P)
      (λ now r. ready_weaker (write_change 0 1) (StandsBehind [] (behind_first fs)) P now (λ image s. staged_opens loses least fs fit some image s) r)
      (gate_ready old (behind_first fs) stands)

  failed_moments : (new : List Content) → FailsInPart (write_change 0 1) old new → LeavesAfter old new P
  failed_moments new fails = then_fails old old new (write_change 0 1) P (same_leaves old old P refl) ready fails

  made_moments : (new : List Content) → WritesSynced 0 (0 ∷ []) old new → LeavesAfter old new P
  made_moments new writes = then_writes old old new 0 (0 ∷ []) P (same_leaves old old P refl) ready writes

pub shut_failed_later : (s : Spare) (old new : List Content) (loses : ℕ → Type 0) (generation : ℕ) → loses 0 → IsRaised (refused_frames s) generation → MayCount s → OnTold old (λ now. StandsSpare s loses now)
    → FailsInPart (write_change 0 1) old new → LeavesAfter old new (MayOpenSpare (refused_frames s) loses)
shut_failed_later spare.Idle old new loses generation least raised counts stands fails = absurd counts
shut_failed_later (spare.Untouched fs) old new loses generation least raised counts stands fails = absurd counts
shut_failed_later (spare.Shut fs) old new loses generation least raised counts stands fails = absurd counts
shut_failed_later (spare.Staged fs) old new loses generation least raised counts stands fails = failed_moments (payloads_of fs.items) loses least raised.1 raised.2 old stands new fails

pub shut_made_later : (s : Spare) (old new : List Content) (loses : ℕ → Type 0) (generation : ℕ) → loses 0 → IsRaised (refused_frames s) generation → MayCount s → OnTold old (λ now. StandsSpare s loses now)
    → WritesSynced 0 (0 ∷ []) old new → LeavesAfter old new (MayOpenSpare (refused_frames s) loses)
shut_made_later spare.Idle old new loses generation least raised counts stands writes = absurd counts
shut_made_later (spare.Untouched fs) old new loses generation least raised counts stands writes = absurd counts
shut_made_later (spare.Shut fs) old new loses generation least raised counts stands writes = absurd counts
shut_made_later (spare.Staged fs) old new loses generation least raised counts stands writes = made_moments (payloads_of fs.items) loses least raised.1 raised.2 old stands new writes

-- what stands behind the shut gate is cut away
module _ (old : List Content) (loses : ℕ → Type 0) (least : loses 0) (stands : OnTold old (λ now. LeavesOnly now BeginsShut)) where
  cut_ready : OnTold old (IsReady (cut_change 1) BeginsShut)
  cut_ready = told_from old (λ now. LeavesOnly now BeginsShut) (IsReady (cut_change 1) BeginsShut)
      (λ now leaves. ready_when (cut_change 1) BeginsShut BeginsShut now leaves (λ before image is_shut torn. cut_torn before image is_shut torn)) stands

  cut_moments : OnTold old (IsReady (cut_change 1) (OpensLesser loses))
  cut_moments = told_from old (IsReady (cut_change 1) BeginsShut) (IsReady (cut_change 1) (OpensLesser loses))
      (λ now r. ready_weaker (cut_change 1) BeginsShut (OpensLesser loses) now (λ image shut. shut_opens loses least image shut) r) cut_ready

  cut_failed_now : (new : List Content) → FailsInPart (cut_change 1) old new → OnTold new (λ now. LeavesOnly now BeginsShut)
  cut_failed_now new fails = now_failed old new (cut_change 1) BeginsShut stands cut_ready fails

  cut_failed_moments : (new : List Content) → FailsInPart (cut_change 1) old new → LeavesAfter old new (OpensLesser loses)
  cut_failed_moments new fails = then_fails old old new (cut_change 1) (OpensLesser loses) (same_leaves old old (OpensLesser loses) refl) cut_moments fails

  cut_made_moments : (new : List Content) → CutsSynced 1 old new → LeavesAfter old new (OpensLesser loses)
  cut_made_moments new cuts = then_cuts old old new 1 (OpensLesser loses) (same_leaves old old (OpensLesser loses) refl) cut_moments cuts

cut_made_now : (old new : List Content) (loses : ℕ → Type 0) → CutsSynced 1 old new → OnTold new (λ now. LeavesOnly now (IsOlder loses))
cut_made_now old new loses cuts =
    told_from new (λ now. (now ≡ settled now.bytes) × IsOlder loses now.bytes) (λ now. LeavesOnly now (IsOlder loses)) (λ now both. synced_leaves now (IsOlder loses) both.0 both.1)
    (now_cut old new 1 (IsOlder loses) cuts (told old (λ now. IsOlder loses (take 1 now.bytes)) (λ now. cut_older loses now.bytes)))

pub cut_failed_stands : (s : Spare) (old new : List Content) (loses : ℕ → Type 0) → loses 0 → IsUncut s → OnTold old (λ now. StandsSpare s loses now) → FailsInPart (cut_change 1) old new → OnTold new (λ now. StandsSpare s loses now)
cut_failed_stands spare.Idle old new loses least uncut stands fails = absurd uncut
cut_failed_stands (spare.Untouched fs) old new loses least uncut stands fails = absurd uncut
cut_failed_stands (spare.Shut fs) old new loses least uncut stands fails = cut_failed_now old loses least stands new fails
cut_failed_stands (spare.Staged fs) old new loses least uncut stands fails = absurd uncut

pub cut_made_stands : (s : Spare) (old new : List Content) (loses : ℕ → Type 0) → IsUncut s → CutsSynced 1 old new → OnTold new (λ now. StandsSpare (after_cutting_spare s) loses now)
cut_made_stands spare.Idle old new loses uncut cuts = absurd uncut
cut_made_stands (spare.Untouched fs) old new loses uncut cuts = absurd uncut
cut_made_stands (spare.Shut fs) old new loses uncut cuts = cut_made_now old new loses cuts
cut_made_stands (spare.Staged fs) old new loses uncut cuts = absurd uncut

pub cut_failed_later : (s : Spare) (old new : List Content) (loses : ℕ → Type 0) → loses 0 → IsUncut s → OnTold old (λ now. StandsSpare s loses now) → FailsInPart (cut_change 1) old new → LeavesAfter old new (OpensLesser loses)
cut_failed_later spare.Idle old new loses least uncut stands fails = absurd uncut
cut_failed_later (spare.Untouched fs) old new loses least uncut stands fails = absurd uncut
cut_failed_later (spare.Shut fs) old new loses least uncut stands fails = cut_failed_moments old loses least stands new fails
cut_failed_later (spare.Staged fs) old new loses least uncut stands fails = absurd uncut

pub cut_made_later : (s : Spare) (old new : List Content) (loses : ℕ → Type 0) → loses 0 → IsUncut s → OnTold old (λ now. StandsSpare s loses now) → CutsSynced 1 old new → LeavesAfter old new (OpensLesser loses)
cut_made_later spare.Idle old new loses least uncut stands cuts = absurd uncut
cut_made_later (spare.Untouched fs) old new loses least uncut stands cuts = absurd uncut
cut_made_later (spare.Shut fs) old new loses least uncut stands cuts = cut_made_moments old loses least stands new cuts
cut_made_later (spare.Staged fs) old new loses least uncut stands cuts = absurd uncut

-- frames that lose are among what may be found
pub lesser_or_more : (refused : Option (List (List ℕ))) (loses : ℕ → Type 0) (image : List ℕ) → OpensLesser loses image → MayOpenSpare refused loses image
lesser_or_more None loses image opens = opens
lesser_or_more (Some other) loses image opens = inl opens
