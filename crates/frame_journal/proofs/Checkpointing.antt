-- A checkpoint on the spare disk, step by step.
use Rattle.std.proofs.Common.{◌≡◌, ◌⊎◌, inl, ℕ, ◌+◌, Result, Ok, Err, OnOk, OnErr, List, [], ◌∷◌, length, refl}
use Rattle.disk_model.specs.Content.{Content, LeavesOnly, settled, written_over, write_change, cut_change}
use Rattle.disk_model.specs.Disk.{OnTold, Cuts, FailsInPart}
use Rattle.disk_model.specs.declared.disk.Failed.{Failed}
use Rattle.disk_model.specs.Moments.{LeavesAfter, LeavesSince}
use Rattle.frame_journal.specs.Layout.{frames, ArePayloads, OpensWith, IsAtRest}
use Rattle.frame_journal.specs.Reading.{BeginsShut}
use Rattle.frame_journal.specs.Resting.{IsResting}
use Rattle.frame_journal.specs.Older.{StandsBehind, OpensLesser, IsOlder, behind_first}
use Rattle.frame_journal.specs.Steps.{WritesSynced}
use Rattle.frame_journal.proofs.Told.{told, told_from}
use Rattle.frame_journal.proofs.Leaving.{IsReady, ready_when, ready_from, ready_weaker, synced_leaves, since_from, same_leaves, leaves_then, then_fails, then_writes, then_cut, now_failed, now_written}
use Rattle.frame_journal.proofs.Reopening.{newest}
use Rattle.frame_journal.proofs.Gates.{byte_torn}
use Rattle.frame_journal.proofs.Olders.{older_torn, older_opens, shut_opens, first_shut, behind_torn, cut_torn, checkpoint_opens, checkpoint_rests}

-- what follows from each outcome
pub either : {T E : Type 0} (r : Result T E) (P Q R : Type 0) → OnOk r P → OnErr r Q → (P → R) → (Q → R) → R
either (Ok x) P Q R made failed from_made from_failed = from_made made
either (Err e) P Q R made failed from_made from_failed = from_failed failed

-- what stands behind a shut gate is cut away, and something else is written there
module _ (old : List Content) (shut : OnTold old (λ now. LeavesOnly now BeginsShut)) where
  cut_ready : OnTold old (IsReady (cut_change 1) BeginsShut)
  cut_ready = told_from old (λ now. LeavesOnly now BeginsShut) (IsReady (cut_change 1) BeginsShut)
      (λ now leaves. ready_when (cut_change 1) BeginsShut BeginsShut now leaves (λ before image is_shut torn. cut_torn before image is_shut torn)) shut

  pub cut_failed : (new : List Content) → FailsInPart (cut_change 1) old new → LeavesAfter old new BeginsShut
  cut_failed new fails = then_fails old old new (cut_change 1) BeginsShut (same_leaves old old BeginsShut refl) cut_ready fails

  module _ (mid : List Content) (cuts : Cuts 1 old mid) where
    cut_made : LeavesAfter old mid BeginsShut
    cut_made = then_cut old old mid 1 BeginsShut (same_leaves old old BeginsShut refl) cut_ready cuts

    write_ready : (n : ℕ) → OnTold mid (IsReady (write_change 1 n) BeginsShut)
    write_ready n = told_from mid (λ now. LeavesOnly now BeginsShut) (IsReady (write_change 1 n) BeginsShut)
        (λ now leaves. ready_when (write_change 1 n) BeginsShut BeginsShut now leaves
        (λ before image is_shut torn. behind_torn now.bytes before image (1 + n) (leaves now.bytes (inl refl)) is_shut torn))
        (newest old mid BeginsShut shut cut_made)

    pub behind_moments : (r : Result (Unit {0}) Failed) (new : List Content) (bytes : List ℕ) → OnOk r (WritesSynced 1 bytes mid new) → OnErr r (FailsInPart (write_change 1 (length bytes)) mid new) → LeavesAfter old new BeginsShut
    behind_moments r new bytes made failed =
        either r (WritesSynced 1 bytes mid new) (FailsInPart (write_change 1 (length bytes)) mid new) (LeavesAfter old new BeginsShut) made failed
        (λ writes. then_writes old mid new 1 bytes BeginsShut cut_made (write_ready (length bytes)) writes)
        (λ fails. then_fails old mid new (write_change 1 (length bytes)) BeginsShut cut_made (write_ready (length bytes)) fails)

-- a first gate is shut, whatever the disk held
pub shut_now : (old mid : List Content) → WritesSynced 0 (0 ∷ []) old mid → OnTold mid (λ now. (now ≡ settled now.bytes) × BeginsShut now.bytes)
shut_now old mid shuts = now_written old mid 0 (0 ∷ []) BeginsShut shuts (told old (λ now. BeginsShut (written_over now.bytes 0 (0 ∷ []))) (λ now. first_shut now.bytes))

-- the first gate before these frames is opened
pub rests_now : (p : List ℕ) (ps : List (List ℕ)) (next new : List Content) → ArePayloads (p ∷ ps) → OnTold next (λ now. (now ≡ settled now.bytes) × StandsBehind [] (behind_first (p ∷ ps)) now.bytes) → WritesSynced 0 (1 ∷ []) next new
    → OnTold new (λ now. IsResting (p ∷ ps) (length (frames (p ∷ ps))) now)
rests_now p ps next new fit stands opens =
    told_from new (λ now. (now ≡ settled now.bytes) × IsAtRest (p ∷ ps) (length (frames (p ∷ ps))) now.bytes) (λ now. IsResting (p ∷ ps) (length (frames (p ∷ ps))) now)
    (λ now both. record { synced = both.0; rests = both.1 })
    (now_written next new 0 (1 ∷ []) (IsAtRest (p ∷ ps) (length (frames (p ∷ ps)))) opens
    (told_from next (λ now. (now ≡ settled now.bytes) × StandsBehind [] (behind_first (p ∷ ps)) now.bytes) (λ now. IsAtRest (p ∷ ps) (length (frames (p ∷ ps))) (written_over now.bytes 0 (1 ∷ [])))
    (λ now both. checkpoint_rests p ps fit now.bytes both.1) stands))

-- a checkpoint of these frames over older ones
module _ (loses : ℕ → Type 0) (least : loses 0) (p : List ℕ) (ps : List (List ℕ)) (fit : ArePayloads (p ∷ ps)) (old : List Content) (before : OnTold old (λ now. LeavesOnly now (IsOlder loses))) where
  abbrev P : List ℕ → Type 0
  P image = OpensLesser loses image ⊎ OpensWith (p ∷ ps) image

  abbrev Body : List ℕ → Type 0
  Body image = StandsBehind [] (behind_first (p ∷ ps)) image

  at_first : OnTold old (λ now. LeavesOnly now P)
  at_first = told_from old (λ now. LeavesOnly now (IsOlder loses)) (λ now. LeavesOnly now P) (λ now leaves image left. inl (older_opens loses least image (leaves image left))) before

  first_ready : OnTold old (IsReady (write_change 0 1) (IsOlder loses))
  first_ready = told_from old (λ now. LeavesOnly now (IsOlder loses)) (IsReady (write_change 0 1) (IsOlder loses))
      (λ now leaves. ready_when (write_change 0 1) (IsOlder loses) (IsOlder loses) now leaves (λ file image older torn. older_torn loses _ file image older torn)) before

  first_moments : OnTold old (IsReady (write_change 0 1) P)
  first_moments = told_from old (IsReady (write_change 0 1) (IsOlder loses)) (IsReady (write_change 0 1) P)
      (λ now r. ready_weaker (write_change 0 1) (IsOlder loses) P now (λ image older. inl (older_opens loses least image older)) r) first_ready

  pub shutting_failed : (new : List Content) → FailsInPart (write_change 0 1) old new → OnTold new (λ now. LeavesOnly now (IsOlder loses))
  shutting_failed new fails = now_failed old new (write_change 0 1) (IsOlder loses) before first_ready fails

  pub shutting_failed_moments : (new : List Content) → FailsInPart (write_change 0 1) old new → LeavesSince old new P
  shutting_failed_moments new fails = since_from old new P at_first (then_fails old old new (write_change 0 1) P (same_leaves old old P refl) first_moments fails)

  module _ (mid : List Content) (shuts : WritesSynced 0 (0 ∷ []) old mid) where
    pub now_shut : OnTold mid (λ now. (now ≡ settled now.bytes) × BeginsShut now.bytes)
    now_shut = shut_now old mid shuts

    pub leaves_shut : OnTold mid (λ now. LeavesOnly now BeginsShut)
    leaves_shut = told_from mid (λ now. (now ≡ settled now.bytes) × BeginsShut now.bytes) (λ now. LeavesOnly now BeginsShut) (λ now both. synced_leaves now BeginsShut both.0 both.1) now_shut

    shut_so_far : LeavesAfter old mid P
    shut_so_far = then_writes old old mid 0 (0 ∷ []) P (same_leaves old old P refl) first_moments shuts

    module _ (next : List Content) (replaces : LeavesAfter mid next BeginsShut) where
      body_so_far : LeavesAfter old next P
      body_so_far = leaves_then old mid next P BeginsShut (λ image shut. inl (shut_opens loses least image shut)) shut_so_far replaces

      pub body_failed : OnTold next (λ now. LeavesOnly now BeginsShut)
      body_failed = newest mid next BeginsShut leaves_shut replaces

      pub body_failed_moments : LeavesSince old next P
      body_failed_moments = since_from old next P at_first body_so_far

      module _ (stands : OnTold next (λ now. (now ≡ settled now.bytes) × Body now.bytes)) where
        body_leaves : OnTold next (λ now. LeavesOnly now Body)
        body_leaves = told_from next (λ now. (now ≡ settled now.bytes) × Body now.bytes) (λ now. LeavesOnly now Body) (λ now both. synced_leaves now Body both.0 both.1) stands

        open_ready : OnTold next (IsReady (write_change 0 1) Body)
        open_ready = told_from next (λ now. (now ≡ settled now.bytes) × Body now.bytes) (IsReady (write_change 0 1) Body)
            (λ now both. ready_from (write_change 0 1) Body now both.0 (λ image torn. byte_torn [] (behind_first (p ∷ ps)) 0 refl now.bytes image both.1 torn)) stands

        open_moments : OnTold next (IsReady (write_change 0 1) P)
        open_moments = told_from next (IsReady (write_change 0 1) Body) (IsReady (write_change 0 1) P)
            (λ now r. ready_weaker (write_change 0 1) Body P now (λ image body. checkpoint_opens p ps fit loses least image body) r) open_ready

        pub opening_failed : (new : List Content) → FailsInPart (write_change 0 1) next new → OnTold new (λ now. LeavesOnly now Body)
        opening_failed new fails = now_failed next new (write_change 0 1) Body body_leaves open_ready fails

        pub opening_failed_moments : (new : List Content) → FailsInPart (write_change 0 1) next new → LeavesSince old new P
        opening_failed_moments new fails = since_from old new P at_first (then_fails old next new (write_change 0 1) P body_so_far open_moments fails)

        pub opened_rests : (new : List Content) → WritesSynced 0 (1 ∷ []) next new → OnTold new (λ now. IsResting (p ∷ ps) (length (frames (p ∷ ps))) now)
        opened_rests new opens = rests_now p ps next new fit stands opens

        pub opened_moments : (new : List Content) → WritesSynced 0 (1 ∷ []) next new → LeavesSince old new P
        opened_moments new opens = since_from old new P at_first (then_writes old next new 0 (1 ∷ []) P body_so_far open_moments opens)
