-- A journal is opened again on its disk.
use Rattle.std.proofs.Common.{◌≡◌, inl, ℕ, true, false, Result, Ok, Err, OnOk, OnErr, is_err, Option, Some, None, List, [], ◌∷◌, ◌++◌, refl, sym, subst}
use Rattle.disk_model.specs.Content.{Content, LeavesOnly}
use Rattle.disk_model.specs.Disk.{OnTold, Syncs}
use Rattle.disk_model.specs.Moments.{LeavesAfter, LeavesSince}
use Rattle.frame_journal.specs.Layout.{OpensWith, IsBadFrame}
use Rattle.frame_journal.specs.Resting.{IsResting}
use Rattle.frame_journal.specs.JournalState.{MayOpenWith}
use Rattle.frame_journal.specs.Standing.{Stands, MayBeOpen, pending_of, after_fault}
use Rattle.frame_journal.specs.declared.standing.Standing.{Standing}
use Rattle.frame_journal.specs.declared.standing.Standing.TheVariants as standing
use Rattle.frame_journal.proofs.Told.{told_from, told_from_two}
use Rattle.frame_journal.proofs.Leaving.{settled_leaves, since_from, leaves_then, newest_leaves}
use Rattle.frame_journal.proofs.Openings.{one_opening, opens_or_bad}
use Rattle.frame_journal.proofs.Committing.{rest_opens}
use Rattle.frame_journal.proofs.Appending.{resting_leaves, stands_leaves}

-- what a call ensures where it failed
pub when_err : {T E : Type 0} (r : Result T E) (P : Type 0) → is_err r ≡ true → OnErr r P → P
when_err (Ok x) P bad h = absurd cc
when_err (Err e) P bad h = h

-- what a call ensures where it didn't fail
pub when_ok : {T E : Type 0} (r : Result T E) (P : Type 0) → is_err r ≡ false → OnOk r P → P
when_ok (Ok x) P ok h = h
when_ok (Err e) P ok h = absurd cc

-- a file that opens with the acknowledged frames may do so
may_open : (ps : List (List ℕ)) (pending : Option (List (List ℕ))) (file : List ℕ) → OpensWith ps file → MayOpenWith ps pending file
may_open ps None file opens = opens
may_open ps (Some other) file opens = inl opens

-- the moments of opening again
pub reopen_moments : (s : Standing) (old mid new : List Content) (ps : List (List ℕ)) (gate : ℕ) → OnTold old (λ now. Stands s ps gate now) → LeavesAfter old mid (MayOpenWith ps (pending_of s ps)) → LeavesAfter mid new (OpensWith ps)
    → LeavesSince old new (MayOpenWith ps (pending_of s ps))
reopen_moments s old mid new ps gate stands first second =
    since_from old new (MayOpenWith ps (pending_of s ps)) (stands_leaves s old ps gate stands)
    (leaves_then old mid new (MayOpenWith ps (pending_of s ps)) (OpensWith ps) (λ image opens. may_open ps (pending_of s ps) image opens) first second)

-- those where its first call failed
pub shut_moments : (s : Standing) (old mid : List Content) (ps : List (List ℕ)) (gate : ℕ) → OnTold old (λ now. Stands s ps gate now) → LeavesAfter old mid (MayOpenWith ps (pending_of s ps)) → LeavesSince old mid (MayOpenWith ps (pending_of s ps))
shut_moments s old mid ps gate stands first = since_from old mid (MayOpenWith ps (pending_of s ps)) (stands_leaves s old ps gate stands) first

-- a disk on which no refused frame may count leaves the acknowledged frames alone
pub opens_only : (s : Standing) (history : List Content) (ps : List (List ℕ)) (gate : ℕ) → (MayBeOpen s → ⊥) → OnTold history (λ now. Stands s ps gate now) → OnTold history (λ now. LeavesOnly now (OpensWith ps))
opens_only standing.Open history ps gate shut stands = told_from history (λ now. IsResting ps gate now) (λ now. LeavesOnly now (OpensWith ps)) (λ now rests. resting_leaves ps gate now rests) stands
opens_only standing.Closed history ps gate shut stands = stands
opens_only (standing.Refused q) history ps gate shut stands = stands
opens_only (standing.Staged q) history ps gate shut stands = absurd (shut tt)

-- and reads so
pub opens_now : (s : Standing) (history : List Content) (ps : List (List ℕ)) (gate : ℕ) → (MayBeOpen s → ⊥) → OnTold history (λ now. Stands s ps gate now) → OnTold history (λ now. OpensWith ps now.bytes)
opens_now s history ps gate shut stands =
    told_from history (λ now. LeavesOnly now (OpensWith ps)) (λ now. OpensWith ps now.bytes) (λ now leaves. leaves now.bytes (inl refl)) (opens_only s history ps gate shut stands)

-- what is known of the newest content after a run
pub newest : (mid new : List Content) (P : List ℕ → Type 0) → OnTold mid (λ now. LeavesOnly now P) → LeavesAfter mid new P → OnTold new (λ now. LeavesOnly now P)
newest mid new P here run = newest_leaves mid new P (since_from mid new P here run)

pub fault_stands : (s : Standing) (mid new : List Content) (ps : List (List ℕ)) (gate : ℕ) → (MayBeOpen s → ⊥) → OnTold mid (λ now. Stands s ps gate now) → LeavesAfter mid new (OpensWith ps) → OnTold new (λ now. Stands (after_fault s) ps gate now)
fault_stands standing.Open mid new ps gate shut stands run = newest mid new (OpensWith ps) (opens_only standing.Open mid ps gate shut stands) run
fault_stands standing.Closed mid new ps gate shut stands run = newest mid new (OpensWith ps) stands run
fault_stands (standing.Refused q) mid new ps gate shut stands run = newest mid new (OpensWith ps) stands run
fault_stands (standing.Staged q) mid new ps gate shut stands run = absurd (shut tt)

-- a sync alone leaves the journal as it stood
pub synced_stands : (s : Standing) (mid new : List Content) (ps : List (List ℕ)) (gate : ℕ) → (MayBeOpen s → ⊥) → OnTold mid (λ now. Stands s ps gate now) → Syncs mid new → OnTold new (λ now. Stands s ps gate now)
synced_stands s [] new ps gate shut stands is = subst (λ l. OnTold l (λ now. Stands s ps gate now)) (sym is) tt
synced_stands standing.Open (now ∷ past) new ps gate shut stands is = subst (λ l. OnTold l (λ n. IsResting ps gate n)) (sym is) (record { synced = refl; rests = stands.rests })
synced_stands standing.Closed (now ∷ past) new ps gate shut stands is = subst (λ l. OnTold l (λ n. LeavesOnly n (OpensWith ps))) (sym is) (settled_leaves now.bytes (OpensWith ps) (stands now.bytes (inl refl)))
synced_stands (standing.Refused q) (now ∷ past) new ps gate shut stands is = subst (λ l. OnTold l (λ n. LeavesOnly n (OpensWith ps))) (sym is) (settled_leaves now.bytes (OpensWith ps) (stands now.bytes (inl refl)))
synced_stands (standing.Staged q) (now ∷ past) new ps gate shut stands is = absurd (shut tt)

-- a disk that tells what it holds goes on to tell it
pub told_back : (old mid later : List Content) (X : Type 0) → mid ≡ later ++ old → OnTold mid (λ _. X) → OnTold old (λ _. X)
told_back [] mid later X is here = tt
told_back (now ∷ past) mid [] X is here = subst (λ l. OnTold l (λ _. X)) is here
told_back (now ∷ past) mid (content ∷ later) X is here = subst (λ l. OnTold l (λ _. X)) is here

-- the payloads that were read are the acknowledged ones
pub same_payloads : (old mid : List Content) (ps qs : List (List ℕ)) (P : List ℕ → Type 0) → LeavesAfter old mid P → OnTold mid (λ now. OpensWith ps now.bytes) → OnTold mid (λ now. OpensWith qs now.bytes) → OnTold old (λ _. qs ≡ ps)
same_payloads old mid ps qs P run opens found =
    told_back old mid run.goes_on.later (qs ≡ ps) run.goes_on.is
    (told_from_two mid (λ now. OpensWith ps now.bytes) (λ now. OpensWith qs now.bytes) (λ _. qs ≡ ps) (λ now p q. one_opening qs ps now.bytes q p) opens found)

never_told : (history : List Content) → OnTold history (λ _. ⊥) → history ≡ []
never_told [] none = refl
never_told (now ∷ past) none = absurd none

-- a disk that tells what it holds has no bad frame
pub no_bad : (old mid : List Content) (ps : List (List ℕ)) (n : ℕ) (P : List ℕ → Type 0) → LeavesAfter old mid P → OnTold mid (λ now. OpensWith ps now.bytes) → OnTold mid (λ now. IsBadFrame n now.bytes) → old ≡ []
no_bad old mid ps n P run opens bad =
    never_told old (told_back old mid run.goes_on.later ⊥ run.goes_on.is
    (told_from_two mid (λ now. OpensWith ps now.bytes) (λ now. IsBadFrame n now.bytes) (λ _. ⊥) (λ now p b. opens_or_bad ps n now.bytes p b) opens bad))

-- A journal's disk, before, once no refused frame may count, and after it was made ready or not: what holds of it.
module _ (s0 s1 : Standing) (h0 h1 h2 : List Content) (ps : List (List ℕ)) (gate : ℕ) (before : OnTold h0 (λ now. Stands s0 ps gate now)) (stands : OnTold h1 (λ now. Stands s1 ps gate now))
    (run : LeavesAfter h0 h1 (MayOpenWith ps (pending_of s0 ps))) (shut : MayBeOpen s1 → ⊥) (settles : (qs : List (List ℕ)) → OnTold h1 (λ now. OpensWith qs now.bytes) → LeavesAfter h1 h2 (OpensWith qs)) where
  opens : OnTold h1 (λ now. OpensWith ps now.bytes)
  opens = opens_now s1 h1 ps gate shut stands

  pub again_moments : LeavesSince h0 h2 (MayOpenWith ps (pending_of s0 ps))
  again_moments = reopen_moments s0 h0 h1 h2 ps gate before run (settles ps opens)

  pub again_faulty : OnTold h2 (λ now. Stands (after_fault s1) ps gate now)
  again_faulty = fault_stands s1 h1 h2 ps gate shut stands (settles ps opens)

  pub again_synced : Syncs h1 h2 → OnTold h2 (λ now. Stands s1 ps gate now)
  again_synced syncs = synced_stands s1 h1 h2 ps gate shut stands syncs

  pub again_same : (qs : List (List ℕ)) → OnTold h1 (λ now. OpensWith qs now.bytes) → OnTold h0 (λ _. qs ≡ ps)
  again_same qs found = same_payloads h0 h1 ps qs (MayOpenWith ps (pending_of s0 ps)) run opens found

  pub again_no_bad : (n : ℕ) → OnTold h1 (λ now. IsBadFrame n now.bytes) → h0 ≡ []
  again_no_bad n bad = no_bad h0 h1 ps n (MayOpenWith ps (pending_of s0 ps)) run opens bad

  pub again_rests : (qs : List (List ℕ)) (place : ℕ) → OnTold h2 (λ now. IsResting qs place now) → OnTold h2 (λ now. IsResting ps place now)
  again_rests qs place rests =
      told_from_two h2 (λ now. LeavesOnly now (OpensWith ps)) (λ now. IsResting qs place now) (λ now. IsResting ps place now)
      (λ now leaves rest. subst (λ l. IsResting l place now) (one_opening qs ps now.bytes (rest_opens qs place now.bytes rest.rests) (leaves now.bytes (inl refl))) rest)
      (newest h1 h2 (OpensWith ps) (opens_only s1 h1 ps gate shut stands) (settles ps opens)) rests
