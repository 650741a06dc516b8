-- The steps of making a disk ready.
use Rattle.std.proofs.Common.{◌≡◌, inl, inr, ℕ, ◌+◌, ◌≤◌, List, [], ◌∷◌, length, take, refl, sym, subst, ◌∙◌, arith}
use Rattle.disk_model.specs.Content.{Content, settled, write_change, cut_change}
use Rattle.disk_model.specs.Disk.{OnTold, Syncs}
use Rattle.disk_model.specs.Moments.{LeavesAfter}
use Rattle.frame_journal.specs.Layout.{OpensWith, IsAtRest}
use Rattle.frame_journal.specs.Reading.{EndsAt}
use Rattle.frame_journal.specs.Resting.{IsResting}
use Rattle.frame_journal.specs.Steps.{CutsSynced}
use Rattle.frame_journal.proofs.Told.{told_from, told_from_two}
use Rattle.frame_journal.proofs.Leaving.{IsReady, ready_from, same_leaves, then_syncs, now_synced, now_cut}
use Rattle.frame_journal.proofs.Openings.{one_opening}
use Rattle.frame_journal.proofs.Repairing.{cut_opens, cut_rests, first_opens}

-- after the first sync, and calls that change nothing
pub synced_later : (old s l : List Content) (ps : List (List ℕ)) → Syncs old s → l ≡ s → OnTold old (λ now. OpensWith ps now.bytes) → LeavesAfter old l (OpensWith ps)
synced_later old s l ps syncs same opens =
    subst (λ k. LeavesAfter old k (OpensWith ps)) (sym same) (then_syncs old old s (OpensWith ps) (same_leaves old old (OpensWith ps) refl) opens syncs)

-- what was seen after the sync was there before it
pub seen_before : (old s l : List Content) (Q : List ℕ → Type 0) → Syncs old s → l ≡ s → OnTold l (λ now. Q now.bytes) → OnTold old (λ now. Q now.bytes)
seen_before [] s l Q syncs same here = tt
seen_before (now ∷ past) s l Q syncs same here = subst (λ k. OnTold k (λ n. Q n.bytes)) (same ∙ syncs) here

-- a disk of at most one byte is ready for its first gate
pub first_ready : (old s l : List Content) (ps : List (List ℕ)) (end : ℕ) → Syncs old s → l ≡ s → OnTold s (λ now. end ≡ length now.bytes) → end ≤ 1 → OnTold old (λ now. OpensWith ps now.bytes)
    → OnTold l (IsReady (write_change 0 1) (OpensWith ps))
first_ready old s l ps end syncs same size short opens =
    let ready = told_from_two s (λ now. (now ≡ settled now.bytes) × OpensWith ps now.bytes) (λ now. end ≡ length now.bytes) (IsReady (write_change 0 1) (OpensWith ps))
    (λ now synced is.
    let little : length now.bytes ≤ 1 = omega (arith, is, short) in
    let none : [] ≡ ps = one_opening [] ps now.bytes (inl (refl, little)) synced.1 in
    ready_from (write_change 0 1) (OpensWith ps) now synced.0 (λ image torn. subst (λ l. OpensWith l image) none (first_opens now.bytes image little torn)))
    (now_synced old s (OpensWith ps) syncs opens) size in
    subst (λ k. OnTold k (IsReady (write_change 0 1) (OpensWith ps))) (sym same) ready

-- a disk whose frames were read is ready for the cut behind them
pub cut_ready : (old s l : List Content) (ps qs : List (List ℕ)) (gate : ℕ) → Syncs old s → l ≡ s → OnTold l (λ now. EndsAt qs gate now.bytes) → OnTold old (λ now. OpensWith ps now.bytes)
    → OnTold l (IsReady (cut_change (gate + 1)) (OpensWith ps))
cut_ready old s l ps qs gate syncs same ends opens =
    let synced = subst (λ k. OnTold k (λ now. (now ≡ settled now.bytes) × OpensWith ps now.bytes)) (sym same) (now_synced old s (OpensWith ps) syncs opens) in
    told_from_two l (λ now. (now ≡ settled now.bytes) × OpensWith ps now.bytes) (λ now. EndsAt qs gate now.bytes) (IsReady (cut_change (gate + 1)) (OpensWith ps))
    (λ now both found.
    let is : qs ≡ ps = one_opening qs ps now.bytes (inr found.ends) both.1 in
    ready_from (cut_change (gate + 1)) (OpensWith ps) now both.0 (λ image torn. subst (λ k. OpensWith k image) is (cut_opens qs gate now.bytes image found torn)))
    synced ends

-- after the cut it rests
pub cut_resting : (l new : List Content) (qs : List (List ℕ)) (gate : ℕ) → OnTold l (λ now. EndsAt qs gate now.bytes) → CutsSynced (gate + 1) l new → OnTold new (λ now. IsResting qs gate now)
cut_resting l new qs gate ends cuts =
    told_from new (λ now. (now ≡ settled now.bytes) × IsAtRest qs gate now.bytes) (λ now. IsResting qs gate now) (λ now both. record { synced = both.0; rests = both.1 })
    (now_cut l new (gate + 1) (IsAtRest qs gate) cuts (told_from l (λ now. EndsAt qs gate now.bytes) (λ now. IsAtRest qs gate (take (gate + 1) now.bytes)) (λ now found. cut_rests qs gate now.bytes found) ends))
