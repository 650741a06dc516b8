-- A refused frame's gate is shut again.
use Rattle.std.proofs.Common.{◌≡◌, inl, ℕ, ◌+◌, min, List, [], ◌∷◌, length, refl, sym, subst, arith}
use Rattle.disk_model.specs.Content.{Content, TornWrite, LeavesOnly, settled, written_over, write_change}
use Rattle.disk_model.specs.Disk.{OnTold, FailsInPart}
use Rattle.disk_model.specs.Moments.{LeavesAfter}
use Rattle.frame_journal.specs.Layout.{OpensWith, OpensWithOneMore, IsStaged}
use Rattle.frame_journal.specs.JournalState.{MayOpenWith}
use Rattle.frame_journal.specs.Standing.{Stands, MayBeOpen, pending_of, after_shutting}
use Rattle.frame_journal.specs.Steps.{WritesSynced}
use Rattle.frame_journal.specs.declared.standing.Standing.{Standing}
use Rattle.frame_journal.specs.declared.standing.Standing.TheVariants as standing
use Rattle.frame_journal.proofs.Told.{told_from}
use Rattle.frame_journal.proofs.Leaving.{IsReady, ready_when, ready_weaker, same_leaves, then_fails, then_writes, now_failed, now_written, settled_leaves}
use Rattle.frame_journal.proofs.Committing.{gate_staged, gate_inside, staged_opens, gate_shut}

-- a write at the gate of a staged frame leaves it staged, made in any part
gate_ready : (ps : List (List ℕ)) (q : List ℕ) (gate : ℕ) (now : Content) → LeavesOnly now (IsStaged ps q gate) → IsReady (write_change gate 1) (IsStaged ps q gate) now
gate_ready ps q gate now leaves =
    let at : min gate (length now.bytes) ≡ gate = omega (arith, gate_inside ps gate q now.bytes (leaves now.bytes (inl refl))) in
    ready_when (write_change gate 1) (IsStaged ps q gate) (IsStaged ps q gate) now leaves
    (λ before image staged torn.
    let same : min gate (length now.bytes) ≡ min gate (length before) = omega (arith, at, gate_inside ps gate q before staged) in
    gate_staged ps gate q before image staged (subst (λ k. TornWrite k (gate + 1) before image) same torn))

ready : (history : List Content) (ps : List (List ℕ)) (q : List ℕ) (gate : ℕ) → OnTold history (λ now. LeavesOnly now (IsStaged ps q gate)) → OnTold history (IsReady (write_change gate 1) (IsStaged ps q gate))
ready history ps q gate leaves = told_from history (λ now. LeavesOnly now (IsStaged ps q gate)) (IsReady (write_change gate 1) (IsStaged ps q gate)) (λ now l. gate_ready ps q gate now l) leaves

opens_ready : (history : List Content) (ps : List (List ℕ)) (q : List ℕ) (gate : ℕ) → OnTold history (IsReady (write_change gate 1) (IsStaged ps q gate)) → OnTold history (IsReady (write_change gate 1) (OpensWithOneMore ps q))
opens_ready history ps q gate is =
    told_from history (IsReady (write_change gate 1) (IsStaged ps q gate)) (IsReady (write_change gate 1) (OpensWithOneMore ps q))
    (λ now r. ready_weaker (write_change gate 1) (IsStaged ps q gate) (OpensWithOneMore ps q) now (λ image staged. staged_opens ps gate q image staged) r) is

-- where the write failed, the frame is still staged
pub failed_sound : (s : Standing) (old new : List Content) (ps : List (List ℕ)) (gate : ℕ) → MayBeOpen s → OnTold old (λ now. Stands s ps gate now) → FailsInPart (write_change gate 1) old new → OnTold new (λ now. Stands s ps gate now)
failed_sound standing.Open old new ps gate staged stands fails = absurd staged
failed_sound standing.Closed old new ps gate staged stands fails = absurd staged
failed_sound (standing.Refused q) old new ps gate staged stands fails = absurd staged
failed_sound (standing.Staged q) old new ps gate staged stands fails =
    now_failed old new (write_change gate 1) (IsStaged ps q.items gate) stands (ready old ps q.items gate stands) fails

pub failed_later : (s : Standing) (old new : List Content) (ps : List (List ℕ)) (gate : ℕ) → MayBeOpen s → OnTold old (λ now. Stands s ps gate now) → FailsInPart (write_change gate 1) old new
    → LeavesAfter old new (MayOpenWith ps (pending_of s ps))
failed_later standing.Open old new ps gate staged stands fails = absurd staged
failed_later standing.Closed old new ps gate staged stands fails = absurd staged
failed_later (standing.Refused q) old new ps gate staged stands fails = absurd staged
failed_later (standing.Staged q) old new ps gate staged stands fails =
    then_fails old old new (write_change gate 1) (OpensWithOneMore ps q.items) (same_leaves old old (OpensWithOneMore ps q.items) refl) (opens_ready old ps q.items gate (ready old ps q.items gate stands)) fails

-- where it was made, the frame doesn't count
pub shut_sound : (s : Standing) (old new : List Content) (ps : List (List ℕ)) (gate : ℕ) → MayBeOpen s → OnTold old (λ now. Stands s ps gate now) → WritesSynced gate (0 ∷ []) old new
    → OnTold new (λ now. Stands (after_shutting s) ps gate now)
shut_sound standing.Open old new ps gate staged stands writes = absurd staged
shut_sound standing.Closed old new ps gate staged stands writes = absurd staged
shut_sound (standing.Refused q) old new ps gate staged stands writes = absurd staged
shut_sound (standing.Staged q) old new ps gate staged stands writes =
    told_from new (λ now. (now ≡ settled now.bytes) × OpensWith ps now.bytes) (λ now. LeavesOnly now (OpensWith ps))
    (λ now both. subst (λ n. LeavesOnly n (OpensWith ps)) (sym both.0) (settled_leaves now.bytes (OpensWith ps) both.1))
    (now_written old new gate (0 ∷ []) (OpensWith ps) writes
    (told_from old (λ now. LeavesOnly now (IsStaged ps q.items gate)) (λ now. OpensWith ps (written_over now.bytes gate (0 ∷ [])))
    (λ now l. gate_shut ps gate q.items now.bytes (l now.bytes (inl refl))) stands))

pub shut_later : (s : Standing) (old new : List Content) (ps : List (List ℕ)) (gate : ℕ) → MayBeOpen s → OnTold old (λ now. Stands s ps gate now) → WritesSynced gate (0 ∷ []) old new
    → LeavesAfter old new (MayOpenWith ps (pending_of s ps))
shut_later standing.Open old new ps gate staged stands writes = absurd staged
shut_later standing.Closed old new ps gate staged stands writes = absurd staged
shut_later (standing.Refused q) old new ps gate staged stands writes = absurd staged
shut_later (standing.Staged q) old new ps gate staged stands writes =
    then_writes old old new gate (0 ∷ []) (OpensWithOneMore ps q.items) (same_leaves old old (OpensWithOneMore ps q.items) refl) (opens_ready old ps q.items gate (ready old ps q.items gate stands)) writes
