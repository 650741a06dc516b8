-- An append, outcome by outcome.
use Rattle.std.proofs.Common.{◌≡◌, inl, ℕ, ◌+◌, false, cond, is_ok, Result, Ok, Vec, List, [], ◌∷◌, ◌++◌, length, refl, ap, sym, subst, ◌∙◌}
use Rattle.std.proofs.lemmas.List.{map_push}
use Rattle.std.specs.declared.alloc.Global.{Global}
use Rattle.disk_model.specs.Content.{Content, LeavesOnly, settled, written_over, write_change}
use Rattle.disk_model.specs.Disk.{OnTold, FailsInPart}
use Rattle.disk_model.specs.Moments.{LeavesAfter, LeavesSince}
use Rattle.frame_journal.specs.Layout.{block, IsPayload, OpensWith, OpensWithOneMore, IsAtRest, IsStaged}
use Rattle.frame_journal.specs.Reading.{payloads_of}
use Rattle.frame_journal.specs.Resting.{IsResting}
use Rattle.frame_journal.specs.JournalState.{MayOpenWith}
use Rattle.frame_journal.specs.Standing.{Stands, is_closed, pending_of}
use Rattle.frame_journal.specs.Steps.{WritesSynced}
use Rattle.frame_journal.specs.declared.standing.Standing.{Standing}
use Rattle.frame_journal.specs.declared.standing.Standing.TheVariants as standing
use Rattle.frame_journal.proofs.Told.{told_from}
use Rattle.frame_journal.proofs.Leaving.{IsReady, ready_from, ready_weaker, since_from, same_leaves, then_fails, then_writes, now_failed, now_written, settled_leaves}
use Rattle.frame_journal.proofs.Committing.{rest_opens, behind_opens, behind_staged, gate_staged, staged_opens, gate_rests}

-- the payloads after a push that was made
pub pushed_payloads : {T E : Type 0} (r : Result T E) (x : T) (new old base : List (Vec ℕ Global)) (v : Vec ℕ Global) (q : List ℕ) → r ≡ Ok x → new ≡ cond (is_ok r) (old ++ v ∷ []) old → old ≡ base → v.items ≡ q
    → payloads_of new ≡ payloads_of base ++ q ∷ []
pushed_payloads {T} {E} r x new old base v q ok is same items =
    let made : new ≡ old ++ v ∷ [] = is ∙ ap (λ (s : Result T E). cond (is_ok s) (old ++ v ∷ []) old) ok in
    ap payloads_of made ∙ map_push (λ (w : Vec ℕ Global). w.items) old v ∙ ap (λ (l : List (Vec ℕ Global)). payloads_of l ++ v.items ∷ []) same ∙ ap (λ (i : List ℕ). payloads_of base ++ i ∷ []) items

-- an open journal's disk is at rest
pub open_rests : (s : Standing) (history : List Content) (ps : List (List ℕ)) (gate : ℕ) → is_closed s ≡ false → OnTold history (λ now. Stands s ps gate now) → OnTold history (λ now. IsResting ps gate now)
open_rests standing.Open history ps gate is stands = stands
open_rests standing.Closed history ps gate is stands = absurd cc
open_rests (standing.Refused q) history ps gate is stands = absurd cc
open_rests (standing.Staged q) history ps gate is stands = absurd cc

pub rests_open : (s : Standing) (history : List Content) (ps : List (List ℕ)) (gate : ℕ) → is_closed s ≡ false → OnTold history (λ now. IsResting ps gate now) → OnTold history (λ now. Stands s ps gate now)
rests_open standing.Open history ps gate is rests = rests
rests_open standing.Closed history ps gate is rests = absurd cc
rests_open (standing.Refused q) history ps gate is rests = absurd cc
rests_open (standing.Staged q) history ps gate is rests = absurd cc

pub resting_leaves : (ps : List (List ℕ)) (gate : ℕ) (now : Content) → IsResting ps gate now → LeavesOnly now (OpensWith ps)
resting_leaves ps gate now rests =
    subst (λ n. LeavesOnly n (OpensWith ps)) (sym rests.synced) (settled_leaves now.bytes (OpensWith ps) (rest_opens ps gate now.bytes rests.rests))

-- what a crash may leave of a journal
pub stands_leaves : (s : Standing) (history : List Content) (ps : List (List ℕ)) (gate : ℕ) → OnTold history (λ now. Stands s ps gate now) → OnTold history (λ now. LeavesOnly now (MayOpenWith ps (pending_of s ps)))
stands_leaves standing.Open history ps gate stands = told_from history (λ now. IsResting ps gate now) (λ now. LeavesOnly now (OpensWith ps)) (λ now rests. resting_leaves ps gate now rests) stands
stands_leaves standing.Closed history ps gate stands = stands
stands_leaves (standing.Refused q) history ps gate stands =
    told_from history (λ now. LeavesOnly now (OpensWith ps)) (λ now. LeavesOnly now (OpensWithOneMore ps q.items)) (λ now leaves image left. inl (leaves image left)) stands
stands_leaves (standing.Staged q) history ps gate stands =
    told_from history (λ now. LeavesOnly now (IsStaged ps q.items gate)) (λ now. LeavesOnly now (OpensWithOneMore ps q.items)) (λ now leaves image left. staged_opens ps gate q.items image (leaves image left)) stands

module _ (ps : List (List ℕ)) (gate : ℕ) (q : List ℕ) (fits : IsPayload q) (old : List Content) (rests : OnTold old (λ now. IsResting ps gate now)) where
  abbrev bytes : List ℕ
  bytes = block q ++ 0 ∷ []

  abbrev P : List ℕ → Type 0
  P = OpensWithOneMore ps q

  leaves_first : OnTold old (λ now. LeavesOnly now (OpensWith ps))
  leaves_first = told_from old (λ now. IsResting ps gate now) (λ now. LeavesOnly now (OpensWith ps)) (λ now r. resting_leaves ps gate now r) rests

  -- the moment before
  at_first : OnTold old (λ now. LeavesOnly now P)
  at_first = told_from old (λ now. LeavesOnly now (OpensWith ps)) (λ now. LeavesOnly now P) (λ now leaves image left. inl (leaves image left)) leaves_first

  block_ready : OnTold old (IsReady (write_change (gate + 1) (length bytes)) (OpensWith ps))
  block_ready = told_from old (λ now. IsResting ps gate now) (IsReady (write_change (gate + 1) (length bytes)) (OpensWith ps))
      (λ now r. ready_from (write_change (gate + 1) (length bytes)) (OpensWith ps) now r.synced (λ image torn. behind_opens ps gate now.bytes image (gate + 1 + length bytes) r.rests torn)) rests

  block_moments : OnTold old (IsReady (write_change (gate + 1) (length bytes)) P)
  block_moments = told_from old (IsReady (write_change (gate + 1) (length bytes)) (OpensWith ps)) (IsReady (write_change (gate + 1) (length bytes)) P)
      (λ now r. ready_weaker (write_change (gate + 1) (length bytes)) (OpensWith ps) P now (λ image opens. inl opens) r) block_ready

  -- the block failed
  pub block_failed : (new : List Content) → FailsInPart (write_change (gate + 1) (length bytes)) old new → OnTold new (λ now. LeavesOnly now (OpensWith ps))
  block_failed new fails = now_failed old new (write_change (gate + 1) (length bytes)) (OpensWith ps) leaves_first block_ready fails

  pub block_failed_moments : (new : List Content) → FailsInPart (write_change (gate + 1) (length bytes)) old new → LeavesSince old new P
  block_failed_moments new fails = since_from old new P at_first (then_fails old old new (write_change (gate + 1) (length bytes)) P (same_leaves old old P refl) block_moments fails)

  module _ (mid : List Content) (writes : WritesSynced (gate + 1) bytes old mid) where
    staged : OnTold mid (λ now. (now ≡ settled now.bytes) × IsStaged ps q gate now.bytes)
    staged = now_written old mid (gate + 1) bytes (IsStaged ps q gate) writes
        (told_from old (λ now. IsResting ps gate now) (λ now. IsStaged ps q gate (written_over now.bytes (gate + 1) bytes)) (λ now r. behind_staged ps gate now.bytes q r.rests fits) rests)

    staged_leaves : OnTold mid (λ now. LeavesOnly now (IsStaged ps q gate))
    staged_leaves = told_from mid (λ now. (now ≡ settled now.bytes) × IsStaged ps q gate now.bytes) (λ now. LeavesOnly now (IsStaged ps q gate))
        (λ now both. subst (λ n. LeavesOnly n (IsStaged ps q gate)) (sym both.0) (settled_leaves now.bytes (IsStaged ps q gate) both.1)) staged

    gate_ready : OnTold mid (IsReady (write_change gate 1) (IsStaged ps q gate))
    gate_ready = told_from mid (λ now. (now ≡ settled now.bytes) × IsStaged ps q gate now.bytes) (IsReady (write_change gate 1) (IsStaged ps q gate))
        (λ now both. ready_from (write_change gate 1) (IsStaged ps q gate) now both.0 (λ image torn. gate_staged ps gate q now.bytes image both.1 torn)) staged

    gate_moments : OnTold mid (IsReady (write_change gate 1) P)
    gate_moments = told_from mid (IsReady (write_change gate 1) (IsStaged ps q gate)) (IsReady (write_change gate 1) P)
        (λ now r. ready_weaker (write_change gate 1) (IsStaged ps q gate) P now (λ image is. staged_opens ps gate q image is) r) gate_ready

    so_far : LeavesAfter old mid P
    so_far = then_writes old old mid (gate + 1) bytes P (same_leaves old old P refl) block_moments writes

    -- the gate failed
    pub gate_failed : (new : List Content) → FailsInPart (write_change gate 1) mid new → OnTold new (λ now. LeavesOnly now (IsStaged ps q gate))
    gate_failed new fails = now_failed mid new (write_change gate 1) (IsStaged ps q gate) staged_leaves gate_ready fails

    pub gate_failed_moments : (new : List Content) → FailsInPart (write_change gate 1) mid new → LeavesSince old new P
    gate_failed_moments new fails = since_from old new P at_first (then_fails old mid new (write_change gate 1) P so_far gate_moments fails)

    -- all was made
    pub made_rests : (new : List Content) → WritesSynced gate (1 ∷ []) mid new → OnTold new (λ now. IsResting (ps ++ q ∷ []) (gate + (9 + length q)) now)
    made_rests new opened = told_from new (λ now. (now ≡ settled now.bytes) × IsAtRest (ps ++ q ∷ []) (gate + (9 + length q)) now.bytes) (λ now. IsResting (ps ++ q ∷ []) (gate + (9 + length q)) now)
        (λ now both. record { synced = both.0; rests = both.1 })
        (now_written mid new gate (1 ∷ []) (IsAtRest (ps ++ q ∷ []) (gate + (9 + length q))) opened
        (told_from mid (λ now. (now ≡ settled now.bytes) × IsStaged ps q gate now.bytes) (λ now. IsAtRest (ps ++ q ∷ []) (gate + (9 + length q)) (written_over now.bytes gate (1 ∷ [])))
        (λ now both. gate_rests ps gate q now.bytes both.1) staged))

    pub made_moments : (new : List Content) → WritesSynced gate (1 ∷ []) mid new → LeavesSince old new P
    made_moments new opened = since_from old new P at_first (then_writes old mid new gate (1 ∷ []) P so_far gate_moments opened)
