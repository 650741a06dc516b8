-- What crashes leave after one device call more.
use Rattle.std.proofs.Common.{◌≡◌, inl, inr, ℕ, ◌+◌, List, [], ◌∷◌, length, take, refl, sym, subst, arith}
use Rattle.disk_model.specs.Content.{Content, Change, Tears, LeavesOnly, written_over, settled, changed, write_change, cut_change}
use Rattle.disk_model.specs.Disk.{OnTold, Syncs, Cuts, FailsInPart}
use Rattle.disk_model.specs.Moments.{LeftAfter, LeavesAfter, LeavesSince}
use Rattle.disk_model.proofs.Overwriting.{written_tears, cut_tears}
use Rattle.disk_model.proofs.Moments.{goes_nowhere, goes_on_by, go_on, no_shorter, none_left, one_more_left, split_left, newest_left}
use Rattle.frame_journal.specs.Steps.{WritesSynced, CutsSynced}

-- a change, made in any part, leaves only what has P, and reads then give such bytes
abbrev pub IsReady : (Content → Change) → (List ℕ → Type 0) → Content → Type 0
IsReady change P now = (bytes : List ℕ) → Tears (change now) now.bytes bytes → LeavesOnly (changed now (change now) bytes) P × P bytes

pub settled_leaves : (bytes : List ℕ) (P : List ℕ → Type 0) → P bytes → LeavesOnly (settled bytes) P
settled_leaves bytes P here image (inl is) = subst P (sym is) here
settled_leaves bytes P here image (inr is) = subst P (sym is) here

-- where all is made sure of, and reads give what has P, a crash leaves that
pub synced_leaves : (now : Content) (P : List ℕ → Type 0) → now ≡ settled now.bytes → P now.bytes → LeavesOnly now P
synced_leaves now P is here = subst (λ n. LeavesOnly n P) (sym is) (settled_leaves now.bytes P here)

-- what a crash leaves has Q, and the change makes of that only what has P
pub ready_when : (change : Content → Change) (Q P : List ℕ → Type 0) (now : Content) → LeavesOnly now Q → ((before image : List ℕ) → Q before → Tears (change now) before image → P image) → IsReady change P now
ready_when change Q P now leaves tears bytes torn = (left, here) where
  here : P bytes
  here = tears now.bytes bytes (leaves now.bytes (inl refl)) torn

  left : LeavesOnly (changed now (change now) bytes) P
  left image (inl is) = subst P (sym is) here
  left image (inr torn_to) = tears torn_to.0 image (leaves torn_to.0 (inr torn_to.1)) torn_to.2

-- where all is made sure of, it is enough to know how the change tears
pub ready_from : (change : Content → Change) (P : List ℕ → Type 0) (now : Content) → now ≡ settled now.bytes → ((image : List ℕ) → Tears (change now) now.bytes image → P image) → IsReady change P now
ready_from change P now is tears =
    ready_when change (λ b. b ≡ now.bytes) P now (synced_leaves now (λ b. b ≡ now.bytes) is refl) (λ before image same torn. tears image (subst (λ b. Tears (change now) b image) same torn))

-- from a property to a weaker one
pub ready_weaker : (change : Content → Change) (P Q : List ℕ → Type 0) (now : Content) → ((image : List ℕ) → P image → Q image) → IsReady change P now → IsReady change Q now
ready_weaker change P Q now weaker ready bytes torn = (λ image left. weaker image ((ready bytes torn).0 image left), weaker bytes (ready bytes torn).1)

-- no call was made
pub same_leaves : (old new : List Content) (P : List ℕ → Type 0) → new ≡ old → LeavesAfter old new P
same_leaves old new P is = record { goes_on = goes_nowhere old new is; leaves = λ image left. absurd (none_left old image (subst (λ l. LeftAfter old l image) is left)) }

more_leaves : (old mid new : List Content) (P : List ℕ → Type 0) (now : Content) → LeavesAfter old mid P → LeavesOnly now P → new ≡ now ∷ mid → LeavesAfter old new P
more_leaves old mid new P now so_far here is = record {
  goes_on = goes_on_by old mid new now so_far.goes_on is;
  leaves = one_more_left (length old + 1) mid new now P so_far.leaves here is;
}

-- two runs, one behind the other
pub leaves_then : (old mid new : List Content) (P Q : List ℕ → Type 0) → ((image : List ℕ) → Q image → P image) → LeavesAfter old mid P → LeavesAfter mid new Q → LeavesAfter old new P
leaves_then old mid new P Q weaker first second = record {
  goes_on = go_on old mid new first.goes_on second.goes_on;
  leaves = λ image left. elim (split_left (length old + 1) mid new image second.goes_on left) [
    | inl behind ↦ weaker image (second.leaves image behind)
    | inr within ↦ first.leaves image within
  ];
}

-- the moment before a run, and those of it
pub since_from : (old new : List Content) (P : List ℕ → Type 0) → OnTold old (λ now. LeavesOnly now P) → LeavesAfter old new P → LeavesSince old new P
since_from old new P here run = record {
  goes_on = run.goes_on;
  leaves = λ image left. elim (split_left (length old) old new image run.goes_on left) [
    | inl behind ↦ run.leaves image behind
    | inr within ↦ newest_left old P here image within
  ];
}

-- where no call was made
pub since_same : (old : List Content) (P : List ℕ → Type 0) → OnTold old (λ now. LeavesOnly now P) → LeavesSince old old P
since_same old P here = since_from old old P here (same_leaves old old P refl)

-- what the newest content leaves after a run
pub newest_leaves : (old new : List Content) (P : List ℕ → Type 0) → LeavesSince old new P → OnTold new (λ now. LeavesOnly now P)
newest_leaves old [] P run = tt
newest_leaves old (now ∷ past) P run =
    λ image left.
    run.leaves image (now, record { later = []; past = past; stands = refl; from = no_shorter old (now ∷ past) run.goes_on }, left)

-- a sync
pub then_syncs : (old mid new : List Content) (P : List ℕ → Type 0) → LeavesAfter old mid P → OnTold mid (λ now. P now.bytes) → Syncs mid new → LeavesAfter old new P
then_syncs old [] new P so_far here is = subst (λ l. LeavesAfter old l P) (sym is) so_far
then_syncs old (now ∷ past) new P so_far here is = more_leaves old (now ∷ past) new P (settled now.bytes) so_far (settled_leaves now.bytes P here) is

-- a change that failed
pub then_fails : (old mid new : List Content) (change : Content → Change) (P : List ℕ → Type 0) → LeavesAfter old mid P → OnTold mid (IsReady change P) → FailsInPart change mid new → LeavesAfter old new P
then_fails old [] new change P so_far ready is = subst (λ l. LeavesAfter old l P) (sym is) so_far
then_fails old (now ∷ past) new change P so_far ready (inl is) = subst (λ l. LeavesAfter old l P) (sym is) so_far
then_fails old (now ∷ past) new change P so_far ready (inr made) =
    more_leaves old (now ∷ past) new P (changed now (change now) made.0) so_far (ready made.0 made.1).0 made.2

two_more : (old mid new : List Content) (P : List ℕ → Type 0) (now : Content) (change : Content → Change) (bytes : List ℕ) → LeavesAfter old mid P → IsReady change P now → Tears (change now) now.bytes bytes
    → new ≡ settled bytes ∷ changed now (change now) bytes ∷ mid → LeavesAfter old new P
two_more old mid new P now change bytes so_far ready made news =
    more_leaves old (changed now (change now) bytes ∷ mid) new P (settled bytes)
    (more_leaves old mid (changed now (change now) bytes ∷ mid) P (changed now (change now) bytes) so_far (ready bytes made).0 refl)
    (settled_leaves bytes P (ready bytes made).1) news

-- a write, and a sync behind it
pub then_writes : (old mid new : List Content) (place : ℕ) (bytes : List ℕ) (P : List ℕ → Type 0) → LeavesAfter old mid P → OnTold mid (IsReady (write_change place (length bytes)) P) → WritesSynced place bytes mid new → LeavesAfter old new P
then_writes old [] new place bytes P so_far ready is = subst (λ l. LeavesAfter old l P) (sym is) so_far
then_writes old (now ∷ past) new place bytes P so_far ready is =
    two_more old (now ∷ past) new P now (write_change place (length bytes)) (written_over now.bytes place bytes) so_far ready
    (written_tears now.bytes place (length bytes) bytes (omega arith)) is

-- a cut, and a sync behind it
pub then_cuts : (old mid new : List Content) (n : ℕ) (P : List ℕ → Type 0) → LeavesAfter old mid P → OnTold mid (IsReady (cut_change n) P) → CutsSynced n mid new → LeavesAfter old new P
then_cuts old [] new n P so_far ready is = subst (λ l. LeavesAfter old l P) (sym is) so_far
then_cuts old (now ∷ past) new n P so_far ready is =
    two_more old (now ∷ past) new P now (cut_change n) (take n now.bytes) so_far ready (cut_tears n now.bytes) is

-- a cut alone
pub then_cut : (old mid new : List Content) (n : ℕ) (P : List ℕ → Type 0) → LeavesAfter old mid P → OnTold mid (IsReady (cut_change n) P) → Cuts n mid new → LeavesAfter old new P
then_cut old [] new n P so_far ready is = subst (λ l. LeavesAfter old l P) (sym is) so_far
then_cut old (now ∷ past) new n P so_far ready is =
    more_leaves old (now ∷ past) new P (changed now (cut_change n now) (take n now.bytes)) so_far (ready (take n now.bytes) (cut_tears n now.bytes)).0 is

-- after a change that failed, a crash leaves what has P, if it did before
pub now_failed : (old new : List Content) (change : Content → Change) (P : List ℕ → Type 0) → OnTold old (λ now. LeavesOnly now P) → OnTold old (IsReady change P) → FailsInPart change old new → OnTold new (λ now. LeavesOnly now P)
now_failed [] new change P here ready is = subst (λ l. OnTold l (λ now. LeavesOnly now P)) (sym is) tt
now_failed (now ∷ past) new change P here ready (inl is) = subst (λ l. OnTold l (λ k. LeavesOnly k P)) (sym is) here
now_failed (now ∷ past) new change P here ready (inr made) = subst (λ l. OnTold l (λ k. LeavesOnly k P)) (sym made.2) (ready made.0 made.1).0

-- after a sync, all is made sure of
pub now_synced : (old new : List Content) (Q : List ℕ → Type 0) → Syncs old new → OnTold old (λ now. Q now.bytes) → OnTold new (λ now. (now ≡ settled now.bytes) × Q now.bytes)
now_synced [] new Q is here = subst (λ l. OnTold l (λ now. (now ≡ settled now.bytes) × Q now.bytes)) (sym is) tt
now_synced (now ∷ past) new Q is here = subst (λ l. OnTold l (λ n. (n ≡ settled n.bytes) × Q n.bytes)) (sym is) (refl, here)

-- after a cut with its sync
pub now_cut : (old new : List Content) (n : ℕ) (Q : List ℕ → Type 0) → CutsSynced n old new → OnTold old (λ now. Q (take n now.bytes)) → OnTold new (λ now. (now ≡ settled now.bytes) × Q now.bytes)
now_cut [] new n Q is here = subst (λ l. OnTold l (λ now. (now ≡ settled now.bytes) × Q now.bytes)) (sym is) tt
now_cut (now ∷ past) new n Q is here = subst (λ l. OnTold l (λ k. (k ≡ settled k.bytes) × Q k.bytes)) (sym is) (refl, here)

-- after a write with its sync
pub now_written : (old new : List Content) (place : ℕ) (bytes : List ℕ) (Q : List ℕ → Type 0) → WritesSynced place bytes old new → OnTold old (λ now. Q (written_over now.bytes place bytes)) → OnTold new (λ now. (now ≡ settled now.bytes) × Q now.bytes)
now_written [] new place bytes Q is here = subst (λ l. OnTold l (λ now. (now ≡ settled now.bytes) × Q now.bytes)) (sym is) tt
now_written (now ∷ past) new place bytes Q is here = subst (λ l. OnTold l (λ k. (k ≡ settled k.bytes) × Q k.bytes)) (sym is) (refl, here)
