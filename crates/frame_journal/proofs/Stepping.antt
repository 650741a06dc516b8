-- A call of a journal, outcome by outcome.
use Rattle.std.proofs.Common.{◌≡◌, ℕ, ◌++◌, false, List, [], ◌∷◌, Vec, Option, Some, None, Err, refl, ap, sym, subst}
use Rattle.std.specs.declared.alloc.Global.{Global}
use Rattle.disk_model.specs.Content.{Content}
use Rattle.disk_model.specs.Disk.{OnTold}
use Rattle.frame_journal.specs.Resting.{IsResting, Rests}
use Rattle.frame_journal.specs.JournalState.{JournalState, MayOpenWith, LeavesJournal}
use Rattle.frame_journal.specs.Calls.{Kept, IsStep, Refused}
use Rattle.frame_journal.specs.Standing.{Stands, is_closed, pending_of, refused_at}
use Rattle.frame_journal.specs.Steps.{CommitLeaves}
use Rattle.frame_journal.specs.declared.commit.CommitFault.{CommitFault}
use Rattle.frame_journal.specs.declared.commit.CommitFault.TheVariants.{AtBlock, AtGate}
use Rattle.frame_journal.specs.declared.standing.Standing.{Standing}
use Rattle.frame_journal.specs.declared.standing.Standing.TheVariants as standing
use Rattle.frame_journal.proofs.Told.{told, told_from}
use Rattle.frame_journal.proofs.Leaving.{since_same}

pub same_kept : (ps qs : List (List ℕ)) (p q : Option (List (List ℕ))) → ps ≡ qs → p ≡ q → ◌≡◌ {A = Kept} (record { payloads = ps; pending = p }) (record { payloads = qs; pending = q })
same_kept ps qs p q a b i = record { payloads = a i; pending = b i }

pub open_pending : (s : Standing) (ps : List (List ℕ)) → is_closed s ≡ false → pending_of s ps ≡ None
open_pending standing.Open ps is = refl
open_pending standing.Closed ps is = refl
open_pending (standing.Refused q) ps is = absurd cc
open_pending (standing.Staged q) ps is = absurd cc

-- a call that was refused and changed nothing
pub refused_step : {D : Type 0} (history : D → List Content) (old : JournalState D) → OnTold (history old.disk) (LeavesJournal old) → IsStep history old Refused old
refused_step history old leaves = record {
  kept = told (history old.disk) (λ _. record { payloads = old.payloads; pending = old.pending } ≡ record { payloads = old.payloads; pending = old.pending }) (λ _. refl);
  moments = since_same (history old.disk) (MayOpenWith old.payloads old.pending) leaves;
  durable = leaves;
}

-- at rest, wherever the gate stands
pub rests_anywhere : (history : List Content) (ps qs : List (List ℕ)) (place : ℕ) → OnTold history (λ now. IsResting qs place now) → qs ≡ ps → OnTold history (Rests ps)
rests_anywhere history ps qs place rests is =
    told_from history (λ now. IsResting qs place now) (Rests ps) (λ now r. subst (λ l. Rests l now) is (subst (λ k. IsResting qs k now) r.rests.at r)) rests

-- how the journal stands after a device fault in an append
pub fault_stands_so : (fault : CommitFault) (history : List Content) (ps : List (List ℕ)) (gate : ℕ) (q : List ℕ) (v : Vec ℕ Global) → v.items ≡ q → OnTold history (λ now. CommitLeaves (Err fault) ps q gate now)
    → OnTold history (λ now. Stands (refused_at fault v) ps gate now)
fault_stands_so AtBlock history ps gate q v is leaves = leaves
fault_stands_so AtGate history ps gate q v is leaves = subst (λ l. OnTold history (λ now. CommitLeaves (Err AtGate) ps l gate now)) (sym is) leaves

pub fault_pending : (fault : CommitFault) (ps : List (List ℕ)) (q : List ℕ) (v : Vec ℕ Global) → v.items ≡ q → pending_of (refused_at fault v) ps ≡ Some (ps ++ q ∷ [])
fault_pending AtBlock ps q v is = ap (λ (l : List ℕ). Some (ps ++ l ∷ [])) is
fault_pending AtGate ps q v is = ap (λ (l : List ℕ). Some (ps ++ l ∷ [])) is
