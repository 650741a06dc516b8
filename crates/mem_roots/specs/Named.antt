-- The roots A to H in memory.
use Rattle.std.specs.Prelude.{◌≡◌, ℕ, ◌+◌, ◌-◌, true, false, ◌&&◌, cond, List, [], ◌∷◌, Option, Some, None, Result, is_some, nat_le, slice_index_or, slice_set, refl}
use Rattle.std.specs.declared.alloc.AllocError.{AllocError}
use Rattle.std.proofs.Common.{sym, ap, ◌∙◌}
use Rattle.std.proofs.Math.Nat.{sub-add_cancel}
use Rattle.std.proofs.lemmas.Bool.{false≢true, leb-true}
use Rattle.roots_api.specs.Logs.{IsLegal, failed_in}
use Rattle.roots_api.specs.declared.answer.Answer.{Answer}
use Rattle.roots_api.specs.declared.edit.Edit.{Edit}
use Rattle.roots_api.specs.declared.edit_error.EditError.{EditError}
use Rattle.roots_api.specs.declared.event.Event.{Event}
use Rattle.roots_api.specs.declared.op.Op.{Op}
use Rattle.roots_api.specs.declared.root_id.RootId.{RootId}
use Rattle.roots_api.specs.declared.who.Who.{Who}
use Rattle.mem_roots.specs.MemRoot.{MemState, new_mem, Leads, Edits}

-- the root of a name: A (65) to H have the numbers 0 to 7
unfoldable pub named_root : List ℕ → Option RootId
named_root [] = None
named_root (letter ∷ []) = cond (nat_le 65 letter && nat_le letter 72) (Some (record { 0 = letter - 65 })) None
named_root (letter ∷ other ∷ name) = None

-- the root of a number; a number that no name has is that of a root with an empty log
abbrev pub root_at : List MemState → RootId → MemState
root_at roots root = slice_index_or roots root.0 new_mem

-- its log
abbrev pub log_at : List MemState → RootId → Option (List Event)
log_at roots root = Some (root_at roots root).log

-- how many of its operations failed
abbrev pub faults_at : List MemState → RootId → ℕ
faults_at roots root = failed_in (root_at roots root).log

-- how many times it answered Full
abbrev pub fulls_at : List MemState → RootId → ℕ
fulls_at roots root = (root_at roots root).full_answers

-- each log is legal
abbrev pub AreLegalLogs : List MemState → Type 0
AreLegalLogs roots = (root : RootId) → IsLegal (root_at roots root).log

-- from which roots to which an answer of one of them leads: the others stay
abbrev pub RootLeads : List MemState → RootId → Who → Op → Result (Answer (List ℕ)) AllocError → List MemState → Type 0
RootLeads old root who op result new = Leads (root_at old root) who op result (root_at new root) × (new ≡ slice_set old root.0 (root_at new root))

-- and an outcome of a change of one of them
abbrev pub RootEdits : List MemState → RootId → Edit → Result Unit EditError → List MemState → Type 0
RootEdits old root edit result new = Edits (root_at old root) edit result (root_at new root) × (new ≡ slice_set old root.0 (root_at new root))

number_of : Option RootId → ℕ
number_of None = 0
number_of (Some root) = root.0

none_some : (root : RootId) → ◌≡◌ {A = Option RootId} None (Some root) → ⊥
none_some root h = false≢true (ap is_some h)

letter_is : (letter : ℕ) (root : RootId) → named_root (letter ∷ []) ≡ Some root → letter ≡ root.0 + 65
unfolding named_root number_of
letter_is letter root h =
    elim (nat_le 65 letter) as (λ b. nat_le 65 letter ≡ b → cond (b && nat_le letter 72) (Some (record { 0 = letter - 65 })) None ≡ Some root → letter ≡ root.0 + 65) [
      | true ↦ λ e. elim (nat_le letter 72) as (λ b. cond b (Some (record { 0 = letter - 65 })) None ≡ Some root → letter ≡ root.0 + 65) [
        | true ↦ λ g. sym (sub-add_cancel (leb-true 65 letter e)) ∙ ap (λ o. number_of o + 65) g
        | false ↦ λ g. absurd (none_some root g)
      ]
      | false ↦ λ e g. absurd (none_some root g)
    ] refl h

-- the name of a root is its letter
pub name_is : (name : List ℕ) (root : RootId) → named_root name ≡ Some root → name ≡ (root.0 + 65) ∷ []
unfolding named_root
name_is [] root h = absurd (none_some root h)
name_is (letter ∷ []) root h = ap (λ (l : ℕ). l ∷ []) (letter_is letter root h)
name_is (letter ∷ other ∷ name) root h = absurd (none_some root h)

-- different names are those of different roots
pub names_apart : (roots : List MemState) (name other : List ℕ) (root : RootId) → named_root name ≡ Some root → named_root other ≡ Some root → name ≡ other
names_apart roots name other root h g = name_is name root h ∙ sym (name_is other root g)
