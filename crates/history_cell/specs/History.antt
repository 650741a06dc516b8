-- Legal histories of a sequential object.
use Rattle.std.specs.Prelude.{◌≡◌, ℕ, ◌==◌, if◌then◌else◌, nat_lt, List, [], ◌∷◌, length}
use Rattle.history_cell.specs.declared.entry.Entry.{Entry}

-- from the object before, each of the calls gets a reply that the object gives there, and after them all it is the object after
abbrev pub Leads : {O A B : Type 0} → (O → A → B → O → Type 0) → O → List (Entry A B) → O → Type 0
Leads acts before [] after = before ≡ after
Leads {O} acts before (e ∷ es) after = (next : O) × acts before e.op e.reply next × Leads acts next es after

-- a legal history: the calls are those of a sequential object that begins as this one
abbrev pub IsLegal : {O A B : Type 0} → (O → A → B → O → Type 0) → O → List (Entry A B) → Type 0
IsLegal {O} acts opening calls = (after : O) × Leads acts opening calls after

abbrev pub entry : {A B : Type 0} → ℕ → A → B → Entry A B
entry by op reply = record { by = by; op = op; reply = reply }

-- the calls of the pass with this number, in their order
abbrev pub calls_by : {A B : Type 0} → ℕ → List (Entry A B) → List (Entry A B)
calls_by by [] = []
calls_by by (e ∷ es) = if e.by == by then e ∷ calls_by by es else calls_by by es

-- the longer of two lists
abbrev pub longer : {A : Type 0} → List A → List A → List A
longer xs ys = if nat_lt (length xs) (length ys) then ys else xs

-- and the other
abbrev pub shorter : {A : Type 0} → List A → List A → List A
shorter xs ys = if nat_lt (length xs) (length ys) then xs else ys
