-- The own moves of a worker in its queue.
use Rattle.std.specs.Prelude.{◌≡◌, ℕ, ◌⊎◌, Option, None, Some, List, [], ◌∷◌, ◌++◌}
use Rattle.worker_pool.specs.declared.moves.Move.{Move}
use Rattle.worker_pool.specs.declared.moves.Move.TheVariants.{Put, Took}

-- each push is of the task that the move just before it popped, at first of the one in hand, if there is one
abbrev pub IsWork : {T : Type 0} → (T → ℕ) → Option ℕ → List (Move T) → Type 0
IsWork identity in_hand [] = Unit {0}
IsWork identity in_hand (Took by x ∷ ms) = IsWork identity (Some (identity x)) ms
IsWork identity in_hand (Put by x ∷ ms) = (in_hand ≡ Some (identity x)) × IsWork identity None ms

-- with some work behind them the moves before are those after
abbrev pub WorksFrom : {T : Type 0} → (T → ℕ) → List (Move T) → List (Move T) → Type 0
WorksFrom {T} identity before after = (done : List (Move T)) × (after ≡ before ++ done) × IsWork identity None done

-- the task in hand was pushed again; or no move was made, and the task lies in the book or is gone
abbrev pub HandsOn : {T : Type 0} → (T → ℕ) → T → List (Move T) → List (Move T) → Type 0
HandsOn {T} identity task before after = (after ≡ before) ⊎ ((by : ℕ) × (again : T) × (after ≡ before ++ Put by again ∷ []) × (identity again ≡ identity task))
