-- The moves of a queue of ready tasks, in the one order in which they were made, and what each pass has seen of them.
use Rattle.std.specs.Prelude.{◌≡◌, ℕ, ◌==◌, ◌≤◌, if◌then◌else◌, List, [], ◌∷◌, ◌++◌, length, take}
use Rattle.finite_maps.specs.Lists.{BeginsWith}
use mathlib.Core.Option.{some}
use lib.ListN.{get_elem?}
use Rattle.worker_pool.specs.declared.ready.TheConstants.{CAPACITY}
use Rattle.worker_pool.specs.declared.moves.Move.{Move}
use Rattle.worker_pool.specs.declared.moves.Move.TheVariants.{Put, Took}
use Rattle.worker_pool.specs.declared.moves.Seen.{Seen}

abbrev pub seen : {T : Type 0} → List (Move T) → List (Move T) → Seen T
seen moves mine = record { moves = moves; mine = mine }

-- the tasks that were pushed, in order
abbrev pub puts : {T : Type 0} → List (Move T) → List T
puts [] = []
puts (Put by x ∷ ms) = x ∷ puts ms
puts (Took by x ∷ ms) = puts ms

-- the tasks that were popped, in order
abbrev pub takes : {T : Type 0} → List (Move T) → List T
takes [] = []
takes (Put by x ∷ ms) = takes ms
takes (Took by x ∷ ms) = x ∷ takes ms

-- the number of the pass that made the move
abbrev pub maker : {T : Type 0} → Move T → ℕ
maker (Put by x) = by
maker (Took by x) = by

-- the moves of one pass, in order
abbrev pub moves_by : {T : Type 0} → ℕ → List (Move T) → List (Move T)
moves_by by [] = []
moves_by by (m ∷ ms) = if maker m == by then m ∷ moves_by by ms else moves_by by ms

-- after these moves the queue holds these tasks: what was pushed is what was popped and then what it holds, in order
abbrev pub Leaves : {T : Type 0} → List (Move T) → List T → Type 0
Leaves moves tasks = (puts moves ≡ takes moves ++ tasks) × (length tasks ≤ CAPACITY)

-- first in, first out: so it was after each move, so that none is lost, doubled or overtaken
abbrev pub IsInOrder : {T : Type 0} → List (Move T) → Type 0
IsInOrder {T} moves = (n : ℕ) → (tasks : List T) × Leaves (take n moves) tasks

-- the moves begin with those that the pass has seen, and its own are all that they have of it
abbrev pub Fits : {T : Type 0} → List (Move T) → ℕ → Seen T → Type 0
Fits moves by v = BeginsWith moves v.moves × (moves_by by moves ≡ v.mine)

-- The rule of the queue: there is one order of all moves, first in, first out, which leaves what the queue holds.
-- It begins with what each pass has seen, and has of each pass its own moves. No other pass has made one
abbrev pub InOneOrder : {T : Type 0} → List T → List (Seen T) → Type 0
InOneOrder {T} tasks views =
    (moves : List (Move T)) × IsInOrder moves × Leaves moves tasks
    × ((by : ℕ) (v : Seen T) → get_elem? views by ≡ some v → Fits moves by v)
    × ((by : ℕ) → length views ≤ by → moves_by by moves ≡ [])

-- The pass has seen all moves up to its own new one. They begin with what it had seen before, are in order,
-- and have of it just the moves that it made, of which the new one is the last
abbrev pub Adds : {T : Type 0} → Seen T → (ℕ → Move T) → Seen T → Type 0
Adds {T} v move w =
    (by : ℕ) × (between : List (Move T))
    × (w.moves ≡ (v.moves ++ between) ++ move by ∷ [])
    × (w.mine ≡ v.mine ++ move by ∷ [])
    × (moves_by by w.moves ≡ w.mine)
    × IsInOrder w.moves

abbrev pub Pushed : {T : Type 0} → Seen T → T → Seen T → Type 0
Pushed v task w = Adds v (λ by. Put by task) w

abbrev pub Popped : {T : Type 0} → Seen T → T → Seen T → Type 0
Popped v task w = Adds v (λ by. Took by task) w

-- there was a moment, after what the pass had seen and some moves of other passes, at which the queue held these tasks
abbrev pub MayHold : {T : Type 0} → Seen T → List T → Type 0
MayHold {T} v tasks =
    (by : ℕ) × (between : List (Move T))
    × (moves_by by (v.moves ++ between) ≡ v.mine) × IsInOrder (v.moves ++ between) × Leaves (v.moves ++ between) tasks

-- at a moment of the call the queue held that many tasks
abbrev pub HeldCount : {T : Type 0} → Seen T → ℕ → Type 0
HeldCount {T} v n = (tasks : List T) × (length tasks ≡ n) × MayHold v tasks
