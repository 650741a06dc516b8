-- What a stream carried, as folds of what happened and what was answered. Nothing of it is kept at run time.
use Rattle.std.specs.Prelude.{ℕ, Bool, true, false, ◌&&◌, ◌||◌, ◌==◌, if◌then◌else◌, List, [], ◌∷◌, ◌++◌, take, Ok}
use Rattle.mux_core.specs.declared.answer.ReadAnswer.TheVariants.{Got}
use Rattle.mux_core.specs.Worlds.{Side, Near, Far, Event, Write, Read, CloseWrite, Close, Reply, Wrote, Answered, Done}

abbrev pub same_side : Side → Side → Bool
same_side Near Near = true
same_side Far Far = true
same_side Near Far = false
same_side Far Near = false

-- a call of this side on this stream
abbrev pub is_on : Side → ℕ → Side → ℕ → Bool
is_on side n at stream = same_side side at && (stream == n)

abbrev pub accepted_in : Side → ℕ → Event → Reply → List ℕ
accepted_in side n (Write at stream bytes) (Wrote (Ok count)) = if is_on side n at stream then take count bytes else []
accepted_in side n _ _ = []

-- the bytes that were accepted of the writes of a side on a stream
abbrev pub sent : Side → ℕ → List (Event × Reply) → List ℕ
sent side n [] = []
sent side n (step ∷ steps) = accepted_in side n step.0 step.1 ++ sent side n steps

abbrev pub read_in : Side → ℕ → Event → Reply → List ℕ
read_in side n (Read at stream most) (Answered (Ok (Got bytes))) = if is_on side n at stream then bytes else []
read_in side n _ _ = []

-- the bytes that the reads of a side on a stream answered
abbrev pub delivered : Side → ℕ → List (Event × Reply) → List ℕ
delivered side n [] = []
delivered side n (step ∷ steps) = read_in side n step.0 step.1 ++ delivered side n steps

abbrev pub ends_in : Side → ℕ → Event → Reply → Bool
ends_in side n (CloseWrite at stream) (Done (Ok done)) = is_on side n at stream
ends_in side n _ _ = false

-- the side ended its writing on the stream
abbrev pub has_ended : Side → ℕ → List (Event × Reply) → Bool
has_ended side n [] = false
has_ended side n (step ∷ steps) = ends_in side n step.0 step.1 || has_ended side n steps

abbrev pub closes_in : Side → ℕ → Event → Reply → Bool
closes_in side n (Close at stream) (Done (Ok done)) = is_on side n at stream
closes_in side n _ _ = false

-- the side closed the stream
abbrev pub has_closed : Side → ℕ → List (Event × Reply) → Bool
has_closed side n [] = false
has_closed side n (step ∷ steps) = closes_in side n step.0 step.1 || has_closed side n steps
