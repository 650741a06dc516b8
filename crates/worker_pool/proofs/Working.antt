-- A worker's moves, put together over its rounds.
use Rattle.std.proofs.Common.{ℕ, List, [], ◌∷◌, ◌++◌, ap, ◌∙◌, append_assoc}
use Rattle.std.specs.Prelude.{Option, None, Some}
use Rattle.crossbeam_queue.specs.Passes.{Pass, IsSamePass}
use Rattle.worker_pool.specs.declared.moves.Move.{Move}
use Rattle.worker_pool.specs.declared.moves.Move.TheVariants.{Put, Took}
use Rattle.finite_maps.specs.Lists.{BeginsWith}
use Rattle.worker_pool.specs.Work.{IsWork, WorksFrom}
use Rattle.worker_pool.proofs.FiniteMap.{none_some}

pub begins_on : {A : Type 0} (a b c : List A) → BeginsWith b a → BeginsWith c b → BeginsWith c a
begins_on a b c first second = (first.0 ++ second.0, second.1 ∙ ap (λ l. l ++ second.0) first.1 ∙ append_assoc a first.0 second.0)

pub same_on : {T V : Type 0} (a b c : Pass T V) → IsSamePass a b → IsSamePass b c → IsSamePass a c
same_on a b c first second = (second.0 ∙ first.0, second.1 ∙ first.1, second.2 ∙ first.2)

module _ {T : Type 0} (identity : T → ℕ) where
  -- work that pushes nothing at first may follow any
  with_any : (in_hand : Option ℕ) (ms : List (Move T)) → IsWork identity None ms → IsWork identity in_hand ms
  with_any in_hand [] h = tt
  with_any in_hand (Took by x ∷ ms) h = h
  with_any in_hand (Put by x ∷ ms) h = absurd (none_some (identity x) h.0)

  IsWork-append : (in_hand : Option ℕ) (ms ns : List (Move T)) → IsWork identity in_hand ms → IsWork identity None ns → IsWork identity in_hand (ms ++ ns)
  IsWork-append in_hand [] ns h k = with_any in_hand ns k
  IsWork-append in_hand (Took by x ∷ ms) ns h k = IsWork-append (Some (identity x)) ms ns h k
  IsWork-append in_hand (Put by x ∷ ms) ns h k = (h.0, IsWork-append None ms ns h.1 k)

  pub works_on : (a b c : List (Move T)) → WorksFrom identity a b → WorksFrom identity b c → WorksFrom identity a c
  works_on a b c first second = (
    first.0 ++ second.0,
    second.1 ∙ ap (λ l. l ++ second.0) first.1 ∙ append_assoc a first.0 second.0,
    IsWork-append None first.0 second.0 first.2 second.2,
  )
