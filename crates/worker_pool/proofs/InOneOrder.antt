-- Each step of a pass keeps the rule of the queue.
use Rattle.std.proofs.Common.{◌≡◌, ◌≢◌, ℕ, zero, suc, ◌<◌, ◌≤◌, ◌==◌, true, false, cond, ◌⊎◌, List, [], ◌∷◌, ◌++◌, length, set, refl, sym, ap, ◌∙◌, subst, inl, inr, ⊎_elim, append_assoc, arith, eq-eqb, ne_eqb}
use Rattle.std.proofs.lemmas.Bool.{cases_lt}
use Rattle.std.proofs.lemmas.List.{append-nil, length-set, length-append, take-append-le, take_all}
use mathlib.Core.Option.{some, some-ne-none, some-injective}
use lib.ListN.{get_elem?}
use Rattle.crossbeam_queue.specs.Fifo.{Pushes, Pops, Forks, Learns}
use Rattle.crossbeam_queue.proofs.Lists.{at_set, set_again}
use Rattle.worker_pool.specs.declared.moves.Move.{Move}
use Rattle.worker_pool.specs.declared.moves.Move.TheVariants.{Put, Took}
use Rattle.worker_pool.specs.declared.moves.Seen.{Seen}
use Rattle.worker_pool.specs.declared.ready.TheConstants.{CAPACITY}
use Rattle.finite_maps.specs.Lists.{BeginsWith}
use Rattle.worker_pool.specs.Order.{seen, puts, takes, maker, moves_by, Leaves, IsInOrder, Fits, InOneOrder, Adds, Pushed, Popped, MayHold}

module _ {A : Type 0} where
  -- what stands at a number stands below the length
  at_below : (l : List A) (i : ℕ) (a : A) → get_elem? l i ≡ some a → i < length l
  at_below [] i a e = absurd (some-ne-none a (sym e))
  at_below (x ∷ xs) zero a e = omega arith
  at_below (x ∷ xs) (suc i) a e = let h = at_below xs i a e in omega arith

  -- what stands in a list one longer stood there, or is the new one at its end
  at_end : (l : List A) (a b : A) (j : ℕ) → get_elem? (l ++ a ∷ []) j ≡ some b → (get_elem? l j ≡ some b) ⊎ ((j ≡ length l) × (a ≡ b))
  at_end [] a b zero e = inr (refl, some-injective a b e)
  at_end [] a b (suc j) e = absurd (some-ne-none b (sym e))
  at_end (x ∷ xs) a b zero e = inl e
  at_end (x ∷ xs) a b (suc j) e = ⊎_elim inl (λ t. inr (ap suc t.0, t.1)) (at_end xs a b j e)

  begins_longer : (xs start more : List A) → BeginsWith xs start → BeginsWith (xs ++ more) start
  begins_longer xs start more h = (h.0 ++ more, ap (λ l. l ++ more) h.1 ∙ append_assoc start h.0 more)

module _ {T : Type 0} where
  puts-append : (ms ns : List (Move T)) → puts (ms ++ ns) ≡ puts ms ++ puts ns
  puts-append [] ns = refl
  puts-append (Put by x ∷ ms) ns = ap (λ l. x ∷ l) (puts-append ms ns)
  puts-append (Took by x ∷ ms) ns = puts-append ms ns

  takes-append : (ms ns : List (Move T)) → takes (ms ++ ns) ≡ takes ms ++ takes ns
  takes-append [] ns = refl
  takes-append (Put by x ∷ ms) ns = takes-append ms ns
  takes-append (Took by x ∷ ms) ns = ap (λ l. x ∷ l) (takes-append ms ns)

  moves_by-append : (by : ℕ) (ms ns : List (Move T)) → moves_by by (ms ++ ns) ≡ moves_by by ms ++ moves_by by ns
  moves_by-append by [] ns = refl
  moves_by-append by (m ∷ ms) ns =
      let rest = moves_by-append by ms ns in
      elim (maker m == by) as (λ b. cond b (m ∷ moves_by by (ms ++ ns)) (moves_by by (ms ++ ns)) ≡ cond b (m ∷ moves_by by ms) (moves_by by ms) ++ moves_by by ns) [
        | true ↦ ap (λ l. m ∷ l) rest
        | false ↦ rest
      ]

  moves_by-own : (by : ℕ) (ms : List (Move T)) (m : Move T) → maker m ≡ by → moves_by by (ms ++ m ∷ []) ≡ moves_by by ms ++ m ∷ []
  moves_by-own by ms m own = moves_by-append by ms (m ∷ []) ∙ ap (λ b. moves_by by ms ++ cond b (m ∷ []) []) (eq-eqb (maker m) by own)

  moves_by-other : (by : ℕ) (ms : List (Move T)) (m : Move T) → maker m ≢ by → moves_by by (ms ++ m ∷ []) ≡ moves_by by ms
  moves_by-other by ms m other = moves_by-append by ms (m ∷ []) ∙ ap (λ b. moves_by by ms ++ cond b (m ∷ []) []) (ne_eqb (maker m) by other) ∙ append-nil (moves_by by ms)

  leaves_put : (ms : List (Move T)) (tasks : List T) (by : ℕ) (x : T) → Leaves ms tasks → length tasks < CAPACITY → Leaves (ms ++ Put by x ∷ []) (tasks ++ x ∷ [])
  leaves_put ms tasks by x h room = (
    puts-append ms (Put by x ∷ []) ∙ ap (λ l. l ++ x ∷ []) h.0 ∙ append_assoc (takes ms) tasks (x ∷ [])
        ∙ ap (λ l. l ++ (tasks ++ x ∷ [])) (sym (takes-append ms (Put by x ∷ []) ∙ append-nil (takes ms))),
    omega (arith, length-append tasks (x ∷ [])),
  )

  leaves_took : (ms : List (Move T)) (tasks : List T) (by : ℕ) (x : T) → Leaves ms (x ∷ tasks) → Leaves (ms ++ Took by x ∷ []) tasks
  leaves_took ms tasks by x h = (
    puts-append ms (Took by x ∷ []) ∙ append-nil (puts ms) ∙ h.0 ∙ sym (append_assoc (takes ms) (x ∷ []) tasks)
        ∙ ap (λ l. l ++ tasks) (sym (takes-append ms (Took by x ∷ []))),
    (let most = h.1 in omega arith),
  )

  -- moves in order and one more that leaves some tasks are in order
  in_order_more : (ms : List (Move T)) (m : Move T) (tasks : List T) → IsInOrder ms → Leaves (ms ++ m ∷ []) tasks → IsInOrder (ms ++ m ∷ [])
  in_order_more ms m tasks order last n =
      let Left : List (Move T) → Type 0 = λ l. (now : List T) × Leaves l now in
      ⊎_elim (λ more. subst Left (sym (take_all n (ms ++ m ∷ []) (omega (arith, length-append ms (m ∷ []))))) (tasks, last))
      (λ less. subst Left (sym (take-append-le n ms (m ∷ []) less)) (order n)) (cases_lt (length ms) n)

  -- one more move of one pass
  adds : (tasks next : List T) (views : List (Seen T)) (by : ℕ) (v : Seen T) (m : Move T) (h : InOneOrder tasks views) → maker m ≡ by → get_elem? views by ≡ some v
      → Leaves (h.0 ++ m ∷ []) next → InOneOrder next (set views by (seen (h.0 ++ m ∷ []) (v.mine ++ m ∷ [])))
  adds tasks next views by v m h own at last =
      let moves = h.0 ++ m ∷ [] in
      let w : Seen T = seen moves (v.mine ++ m ∷ []) in (
        moves,
        in_order_more h.0 m next h.1 last,
        last,
        (λ j u e. ⊎_elim
            (λ (x : (j ≡ by) × (w ≡ u)). subst (λ (y : ℕ × Seen T). Fits moves y.0 y.1) (λ i. (sym x.0 i, x.1 i))
            (([], sym (append-nil moves)), moves_by-own by h.0 m own ∙ ap (λ l. l ++ m ∷ []) (h.3 by v at).1))
            (λ (x : (j ≢ by) × (get_elem? views j ≡ some u)).
            (begins_longer h.0 u.moves (m ∷ []) (h.3 j u x.1).0, moves_by-other j h.0 m (λ e. x.0 (sym e ∙ own)) ∙ (h.3 j u x.1).1)) (at_set views by j w u e)),
        (λ j far.
            let longer : length views ≤ j = rw length-set at far in
            let below = at_below views by v at in
            moves_by-other j h.0 m (λ e. let same = sym e ∙ own in omega arith) ∙ h.4 j longer),
      )

  told : (tasks : List T) (views : List (Seen T)) (by : ℕ) (v : Seen T) (move : ℕ → Move T) (h : InOneOrder tasks views) → maker (move by) ≡ by → get_elem? views by ≡ some v
      → IsInOrder (h.0 ++ move by ∷ []) → Adds v move (seen (h.0 ++ move by ∷ []) (v.mine ++ move by ∷ []))
  told tasks views by v move h own at order = let mine = h.3 by v at in (
    by,
    mine.0.0,
    ap (λ l. l ++ move by ∷ []) mine.0.1,
    refl,
    moves_by-own by h.0 (move by) own ∙ ap (λ l. l ++ move by ∷ []) mine.1,
    order,
  )

  pub pushes : (n by : ℕ) (v : Seen T) (x : T) → n ≡ CAPACITY → Pushes InOneOrder n by v x (Pushed v x)
  pushes n by v x full tasks views room h at =
      let last = leaves_put h.0 tasks by x h.2 (omega arith) in (
        seen (h.0 ++ Put by x ∷ []) (v.mine ++ Put by x ∷ []),
        adds tasks (tasks ++ x ∷ []) views by v (Put by x) h refl at last,
        told tasks views by v (λ b. Put b x) h refl at (in_order_more h.0 (Put by x) _ h.1 last),
      )

  pub pops : (by : ℕ) (v : Seen T) → Pops InOneOrder by v (Popped v)
  pops by v x tasks views h at =
      let last = leaves_took h.0 tasks by x h.2 in (
        seen (h.0 ++ Took by x ∷ []) (v.mine ++ Took by x ∷ []),
        adds (x ∷ tasks) tasks views by v (Took by x) h refl at last,
        told (x ∷ tasks) views by v (λ b. Took b x) h refl at (in_order_more h.0 (Took by x) _ h.1 last),
      )

  pub learns : (by : ℕ) (v : Seen T) → Learns InOneOrder by v (MayHold v)
  learns by v tasks views h at =
      let mine = h.3 by v at in
      let May : List (Move T) → Type 0 = λ l. (moves_by by l ≡ v.mine) × IsInOrder l × Leaves l tasks in
      let now = subst May mine.0.1 (mine.1, h.1, h.2) in (by, mine.0.0, now.0, now.1, now.2)

  pub forks : (by : ℕ) (v : Seen T) → Forks InOneOrder by v v (seen v.moves [])
  forks by v tasks views h at =
      let new : Seen T = seen v.moves [] in
      let Kept : List (Seen T) → Type 0 = λ vs. InOneOrder tasks (vs ++ new ∷ []) in
      subst Kept (sym (set_again views by v at)) (
        h.0,
        h.1,
        h.2,
        (λ j u e. ⊎_elim (λ x. h.3 j u x)
            (λ (x : (j ≡ length views) × (new ≡ u)). subst (λ (y : Seen T). Fits h.0 j y) x.1 ((h.3 by v at).0, h.4 j (let here = x.0 in omega arith)))
            (at_end views new u j e)),
        (λ j far. h.4 j (omega (arith, length-append views (new ∷ [])))),
      )
