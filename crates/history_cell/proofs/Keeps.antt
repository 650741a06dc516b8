-- Each step of a pass keeps the rule of the cell.
use Rattle.std.proofs.Common.{◌≡◌, ◌≢◌, ℕ, zero, suc, ◌+◌, ◌%◌, ◌^◌, ◌<◌, ◌≤◌, ◌==◌, eqb, Bool, true, false, cond, ltb, List, [], ◌∷◌, ◌++◌, length, set, Option, None, Some, slice_index, refl, sym, ap, ◌∙◌, subst, inl, inr, ⊎_elim, arith, eq-eqb, ne_eqb}
use Rattle.std.proofs.lemmas.List.{length-set, length-append}
use mathlib.Core.Option as home
use mathlib.Core.Bool.{false≢true}
use mathlib.Core.Logic.{dite}
use native.Mathlib.Decide.{ℕ_discrete, dec_le}
use lib.ListN.{get_elem?}
use lib.Seq.{set-get_or}
use prog.Atomic.{either}
use Rattle.atomic_table.specs.Table.{State, step, Act, keeps, takes, gives, Valid, carried_after, stepped, opening, Allows, Splits, Joins, Final, Seen}
use Rattle.atomic_table.proofs.Lists.{at_set, set_here, set_else, set_again, at_longer, exchanged}
use Rattle.history_cell.specs.declared.entry.Entry.{Entry}
use Rattle.history_cell.specs.declared.kept.Kept.{Kept}
use Rattle.history_cell.specs.declared.kept.Said.{Said}
use Rattle.history_cell.specs.declared.view.Stage.{Stage}
use Rattle.history_cell.specs.declared.view.Stage.TheVariants.{Resting, Waiting, Serving, Joined}
use Rattle.history_cell.specs.declared.view.View.{View}
use Rattle.finite_maps.specs.Lists.{BeginsWith}
use Rattle.history_cell.specs.History.{Leads, entry, calls_by}
use Rattle.history_cell.specs.Tickets.{view, newcomer, split_off, joined, gone, holds, is_due, holders, Knows, Suits, IsHome, IsOut, IsKept}
use Rattle.history_cell.specs.Steps.{SeatOf, knowing_drawn, staged, LooksAtTickets, Draws, LooksAtServing, Goes, Serves, Settles}
use Rattle.history_cell.specs.Passes.{EndsAt, HasLost}
use Rattle.history_cell.proofs.Counts.{one, count-set, count_push, count_one, count_two}
use Rattle.history_cell.proofs.Histories.{at_end, begins_self, begins_none, begins_longer, begins_shorter, begins_both, leads_more, calls_by-own, calls_by-other}

-- what stands at a number stands below the length
at_below : {X : Type 0} (l : List X) (i : ℕ) (x : X) → get_elem? l i ≡ home.some x → i < length l
at_below [] i x e = absurd (home.some-ne-none x (sym e))
at_below (y ∷ ys) zero x e = omega arith
at_below (y ∷ ys) (suc i) x e = let h = at_below ys i x e in omega arith

-- a pass whose ticket is served doesn't rest
abbrev is_serving : {O : Type 0} → Stage O → Bool
is_serving Resting = false
is_serving (Waiting t) = false
is_serving (Serving t x) = true
is_serving Joined = false

serving_rests : {O : Type 0} (t : ℕ) (x : O) → Serving t x ≢ Resting
serving_rests t x e = false≢true (sym (ap is_serving e))

serving_waits : {O : Type 0} (t n : ℕ) (x : O) → Serving t x ≢ Waiting n
serving_waits t n x e = false≢true (sym (ap is_serving e))

abbrev said_or : {A B : Type 0} → Option (Said A B) → Said A B → Said A B
said_or None d = d
said_or (Some said) d = said

abbrev said_in : {O A B : Type 0} → Option (Kept O A B) → Said A B → Said A B
said_in None d = d
said_in (Some kept) d = said_or kept.last d

abbrev first_said : {O A B : Type 0} → List (ℕ × Option (Kept O A B)) → Said A B → Said A B
first_said [] d = d
first_said (y ∷ ys) d = said_in y.1 d

module _ {O A B : Type 0} where
  -- what suits a view suits another that knows as much and has seen the same
  suits_as : (start : O) (log : List (Entry A B)) (object : O) (tickets tickets' by : ℕ) (v w : View O A B) (stage : Stage O)
      → (Knows start log tickets by v → Knows start log tickets' by w) → w.seen ≡ v.seen → Suits start log object tickets by v stage → Suits start log object tickets' by w stage
  suits_as start log object tickets tickets' by v w Resting know same h = know h
  suits_as start log object tickets tickets' by v w (Waiting t) know same h = know h
  suits_as start log object tickets tickets' by v w (Serving t x) know same h = (know h.0, same ∙ h.1, h.2, h.3)
  suits_as start log object tickets tickets' by v w Joined know same h = tt

  knows_later : (start : O) (log : List (Entry A B)) (tickets tickets' by : ℕ) (v : View O A B) → tickets ≤ tickets' → Knows start log tickets by v → Knows start log tickets' by v
  knows_later start log tickets tickets' by v le h = record {
    opening_is = h.opening_is;
    has_seen = h.has_seen;
    has_old = h.has_old;
    own = h.own;
    drawn = (let below = h.drawn in omega arith);
  }

  module _ (acts : O → A → B → O → Type 0) (start : O) where
    stays_known : (log : List (Entry A B)) (tickets by : ℕ) (v : View O A B) (e : Entry A B) → e.by ≢ by → Knows start log tickets by v → Knows start (log ++ e ∷ []) tickets by v
    stays_known log tickets by v e other h = record {
      opening_is = h.opening_is;
      has_seen = begins_longer log v.seen (e ∷ []) h.has_seen;
      has_old = begins_longer log v.old (e ∷ []) h.has_old;
      own = calls_by-other by log e other ∙ h.own;
      drawn = h.drawn;
    }

    abbrev St : Type 0
    St = State (Option (Kept O A B)) (View O A B)

    -- the seat's view changes, and its ticket doesn't
    changed : (s : St) (k : IsKept acts start s) (ws : List ℕ) (id : ℕ) (v w : View O A B) → get_elem? s.views id ≡ home.some v → ws ≡ k.tickets ∷ length k.log ∷ []
        → ((t : ℕ) → holds t w.stage ≡ holds t v.stage) → is_due w.stage ≡ is_due v.stage → ((t : ℕ) (x : O) → v.stage ≡ Serving t x → w.stage ≡ Serving t x)
        → (Suits start k.log k.object k.tickets id v v.stage → Suits start k.log k.object k.tickets id w w.stage)
        → IsKept acts start record { words = ws; homes = s.homes; views = set s.views id w }
    changed s k ws id v w at words_are holding being_due serving suit =
        let held : (t : ℕ) → holders t (set s.views id w) ≡ holders t s.views =
        λ t. omega (arith, count-set (λ (u : View O A B). holds t u.stage) s.views id v w at, ap one (holding t)) in
        record {
          log = k.log;
          object = k.object;
          tickets = k.tickets;
          words = words_are;
          few = k.few;
          legal = k.legal;
          counted = omega (arith, k.counted, count-set (λ (u : View O A B). is_due u.stage) s.views id v w at, ap one being_due);
          due = λ t low high. held t ∙ k.due t low high;
          served = λ t low. held t ∙ k.served t low;
          undrawn = λ t high. held t ∙ k.undrawn t high;
          each = λ j u e. ⊎_elim
              (λ (x : (j ≡ id) × (w ≡ u)). subst (λ (y : ℕ × View O A B). Suits start k.log k.object k.tickets y.0 y.1 y.1.stage) (λ i. (sym x.0 i, x.1 i)) (suit (k.each id v at)))
              (λ (x : (j ≢ id) × (get_elem? s.views j ≡ home.some u)). k.each j u x.1) (at_set s.views id j w u e);
          others = λ j far. k.others j (rw length-set at far);
          slot = ⊎_elim inl (λ (out : IsOut s.homes s.views). inr (
            out.0,
            dite (ℕ_discrete out.1.0 id)
                (λ here. let mine : v ≡ out.1.1 = home.some-injective v out.1.1 (sym at ∙ (ap (λ j. get_elem? s.views j) (sym here) ∙ out.1.2)) in
                (id, w, set_here s.views id w (at_below s.views id v at), (out.1.3.0, out.1.3.1, serving out.1.3.0 out.1.3.1 (ap (λ (x : View O A B). x.stage) mine ∙ out.1.3.2))))
                (λ there. (out.1.0, out.1.1, set_else s.views id out.1.0 w there ∙ out.1.2, out.1.3)),
          )) k.slot;
        }

    same : (s : St) (k : IsKept acts start s) (ws : List ℕ) (id : ℕ) (v w : View O A B) → get_elem? s.views id ≡ home.some v → ws ≡ k.tickets ∷ length k.log ∷ [] → w.stage ≡ v.stage
        → (Suits start k.log k.object k.tickets id v v.stage → Suits start k.log k.object k.tickets id w w.stage)
        → IsKept acts start record { words = ws; homes = s.homes; views = set s.views id w }
    same s k ws id v w at words_are stage suit =
        changed s k ws id v w at words_are (λ t. ap (holds t) stage) (ap is_due stage) (λ t x is. stage ∙ is) suit

    -- the words, where one is written again as it was
    again : (ws : List ℕ) (a b i : ℕ) → ws ≡ a ∷ b ∷ [] → set ws i (slice_index ws i) ≡ a ∷ b ∷ []
    again ws a b i is = set-get_or ws i 0 ∙ is

    pub looks_at_tickets : (n id : ℕ) (m : SeatOf O A B) → Allows (IsKept acts start) n id m 0 (λ y. y) (LooksAtTickets (step n 0 0 0 home.none) m)
    looks_at_tickets n id m s k wide me small =
        let r : ℕ = slice_index s.words 0 in
        let r_is : r ≡ k.tickets = ap (λ (ws : List ℕ). slice_index ws 0) k.words in
        let w = knowing_drawn m.0 r in (
          w,
          keeps,
          tt,
          same s k (set s.words 0 r) id m.0 w me (again s.words k.tickets (length k.log) 0 k.words) refl
              (suits_as start k.log k.object k.tickets k.tickets id m.0 w m.0.stage
              (λ h. record { opening_is = h.opening_is; has_seen = h.has_seen; has_old = h.has_old; own = h.own; drawn = omega (arith, r_is) }) refl),
          refl,
        )

    -- the seat draws the next ticket
    drawn_next : (s : St) (k : IsKept acts start s) (ws : List ℕ) (id : ℕ) (v : View O A B) → get_elem? s.views id ≡ home.some v → ws ≡ (k.tickets + 1) ∷ length k.log ∷ [] → k.tickets < 2 ^ 62 → v.stage ≡ Resting
        → IsKept acts start record { words = ws; homes = s.homes; views = set s.views id (staged v (Waiting k.tickets)) }
    drawn_next s k ws id v at words_are room rests =
        let w = staged v (Waiting k.tickets) in
        let moved : (t : ℕ) → holders t (set s.views id w) ≡ holders t s.views + one (k.tickets == t) =
        λ t. omega (arith, count-set (λ (u : View O A B). holds t u.stage) s.views id v w at, ap (λ (x : Stage O). one (holds t x)) rests) in
        let old = k.counted in
        record {
          log = k.log;
          object = k.object;
          tickets = k.tickets + 1;
          words = words_are;
          few = omega arith;
          legal = k.legal;
          counted = omega (arith, k.counted, count-set (λ (u : View O A B). is_due u.stage) s.views id v w at, ap (λ (x : Stage O). one (is_due x)) rests);
          due = λ t low high. dite (ℕ_discrete k.tickets t)
              (λ e. omega (arith, moved t, ap one (eq-eqb k.tickets t e), k.undrawn t (omega arith)))
              (λ ne. omega (arith, moved t, ap one (ne_eqb k.tickets t ne), k.due t low (omega arith)));
          served = λ t low. omega (arith, moved t, ap one (ne_eqb k.tickets t (λ e. omega arith)), k.served t low);
          undrawn = λ t high. omega (arith, moved t, ap one (ne_eqb k.tickets t (λ e. omega arith)), k.undrawn t (omega arith));
          each = λ j u e. ⊎_elim
              (λ (x : (j ≡ id) × (w ≡ u)). subst (λ (y : ℕ × View O A B). Suits start k.log k.object (k.tickets + 1) y.0 y.1 y.1.stage) (λ i. (sym x.0 i, x.1 i))
              (let h = subst (λ (x : Stage O). Suits start k.log k.object k.tickets id v x) rests (k.each id v at) in
              record { opening_is = h.opening_is; has_seen = h.has_seen; has_old = h.has_old; own = h.own; drawn = (let below = h.drawn in omega arith) }))
              (λ (x : (j ≢ id) × (get_elem? s.views j ≡ home.some u)). suits_as start k.log k.object k.tickets (k.tickets + 1) j u u u.stage (knows_later start k.log k.tickets (k.tickets + 1) j u (omega arith)) refl (k.each j u x.1))
              (at_set s.views id j w u e);
          others = λ j far. k.others j (rw length-set at far);
          slot = ⊎_elim inl (λ (out : IsOut s.homes s.views). inr (
            out.0,
            (
              out.1.0,
              out.1.1,
              set_else s.views id out.1.0 w
                  (λ here. serving_rests out.1.3.0 out.1.3.1 (sym out.1.3.2 ∙ (ap (λ (x : View O A B). x.stage) (home.some-injective out.1.1 v (sym out.1.2 ∙ (ap (λ j. get_elem? s.views j) here ∙ at))) ∙ rests)))
                  ∙ out.1.2,
              out.1.3,
            ),
          )) k.slot;
        }

    pub draws : (n id : ℕ) (m : SeatOf O A B) (old : ℕ) → old < 2 ^ 62 → m.0.stage ≡ Resting
        → Allows (IsKept acts start) n id m 0 (λ y. either (eqb y old) (old + 1) y) (Draws (step n 0 old (old + 1) home.none) m)
    draws n id m old room rests s k wide me small =
        let r : ℕ = slice_index s.words 0 in
        let r_is : r ≡ k.tickets = ap (λ (ws : List ℕ). slice_index ws 0) k.words in
        let G : ℕ → Type 0 = λ y. (w : View O A B) × (a : Act (Option (Kept O A B))) × Valid s.homes m.1 a × IsKept acts start (stepped s 0 y id m.1 w a) × Draws (step n 0 old (old + 1) home.none) m r (w, carried_after m.1 a) in
        exchanged r old (old + 1) G
        (λ hit.
        let ws_are : set s.words 0 (old + 1) ≡ (k.tickets + 1) ∷ length k.log ∷ [] = ap (λ (ws : List ℕ). set ws 0 (old + 1)) k.words ∙ ap (λ (y : ℕ). (y + 1) ∷ length k.log ∷ []) (sym hit ∙ r_is) in (
          staged m.0 (Waiting k.tickets),
          keeps,
          tt,
          drawn_next s k (set s.words 0 (old + 1)) id m.0 me ws_are (omega (arith, r_is, hit)) rests,
          ((λ _. ap (λ (y : ℕ). (staged m.0 (Waiting y), m.1)) (sym r_is)), λ miss. absurd (miss hit)),
        ))
        (λ miss. (
          m.0,
          keeps,
          tt,
          same s k (set s.words 0 r) id m.0 m.0 me (again s.words k.tickets (length k.log) 0 k.words) refl (λ h. h),
          ((λ hit. absurd (miss hit)), λ _. refl),
        ))

    -- where a ticket is held, by two passes, the rule is broken
    one_holder : (s : St) (k : IsKept acts start s) (t i j : ℕ) (v u : View O A B) → i ≢ j → get_elem? s.views i ≡ home.some v → get_elem? s.views j ≡ home.some u → holds t v.stage ≡ true → holds t u.stage ≡ true → ⊥
    one_holder s k t i j v u apart at at' is is' =
        let two = count_two (λ (x : View O A B). holds t x.stage) s.views i j v u apart at at' is is' in
        dite (dec_le (length k.log) t)
        (λ low. dite (dec_le (suc t) k.tickets) (λ high. omega (arith, two, k.due t low high)) (λ none. omega (arith, two, k.undrawn t (omega arith))))
        (λ none. omega (arith, two, k.served t (omega arith)))

    -- a ticket that is held was drawn and isn't served
    held_due : (s : St) (k : IsKept acts start s) (t i : ℕ) (v : View O A B) → get_elem? s.views i ≡ home.some v → holds t v.stage ≡ true → (length k.log ≤ t) × (t < k.tickets)
    held_due s k t i v at is =
        let one_at_least = count_one (λ (x : View O A B). holds t x.stage) s.views i v at is in
        dite (dec_le (length k.log) t)
        (λ low. dite (dec_le (suc t) k.tickets) (λ high. (low, high)) (λ none. absurd (omega (arith, one_at_least, k.undrawn t (omega arith)))))
        (λ none. absurd (omega (arith, one_at_least, k.served t (omega arith))))

    -- a view that stands there, and what it knows
    serving_there : (s : St) (k : IsKept acts start s) (by t : ℕ) (v : View O A B) (x : O) → get_elem? s.views by ≡ home.some v → v.stage ≡ Serving t x
        → Knows start k.log k.tickets by v × (v.seen ≡ k.log) × (x ≡ k.object) × (t ≡ length k.log)
    serving_there s k by t v x at stage = subst (λ (y : Stage O). Suits start k.log k.object k.tickets by v y) stage (k.each by v at)

    holds_it : (t n : ℕ) (stage : Stage O) (x : O) → stage ≡ Serving n x → n ≡ t → holds t stage ≡ true
    holds_it t n stage x is e = ap (holds t) is ∙ eq-eqb n t e

    -- where a pass waits for the ticket that is served, the object lies in the slot
    at_home : (s : St) (k : IsKept acts start s) (id t : ℕ) (v : View O A B) → get_elem? s.views id ≡ home.some v → v.stage ≡ Waiting t → t ≡ length k.log → IsHome k.object s.homes
    at_home s k id t v at waits turn = ⊎_elim (λ h. h)
        (λ (out : IsOut s.homes s.views).
        let theirs = serving_there s k out.1.0 out.1.3.0 out.1.1 out.1.3.1 out.1.2 out.1.3.2 in
        absurd (one_holder s k (length k.log) id out.1.0 v out.1.1
        (λ here. serving_waits out.1.3.0 t out.1.3.1 (sym out.1.3.2 ∙ (ap (λ (x : View O A B). x.stage) (home.some-injective out.1.1 v (sym out.1.2 ∙ (ap (λ j. get_elem? s.views j) (sym here) ∙ at))) ∙ waits)))
        at out.1.2 (ap (holds (length k.log)) waits ∙ eq-eqb t (length k.log) turn) (holds_it (length k.log) out.1.3.0 out.1.1.stage out.1.3.1 out.1.3.2 theirs.3))) k.slot

    -- the seat's ticket is served, and it takes the slot
    turn_taken : (s : St) (k : IsKept acts start s) (ws : List ℕ) (id t : ℕ) (v : View O A B) (kept : Kept O A B) → get_elem? s.views id ≡ home.some v → ws ≡ k.tickets ∷ length k.log ∷ [] → v.stage ≡ Waiting t → t ≡ length k.log
        → s.homes ≡ home.some (Some kept) ∷ [] → kept.object ≡ k.object
        → IsKept acts start record { words = ws; homes = set s.homes 0 home.none; views = set s.views id (view v.opening k.log v.mine v.old v.drawn (Serving (length k.log) kept.object)) }
    turn_taken s k ws id t v kept at words_are waits turn homes_are object_is =
        let w = view v.opening k.log v.mine v.old v.drawn (Serving (length k.log) kept.object) in
        let moved : (n : ℕ) → holders n (set s.views id w) ≡ holders n s.views =
        λ n. omega (arith, count-set (λ (u : View O A B). holds n u.stage) s.views id v w at, ap (λ (x : Stage O). one (holds n x)) waits, ap (λ (x : ℕ). one (x == n)) turn) in
        record {
          log = k.log;
          object = k.object;
          tickets = k.tickets;
          words = words_are;
          few = k.few;
          legal = k.legal;
          counted = omega (arith, k.counted, count-set (λ (u : View O A B). is_due u.stage) s.views id v w at, ap (λ (x : Stage O). one (is_due x)) waits);
          due = λ n low high. moved n ∙ k.due n low high;
          served = λ n low. moved n ∙ k.served n low;
          undrawn = λ n high. moved n ∙ k.undrawn n high;
          each = λ j u e. ⊎_elim
              (λ (x : (j ≡ id) × (w ≡ u)). subst (λ (y : ℕ × View O A B). Suits start k.log k.object k.tickets y.0 y.1 y.1.stage) (λ i. (sym x.0 i, x.1 i))
              (let h = subst (λ (x : Stage O). Suits start k.log k.object k.tickets id v x) waits (k.each id v at) in
              (record { opening_is = h.opening_is; has_seen = begins_self k.log; has_old = h.has_old; own = h.own; drawn = h.drawn }, refl, object_is, refl)))
              (λ (x : (j ≢ id) × (get_elem? s.views j ≡ home.some u)). k.each j u x.1) (at_set s.views id j w u e);
          others = λ j far. k.others j (rw length-set at far);
          slot = inr (ap (λ (hs : List (home.Option (Option (Kept O A B)))). set hs 0 home.none) homes_are, (id, w, set_here s.views id w (at_below s.views id v at), (length k.log, kept.object, refl)));
        }

    pub looks_at_serving : (n id : ℕ) (m : SeatOf O A B) (t : ℕ) → m.0.stage ≡ Waiting t → Allows (IsKept acts start) n id m 1 (λ y. y) (LooksAtServing (step n 1 0 0 home.none) m)
    looks_at_serving n id m t waits s k wide me small =
        let r : ℕ = slice_index s.words 1 in
        let r_is : r ≡ length k.log = ap (λ (ws : List ℕ). slice_index ws 1) k.words in
        let ws_are = again s.words k.tickets (length k.log) 1 k.words in
        let same_ticket : (n' : ℕ) → m.0.stage ≡ Waiting n' → t ≡ n' = λ n' is. cc (waits, is) in
        dite (ℕ_discrete r t)
        (λ turn.
        let h = at_home s k id t m.0 me waits (sym turn ∙ r_is) in
        let w = view m.0.opening k.log m.0.mine m.0.old m.0.drawn (Serving (length k.log) h.0.object) in (
          w,
          takes 0 (Some h.0),
          ap (λ (hs : List (home.Option (Option (Kept O A B)))). get_elem? hs 0) h.1,
          turn_taken s k (set s.words 1 r) id t m.0 h.0 me ws_are waits (sym turn ∙ r_is) h.1 h.2,
          (λ n' is. (
            (λ _.
                let mine : BeginsWith k.log m.0.seen = (subst (λ (x : Stage O). Suits start k.log k.object k.tickets id m.0 x) waits (k.each id m.0 me)).has_seen in
                (h.0, k.log, mine, ap (λ (y : ℕ). (view m.0.opening k.log m.0.mine m.0.old m.0.drawn (Serving y h.0.object), (0, Some h.0) ∷ m.1)) (sym r_is))),
            (λ miss. absurd (miss (turn ∙ same_ticket n' is))),
          )),
        ))
        (λ miss. (
          m.0,
          keeps,
          tt,
          same s k (set s.words 1 r) id m.0 m.0 me ws_are refl (λ h. h),
          (λ n' is. ((λ hit. absurd (miss (hit ∙ sym (same_ticket n' is)))), λ _. refl)),
        ))

    -- what another pass knows stays true as the history goes on by a call
    others_stay : (s : St) (k : IsKept acts start s) (id j : ℕ) (v u : View O A B) (stage : Stage O) (object : O) (e : Entry A B) → u.stage ≡ stage → e.by ≡ id
        → get_elem? s.views id ≡ home.some v → j ≢ id → get_elem? s.views j ≡ home.some u → holds (length k.log) v.stage ≡ true
        → Suits start k.log k.object k.tickets j u stage → Suits start (k.log ++ e ∷ []) object k.tickets j u stage
    others_stay s k id j v u Resting object e is by at apart there held h = stays_known k.log k.tickets j u e (λ same. apart (sym same ∙ by)) h
    others_stay s k id j v u (Waiting t) object e is by at apart there held h = stays_known k.log k.tickets j u e (λ same. apart (sym same ∙ by)) h
    others_stay s k id j v u (Serving t x) object e is by at apart there held h =
        absurd (one_holder s k (length k.log) id j v u (λ same. apart (sym same)) at there held (holds_it (length k.log) t u.stage x is h.3))
    others_stay s k id j v u Joined object e is by at apart there held h = tt

    -- whether it holds the object or not, there is one slot
    slot_filled : (s : St) (k : IsKept acts start s) (y : home.Option (Option (Kept O A B))) → set s.homes 0 y ≡ y ∷ []
    slot_filled s k y = ⊎_elim (λ (h : IsHome k.object s.homes). ap (λ (hs : List (home.Option (Option (Kept O A B)))). set hs 0 y) h.1)
        (λ (h : IsOut s.homes s.views). ap (λ (hs : List (home.Option (Option (Kept O A B)))). set hs 0 y) h.0) k.slot

    -- a turn ends: the history goes on by the call, and the object lies in the slot again
    turn_ended : (s : St) (k : IsKept acts start s) (ws : List ℕ) (id : ℕ) (v : View O A B) (t : ℕ) (x : O) (kept : Kept O A B) (op : A) (reply : B)
        → get_elem? s.views id ≡ home.some v → ws ≡ k.tickets ∷ (length k.log + 1) ∷ [] → v.stage ≡ Serving t x → acts x op reply kept.object
        → IsKept acts start record {
          words = ws;
          homes = set s.homes 0 (home.some (Some kept));
          views = set s.views id (view v.opening (v.seen ++ entry id op reply ∷ []) (v.mine ++ entry id op reply ∷ []) v.old v.drawn Resting);
        }
    turn_ended s k ws id v t x kept op reply at words_are serving act =
        let e : Entry A B = entry id op reply in
        let log = k.log ++ e ∷ [] in
        let w = view v.opening (v.seen ++ e ∷ []) (v.mine ++ e ∷ []) v.old v.drawn Resting in
        let mine = serving_there s k id t v x at serving in
        let held : holds (length k.log) v.stage ≡ true = holds_it (length k.log) t v.stage x serving mine.3 in
        let longer_by : length log ≡ length k.log + 1 = length-append k.log (e ∷ []) in
        let moved : (n : ℕ) → holders n (set s.views id w) + one (eqb (length k.log) n) ≡ holders n s.views =
        λ n. omega (arith, count-set (λ (u : View O A B). holds n u.stage) s.views id v w at, ap (λ (y : Stage O). one (holds n y)) serving, ap (λ (y : ℕ). one (eqb y n)) mine.3) in
        record {
          log = log;
          object = kept.object;
          tickets = k.tickets;
          words = words_are ∙ ap (λ (y : ℕ). k.tickets ∷ y ∷ []) (sym longer_by);
          few = k.few;
          legal = leads_more acts start k.log k.object kept.object e k.legal (subst (λ (y : O). acts y op reply kept.object) mine.2 act);
          counted = omega (arith, longer_by, k.counted, count-set (λ (u : View O A B). is_due u.stage) s.views id v w at, ap (λ (y : Stage O). one (is_due y)) serving);
          due = λ n low high. omega (arith, moved n, longer_by, ap one (ne_eqb (length k.log) n (λ is. omega (arith, longer_by))), k.due n (omega (arith, longer_by)) high);
          served = λ n low. dite (ℕ_discrete (length k.log) n)
              (λ is. omega (arith, moved n, ap one (eq-eqb (length k.log) n is), k.due n (omega arith) (let due = held_due s k (length k.log) id v at held in omega arith)))
              (λ ne. omega (arith, moved n, ap one (ne_eqb (length k.log) n ne), k.served n (omega (arith, longer_by))));
          undrawn = λ n high. let due = held_due s k (length k.log) id v at held in omega (arith, moved n, ap one (ne_eqb (length k.log) n (λ is. omega arith)), k.undrawn n high);
          each = λ j u is. ⊎_elim
              (λ (y : (j ≡ id) × (w ≡ u)). subst (λ (z : ℕ × View O A B). Suits start log kept.object k.tickets z.0 z.1 z.1.stage) (λ i. (sym y.0 i, y.1 i))
              record {
                opening_is = mine.0.opening_is;
                has_seen = subst (λ (l : List (Entry A B)). BeginsWith log (l ++ e ∷ [])) (sym mine.1) (begins_self log);
                has_old = begins_longer k.log v.old (e ∷ []) mine.0.has_old;
                own = calls_by-own id k.log e refl ∙ ap (λ l. l ++ e ∷ []) mine.0.own;
                drawn = mine.0.drawn;
              })
              (λ (y : (j ≢ id) × (get_elem? s.views j ≡ home.some u)). others_stay s k id j v u u.stage kept.object e refl refl at y.0 y.1 held (k.each j u y.1)) (at_set s.views id j w u is);
          others = λ j far.
              let longer : length s.views ≤ j = rw length-set at far in
              let below = at_below s.views id v at in
              calls_by-other j k.log e (λ is. let same : id ≡ j = is in omega arith) ∙ k.others j longer;
          slot = inl (kept, slot_filled s k (home.some (Some kept)), refl);
        }

    pub serves : (n id : ℕ) (m : SeatOf O A B) (v : View O A B) (t : ℕ) (x object : O) (said : Said A B)
        → m ≡ (v, (0, Some (record { object = object; last = Some said })) ∷ []) → v.stage ≡ Serving t x → acts x said.op.value said.reply.value object
        → Allows (IsKept acts start) n id m 1 (λ y. (y + 1) % 2 ^ 64) (Serves acts (step n 1 1 0 home.none) m)
    serves n id m v t x object said is serving act =
        subst (λ (z : SeatOf O A B). Allows (IsKept acts start) n id z 1 (λ y. (y + 1) % 2 ^ 64) (Serves acts (step n 1 1 0 home.none) z)) (sym is)
        (λ s k wide me small.
        let kept : Kept O A B = record { object = object; last = Some said } in
        let op = said.op.value in
        let reply = said.reply.value in
        let e : Entry A B = entry id op reply in
        let r : ℕ = slice_index s.words 1 in
        let r_is : r ≡ length k.log = ap (λ (ws : List ℕ). slice_index ws 1) k.words in
        let mine = serving_there s k id t v x me serving in
        let due = held_due s k (length k.log) id v me (holds_it (length k.log) t v.stage x serving mine.3) in
        let few = k.few in
        let next : (r + 1) % 2 ^ 64 ≡ length k.log + 1 = omega (arith, r_is) in
        let ws_are : set s.words 1 ((r + 1) % 2 ^ 64) ≡ k.tickets ∷ (length k.log + 1) ∷ [] = ap (λ (ws : List ℕ). set ws 1 ((r + 1) % 2 ^ 64)) k.words ∙ ap (λ (y : ℕ). k.tickets ∷ y ∷ []) next in
        let w = view v.opening (v.seen ++ e ∷ []) (v.mine ++ e ∷ []) v.old v.drawn Resting in
        let seen_is : v.seen ++ e ∷ [] ≡ k.log ++ e ∷ [] = ap (λ l. l ++ e ∷ []) mine.1 in (
          w,
          gives,
          tt,
          turn_ended s k (set s.words 1 ((r + 1) % 2 ^ 64)) id v t x kept op reply me ws_are serving act,
          (λ t' x' object' said' stage slot.
              let same : said ≡ said' = ap (λ (l : List (ℕ × Option (Kept O A B))). first_said l said) slot in (
                refl,
                subst (λ (z : Said A B). Goes acts v z.op.value z.reply.value w) same (record {
                  by = id;
                  before = x;
                  after = object;
                  view_is = refl;
                  own_calls = ap (calls_by id) seen_is ∙ (calls_by-own id k.log e refl ∙ ap (λ l. l ++ e ∷ []) mine.0.own);
                  few = omega (arith, ap length seen_is, length-append k.log (e ∷ []));
                  act = act;
                  leads = λ start' is'.
                      let begun : start ≡ start' = cc (mine.0.opening_is, is') in
                      subst (λ (z : O × (List (Entry A B) × O)). Leads acts z.0 z.1.0 z.1.1) (λ i. (begun i, (sym mine.1 i, sym mine.2 i))) k.legal;
                }),
              )),
        ))

    pub settles : (n id : ℕ) (m : SeatOf O A B) → Allows (IsKept acts start) n id m 0 (λ y. y) (Settles (step n 0 0 0 home.none) m)
    settles n id m s k wide me small =
        let r : ℕ = slice_index s.words 0 in
        let w = view m.0.opening m.0.seen m.0.mine [] m.0.drawn m.0.stage in (
          w,
          keeps,
          tt,
          same s k (set s.words 0 r) id m.0 w me (again s.words k.tickets (length k.log) 0 k.words) refl
              (suits_as start k.log k.object k.tickets k.tickets id m.0 w m.0.stage
              (λ h. record { opening_is = h.opening_is; has_seen = h.has_seen; has_old = begins_none k.log; own = h.own; drawn = h.drawn }) refl),
          (
            (λ rests le.
                let h = subst (λ (x : Stage O). Suits start k.log k.object k.tickets id m.0 x) rests (k.each id m.0 me) in
                begins_shorter k.log m.0.seen m.0.old h.has_seen h.has_old le),
            refl,
          ),
        )

    pub splits : (id : ℕ) (v : View O A B) → v.stage ≡ Resting → Splits (IsKept acts start) id v v (split_off v)
    splits id v rests s k me =
        let w = split_off v in
        let mine : Knows start k.log k.tickets id v = subst (λ (x : Stage O). Suits start k.log k.object k.tickets id v x) rests (k.each id v me) in
        let held : (t : ℕ) → holders t (s.views ++ w ∷ []) ≡ holders t s.views = λ t. omega (arith, count_push (λ (u : View O A B). holds t u.stage) s.views w) in
        subst (λ (vs : List (View O A B)). IsKept acts start record { words = s.words; homes = s.homes; views = vs ++ w ∷ [] }) (sym (set_again s.views id v me)) (record {
          log = k.log;
          object = k.object;
          tickets = k.tickets;
          words = k.words;
          few = k.few;
          legal = k.legal;
          counted = omega (arith, k.counted, count_push (λ (u : View O A B). is_due u.stage) s.views w);
          due = λ t low high. held t ∙ k.due t low high;
          served = λ t low. held t ∙ k.served t low;
          undrawn = λ t high. held t ∙ k.undrawn t high;
          each = λ j u e. ⊎_elim (λ (x : get_elem? s.views j ≡ home.some u). k.each j u x)
              (λ (x : (j ≡ length s.views) × (w ≡ u)). subst (λ (y : ℕ × View O A B). Suits start k.log k.object k.tickets y.0 y.1 y.1.stage) (λ i. (sym x.0 i, x.1 i))
              record { opening_is = mine.opening_is; has_seen = mine.has_seen; has_old = begins_none k.log; own = k.others (length s.views) (omega arith); drawn = mine.drawn })
              (at_end s.views w u j e);
          others = λ j far. k.others j (omega (arith, length-append s.views (w ∷ [])));
          slot = ⊎_elim inl (λ (out : IsOut s.homes s.views). inr (out.0, (out.1.0, out.1.1, at_longer s.views (w ∷ []) out.1.0 out.1.1 out.1.2, out.1.3))) k.slot;
        })

    pub joins : (id : ℕ) (v : View O A B) (other : ℕ) (u : View O A B) → v.stage ≡ Resting → u.stage ≡ Resting → Joins (IsKept acts start) id v other u (joined v u) gone
    joins id v other u rests rests' s k me apart them =
        let w = joined v u in
        let mine : Knows start k.log k.tickets id v = subst (λ (x : Stage O). Suits start k.log k.object k.tickets id v x) rests (k.each id v me) in
        let there : get_elem? s.views other ≡ home.some u = sym (set_else s.views id other w apart) ∙ them in
        let theirs : Knows start k.log k.tickets other u = subst (λ (x : Stage O). Suits start k.log k.object k.tickets other u x) rests' (k.each other u there) in
        let both = begins_both k.log v.seen u.seen mine.has_seen theirs.has_seen in
        let few : w.drawn ≤ k.tickets = elim (ltb v.drawn u.drawn) as (λ b. cond b u.drawn v.drawn ≤ k.tickets) [
          | true ↦ theirs.drawn
          | false ↦ mine.drawn
        ] in
        let seen : Knows start k.log k.tickets id w = record { opening_is = mine.opening_is; has_seen = both.0; has_old = both.1; own = mine.own; drawn = few } in
        let after = same s k s.words id v w me k.words refl (λ _. subst (λ (x : Stage O). Suits start k.log k.object k.tickets id w x) (sym rests) seen) in
        changed record { words = s.words; homes = s.homes; views = set s.views id w } after s.words other u gone them after.words
        (λ t. ap (holds t) (sym rests')) (ap is_due (sym rests')) (λ t x is. absurd (serving_rests t x (sym is ∙ rests'))) (λ _. tt)

    first_alone : (by : ℕ) (v : View O A B) → get_elem? (newcomer start ∷ []) by ≡ home.some v → Suits start [] start 0 by v v.stage
    first_alone zero v at = subst (λ (y : View O A B). Suits start [] start 0 0 y y.stage) (home.some-injective (newcomer start) v at)
        record { opening_is = refl; has_seen = begins_none []; has_old = begins_none []; own = refl; drawn = omega arith }
    first_alone (suc by) v at = absurd (home.some-ne-none v (sym at))

    pub starts : (object : O) → object ≡ start → IsKept acts start (opening (0 ∷ 0 ∷ []) (Some (record { object = object; last = None }) ∷ []) (newcomer start))
    starts object is = record {
      log = [];
      object = start;
      tickets = 0;
      words = refl;
      few = omega arith;
      legal = refl;
      counted = refl;
      due = λ t low high. absurd (omega arith);
      served = λ t low. absurd (omega arith);
      undrawn = λ t high. refl;
      each = λ by v at. first_alone by v at;
      others = λ by far. refl;
      slot = inl (record { object = object; last = None }, refl, is);
    }

    -- what the words and the slot are once the cell is closed
    pub ends : (id : ℕ) (v : View O A B) (ws : List ℕ) (xs : List (Option (Kept O A B))) (tickets serving : ℕ) → v.stage ≡ Resting → Final (Seen (IsKept acts start) id v) ws xs
        → get_elem? ws 0 ≡ home.some tickets → get_elem? ws 1 ≡ home.some serving
        → (tickets ≡ serving → (kept : Kept O A B) × (get_elem? xs 0 ≡ home.some (Some kept)) × EndsAt acts start v.seen v.mine kept.object)
        × (tickets ≢ serving → (length v.seen ≤ serving) × (serving < tickets) × (v.drawn ≤ tickets) × (tickets ≤ 2 ^ 62) × HasLost acts start tickets serving)
    ends id v ws xs tickets serving rests f first second =
        let s = f.0 in
        let k = f.1.0 in
        let at = f.1.1 in
        let mine : Knows start k.log k.tickets id v = subst (λ (x : Stage O). Suits start k.log k.object k.tickets id v x) rests (k.each id v at) in
        let are : ws ≡ k.tickets ∷ length k.log ∷ [] = sym f.2 ∙ k.words in
        let t_is : tickets ≡ k.tickets = home.some-injective tickets k.tickets (sym first ∙ ap (λ (l : List ℕ). get_elem? l 0) are) in
        let s_is : serving ≡ length k.log = home.some-injective serving (length k.log) (sym second ∙ ap (λ (l : List ℕ). get_elem? l 1) are) in
        let counted = k.counted in
        let few = k.few in
        let below = mine.drawn in (
          (λ equal. ⊎_elim
              (λ (h : IsHome k.object s.homes). (
                h.0,
                f.4 0 (Some h.0) (ap (λ (hs : List (home.Option (Option (Kept O A B)))). get_elem? hs 0) h.1),
                record {
                  by = id;
                  rest = mine.has_seen.0;
                  own_calls = ap (calls_by id) (sym mine.has_seen.1) ∙ mine.own;
                  leads = subst (λ (z : List (Entry A B) × O). Leads acts start z.0 z.1) (λ i. (mine.has_seen.1 i, sym h.2 i)) k.legal;
                },
              ))
              (λ (out : IsOut s.homes s.views).
              let theirs = serving_there s k out.1.0 out.1.3.0 out.1.1 out.1.3.1 out.1.2 out.1.3.2 in
              let due = held_due s k (length k.log) out.1.0 out.1.1 out.1.2 (holds_it (length k.log) out.1.3.0 out.1.1.stage out.1.3.1 out.1.3.2 theirs.3) in
              absurd (omega (arith, t_is, s_is, equal))) k.slot),
          (λ differ. (
            omega (arith, s_is, ap length mine.has_seen.1, length-append v.seen mine.has_seen.0),
            omega (arith, t_is, s_is, differ),
            omega (arith, t_is),
            omega (arith, t_is),
            record {
              last = s;
              kept = k;
              words = k.words ∙ (λ i. sym t_is i ∷ sym s_is i ∷ []);
              holders = omega (arith, t_is, s_is);
              some_one = omega (arith, t_is, s_is, differ);
            },
          )),
        )
