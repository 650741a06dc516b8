-- One call, put together from its steps.
use Rattle.std.proofs.Common.{◌≡◌, ℕ, ◌++◌, List, [], ◌∷◌, Option, None, Some, ap, sym, ◌∙◌, subst}
use Rattle.atomic_table.specs.Table.{rest}
use Rattle.history_cell.specs.declared.entry.Entry.{Entry}
use Rattle.history_cell.specs.declared.kept.Kept.{Kept}
use Rattle.history_cell.specs.declared.view.Stage.TheVariants.{Waiting}
use Rattle.history_cell.specs.declared.view.View.{View}
use Rattle.history_cell.specs.History.{Leads, IsLegal, entry}
use Rattle.history_cell.specs.Steps.{SeatOf, knowing_drawn, staged, Turns, IsServing, Goes}
use Rattle.history_cell.specs.Passes.{Called}
use Rattle.history_cell.proofs.Histories.{leads_more}

abbrev first_slot : {T : Type 0} → List (ℕ × T) → T → T
first_slot [] d = d
first_slot (x ∷ xs) d = x.1

-- one value at most is found
pub found_once : {T : Type 0} (result : Option T) (x y : T) → result ≡ Some x → result ≡ Some y → x ≡ y
found_once result x y is is' = cc (is, is')

module _ {O A B : Type 0} where
  -- the object is taken out of the slot, and something put back
  pub slot_after : (m m' m'' : SeatOf O A B) (kept : Kept O A B) (back : Option (Kept O A B)) → m.1 ≡ (0, Some kept) ∷ [] → m' ≡ (m.0, (0, None) ∷ rest m.1) → m'' ≡ (m'.0, (0, back) ∷ rest m'.1) → m'' ≡ (m.0, (0, back) ∷ [])
  slot_after m m' m'' kept back is is' is'' =
      is'' ∙ (ap (λ (x : SeatOf O A B). (x.0, (0, back) ∷ rest x.1)) is' ∙ ap (λ (l : List (ℕ × Option (Kept O A B))). (m.0, (0, back) ∷ rest l)) is)

  -- what was found in the slot is what lay there
  pub slot_found : (m : SeatOf O A B) (kept found : Kept O A B) (result : Option (Kept O A B)) → m.1 ≡ (0, Some kept) ∷ [] → m.1 ≡ (0, result) ∷ rest m.1 → result ≡ Some found → found ≡ kept
  slot_found m kept found result is is' is'' =
      let lay : Some kept ≡ result = ap (λ (l : List (ℕ × Option (Kept O A B))). first_slot l result) (sym is ∙ is') in cc (lay, is'')

  -- the seat waits with its ticket, and then has its turn
  pub serving_after : (m m' m'' : SeatOf O A B) (ticket : ℕ) → m' ≡ (staged (knowing_drawn m.0 ticket) (Waiting ticket), []) → Turns m' ticket m'' → IsServing m''
  serving_after m m' m'' ticket is turn = (
    ticket,
    turn.0,
    ap (λ (x : SeatOf O A B). x.0.stage) turn.3,
    ap (λ (x : SeatOf O A B). x.1) turn.3 ∙ ap (λ (x : SeatOf O A B). (0, Some turn.0) ∷ x.1) is,
  )

  -- the steps of a call are one call
  pub called_after : (acts : O → A → B → O → Type 0) (start : O) (m m' m'' n : SeatOf O A B) (ticket : ℕ) (op : A) (reply : B) → m' ≡ (staged (knowing_drawn m.0 ticket) (Waiting ticket), []) → Turns m' ticket m''
      → Goes acts m''.0 op reply n.0 → m.0.opening ≡ Some start → Called acts start m.0.seen m.0.mine op reply n.0.seen n.0.mine
  called_after acts start m m' m'' n ticket op reply is turn goes begun =
      let e = entry goes.by op reply in
      let all : m''.0.seen ≡ m.0.seen ++ turn.2.0 = ap (λ (x : SeatOf O A B). x.0.seen) turn.3 ∙ (turn.2.1 ∙ ap (λ (x : SeatOf O A B). x.0.seen ++ turn.2.0) is) in
      let mine : m''.0.mine ≡ m.0.mine = ap (λ (x : SeatOf O A B). x.0.mine) turn.3 ∙ ap (λ (x : SeatOf O A B). x.0.mine) is in
      let opened : m''.0.opening ≡ m.0.opening = ap (λ (x : SeatOf O A B). x.0.opening) turn.3 ∙ ap (λ (x : SeatOf O A B). x.0.opening) is in
      record {
        by = goes.by;
        between = turn.2.0;
        before = goes.before;
        after = goes.after;
        seen_now = ap (λ (x : View O A B). x.seen) goes.view_is ∙ ap (λ l. l ++ e ∷ []) all;
        own_now = ap (λ (x : View O A B). x.mine) goes.view_is ∙ ap (λ l. l ++ e ∷ []) mine;
        own_calls = goes.own_calls;
        leads = subst (λ (l : List (Entry A B)). Leads acts start l goes.before) all (goes.leads start (opened ∙ begun));
        act = goes.act;
      }

  -- what a pass has called is legal
  pub legal_after : (acts : O → A → B → O → Type 0) (start : O) (seen own seen' own' : List (Entry A B)) (op : A) (reply : B) → Called acts start seen own op reply seen' own' → IsLegal acts start seen'
  legal_after acts start seen own seen' own' op reply h =
      subst (λ (l : List (Entry A B)). IsLegal acts start l) (sym h.seen_now) (h.after, leads_more acts start (seen ++ h.between) h.before h.after (entry h.by op reply) h.leads h.act)
