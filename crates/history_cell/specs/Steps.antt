-- What each step of a cell tells: of the step, the seat before, the number found and the seat after.
use Rattle.std.specs.Prelude.{◌≡◌, ◌≢◌, ℕ, ◌^◌, ◌≤◌, Option, Some, List, [], ◌∷◌, ◌++◌, length}
use Rattle.atomic_table.specs.Table.{Me, Step}
use Rattle.history_cell.specs.declared.entry.Entry.{Entry}
use Rattle.history_cell.specs.declared.kept.Kept.{Kept}
use Rattle.history_cell.specs.declared.kept.Said.{Said}
use Rattle.history_cell.specs.declared.view.Stage.{Stage}
use Rattle.history_cell.specs.declared.view.Stage.TheVariants.{Resting, Waiting, Serving}
use Rattle.history_cell.specs.declared.view.View.{View}
use Rattle.finite_maps.specs.Lists.{BeginsWith}
use Rattle.history_cell.specs.History.{Leads, entry, calls_by}
use Rattle.history_cell.specs.Tickets.{view}

-- a seat at the table of a cell
abbrev pub SeatOf : Type 0 → Type 0 → Type 0 → Type 0
SeatOf O A B = Me (Option (Kept O A B)) (View O A B)

abbrev pub StepOf : Type 0 → Type 0 → Type 0 → Type 0
StepOf O A B = Step (Option (Kept O A B))

module _ {O A B : Type 0} where
  abbrev pub knowing_drawn : View O A B → ℕ → View O A B
  knowing_drawn v drawn = view v.opening v.seen v.mine v.old drawn v.stage

  abbrev pub staged : View O A B → Stage O → View O A B
  staged v stage = view v.opening v.seen v.mine v.old v.drawn stage

  -- the number found was drawn
  abbrev pub LooksAtTickets : StepOf O A B → SeatOf O A B → ℕ → SeatOf O A B → Type 0
  LooksAtTickets st m r n = n ≡ (knowing_drawn m.0 r, m.1)

  -- where the word was the number looked at, that is the seat's ticket
  abbrev pub Draws : StepOf O A B → SeatOf O A B → ℕ → SeatOf O A B → Type 0
  Draws st m r n = (r ≡ st.first → n ≡ (staged m.0 (Waiting r), m.1)) × (r ≢ st.first → n ≡ m)

  -- the seat's ticket is served: it has seen the whole history, and has taken the slot
  abbrev pub Turns : SeatOf O A B → ℕ → SeatOf O A B → Type 0
  Turns m r n = (kept : Kept O A B) × (all : List (Entry A B)) × BeginsWith all m.0.seen × (n ≡ (view m.0.opening all m.0.mine m.0.old m.0.drawn (Serving r kept.object), (0, Some kept) ∷ m.1))

  -- the seat has its turn, and the slot with the object in it
  abbrev pub IsServing : SeatOf O A B → Type 0
  IsServing m = (t : ℕ) × (kept : Kept O A B) × (m.0.stage ≡ Serving t kept.object) × (m.1 ≡ (0, Some kept) ∷ [])

  abbrev pub LooksAtServing : StepOf O A B → SeatOf O A B → ℕ → SeatOf O A B → Type 0
  LooksAtServing st m r n = (t : ℕ) → m.0.stage ≡ Waiting t → (r ≡ t → Turns m r n) × (r ≢ t → n ≡ m)

  -- The history goes on by this call of the pass, whose reply the object gives there. Of the pass it has just the calls that it made, of which this is the last
  pub record Goes (acts : O → A → B → O → Type 0) (v : View O A B) (op : A) (reply : B) (w : View O A B) : Type 0 where
    pub by : ℕ
    pub before : O
    pub after : O
    pub view_is : w ≡ view v.opening (v.seen ++ entry by op reply ∷ []) (v.mine ++ entry by op reply ∷ []) v.old v.drawn Resting
    pub own_calls : calls_by by w.seen ≡ w.mine
    pub few : length w.seen ≤ 2 ^ 62
    pub act : acts before op reply after
    pub leads : (opening : O) → v.opening ≡ Some opening → Leads acts opening v.seen before

  -- the call that the slot remembers is made
  abbrev pub Serves : (O → A → B → O → Type 0) → StepOf O A B → SeatOf O A B → ℕ → SeatOf O A B → Type 0
  Serves acts st m r n =
      (t : ℕ) (x object : O) (said : Said A B) → m.0.stage ≡ Serving t x → m.1 ≡ (0, Some (record { object = object; last = Some said })) ∷ []
      → (n.1 ≡ []) × Goes acts m.0 said.op.value said.reply.value n.0

  -- what a join has left is a beginning of what the pass has seen
  abbrev pub Settles : StepOf O A B → SeatOf O A B → ℕ → SeatOf O A B → Type 0
  Settles st m r n = (m.0.stage ≡ Resting → length m.0.old ≤ length m.0.seen → BeginsWith m.0.seen m.0.old) × (n ≡ (view m.0.opening m.0.seen m.0.mine [] m.0.drawn m.0.stage, m.1))
