-- What contracts say of a cell and its passes.
use Rattle.std.specs.Prelude.{◌≡◌, ℕ, ◌+◌, ◌<◌, Option, Some, List, [], ◌∷◌, ◌++◌}
use Rattle.atomic_table.specs.Table.{State}
use Rattle.history_cell.specs.declared.entry.Entry.{Entry}
use Rattle.history_cell.specs.declared.object.Object.{Ghosts}
use Rattle.history_cell.specs.declared.kept.Kept.{Kept}
use Rattle.history_cell.specs.declared.pass.Pass.{Pass}
use Rattle.history_cell.specs.declared.cell.HistoryCell.{HistoryCell}
use Rattle.history_cell.specs.declared.view.View.{View}
use Rattle.history_cell.specs.History.{Leads, entry, calls_by}
use Rattle.history_cell.specs.Tickets.{IsKept, unspent}

-- A call that a pass made, which had seen some calls and made some of them, and has seen seen' and made own' now.
-- The history begins with all that the pass had seen, and ends with this call. Of the pass it has just the calls that it made, each once and in its order
pub record Called {O A B : Type 0} (acts : O → A → B → O → Type 0) (opening : O) (seen own : List (Entry A B)) (op : A) (reply : B) (seen' own' : List (Entry A B)) : Type 0 where
  -- the number of the pass
  pub by : ℕ
  -- what others called meanwhile
  pub between : List (Entry A B)
  -- the object before the call, and after it
  pub before : O
  pub after : O
  pub seen_now : seen' ≡ (seen ++ between) ++ entry by op reply ∷ []
  pub own_now : own' ≡ own ++ entry by op reply ∷ []
  pub own_calls : calls_by by seen' ≡ own'
  pub leads : Leads acts opening (seen ++ between) before
  pub act : acts before op reply after

-- The object is the one after a legal history, which begins with what a pass has seen. Of the pass it has just the calls that it made
pub record EndsAt {O A B : Type 0} (acts : O → A → B → O → Type 0) (opening : O) (seen own : List (Entry A B)) (object : O) : Type 0 where
  pub by : ℕ
  pub rest : List (Entry A B)
  pub own_calls : calls_by by (seen ++ rest) ≡ own
  pub leads : Leads acts opening (seen ++ rest) object

-- These are the words of a cell in which a pass holds a ticket that it hasn't spent
pub record HasLost {O A B : Type 0} (acts : O → A → B → O → Type 0) (opening : O) (tickets serving : ℕ) : Type 0 where
  pub last : State (Option (Kept O A B)) (View O A B)
  pub kept : IsKept acts opening last
  pub words : last.words ≡ tickets ∷ serving ∷ []
  pub holders : tickets ≡ serving + unspent last.views
  pub some_one : 0 < unspent last.views

-- the object that the cell was made with, from which its history begins
abbrev pub opening : {O A B : Type 0} → HistoryCell O A B → O
opening cell = cell.table.shared.key.value

module _ {O A B : Type 0} {g : Ghosts O A B} where
  -- the calls that the pass has seen, from the first on
  abbrev pub seen : Pass O A B g → List (Entry A B)
  seen pass = pass.seat.me.0.seen

  -- the calls that the pass has made
  abbrev pub own : Pass O A B g → List (Entry A B)
  own pass = pass.seat.me.0.mine

  -- at least so many tickets were drawn, as the pass knows
  abbrev pub drawn : Pass O A B g → ℕ
  drawn pass = pass.seat.me.0.drawn

  -- the pass is one of this cell
  abbrev pub BelongsTo : HistoryCell O A B → Pass O A B g → Type 0
  BelongsTo cell pass = (pass.seat.table_id ≡ cell.table.shared.table_id) × (pass.seat.me.0.opening ≡ Some (opening cell))
