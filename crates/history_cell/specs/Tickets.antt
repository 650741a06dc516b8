-- The rule of a cell. Word 0 counts the tickets drawn, word 1 those served, and the slot holds the object.
use Rattle.std.specs.Prelude.{◌≡◌, ℕ, ◌==◌, ◌+◌, ◌^◌, ◌<◌, ◌≤◌, ◌⊎◌, Bool, true, false, Option, None, Some, if◌then◌else◌, nat_lt, List, [], ◌∷◌, length}
use Rattle.std.specs.List.{count_by}
use mathlib.Core.Option as home
use lib.ListN.{get_elem?}
use Rattle.atomic_table.specs.Table.{State}
use Rattle.history_cell.specs.declared.entry.Entry.{Entry}
use Rattle.history_cell.specs.declared.kept.Kept.{Kept}
use Rattle.history_cell.specs.declared.view.Stage.{Stage}
use Rattle.history_cell.specs.declared.view.Stage.TheVariants.{Resting, Waiting, Serving, Joined}
use Rattle.history_cell.specs.declared.view.View.{View}
use Rattle.finite_maps.specs.Lists.{BeginsWith}
use Rattle.history_cell.specs.History.{Leads, calls_by, longer, shorter}

-- the pass holds this ticket, and hasn't spent it
abbrev pub holds : {O : Type 0} → ℕ → Stage O → Bool
holds t Resting = false
holds t (Waiting n) = n == t
holds t (Serving n object) = n == t
holds t Joined = false

-- the pass holds a ticket that it hasn't spent
abbrev pub is_due : {O : Type 0} → Stage O → Bool
is_due Resting = false
is_due (Waiting n) = true
is_due (Serving n object) = true
is_due Joined = false

module _ {O A B : Type 0} where
  abbrev pub view : Option O → List (Entry A B) → List (Entry A B) → List (Entry A B) → ℕ → Stage O → View O A B
  view opening seen mine old drawn stage = record { opening = opening; seen = seen; mine = mine; old = old; drawn = drawn; stage = stage }

  -- the first pass of a cell has seen the object that the cell was made with, and no call
  abbrev pub newcomer : O → View O A B
  newcomer opening = view (Some opening) [] [] [] 0 Resting

  -- a pass that is split off has seen as much, and has made no call
  abbrev pub split_off : View O A B → View O A B
  split_off v = view v.opening v.seen [] [] v.drawn Resting

  -- a join sees the longer of both lists, and remembers the shorter until it has looked again
  abbrev pub joined : View O A B → View O A B → View O A B
  joined v w = view v.opening (longer v.seen w.seen) v.mine (shorter v.seen w.seen) (if nat_lt v.drawn w.drawn then w.drawn else v.drawn) v.stage

  abbrev pub gone : View O A B
  gone = view None [] [] [] 0 Joined

  -- how many passes hold this ticket
  abbrev pub holders : ℕ → List (View O A B) → ℕ
  holders t views = count_by (λ v. holds t v.stage) views

  -- how many passes hold an unspent ticket
  abbrev pub unspent : List (View O A B) → ℕ
  unspent views = count_by (λ v. is_due v.stage) views

  -- what a pass with this number knows is true: the history begins with what it has seen, and has of its calls just those that it made
  pub record Knows (opening : O) (log : List (Entry A B)) (tickets by : ℕ) (v : View O A B) : Type 0 where
    pub opening_is : v.opening ≡ Some opening
    pub has_seen : BeginsWith log v.seen
    pub has_old : BeginsWith log v.old
    pub own : calls_by by log ≡ v.mine
    pub drawn : v.drawn ≤ tickets

  -- a pass whose ticket is served has seen the whole history, and has the object after it
  abbrev pub Suits : O → List (Entry A B) → O → ℕ → ℕ → View O A B → Stage O → Type 0
  Suits opening log object tickets by v Resting = Knows opening log tickets by v
  Suits opening log object tickets by v (Waiting t) = Knows opening log tickets by v
  Suits opening log object tickets by v (Serving t x) = Knows opening log tickets by v × (v.seen ≡ log) × (x ≡ object) × (t ≡ length log)
  Suits opening log object tickets by v Joined = Unit {0}

  -- the object lies in the slot
  abbrev pub IsHome : O → List (home.Option (Option (Kept O A B))) → Type 0
  IsHome object homes = (kept : Kept O A B) × (homes ≡ home.some (Some kept) ∷ []) × (kept.object ≡ object)

  -- a pass whose ticket is served has the slot
  abbrev pub IsOut : List (home.Option (Option (Kept O A B))) → List (View O A B) → Type 0
  IsOut homes views = (homes ≡ home.none ∷ []) × ((by : ℕ) × (v : View O A B) × (get_elem? views by ≡ home.some v) × ((t : ℕ) × (x : O) × (v.stage ≡ Serving t x)))

  -- The rule. There is one legal history, and the tickets served are as many as its calls.
  -- The tickets served, with those that passes hold unspent, are the tickets drawn; each ticket between the two words has one holder, and no other has one
  pub record IsKept (acts : O → A → B → O → Type 0) (opening : O) (s : State (Option (Kept O A B)) (View O A B)) : Type 0 where
    pub log : List (Entry A B)
    pub object : O
    pub tickets : ℕ
    pub words : s.words ≡ tickets ∷ length log ∷ []
    pub few : tickets ≤ 2 ^ 62
    pub legal : Leads acts opening log object
    pub counted : length log + unspent s.views ≡ tickets
    pub due : (t : ℕ) → length log ≤ t → t < tickets → holders t s.views ≡ 1
    pub served : (t : ℕ) → t < length log → holders t s.views ≡ 0
    pub undrawn : (t : ℕ) → tickets ≤ t → holders t s.views ≡ 0
    pub each : (by : ℕ) (v : View O A B) → get_elem? s.views by ≡ home.some v → Suits opening log object tickets by v v.stage
    pub others : (by : ℕ) → length s.views ≤ by → calls_by by log ≡ []
    pub slot : IsHome object s.homes ⊎ IsOut s.homes s.views
