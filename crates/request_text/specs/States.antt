-- The reader of a whole line.
use Rattle.std.specs.Prelude.{◌≡◌, ◌⊎◌, ◌↔◌, ℕ, ◌≤◌, ◌-◌, ◌^◌, Bool, false, List, [], ◌∷◌, ◌++◌, is_some, decimal, Option, Some, None, Result, Ok, Err}
use Rattle.line_words.specs.Lines.{HasWords, Item}
use Rattle.command_words.specs.GivenName.{IsGivenName}
use Rattle.request_text.specs.Grammar.{IsBadLine, SpellsLine}
use Rattle.request_text.specs.Places.{Ends, Goes}
use Rattle.request_text.specs.declared.asked.Asked.{Asked}
use Rattle.request_text.specs.declared.line_error.LineError.{LineError}
use Rattle.request_text.specs.declared.line_error.LineError.TheVariants.{Bad, Memory}
use Rattle.request_text.specs.declared.place.Place.{Place}
use Rattle.request_text.specs.declared.place.Place.TheVariants as at
use Rattle.request_text.specs.declared.request.Request.{Request}
use Rattle.request_text.specs.declared.request.Request.TheVariants as requests
use Rattle.request_text.specs.declared.state.State.{State}
use Rattle.request_text.specs.declared.state.State.TheVariants.{Start, Named, Behind}

-- the word names a client, and the reader goes on here
pub record NamesClient (word : List ℕ) (state : State) : Type 0 where
  pub name : List ℕ
  pub is : IsGivenName name
  pub spelt : word ≡ 64 ∷ name
  pub leads : state ≡ Named name

-- the word is the number of the client's line
pub record NumbersLine (name word : List ℕ) (state : State) : Type 0 where
  pub number : ℕ
  pub least : 1 ≤ number
  pub most : number ≤ 2 ^ 64 - 1
  pub spelt : word ≡ decimal number
  pub leads : state ≡ Behind (Some (record { name = name; number = number })) at.Begin

-- the word goes on with the request
pub record GoesOn (numbered : Bool) (place : Place) (word : List ℕ) (to : Place → State) (state : State) : Type 0 where
  pub next : Place
  pub goes : Goes numbered place word next
  pub leads : state ≡ to next

-- behind what was read of a line, with this word, the reader goes on here
abbrev pub LineGoes : State → List ℕ → State → Type 0
LineGoes Start word = λ state. NamesClient word state ⊎ GoesOn false at.Begin word (Behind None) state
LineGoes (Named name) word = NumbersLine name word
LineGoes (Behind client place) word = GoesOn (is_some client) place word (Behind client)

-- what a step of the reader finds
abbrev pub LineSteps : (State → Type 0) → Option State → Type 0
LineSteps Goes found = (state : State) → (found ≡ Some state) ↔ Goes state

-- these words lead from one state to the other
abbrev pub Along : State → List (List ℕ) → State → Type 0
Along from [] to = from ≡ to
Along from (word ∷ words) to = (next : State) × LineGoes from word next × Along next words to

-- a whole line was read
abbrev pub LineEnds : State → Asked → Type 0
LineEnds (Behind client place) asked = (asked.client ≡ client) × Ends place asked.request
LineEnds state asked = ⊥

-- The items that are left behind those that were read up to here. No other state is reached by their words.
pub record IsRead (items : List Item) (state : State) (left : List Item) : Type 0 where
  pub front : List Item
  pub words : List (List ℕ)
  pub all : items ≡ front ++ left
  pub read : HasWords front words
  pub along : Along Start words state
  pub alone : (other : State) → Along Start words other → other ≡ state

-- the request of a place at which a line may end
abbrev pub whole_of : Place → Option Request
whole_of (at.Done request) = Some request
whole_of at.SyncList = Some (requests.SyncList None)
whole_of place = None

-- what is answered where a line ends
abbrev pub Finishes : State → ℕ → Result Asked LineError → Type 0
Finishes state end (Ok asked) = LineEnds state asked
Finishes state end (Err (Bad bad)) = (bad.place ≡ end) × ((asked : Asked) → LineEnds state asked → ⊥)
Finishes state end (Err Memory) = ⊥

-- What is answered of the items of a line, which ends at `end`: the one request that they spell, or where they go wrong.
abbrev pub Answers : List Item → ℕ → Result Asked LineError → Type 0
Answers items end (Ok asked) = (words : List (List ℕ)) × HasWords items words × SpellsLine asked words × ((other : Asked) → SpellsLine other words → other ≡ asked)
Answers items end (Err (Bad bad)) = IsBadLine items end bad.place
Answers items end (Err Memory) = Unit {0}
