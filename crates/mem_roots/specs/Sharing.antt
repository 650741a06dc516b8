-- A root in memory as an object that threads share.
use Rattle.std.specs.Prelude.{◌≡◌, List, Ok}
use Rattle.finite_maps.specs.Lists.{BeginsWith}
use Rattle.history_cell.specs.History as history
use Rattle.history_cell.specs.declared.entry.Entry.{Entry}
use Rattle.roots_api.specs.Asked.{IsAsked, IsMade}
use Rattle.roots_api.specs.Logs.{IsLegal}
use Rattle.roots_api.specs.declared.event.Event.{Event}
use Rattle.roots_api.specs.declared.who.Who.TheVariants.{Session}
use Rattle.mem_roots.specs.MemRoot.{MemState, Leads, Decides}
use Rattle.mem_roots.specs.declared.root_ask.RootAsk.{RootAsk}
use Rattle.mem_roots.specs.declared.root_ask.RootAsk.TheVariants.{Call, Change}
use Rattle.mem_roots.specs.declared.root_ask.RootTold.{RootTold}
use Rattle.mem_roots.specs.declared.root_ask.RootTold.TheVariants.{Answered, Changed, NoMemory}

-- From the root before, at what it is asked, it may answer so and be the root after. What is asked is an operation that can
-- be asked, or a change that can be made. Want of memory leaves the root as it was, and is never told as a refusal.
abbrev pub Acts : MemState → RootAsk → RootTold → MemState → Type 0
Acts old (Call id run cycle op) (Answered answer) new = IsAsked op × Leads old (Session id run cycle) op (Ok answer) new
Acts old (Change edit) (Changed result) new = IsMade edit × Decides old edit result new
Acts old ask NoMemory new = new ≡ old
Acts old ask told new = ⊥

-- a log that only grew, at its end, and is legal if it was
pub record LogGrew (old new : List Event) : Type 0 where
  pub grew : BeginsWith new old
  pub legal : IsLegal old → IsLegal new

-- whatever a shared root is asked, its log only grows, and stays legal
abbrev pub HistoriesAreLegal : Type 0
HistoriesAreLegal =
    (opening after : MemState) (calls : List (Entry RootAsk RootTold)) → history.Leads Acts opening calls after → LogGrew opening.log after.log
