-- What a pair of roots in memory tells.
use Rattle.std.specs.Prelude.{ℕ, List, Option, Some, Result}
use Rattle.std.specs.declared.alloc.AllocError.{AllocError}
use Rattle.entry_tree.specs.declared.side.Side.{Side}
use Rattle.entry_tree.specs.declared.side.Side.TheVariants.{Alpha, Beta}
use Rattle.roots_api.specs.Linked.{SideTold}
use Rattle.roots_api.specs.Logs.{failed_in, state_of}
use Rattle.roots_api.specs.declared.answer.Answer.{Answer}
use Rattle.roots_api.specs.declared.op.Op.{Op}
use Rattle.roots_api.specs.declared.who.Who.TheVariants.{Session}
use Rattle.mem_roots.specs.MemRoot.{MemState, Leads}
use Rattle.link_tests.specs.declared.pair.Pair.{Pair}

-- the root of a side
abbrev pub root_of : Pair → Side → MemState
root_of p Alpha = p.alpha
root_of p Beta = p.beta

-- all events of a root's log are the pair's own
abbrev pub tell : MemState → SideTold
tell m = record { events = m.log; ledger = (state_of m.log).ledger }

abbrev pub told_of : Pair → Side → Option SideTold
told_of p side = Some (tell (root_of p side))

abbrev pub faults_of : Pair → Side → ℕ
faults_of p side = failed_in (root_of p side).log

abbrev pub fulls_of : Pair → Side → ℕ
fulls_of p side = (root_of p side).full_answers

abbrev pub PairLeads : Pair → Side → ℕ → Op → Result (Answer (List ℕ)) AllocError → Pair → Type 0
PairLeads old side cycle op result new = Leads (root_of old side) (Session old.id old.run cycle) op result (root_of new side)
