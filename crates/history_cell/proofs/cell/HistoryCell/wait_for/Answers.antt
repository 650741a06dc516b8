use Rattle.std.proofs.Common.{◌≡◌, ℕ, rules, ap, ◌∙◌, subst}
use Rattle.history_cell.specs.Steps.{SeatOf, Turns}
use Rattle.history_cell.specs.declared.view.Stage.TheVariants.{Waiting}
use Rattle.history_cell.proofs.Keeps.{looks_at_serving}
use Rattle.history_cell.proofs.cell.HistoryCell.wait_for.Goals as goal

pub load-requires : goal.load-requires
load-requires g c = (search rules, search rules, looks_at_serving _ _ _ _ _ c.args.ticket (search rules))

pub returns-then-load-ticket-clause-turn : goal.returns-then-load-ticket-clause-turn
returns-then-load-ticket-clause-turn g c =
    let same = c.loop.invariant.2 in
    let waits : c.loop.seat.me.0.stage ≡ Waiting c.args.ticket = ap (λ (m : SeatOf g.row.O.Denot g.row.O-Op.Denot g.row.O-Reply.Denot). m.0.stage) same ∙ c.requires.seat.2 in
    let hit : c.load.result ≡ c.args.ticket = search rules in
    subst (λ (z : SeatOf g.row.O.Denot g.row.O-Op.Denot g.row.O-Reply.Denot × ℕ). Turns z.0 z.1 c.load.new.seat.me) (λ i. (same i, hit i)) ((c.load.ensures.2 c.args.ticket waits).0 hit)
