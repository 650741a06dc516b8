use Rattle.std.proofs.Common.{rules, sym, ap, ◌∙◌, subst, Some, ◌∷◌}
use Rattle.atomic_table.specs.Table.{rest}
use Rattle.history_cell.specs.declared.view.View.{View}
use Rattle.history_cell.specs.Steps.{SeatOf, Goes}
use Rattle.history_cell.proofs.Keeps.{serves}
use Rattle.history_cell.proofs.Turn.{slot_after, slot_found}
use Rattle.history_cell.proofs.cell.HistoryCell.serve.Goals as goal

pub exchange-requires : goal.exchange-requires
exchange-requires g c =
    let h = c.requires.seat.1 in
    (search rules, (Some h.1, h.3 ∙ ap (λ l. (0, Some h.1) ∷ rest l) (sym h.3)))

pub fetch_add-requires : goal.fetch_add-requires
fetch_add-requires g c =
    let h = c.requires.seat.1 in
    let slot = slot_after c.args.seat.now.me c.exchange.new.seat.me c.exchange-2.new.seat.me h.1 _ h.3 c.exchange.ensures.3 c.exchange-2.ensures.3 in
    let found = slot_found c.args.seat.now.me h.1 c.unwrap-object.result c.exchange.result h.3 c.exchange.ensures.2 c.unwrap-object.ensures in
    let act = subst (λ (z : g.row.O.Denot × g.row.O-Op.Denot × g.row.O-Reply.Denot). g.O.Object.acts z.0 z.1 z.2 c.act-reply.new.self)
    (λ i. ((found i).object, sym c.of-asked.ensures i, sym c.of.ensures i)) c.act-reply.ensures in
    (search rules, search rules, serves _ _ _ _ _ c.args.seat.now.me.0 h.0 h.1.object _ _ slot h.2 act)

pub returns-clause-goes : goal.returns-clause-goes
returns-clause-goes g c =
    let h = c.requires.seat.1 in
    let slot = slot_after c.args.seat.now.me c.exchange.new.seat.me c.exchange-2.new.seat.me h.1 _ h.3 c.exchange.ensures.3 c.exchange-2.ensures.3 in
    let told = c.fetch_add.ensures.2 h.0 h.1.object _ _ (ap (λ (m : SeatOf g.row.O.Denot g.row.O-Op.Denot g.row.O-Reply.Denot). m.0.stage) slot ∙ h.2) (ap (λ (m : SeatOf g.row.O.Denot g.row.O-Op.Denot g.row.O-Reply.Denot). m.1) slot) in
    subst (λ (z : View g.row.O.Denot g.row.O-Op.Denot g.row.O-Reply.Denot × g.row.O-Op.Denot × g.row.O-Reply.Denot). Goes g.O.Object.acts z.0 z.1 z.2 c.fetch_add.new.seat.me.0)
    (λ i. ((slot i).0, c.of-asked.ensures i, c.of.ensures i)) told.1

pub returns-clause-seat : goal.returns-clause-seat
returns-clause-seat g c =
    let h = c.requires.seat.1 in
    let slot = slot_after c.args.seat.now.me c.exchange.new.seat.me c.exchange-2.new.seat.me h.1 _ h.3 c.exchange.ensures.3 c.exchange-2.ensures.3 in
    let told = c.fetch_add.ensures.2 h.0 h.1.object _ _ (ap (λ (m : SeatOf g.row.O.Denot g.row.O-Op.Denot g.row.O-Reply.Denot). m.0.stage) slot ∙ h.2) (ap (λ (m : SeatOf g.row.O.Denot g.row.O-Op.Denot g.row.O-Reply.Denot). m.1) slot) in
    (search rules, search rules, told.0)
