use Rattle.std.proofs.Common.{rules}
use Rattle.history_cell.proofs.Turn.{serving_after, called_after, legal_after}
use Rattle.history_cell.proofs.cell.HistoryCell.call.Goals as goal

pub serve-requires : goal.serve-requires
serve-requires g c = record { seat = (search rules, serving_after c.args.pass.now.seat.me c.draw.new.seat.me c.wait_for.new.seat.me c.in_ok-ticket.ticket c.in_ok-ticket.ensures.drawn c.wait_for.ensures.turn) }

pub returns-clause-called : goal.returns-clause-called
returns-clause-called g c =
    called_after g.O.Object.acts c.args.self.now.table.shared.key.value c.args.pass.now.seat.me c.draw.new.seat.me c.wait_for.new.seat.me c.serve.new.seat.me c.in_ok-ticket.ticket c.args.op c.serve.result
    c.in_ok-ticket.ensures.drawn c.wait_for.ensures.turn c.serve.ensures.goes c.requires.pass.1

pub returns-clause-legal : goal.returns-clause-legal
returns-clause-legal g c =
    legal_after g.O.Object.acts c.args.self.now.table.shared.key.value c.args.pass.now.seat.me.0.seen c.args.pass.now.seat.me.0.mine c.serve.new.seat.me.0.seen c.serve.new.seat.me.0.mine c.args.op c.serve.result
    (called_after g.O.Object.acts c.args.self.now.table.shared.key.value c.args.pass.now.seat.me c.draw.new.seat.me c.wait_for.new.seat.me c.serve.new.seat.me c.in_ok-ticket.ticket c.args.op c.serve.result
    c.in_ok-ticket.ensures.drawn c.wait_for.ensures.turn c.serve.ensures.goes c.requires.pass.1)
