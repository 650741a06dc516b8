use Rattle.std.proofs.Common.{◌≡◌, ◌≢◌, Some, rules, refl, sym, ap, ◌∙◌, subst}
use Rattle.std.specs.Option.{IsSome}
use mathlib.Core.Option as home
use Rattle.history_cell.specs.Passes.{EndsAt}
use Rattle.history_cell.proofs.Keeps.{ends}
use Rattle.history_cell.proofs.Turn.{found_once}
use Rattle.history_cell.proofs.cell.HistoryCell.close.Goals as goal

pub unwrap-object-requires : goal.unwrap-object-requires
unwrap-object-requires g c =
    let seat = c.args.pass.seat in
    let end = ends g.O.Object.acts c.args.self.table.shared.key.value seat.id seat.me.0 _ _ c.word-tickets.result c.word-serving.result c.args.pass.resting c.close_with-closed.ensures.values.2 c.word-tickets.ensures c.word-serving.ensures in
    let equal : c.word-tickets.result ≡ c.word-serving.result = search rules in
    let found = end.0 equal in
    subst IsSome (home.some-injective (Some found.0) c.take-slot.result (sym found.1 ∙ c.take-slot.ensures.value)) refl

pub returns-clause-ok : goal.returns-clause-ok
returns-clause-ok g c =
    let seat = c.args.pass.seat in
    let end = ends g.O.Object.acts c.args.self.table.shared.key.value seat.id seat.me.0 _ _ c.word-tickets.result c.word-serving.result c.args.pass.resting c.close_with-closed.ensures.values.2 c.word-tickets.ensures c.word-serving.ensures in
    let equal : c.word-tickets.result ≡ c.word-serving.result = search rules in
    let found = end.0 equal in
    let lay = home.some-injective c.take-slot.result (Some found.0) (sym c.take-slot.ensures.value ∙ found.1) in
    let same = found_once c.take-slot.result found.0 c.unwrap-object.result lay c.unwrap-object.ensures in
    subst (λ (x : g.row.O.Denot). EndsAt g.O.Object.acts c.args.self.table.shared.key.value seat.me.0.seen seat.me.0.mine x) (ap (λ kept. kept.object) same) found.2

pub returns-then-tickets-serving-clause-turn_out : goal.returns-then-tickets-serving-clause-turn_out
returns-then-tickets-serving-clause-turn_out g c =
    let seat = c.args.pass.seat in
    let end = ends g.O.Object.acts c.args.self.table.shared.key.value seat.id seat.me.0 _ _ c.word-tickets.result c.word-serving.result c.args.pass.resting c.close_with-closed.ensures.values.2 c.word-tickets.ensures c.word-serving.ensures in
    let differ : c.word-tickets.result ≢ c.word-serving.result = search rules in
    let told = end.1 differ in (told.0, told.1, told.2, told.3)

pub returns-then-tickets-serving-clause-lost : goal.returns-then-tickets-serving-clause-lost
returns-then-tickets-serving-clause-lost g c =
    let seat = c.args.pass.seat in
    let end = ends g.O.Object.acts c.args.self.table.shared.key.value seat.id seat.me.0 _ _ c.word-tickets.result c.word-serving.result c.args.pass.resting c.close_with-closed.ensures.values.2 c.word-tickets.ensures c.word-serving.ensures in
    let differ : c.word-tickets.result ≢ c.word-serving.result = search rules in
    (end.1 differ).4
