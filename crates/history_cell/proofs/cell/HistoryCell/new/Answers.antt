use Rattle.std.proofs.Common.{◌≡◌, List, [], ◌∷◌, ◌++◌, Option, None, Some, sym, ap, ◌∙◌, subst}
use Rattle.atomic_table.specs.Table.{opening}
use Rattle.history_cell.specs.declared.kept.Kept.{Kept}
use Rattle.history_cell.specs.Tickets.{IsKept, newcomer}
use Rattle.history_cell.proofs.Keeps.{starts}
use Rattle.history_cell.proofs.cell.HistoryCell.new.Goals as goal

pub new-requires : goal.new-requires
new-requires g c =
    let Slot = Option (Kept g.row.O.Denot g.row.O-Op.Denot g.row.O-Reply.Denot) in
    let kept : Kept g.row.O.Denot g.row.O-Op.Denot g.row.O-Reply.Denot = record { object = c.args.object; last = None } in
    let are : c.push_reserved.new.self.items ≡ Some kept ∷ [] = c.push_reserved.ensures.items ∙ ap (λ (l : List Slot). l ++ Some kept ∷ []) c.in_ok-slots.ensures.items in
    subst (λ (l : List Slot). IsKept g.O.Object.acts c.of-opening.result.value (opening (0 ∷ 0 ∷ []) l (newcomer c.of-opening.result.value))) (sym are)
    (starts g.O.Object.acts c.of-opening.result.value c.args.object (sym c.of-opening.ensures))
