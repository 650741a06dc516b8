use Rattle.std.proofs.Common.{length, drop, arith, sym, ◌∙◌, ap}
use Rattle.outside_io.specs.MemInput.{first_piece}
use Rattle.outside_io.proofs.PiecesLemmas.{pieces_at, first_begun}
use Rattle.outside_io.proofs.pieces.Pieces.first.Goals as goal

pub split_at-requires : goal.split_at-requires
split_at-requires c =
    let at = c.self.inside in
    let is = pieces_at at.pieces.items at.read at.place c.index.result.now (omega arith) c.index.ensures in
    let begun = first_begun _ at.place _ _ c.self.invariant is in
    omega (arith, begun, ap length c.deref.ensures.value)

pub returns-clause-first : goal.returns-clause-first
returns-clause-first c =
    let at = c.self.inside in
    let is = pieces_at at.pieces.items at.read at.place c.index.result.now (omega arith) c.index.ensures in
    c.split_at.ensures.back ∙ ap (drop at.place) c.deref.ensures.value ∙ sym (ap first_piece is) ∙ ap first_piece c.self.view_is
