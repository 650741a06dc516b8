use Rattle.std.proofs.Common.{◌+◌, length, arith, sym, subst, ◌∙◌, ap}
use Rattle.std.proofs.lemmas.List.{length-drop}
use Rattle.outside_io.specs.MemInput.{HasNoEmpty, after_taking, first_piece}
use Rattle.outside_io.proofs.PiecesLemmas.{pieces_at, whole_taken, part_taken, first_begun}
use Rattle.outside_io.proofs.pieces.Pieces.pass.Goals as goal

pub overflow_add-end : goal.overflow_add-end
overflow_add-end c =
    let at = c.self.inside in
    let piece = c.index.result.now in
    let is = pieces_at at.pieces.items at.read at.place piece (omega arith) c.index.ensures in
    let begun = first_begun _ at.place _ _ c.self.invariant is in
    let first = ap (λ v. length (first_piece v)) (sym c.self.view_is) ∙ ap (λ v. length (first_piece v)) is in
    omega (arith, begun, first, length-drop at.place piece.items, piece.ok.0)

pub invariant_of-self : goal.invariant_of-self
invariant_of-self c =
    let at = c.self.inside in
    let piece = c.index.result.now in
    let is = pieces_at at.pieces.items at.read at.place piece (omega arith) c.index.ensures in
    (whole_taken _ piece.items _ at.place c.args.count c.self.invariant is (omega (arith, piece.ok.0))).0

pub returns-then-end-len-clause-left : goal.returns-then-end-len-clause-left
returns-then-end-len-clause-left c =
    let at = c.self.inside in
    let piece = c.index.result.now in
    let is = pieces_at at.pieces.items at.read at.place piece (omega arith) c.index.ensures in
    (whole_taken _ piece.items _ at.place c.args.count c.self.invariant is (omega (arith, piece.ok.0))).1 ∙ ap (after_taking c.args.count) c.self.view_is

pub returns-then-end-len-clause-whole : goal.returns-then-end-len-clause-whole
returns-then-end-len-clause-whole c =
    let at = c.self.inside in
    let piece = c.index.result.now in
    let is = pieces_at at.pieces.items at.read at.place piece (omega arith) c.index.ensures in
    (whole_taken _ piece.items _ at.place c.args.count c.self.invariant is (omega (arith, piece.ok.0))).0

pub invariant_of-self-else-end-len : goal.invariant_of-self-else-end-len
invariant_of-self-else-end-len c =
    let at = c.self.inside in
    let piece = c.index.result.now in
    let is = pieces_at at.pieces.items at.read at.place piece (omega arith) c.index.ensures in
    let next = pieces_at at.pieces.items at.read (at.place + c.args.count) piece (omega arith) c.index.ensures in
    let begun = first_begun _ at.place _ _ c.self.invariant is in
    let first = ap (λ v. length (first_piece v)) (sym c.self.view_is) ∙ ap (λ v. length (first_piece v)) is in
    let part = part_taken _ piece.items _ at.place c.args.count c.self.invariant is (omega (arith, begun, first, length-drop at.place piece.items, piece.ok.0)) in
    subst HasNoEmpty (sym next) part.0

pub returns-else-end-len-clause-left : goal.returns-else-end-len-clause-left
returns-else-end-len-clause-left c =
    let at = c.self.inside in
    let piece = c.index.result.now in
    let is = pieces_at at.pieces.items at.read at.place piece (omega arith) c.index.ensures in
    let next = pieces_at at.pieces.items at.read (at.place + c.args.count) piece (omega arith) c.index.ensures in
    let begun = first_begun _ at.place _ _ c.self.invariant is in
    let first = ap (λ v. length (first_piece v)) (sym c.self.view_is) ∙ ap (λ v. length (first_piece v)) is in
    let part = part_taken _ piece.items _ at.place c.args.count c.self.invariant is (omega (arith, begun, first, length-drop at.place piece.items, piece.ok.0)) in
    next ∙ part.1 ∙ ap (after_taking c.args.count) c.self.view_is

pub returns-else-end-len-clause-whole : goal.returns-else-end-len-clause-whole
returns-else-end-len-clause-whole c =
    let at = c.self.inside in
    let piece = c.index.result.now in
    let is = pieces_at at.pieces.items at.read at.place piece (omega arith) c.index.ensures in
    let next = pieces_at at.pieces.items at.read (at.place + c.args.count) piece (omega arith) c.index.ensures in
    let begun = first_begun _ at.place _ _ c.self.invariant is in
    let first = ap (λ v. length (first_piece v)) (sym c.self.view_is) ∙ ap (λ v. length (first_piece v)) is in
    let part = part_taken _ piece.items _ at.place c.args.count c.self.invariant is (omega (arith, begun, first, length-drop at.place piece.items, piece.ok.0)) in
    subst HasNoEmpty (sym next) part.0
