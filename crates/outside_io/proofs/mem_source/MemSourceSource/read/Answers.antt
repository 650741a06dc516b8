use Rattle.std.proofs.Common.{◌++◌, take, ap, sym, ◌∙◌, arith}
use Rattle.std.specs.List.{concat}
use Rattle.outside_io.specs.MemInput.{first_piece, after_taking}
use Rattle.outside_io.proofs.PiecesLemmas.{taken_and_left, none_left, copied_front}
use Rattle.outside_io.proofs.mem_source.MemSourceSource.read.Goals as goal

pub returns-clause-bytes : goal.returns-clause-bytes
returns-clause-bytes c =
    let old = c.self.inside.pieces in
    let n = c.take.result in
    let into = c.take.new.into in
    let front = ap (take n) c.take.ensures.copied ∙ copied_front (first_piece old) _ n (omega (arith, c.take.ensures.count)) in (
      ap (λ s. concat s.pieces) (sym c.self.view_is) ∙ taken_and_left old n (omega (arith, c.take.ensures.count)) ∙ ap (λ xs. xs ++ concat (after_taking n old)) (sym front) ∙ ap (λ ps. take n into ++ concat ps) (sym c.take.ensures.left),
      λ none some. ap concat c.take.ensures.left ∙ none_left old _ n c.take.ensures.whole.0 c.take.ensures.count none (omega (arith, some, c.take.auto.into)),
    )
