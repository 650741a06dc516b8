use Rattle.std.proofs.Common.{sym, arith}
use Rattle.std.proofs.lemmas.List.{take_all, length-take-le}
use Rattle.roots_api.specs.declared.limits.TheConstants.{MAX_PIECE}
use Rattle.mem_roots.proofs.pieces.front.Goals as goal

pub slice_bounds-result-end : goal.slice_bounds-result-end
slice_bounds-result-end c = sym (length-take-le MAX_PIECE c.args.content.now (omega arith))

pub returns-then-content-le-MAX_PIECE : goal.returns-then-content-le-MAX_PIECE
returns-then-content-le-MAX_PIECE c = sym (take_all MAX_PIECE c.args.content.now (omega arith))
