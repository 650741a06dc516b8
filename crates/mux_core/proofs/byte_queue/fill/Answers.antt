use Rattle.std.proofs.Common.{◌≡◌, ℕ, ◌-◌, ◌++◌, List, length, take, min, ap, ◌∙◌, arith}
use Rattle.mux_core.proofs.Pieces.{fill_more}
use Rattle.mux_core.proofs.byte_queue.fill.Goals as goal

pub loop-piece-preserved : goal.loop-piece-preserved
loop-piece-preserved c =
    let bytes = c.loop-piece.bytes.items in
    let piece = c.piece-item.result in
    let taken : c.min-taken.result ≡ min (c.args.count - length bytes) (length piece) = omega arith in
    let new : c.extend_from_slice.new.self.items ≡ bytes ++ take (min (c.args.count - length bytes) (length piece)) piece =
    c.in_ok-extend_from_slice.ensures.items ∙ ap (λ (n : ℕ). bytes ++ take n c.as_slice.result.now) taken ∙ ap (λ (xs : List ℕ). bytes ++ take (min (c.args.count - length bytes) (length piece)) xs) c.as_slice.ensures in
    fill_more c.args.count c.loop-piece.piece-index c.args.pieces.now bytes piece c.extend_from_slice.new.self.items _ c.piece-item.is (omega arith) c.loop-piece.invariant.0 new c.loop-piece.invariant.1
