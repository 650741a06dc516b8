use Rattle.std.proofs.Common.{ℕ, List, ◌++◌, take, ap, ◌∙◌, sym}
use Rattle.std.specs.List.{concat}
use Rattle.mux_core.specs.Queues.{Queue}
use Rattle.mux_core.proofs.Pieces.{take_again, concat_both}
use Rattle.mux_core.proofs.byte_queue.ByteQueue.front.Goals as goal

pub returns-2 : goal.returns-2
returns-2 c =
    let n = c.args.count in
    let front = c.as_slices.result.0.now in
    let back = c.as_slices.result.1.now in
    c.in_ok-from_vec.ensures.ok
    ∙ c.in_ok-fill-2.ensures.filled
    ∙ ap (λ (xs : List ℕ). take n (xs ++ concat back)) (c.in_ok-fill.ensures.filled ∙ ap (λ (xs : List ℕ). take n (xs ++ concat front)) c.in_ok-bytes.ensures.items)
    ∙ take_again (concat front) (concat back) n
    ∙ ap (take n) (sym (concat_both front back) ∙ ap concat c.as_slices.ensures.items ∙ ap (λ (q : Queue). q.bytes) c.self.view_is)
