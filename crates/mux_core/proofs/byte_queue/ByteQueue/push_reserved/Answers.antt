use Rattle.std.proofs.Common.{rules, ap, ◌∙◌, ◌<◌, ◌++◌, length, length-append}
use Rattle.std.proofs.lemmas.List.Elements.{All-push, All-same}
use Rattle.std.specs.List.{concat}
use Rattle.mux_core.proofs.Pieces.{concat_more}
use Rattle.mux_core.proofs.byte_queue.ByteQueue.push_reserved.Goals as goal

pub invariant_of-self : goal.invariant_of-self
invariant_of-self c =
    let old = c.self.inside.pieces.items in
    let sizes = ap (λ l. length (concat l)) c.push_back_reserved.ensures.items ∙ ap length (concat_more old c.args.piece) ∙ length-append (concat old) c.args.piece in
    (search rules, All-same (λ x. 0 < length x) _ _ c.push_back_reserved.ensures.items (All-push (λ x. 0 < length x) old c.args.piece c.self.invariant.1 (search rules)))

pub returns-then-not-is_empty : goal.returns-then-not-is_empty
returns-then-not-is_empty c =
    ap concat c.push_back_reserved.ensures.items ∙ concat_more c.self.inside.pieces.items c.args.piece ∙ ap (λ q. q.bytes ++ c.args.piece) c.self.view_is
