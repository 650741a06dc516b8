use Rattle.std.proofs.Common.{ℕ, ◌<◌, List, ◌++◌, length, take, drop, min, ap, ◌∙◌, arith}
use Rattle.mux_frames.specs.declared.wire.TheConstants.{MAX_PAYLOAD}
use Rattle.mux_frames.specs.declared.frame.MuxFrame.TheVariants.{Payload}
use Rattle.mux_frames.specs.Frames.{spelling}
use Rattle.mux_frames.specs.Streams.{stream_of}
use Rattle.mux_core.specs.Calls.{data_frames}
use Rattle.mux_core.proofs.DataFrames.{sent_more}
use Rattle.mux_core.proofs.data_frames.written_data.Goals as goal

pub loop-rest-preserved : goal.loop-rest-preserved
loop-rest-preserved c =
    let stream = c.args.stream in
    let rest = c.loop-rest.rest.now in
    let n : ℕ = min (length rest) MAX_PAYLOAD in
    let some : 0 < length rest = omega arith in
    ap (λ (xs : List ℕ). xs ++ stream_of (data_frames stream c.split_at.result.1.now)) (c.in_ok-append_data.ensures.spelled ∙ ap (λ (xs : List ℕ). c.loop-rest.sent.items ++ spelling (Payload stream xs)) (c.split_at.ensures.front ∙ ap (λ (m : ℕ). take m rest) c.min.ensures))
    ∙ ap (λ (xs : List ℕ). (c.loop-rest.sent.items ++ spelling (Payload stream (take n rest))) ++ stream_of (data_frames stream xs)) (c.split_at.ensures.back ∙ ap (λ (m : ℕ). drop m rest) c.min.ensures)
    ∙ sent_more stream c.loop-rest.sent.items rest _ some c.loop-rest.invariant
