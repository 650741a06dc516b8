use Rattle.mux_frames.specs.Bytes.{bytes_of}
use Rattle.mux_frames.proofs.Found.{found_next, found_fault}
use Rattle.mux_frames.proofs.batch.frames_of.Goals as goal

pub returns-in-Bad : goal.returns-in-Bad
returns-in-Bad c =
    let at = rw (c.in-Bad.is, c.skip-rest.ensures) at c.in_ok-place.ensures in
    found_fault (bytes_of c.args.bytes.now) c.loop-frames.frames.items c.loop-frames.used c.in-Bad.place c.loop-frames.invariant at

pub loop-frames-preserved : goal.loop-frames-preserved
loop-frames-preserved c =
    let at = rw (c.in-Frame.is, c.skip-rest.ensures) at c.in_ok-place.ensures in
    let next = found_next (bytes_of c.args.bytes.now) c.loop-frames.frames.items c.loop-frames.used c.in-Frame.frame c.in-Frame.size c.loop-frames.invariant at.0 at.1 at.2 in
    rw c.in_ok-push-in-Frame.ensures.items next.0
