use Rattle.mux_frames.proofs.Running.{held_short}
use Rattle.mux_frames.proofs.reader.FrameReader.feed.Goals as goal

pub returns-in_ok-keep-in-Whole-clause-held_back : goal.returns-in_ok-keep-in-Whole-clause-held_back
returns-in_ok-keep-in-Whole-clause-held_back c =
    let found = rw (c.in-Whole.is, c.slice_of.ensures) at c.in_ok-found.ensures in
    λ _. rw c.in_ok-keep-in-Whole.ensures.ok (held_short _ found.0.partial)
