use Rattle.std.proofs.Common.{◌≡◌, ◌+◌, ◌++◌, length, ap, ◌∙◌, sym, arith}
use Rattle.mux_frames.specs.Readers.{Reading, counted}
use Rattle.mux_frames.proofs.Nexts.{next_of}
use Rattle.mux_frames.proofs.Splitting.{stream_fault_of}
use Rattle.mux_frames.proofs.reader.FrameReader.next_frame.Goals as goal

pub overflow_sub-result : goal.overflow_sub-result
overflow_sub-result c =
    let held_is : c.slice_of.result.now ≡ c.args.self.now.held = c.slice_of.ensures ∙ ap (λ (r : Reading). r.held) c.self.view_is in
    let found = rw (c.in-Frame.is, held_is) at c.in_ok-offset.ensures in
    let next = next_of c.args.self.now.held c.args.piece.now c.in-Frame.frame c.in-Frame.size c.requires found.0 found.1 found.2 in
    omega (arith, next.0, ap length held_is)

pub returns-in-Bad-clause-bad : goal.returns-in-Bad-clause-bad
returns-in-Bad-clause-bad c =
    let held_is : c.slice_of.result.now ≡ c.args.self.now.held = c.slice_of.ensures ∙ ap (λ (r : Reading). r.held) c.self.view_is in
    let fault = rw (c.in-Bad.is, held_is) at c.in_ok-offset.ensures in
    λ place is. (
      c.in-Bad.offset,
      stream_fault_of (c.args.self.now.held ++ c.args.piece.now) c.in-Bad.offset fault,
      let same : c.saturating_add-place.result ≡ place = cc in sym same ∙ c.saturating_add-place.ensures ∙ ap (λ (r : Reading). counted (r.taken + c.in-Bad.offset)) c.self.view_is,
    )

pub returns-in-Frame-clause-ok : goal.returns-in-Frame-clause-ok
returns-in-Frame-clause-ok c =
    let held_is : c.slice_of.result.now ≡ c.args.self.now.held = c.slice_of.ensures ∙ ap (λ (r : Reading). r.held) c.self.view_is in
    let found = rw (c.in-Frame.is, held_is) at c.in_ok-offset.ensures in
    let next = next_of c.args.self.now.held c.args.piece.now c.in-Frame.frame c.in-Frame.size c.requires found.0 found.1 found.2 in
    rw held_is next.1
