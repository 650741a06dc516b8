use Rattle.std.proofs.Common.{◌≡◌, sym, arith, length, get_or, take}
use Rattle.std.proofs.Math.Seq.{take-length}
use Rattle.mux_frames.specs.Bytes.{bytes_of}
use Rattle.mux_frames.proofs.Digits.{Step, next_byte, tracks_on, tracks_continues, tracks_fault}
use Rattle.mux_frames.proofs.field.field_at.Goals as goal
use Rattle.mux_frames.proofs.field.field_at.Goals.{then-least-high-via-then-least-high, then-least-high-via-else-least-high+then-least-span}

pub returns-then-i-len : goal.returns-then-i-len
returns-then-i-len c =
    let bytes = bytes_of c.args.rest.now in
    let ended : c.loop-i.i ≡ length bytes = omega arith in
    let all : take c.loop-i.i bytes ≡ bytes = rw ended (take-length bytes) in
    let goes = tracks_continues c.args.width c.args.low c.args.high bytes c.loop-i.i c.loop-i.least c.loop-i.span c.loop-i.invariant c.requires.range (omega arith) in
    (omega arith, rw all at goes)

pub returns-then-least-high : goal.returns-then-least-high
returns-then-least-high c =
    let bytes = bytes_of c.args.rest.now in
    let byte_is : get_or bytes c.loop-i.i 0 ≡ c.byte.result = sym c.byte.ensures in
    let step : Step c.args.width bytes c.loop-i.i c.loop-i.least c.loop-i.span = next_byte c.args.width c.args.low c.args.high bytes c.loop-i.i c.loop-i.least c.loop-i.span c.loop-i.invariant (omega arith) (omega arith) (rw byte_is (omega arith)) in (
      omega arith,
      tracks_fault c.args.width c.args.low c.args.high bytes c.loop-i.i c.loop-i.least c.loop-i.span c.loop-i.invariant step c.requires.range (omega arith) (rw byte_is (λ below above.
          elim c.then-least-high.branch [
            | then-least-high-via-then-least-high w ↦ omega arith
            | then-least-high-via-else-least-high+then-least-span w ↦ omega arith
          ])),
    )

pub loop-i-preserved : goal.loop-i-preserved
loop-i-preserved c =
    let bytes = bytes_of c.args.rest.now in
    let byte_is : get_or bytes c.loop-i.i 0 ≡ c.byte.result = sym c.byte.ensures in
    let step : Step c.args.width bytes c.loop-i.i c.loop-i.least c.loop-i.span = next_byte c.args.width c.args.low c.args.high bytes c.loop-i.i c.loop-i.least c.loop-i.span c.loop-i.invariant (omega arith) (omega arith) (rw byte_is (omega arith)) in
    rw (← byte_is) (tracks_on c.args.width c.args.low c.args.high bytes c.loop-i.i c.loop-i.least c.loop-i.span step (rw byte_is (omega arith)) (rw byte_is (omega arith)))
