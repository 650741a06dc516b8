-- The first frame that a piece completes.
use Rattle.std.proofs.Common.{◌≡◌, ℕ, ◌+◌, ◌-◌, ◌<◌, ◌≤◌, List, ◌++◌, length, take, drop, sym, ap, ◌∙◌, arith, inl, inr, length-append}
use Rattle.std.proofs.Math.Seq.{take-append-add}
use Rattle.std.proofs.lemmas.List.{take-append-drop, take-append-le}
use Rattle.std.proofs.lemmas.Bool.{cases_lt}
use Rattle.mux_frames.specs.declared.frame.MuxFrame.{MuxFrame}
use Rattle.mux_frames.specs.declared.next.Next.TheVariants.{Frame}
use Rattle.mux_frames.specs.Frames.{spelling, IsFrame, IsSpelling}
use Rattle.mux_frames.specs.Prefix.{Continues}
use Rattle.mux_frames.specs.Nexts.{Completes}
use Rattle.mux_frames.proofs.Splitting.{partial_front}

-- a frame that begins with less than a whole one has more bytes
longer : (held piece : List ℕ) (frame : MuxFrame) (size : ℕ) → Continues IsSpelling held → IsFrame frame → take size (held ++ piece) ≡ spelling frame → length held < size
longer held piece frame size partial ok is = elim (cases_lt (length held) size) [
  | inl less ↦ less
  | inr short ↦ absurd (partial_front frame (drop size held) held ok partial
      (sym (take-append-drop size held) ∙ ap (λ (xs : List ℕ). xs ++ drop size held) (sym (take-append-le size held piece short) ∙ is)))
]

pub next_of : (held piece : List ℕ) (frame : MuxFrame) (size : ℕ) → Continues IsSpelling held → size ≤ length (held ++ piece) → IsFrame frame → take size (held ++ piece) ≡ spelling frame
    → (length held < size) × Completes held piece (Frame frame (size - length held))
next_of held piece frame size partial fits ok is =
    let more : length held < size = longer held piece frame size partial ok is in
    let used = size - length held in
    let all : length held + used ≡ size = omega (arith, more) in
    (more, (omega (arith, more), omega (arith, fits, length-append held piece, more), ok, sym (take-append-add held piece used) ∙ ap (λ (n : ℕ). take n (held ++ piece)) all ∙ is))
