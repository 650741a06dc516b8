-- What the next bytes of a stream complete.
use Rattle.std.specs.Prelude.{◌≡◌, ℕ, ◌<◌, ◌≤◌, List, ◌++◌, length, take}
use Rattle.mux_frames.specs.declared.next.Next.{Next}
use Rattle.mux_frames.specs.declared.next.Next.TheVariants.{Frame, Partial}
use Rattle.mux_frames.specs.Prefix.{Continues}
use Rattle.mux_frames.specs.Frames.{spelling, IsFrame, IsSpelling}

-- Behind the bytes that are held back the piece completes a frame with so many bytes, or some frame goes
-- on behind it.
abbrev pub Completes : List ℕ → List ℕ → Next → Type 0
Completes held piece (Frame frame used) = (0 < used) × (used ≤ length piece) × IsFrame frame × (held ++ take used piece ≡ spelling frame)
Completes held piece Partial = Continues IsSpelling (held ++ piece)
