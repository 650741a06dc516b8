-- The frames found so far, one step of the search, and its ends.
use Rattle.std.proofs.Common.{◌≡◌, ℕ, ◌+◌, ◌<◌, ◌≤◌, List, [], ◌∷◌, ◌++◌, length, take, drop, sym, ap, subst, ◌∙◌, arith, length-drop}
use Rattle.std.proofs.lemmas.List.{append-nil, take-append-drop, length-take-le}
use Rattle.std.proofs.Math.Seq.{take-add}
use Rattle.std.proofs.lemmas.List.Concat.{flat_map-append}
use Rattle.mux_frames.specs.declared.frame.MuxFrame.{MuxFrame}
use Rattle.mux_frames.specs.Frames.{spelling, IsFrame, IsSpelling}
use Rattle.mux_frames.specs.Prefix.{Continues, IsFault}
use Rattle.mux_frames.specs.Streams.{stream_of, AreFrames, IsStream, Splits}
use Rattle.mux_frames.proofs.Splitting.{spelling_some, AreFrames-append, stream_fault_of, fault_behind}

-- the bytes begin with these frames, which take so many bytes
pub record Found (bytes : List ℕ) (frames : List MuxFrame) (used : ℕ) : Type 0 where
  pub within : used ≤ length bytes
  pub front : take used bytes ≡ stream_of frames
  pub each : AreFrames frames

pub found_next : (bytes : List ℕ) (frames : List MuxFrame) (used : ℕ) (frame : MuxFrame) (size : ℕ) → Found bytes frames used → size ≤ length (drop used bytes) → IsFrame frame → take size (drop used bytes) ≡ spelling frame
    → Found bytes (frames ++ frame ∷ []) (used + size) × (0 < size)
found_next bytes frames used frame size found fits ok spelled =
    let longer : take (used + size) bytes ≡ take used bytes ++ take size (drop used bytes) = take-add used size bytes in
    let one : stream_of (frame ∷ []) ≡ spelling frame = append-nil (spelling frame) in
    let front : take (used + size) bytes ≡ stream_of (frames ++ frame ∷ []) =
    longer ∙ ap (λ (xs : List ℕ). xs ++ take size (drop used bytes)) found.front ∙ ap (λ (xs : List ℕ). stream_of frames ++ xs) (spelled ∙ sym one) ∙ sym (flat_map-append spelling frames (frame ∷ [])) in (
      record { within = omega (arith, found.within, fits, length-drop used bytes); front = front; each = AreFrames-append frames (frame ∷ []) found.each (ok, tt) },
      omega (arith, spelling_some frame, ap length spelled, length-take-le size (drop used bytes) fits),
    )

pub found_splits : (bytes : List ℕ) (frames : List MuxFrame) (used : ℕ) → Found bytes frames used → Continues IsSpelling (drop used bytes) → Splits bytes frames (drop used bytes) × (used ≡ length (stream_of frames))
found_splits bytes frames used found partial = (
  record { whole = sym (take-append-drop used bytes) ∙ ap (λ (xs : List ℕ). xs ++ drop used bytes) found.front; each = found.each; partial = partial },
  sym (length-take-le used bytes found.within) ∙ ap length found.front,
)

pub found_fault : (bytes : List ℕ) (frames : List MuxFrame) (used place : ℕ) → Found bytes frames used → IsFault IsSpelling (drop used bytes) place → IsFault IsStream bytes (used + place)
found_fault bytes frames used place found fault =
    let behind = fault_behind frames (drop used bytes) place found.each (stream_fault_of (drop used bytes) place fault) in
    let whole : stream_of frames ++ drop used bytes ≡ bytes = ap (λ (xs : List ℕ). xs ++ drop used bytes) (sym found.front) ∙ take-append-drop used bytes in
    let used_is : length (stream_of frames) ≡ used = sym (ap length found.front) ∙ length-take-le used bytes found.within in
    subst (λ (n : ℕ). IsFault IsStream bytes (n + place)) used_is (subst (λ (xs : List ℕ). IsFault IsStream xs (length (stream_of frames) + place)) whole behind)
