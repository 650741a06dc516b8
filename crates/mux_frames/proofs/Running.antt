-- Runs of a reader, over every cutting.
use Rattle.std.proofs.Common.{◌≡◌, ℕ, ◌+◌, ◌^◌, ◌<◌, ◌≤◌, List, [], ◌∷◌, ◌++◌, length, sym, ap, subst, ◌∙◌, arith, append_assoc, length-append}
use Rattle.std.proofs.lemmas.List.{append-nil}
use Rattle.std.proofs.lemmas.List.Concat.{flat_map-append}
use Rattle.mux_frames.specs.declared.wire.TheConstants.{MAX_FRAME}
use Rattle.mux_frames.specs.declared.frame.MuxFrame.{MuxFrame}
use Rattle.mux_frames.specs.declared.frame.MuxFrame.TheVariants.{OpenStream, Accept, Payload, Window, CloseWrite, Close, Heartbeat}
use Rattle.mux_frames.specs.Frames.{spelling, IsFrame, IsSpelling}
use Rattle.mux_frames.specs.Prefix.{Continues, IsFault}
use Rattle.mux_frames.specs.Streams.{stream_of, AreFrames, IsStream, Splits, IsFrontOf}
use Rattle.mux_frames.specs.Readers.{Reading, Runs, Refuses, fresh, fed, answered, counted, FaultsAt}
use Rattle.mux_frames.proofs.Spellings.{nothing_continues}
use Rattle.mux_frames.proofs.Splitting.{AreFrames-append, whole_front, fault_behind}

size_of_frame : (frame : MuxFrame) → IsFrame frame → length (spelling frame) ≤ MAX_FRAME
size_of_frame (OpenStream stream) ok = omega arith
size_of_frame (Accept stream) ok = omega arith
size_of_frame (Payload stream bytes) ok = omega (arith, ok.1.1)
size_of_frame (Window stream amount) ok = omega arith
size_of_frame (CloseWrite stream) ok = omega arith
size_of_frame (Close stream) ok = omega arith
size_of_frame Heartbeat ok = omega arith

pub held_short : (rest : List ℕ) → Continues IsSpelling rest → length rest < MAX_FRAME
held_short rest goes = omega (arith, size_of_frame goes.2.0 goes.2.1, ap length goes.2.2, length-append rest (goes.0 ∷ goes.1))

pub splits_join : (bytes more : List ℕ) (xs ys : List MuxFrame) (held rest : List ℕ) → Splits bytes xs held → Splits (held ++ more) ys rest → Splits (bytes ++ more) (xs ++ ys) rest
splits_join bytes more xs ys held rest a b = record {
  whole = ap (λ (zs : List ℕ). zs ++ more) a.whole ∙ append_assoc (stream_of xs) held more ∙ ap (λ (zs : List ℕ). stream_of xs ++ zs) b.whole
      ∙ sym (append_assoc (stream_of xs) (stream_of ys) rest) ∙ ap (λ (zs : List ℕ). zs ++ rest) (sym (flat_map-append spelling xs ys));
  each = AreFrames-append xs ys a.each b.each;
  partial = b.partial;
}

pub written : (frames : List MuxFrame) → AreFrames frames → Splits (stream_of frames) frames []
written frames ok = record { whole = sym (append-nil (stream_of frames)); each = ok; partial = nothing_continues }

pub front_of : (sent read : List MuxFrame) (bytes rest more : List ℕ) → AreFrames sent → stream_of sent ≡ bytes ++ more → Splits bytes read rest → IsFrontOf sent read rest more
front_of sent read bytes rest more ok e split =
    let whole : stream_of sent ≡ stream_of read ++ (rest ++ more) = e ∙ ap (λ (xs : List ℕ). xs ++ more) split.whole ∙ append_assoc (stream_of read) rest more in
    let found = whole_front sent read (rest ++ more) ok split.each whole in
    record { later = found.0; each = found.1; sent_is = found.2; ahead = sym found.3 }

-- what a run has made of a reader that held some bytes
record Ran (start : Reading) (steps : List (List ℕ × List MuxFrame)) (end : Reading) : Type 0 where
  splits : Splits (start.held ++ fed steps) (answered steps) end.held
  taken : end.taken ≡ counted (start.taken + length (stream_of (answered steps)))

ran : (start : Reading) (steps : List (List ℕ × List MuxFrame)) (end : Reading) → start.taken < 2 ^ 64 → Continues IsSpelling start.held → Runs start steps end → Ran start steps end
ran start [] end small partial run = record {
  splits = subst (λ (r : Reading). Splits (start.held ++ []) [] r.held) (sym run) (record { whole = append-nil start.held; each = tt; partial = partial });
  taken = ap (λ (r : Reading). r.taken) run ∙ omega (arith, small);
}
ran start (step ∷ steps) end small partial run =
    let next = run.0 in
    let reads = run.1 in
    let rest = ran next steps end (omega (arith, reads.taken)) reads.splits.partial run.2 in
    let all : Splits ((start.held ++ step.0) ++ fed steps) (step.1 ++ answered steps) end.held = splits_join (start.held ++ step.0) (fed steps) step.1 (answered steps) next.held end.held reads.splits rest.splits in
    let size : length (stream_of (step.1 ++ answered steps)) ≡ length (stream_of step.1) + length (stream_of (answered steps)) = ap length (flat_map-append spelling step.1 (answered steps)) ∙ length-append (stream_of step.1) (stream_of (answered steps)) in
    record {
      splits = subst (λ (bytes : List ℕ). Splits bytes (step.1 ++ answered steps) end.held) (append_assoc start.held step.0 (fed steps)) all;
      taken = omega (arith, rest.taken, reads.taken, size);
    }

pub run_splits : (steps : List (List ℕ × List MuxFrame)) (end : Reading) → Runs fresh steps end → Splits (fed steps) (answered steps) end.held
run_splits steps end run = (ran fresh steps end (omega arith) nothing_continues run).splits

pub run_faults : (steps : List (List ℕ × List MuxFrame)) (end new : Reading) (piece : List ℕ) (place : ℕ) → Runs fresh steps end → Refuses end piece place new → FaultsAt (fed steps ++ piece) place
run_faults steps end new piece place run refuses =
    let before = ran fresh steps end (omega arith) nothing_continues run in
    let frames = answered steps in
    let split = before.splits in
    let behind = fault_behind frames (end.held ++ piece) refuses.offset split.each refuses.fault in
    let whole : stream_of frames ++ (end.held ++ piece) ≡ fed steps ++ piece = sym (append_assoc (stream_of frames) end.held piece) ∙ ap (λ (xs : List ℕ). xs ++ piece) (sym split.whole) in (
      length (stream_of frames) + refuses.offset,
      subst (λ (xs : List ℕ). IsFault IsStream xs (length (stream_of frames) + refuses.offset)) whole behind,
      omega (arith, refuses.place_is, before.taken),
    )
