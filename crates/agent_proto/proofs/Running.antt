-- Runs of a reader, over every cutting.
use Rattle.std.proofs.Common.{◌≡◌, ℕ, ◌+◌, ◌^◌, ◌<◌, List, [], ◌∷◌, ◌++◌, length, sym, ap, subst, ◌∙◌, arith, append_assoc, length-append}
use Rattle.std.proofs.lemmas.List.{append-nil}
use Rattle.std.proofs.lemmas.List.Concat.{flat_map-append}
use Rattle.agent_proto.specs.declared.limits.TheConstants.{MAX_MESSAGE}
use Rattle.agent_proto.specs.declared.message.Message.{Message}
use Rattle.agent_proto.specs.Messages.{spelling}
use Rattle.mux_frames.specs.Prefix.{Continues, IsFault}
use Rattle.agent_proto.specs.Streams.{IsSpelling, stream_of, AreSent, IsStream, Splits, IsFrontOf}
use Rattle.mux_frames.specs.Readers.{Reading, fresh, counted}
use Rattle.agent_proto.specs.Readers.{Runs, Refuses, fed, answered, FaultsAt}
use Rattle.agent_proto.proofs.Spellings.{size_of_message, nothing_continues}
use Rattle.agent_proto.proofs.Splitting.{AreSent-append, whole_front, fault_behind}

pub held_short : (rest : List ℕ) → Continues IsSpelling rest → length rest < MAX_MESSAGE + 4
held_short rest goes = omega (arith, size_of_message goes.2.0 goes.2.1, ap length goes.2.2, length-append rest (goes.0 ∷ goes.1))

pub splits_join : (bytes more : List ℕ) (xs ys : List Message) (held rest : List ℕ) → Splits bytes xs held → Splits (held ++ more) ys rest → Splits (bytes ++ more) (xs ++ ys) rest
splits_join bytes more xs ys held rest a b = record {
  whole = ap (λ (zs : List ℕ). zs ++ more) a.whole ∙ append_assoc (stream_of xs) held more ∙ ap (λ (zs : List ℕ). stream_of xs ++ zs) b.whole
      ∙ sym (append_assoc (stream_of xs) (stream_of ys) rest) ∙ ap (λ (zs : List ℕ). zs ++ rest) (sym (flat_map-append spelling xs ys));
  each = AreSent-append xs ys a.each b.each;
  partial = b.partial;
}

pub written : (messages : List Message) → AreSent messages → Splits (stream_of messages) messages []
written messages ok = record { whole = sym (append-nil (stream_of messages)); each = ok; partial = nothing_continues }

pub front_of : (sent read : List Message) (bytes rest more : List ℕ) → AreSent sent → stream_of sent ≡ bytes ++ more → Splits bytes read rest → IsFrontOf sent read rest more
front_of sent read bytes rest more ok e split =
    let whole : stream_of sent ≡ stream_of read ++ (rest ++ more) = e ∙ ap (λ (xs : List ℕ). xs ++ more) split.whole ∙ append_assoc (stream_of read) rest more in
    let found = whole_front sent read (rest ++ more) ok split.each whole in
    record { later = found.0; each = found.1; sent_is = found.2; ahead = sym found.3 }

-- what a run has made of a reader that held some bytes
record Ran (start : Reading) (steps : List (List ℕ × List Message)) (end : Reading) : Type 0 where
  splits : Splits (start.held ++ fed steps) (answered steps) end.held
  taken : end.taken ≡ counted (start.taken + length (stream_of (answered steps)))

ran : (start : Reading) (steps : List (List ℕ × List Message)) (end : Reading) → start.taken < 2 ^ 64 → Continues IsSpelling start.held → Runs start steps end → Ran start steps end
ran start [] end small partial run = record {
  splits = subst (λ (r : Reading). Splits (start.held ++ []) [] r.held) (sym run) (record { whole = append-nil start.held; each = tt; partial = partial });
  taken = ap (λ (r : Reading). r.taken) run ∙ omega (arith, small);
}
ran start (step ∷ steps) end small partial run =
    let next = run.0 in
    let reads = run.1 in
    let rest = ran next steps end (omega (arith, reads.taken)) reads.splits.partial run.2 in
    let all : Splits ((start.held ++ step.0) ++ fed steps) (step.1 ++ answered steps) end.held = splits_join (start.held ++ step.0) (fed steps) step.1 (answered steps) next.held end.held reads.splits rest.splits in
    let size : length (stream_of (step.1 ++ answered steps)) ≡ length (stream_of step.1) + length (stream_of (answered steps)) = ap length (flat_map-append spelling step.1 (answered steps)) ∙ length-append (stream_of step.1) (stream_of (answered steps)) in
    record {
      splits = subst (λ (bytes : List ℕ). Splits bytes (step.1 ++ answered steps) end.held) (append_assoc start.held step.0 (fed steps)) all;
      taken = omega (arith, rest.taken, reads.taken, size);
    }

pub run_splits : (steps : List (List ℕ × List Message)) (end : Reading) → Runs fresh steps end → Splits (fed steps) (answered steps) end.held
run_splits steps end run = (ran fresh steps end (omega arith) nothing_continues run).splits

pub run_faults : (steps : List (List ℕ × List Message)) (end new : Reading) (piece : List ℕ) (place : ℕ) → Runs fresh steps end → Refuses end piece place new → FaultsAt (fed steps ++ piece) place
run_faults steps end new piece place run refuses =
    let before = ran fresh steps end (omega arith) nothing_continues run in
    let messages = answered steps in
    let split = before.splits in
    let behind = fault_behind messages (end.held ++ piece) refuses.offset split.each refuses.fault in
    let whole : stream_of messages ++ (end.held ++ piece) ≡ fed steps ++ piece = sym (append_assoc (stream_of messages) end.held piece) ∙ ap (λ (xs : List ℕ). xs ++ piece) (sym split.whole) in (
      length (stream_of messages) + refuses.offset,
      subst (λ (xs : List ℕ). IsFault IsStream xs (length (stream_of messages) + refuses.offset)) whole behind,
      omega (arith, refuses.place_is, before.taken),
    )
