-- The Data frames of some bytes, as frames that are told.
use Rattle.std.proofs.Common.{◌≡◌, ℕ, ◌+◌, ◌*◌, ◌≤◌, ◌<◌, Bool, true, false, cond, ◌||◌, eqb, List, [], ◌∷◌, ◌++◌, zero, suc, length, take, drop, refl, sym, ap, ◌∙◌, arith, length-drop, min}
use Rattle.std.proofs.lemmas.List.{take-append-drop, length-take}
use Rattle.mux_frames.specs.declared.wire.TheConstants.{MAX_PAYLOAD}
use Rattle.mux_frames.specs.declared.frame.MuxFrame.{MuxFrame}
use Rattle.mux_frames.specs.declared.frame.MuxFrame.TheVariants.{Payload}
use Rattle.mux_frames.specs.Fields.{IsStreamId}
use Rattle.mux_frames.specs.Streams.{AreFrames}
use Rattle.mux_core.specs.Calls.{frames_in, frame_count, data_frames}
use Rattle.mux_core.specs.Links.{payloads, windows}
use Rattle.mux_core.proofs.Tallies.{tally, nothing, tally_is, opens, opens-append, is_accept, is_close_write, is_close, has, has-append, or_false}
use Rattle.mux_core.proofs.Orders.{Follows, IsKnown, IsWritten}

cond_same : (b : Bool) → cond b (let xs : List ℕ = [] in xs) [] ≡ []
cond_same true = refl
cond_same false = refl

cond_join : (b : Bool) (xs ys : List ℕ) → cond b xs [] ++ cond b ys [] ≡ cond b (xs ++ ys) []
cond_join true xs ys = refl
cond_join false xs ys = refl

payloads_in : (n stream count : ℕ) (bytes : List ℕ) → length bytes ≤ count * MAX_PAYLOAD → payloads n (frames_in count stream bytes) ≡ cond (eqb stream n) bytes []
payloads_in n stream zero [] fits = sym (cond_same (eqb stream n))
payloads_in n stream zero (x ∷ xs) fits = absurd (omega (arith, fits))
payloads_in n stream (suc count) bytes fits =
    ap (λ (xs : List ℕ). cond (eqb stream n) (take MAX_PAYLOAD bytes) [] ++ xs) (payloads_in n stream count (drop MAX_PAYLOAD bytes) (omega (arith, fits, length-drop MAX_PAYLOAD bytes)))
    ∙ cond_join (eqb stream n) (take MAX_PAYLOAD bytes) (drop MAX_PAYLOAD bytes)
    ∙ ap (λ (xs : List ℕ). cond (eqb stream n) xs []) (take-append-drop MAX_PAYLOAD bytes)

windows_in : (n stream count : ℕ) (bytes : List ℕ) → windows n (frames_in count stream bytes) ≡ 0
windows_in n stream zero bytes = refl
windows_in n stream (suc count) bytes = omega (arith, windows_in n stream count (drop MAX_PAYLOAD bytes))

has_none : (test : MuxFrame → Bool) (stream : ℕ) → ((bytes : List ℕ) → test (Payload stream bytes) ≡ false) → (count : ℕ) (bytes : List ℕ) → has test (frames_in count stream bytes) ≡ false
has_none test stream none zero bytes = refl
has_none test stream none (suc count) bytes = ap (λ (b : Bool). b || has test (frames_in count stream (drop MAX_PAYLOAD bytes))) (none (take MAX_PAYLOAD bytes)) ∙ has_none test stream none count (drop MAX_PAYLOAD bytes)

opens_in : (stream count : ℕ) (bytes : List ℕ) → opens (frames_in count stream bytes) ≡ 0
opens_in stream zero bytes = refl
opens_in stream (suc count) bytes = omega (arith, opens_in stream count (drop MAX_PAYLOAD bytes))

pub data_opens : (stream : ℕ) (bytes : List ℕ) → opens (data_frames stream bytes) ≡ 0
data_opens stream bytes = opens_in stream (frame_count (length bytes)) bytes

-- they say the bytes of their stream, and nothing else
pub data_tally : (n stream : ℕ) (bytes : List ℕ) → tally n (data_frames stream bytes) ≡ record nothing { bytes = cond (eqb stream n) bytes [] }
data_tally n stream bytes =
    let count = frame_count (length bytes) in
    tally_is _ _ _ _ _ _ _ _ _ _ (payloads_in n stream count bytes (omega arith)) (windows_in n stream count bytes)
    (has_none (is_accept n) stream (λ _. refl) count bytes) (has_none (is_close_write n) stream (λ _. refl) count bytes) (has_none (is_close n) stream (λ _. refl) count bytes)

frames_are : (stream count : ℕ) (bytes : List ℕ) → IsStreamId stream → count * MAX_PAYLOAD < length bytes + MAX_PAYLOAD → AreFrames (frames_in count stream bytes)
frames_are stream zero bytes ok some = tt
frames_are stream (suc count) bytes ok some =
    ((ok, (omega (arith, some, take_drop), omega (arith, take_drop))), frames_are stream count (drop MAX_PAYLOAD bytes) ok (rest count some))
  where
    take_drop : length (take MAX_PAYLOAD bytes) ≡ min MAX_PAYLOAD (length bytes)
    take_drop = length-take MAX_PAYLOAD bytes

    rest : (c : ℕ) → suc c * MAX_PAYLOAD < length bytes + MAX_PAYLOAD → c * MAX_PAYLOAD < length (drop MAX_PAYLOAD bytes) + MAX_PAYLOAD
    rest zero h = omega arith
    rest (suc c) h = omega (arith, h, length-drop MAX_PAYLOAD bytes)

pub data_are : (stream : ℕ) (bytes : List ℕ) → IsStreamId stream → AreFrames (data_frames stream bytes)
data_are stream bytes ok = frames_are stream (frame_count (length bytes)) bytes ok (omega arith)

known_more : (near : Bool) (start last : ℕ) (before : List MuxFrame) (stream : ℕ) (bytes : List ℕ) (n : ℕ) → IsKnown near start last before n → IsKnown near start last (before ++ Payload stream bytes ∷ []) n
known_more true start last before stream bytes n p = (p.0, omega (arith, p.1, opens-append before (Payload stream bytes ∷ [])))
known_more false start last before stream bytes n p = p

written_more : (before : List MuxFrame) (stream : ℕ) (bytes : List ℕ) (n : ℕ) → IsWritten before n → IsWritten (before ++ Payload stream bytes ∷ []) n
written_more before stream bytes n p = (
  has-append (is_close_write n) before (Payload stream bytes ∷ []) ∙ or_false (has (is_close_write n) before) ∙ p.0,
  has-append (is_close n) before (Payload stream bytes ∷ []) ∙ or_false (has (is_close n) before) ∙ p.1,
)

follow_in : (near : Bool) (start last stream count : ℕ) (before : List MuxFrame) (bytes : List ℕ) → IsKnown near start last before stream → IsWritten before stream → Follows near start last before (frames_in count stream bytes)
follow_in near start last stream zero before bytes known written = tt
follow_in near start last stream (suc count) before bytes known written = (
  (known, written),
  follow_in near start last stream count (before ++ Payload stream (take MAX_PAYLOAD bytes) ∷ []) (drop MAX_PAYLOAD bytes)
      (known_more near start last before stream (take MAX_PAYLOAD bytes) stream known) (written_more before stream (take MAX_PAYLOAD bytes) stream written),
)

-- they may be told where the stream may be written
pub data_follow : (near : Bool) (start last stream : ℕ) (before : List MuxFrame) (bytes : List ℕ) → IsKnown near start last before stream → IsWritten before stream → Follows near start last before (data_frames stream bytes)
data_follow near start last stream before bytes known written = follow_in near start last stream (frame_count (length bytes)) before bytes known written
