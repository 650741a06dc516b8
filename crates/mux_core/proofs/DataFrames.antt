-- The Data frames of some bytes: the first one, and those of the others.
use Rattle.std.proofs.Common.{◌≡◌, ℕ, ◌-◌, ◌<◌, List, [], ◌∷◌, ◌++◌, zero, suc, length, take, drop, min, ap, ◌∙◌, sym, refl, arith, append_assoc, length-drop}
use Rattle.mux_frames.specs.declared.wire.TheConstants.{MAX_PAYLOAD}
use Rattle.mux_frames.specs.declared.frame.MuxFrame.{MuxFrame}
use Rattle.mux_frames.specs.declared.frame.MuxFrame.TheVariants.{Payload}
use Rattle.mux_frames.specs.Frames.{spelling}
use Rattle.mux_frames.specs.Streams.{stream_of}
use Rattle.mux_core.proofs.Pieces.{take_nil}
use Rattle.mux_core.specs.Calls.{frames_in, frame_count, data_frames}

count_more : (size : ℕ) → 0 < size → frame_count size ≡ suc (frame_count (size - MAX_PAYLOAD))
count_more size some = omega arith

drop_nil : (n : ℕ) → drop n (let xs : List ℕ = [] in xs) ≡ []
drop_nil zero = refl
drop_nil (suc n) = refl

pub take_least : (xs : List ℕ) (n : ℕ) → take (min (length xs) n) xs ≡ take n xs
take_least [] n = take_nil (min 0 n) ∙ sym (take_nil n)
take_least (x ∷ xs) zero = let e : min (suc (length xs)) 0 ≡ 0 = omega arith in ap (λ (m : ℕ). take m (x ∷ xs)) e
take_least (x ∷ xs) (suc n) = let e : min (suc (length xs)) (suc n) ≡ suc (min (length xs) n) = omega arith in ap (λ (m : ℕ). take m (x ∷ xs)) e ∙ ap (λ (zs : List ℕ). x ∷ zs) (take_least xs n)

pub drop_least : (xs : List ℕ) (n : ℕ) → drop (min (length xs) n) xs ≡ drop n xs
drop_least [] n = drop_nil (min 0 n) ∙ sym (drop_nil n)
drop_least (x ∷ xs) zero = let e : min (suc (length xs)) 0 ≡ 0 = omega arith in ap (λ (m : ℕ). drop m (x ∷ xs)) e
drop_least (x ∷ xs) (suc n) = let e : min (suc (length xs)) (suc n) ≡ suc (min (length xs) n) = omega arith in ap (λ (m : ℕ). drop m (x ∷ xs)) e ∙ drop_least xs n

-- bytes are one Data frame and those of the rest
pub data_more : (stream : ℕ) (bytes : List ℕ) → 0 < length bytes → data_frames stream bytes ≡ Payload stream (take MAX_PAYLOAD bytes) ∷ data_frames stream (drop MAX_PAYLOAD bytes)
data_more stream bytes some =
    ap (λ (n : ℕ). frames_in n stream bytes) (count_more (length bytes) some)
    ∙ ap (λ (n : ℕ). Payload stream (take MAX_PAYLOAD bytes) ∷ frames_in (frame_count n) stream (drop MAX_PAYLOAD bytes)) (sym (length-drop MAX_PAYLOAD bytes))

-- the frames so far, with one more
pub sent_more : (stream : ℕ) (sent rest all : List ℕ) → 0 < length rest → sent ++ stream_of (data_frames stream rest) ≡ all
    → (sent ++ spelling (Payload stream (take (min (length rest) MAX_PAYLOAD) rest))) ++ stream_of (data_frames stream (drop (min (length rest) MAX_PAYLOAD) rest)) ≡ all
sent_more stream sent rest all some is =
    ap (λ (xs : List ℕ). (sent ++ spelling (Payload stream xs)) ++ stream_of (data_frames stream (drop (min (length rest) MAX_PAYLOAD) rest))) (take_least rest MAX_PAYLOAD)
    ∙ ap (λ (xs : List ℕ). (sent ++ spelling (Payload stream (take MAX_PAYLOAD rest))) ++ stream_of (data_frames stream xs)) (drop_least rest MAX_PAYLOAD)
    ∙ append_assoc sent (spelling (Payload stream (take MAX_PAYLOAD rest))) (stream_of (data_frames stream (drop MAX_PAYLOAD rest)))
    ∙ ap (λ (fs : List MuxFrame). sent ++ stream_of fs) (sym (data_more stream rest some))
    ∙ is
