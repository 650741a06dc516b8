-- A frame is a kind, a number for the stream, and what the kind has behind them.
use Rattle.std.proofs.Common.{◌≡◌, ℕ, zero, suc, ◌+◌, ◌-◌, ◌^◌, ◌<◌, ◌≤◌, List, [], ◌∷◌, ◌++◌, length, get_or, take, drop, Some, refl, sym, ap, subst, ◌∙◌, arith, append_assoc, length-append}
use Rattle.std.specs.Int.{w16, w32, to_be_bytes, from_be_bytes}
use Rattle.std.proofs.lemmas.Nat.{be_bytes_2, be_bytes_4, from_be_bytes-to_be_bytes_2, from_be_bytes-to_be_bytes_4}
use Rattle.std.proofs.lemmas.List.{take-append-drop, append-nil}
use Rattle.mux_frames.specs.declared.wire.TheConstants.{MAX_PAYLOAD, MAX_AMOUNT}
use Rattle.mux_frames.specs.declared.kind.Kind.{Kind}
use Rattle.mux_frames.specs.declared.kind.Kind.TheVariants as kinds
use Rattle.mux_frames.specs.declared.frame.MuxFrame.{MuxFrame}
use Rattle.mux_frames.specs.declared.frame.MuxFrame.TheVariants.{OpenStream, Accept, Payload, Window, CloseWrite, Close, Heartbeat}
use Rattle.mux_frames.specs.Kinds.{code, kind_of, streams_of}
use Rattle.mux_frames.specs.Frames.{spelling, IsFrame}
use Rattle.mux_frames.specs.Numbers.{value, AreBytes, IsNumber}
use Rattle.mux_frames.specs.Steps.{IsBody, IsStreamOf}
use Rattle.mux_frames.specs.Prefix.{Continues, IsFault}
use Rattle.mux_frames.proofs.Prefixes.{Parts, continues_along, fault_along, parts_continue_front, parts_fault_front, parts_continue_back, parts_fault_back}

-- ---- numbers of two and four bytes

each_byte : (bytes : List ℕ) → AreBytes bytes → (i : ℕ) → get_or bytes i 0 < 256
each_byte [] each i = omega arith
each_byte (b ∷ bytes) each zero = each.0
each_byte (b ∷ bytes) each (suc i) = each_byte bytes each.1 i

value_4 : (bytes : List ℕ) → length bytes ≡ 4 → value bytes ≡ from_be_bytes w32 bytes
value_4 [] len = absurd (omega arith)
value_4 (a ∷ []) len = absurd (omega arith)
value_4 (a ∷ b ∷ []) len = absurd (omega arith)
value_4 (a ∷ b ∷ c ∷ []) len = absurd (omega arith)
value_4 (a ∷ b ∷ c ∷ d ∷ []) len = omega arith
value_4 (a ∷ b ∷ c ∷ d ∷ e ∷ bytes) len = absurd (omega arith)

value_2 : (bytes : List ℕ) → length bytes ≡ 2 → value bytes ≡ from_be_bytes w16 bytes
value_2 [] len = absurd (omega arith)
value_2 (a ∷ []) len = absurd (omega arith)
value_2 (a ∷ b ∷ []) len = omega arith
value_2 (a ∷ b ∷ c ∷ bytes) len = absurd (omega arith)

-- the bytes of a number are its spelling
pub spelled_4 : (low high : ℕ) (bytes : List ℕ) → IsNumber 4 low high bytes → to_be_bytes w32 (value bytes) ≡ bytes
spelled_4 low high bytes number = be_bytes_4 bytes (value bytes) number.width_is (each_byte bytes number.each) (value_4 bytes number.width_is)

pub spelled_2 : (low high : ℕ) (bytes : List ℕ) → IsNumber 2 low high bytes → to_be_bytes w16 (value bytes) ≡ bytes
spelled_2 low high bytes number = be_bytes_2 bytes (value bytes) number.width_is (each_byte bytes number.each) (value_2 bytes number.width_is)

-- and a spelling has the number back
pub value_of_4 : (n : ℕ) → n < 2 ^ 32 → value (to_be_bytes w32 n) ≡ n
value_of_4 n fits = value_4 (to_be_bytes w32 n) refl ∙ from_be_bytes-to_be_bytes_4 n fits

pub value_of_2 : (n : ℕ) → n < 2 ^ 16 → value (to_be_bytes w16 n) ≡ n
value_of_2 n fits = value_2 (to_be_bytes w16 n) refl ∙ from_be_bytes-to_be_bytes_2 n fits

pub number_4 : (low high n : ℕ) → n < 2 ^ 32 → low ≤ n → n ≤ high → IsNumber 4 low high (to_be_bytes w32 n)
number_4 low high n fits from_low to_high = record {
  width_is = refl;
  each = (omega arith, (omega arith, (omega arith, (omega arith, tt))));
  from_low = rw (value_of_4 n fits) from_low;
  to_high = rw (value_of_4 n fits) to_high;
}

pub number_2 : (low high n : ℕ) → n < 2 ^ 16 → low ≤ n → n ≤ high → IsNumber 2 low high (to_be_bytes w16 n)
number_2 low high n fits from_low to_high = record {
  width_is = refl;
  each = (omega arith, (omega arith, tt));
  from_low = rw (value_of_2 n fits) from_low;
  to_high = rw (value_of_2 n fits) to_high;
}

-- ---- kinds

pub kind_of-code : (kind : Kind) → kind_of (code kind) ≡ Some kind
kind_of-code kinds.Open = refl
kind_of-code kinds.Accept = refl
kind_of-code kinds.Data = refl
kind_of-code kinds.Window = refl
kind_of-code kinds.CloseWrite = refl
kind_of-code kinds.Close = refl
kind_of-code kinds.Heartbeat = refl

pub some_is : (a b : Kind) → Some a ≡ Some b → a ≡ b
some_is a b e = cc

pub code_is : (a b : Kind) → code a ≡ code b → a ≡ b
code_is a b e = some_is a b (sym (kind_of-code a) ∙ ap kind_of e ∙ kind_of-code b)

abbrev pub kind_from : MuxFrame → Kind
kind_from (OpenStream stream) = kinds.Open
kind_from (Accept stream) = kinds.Accept
kind_from (Payload stream bytes) = kinds.Data
kind_from (Window stream amount) = kinds.Window
kind_from (CloseWrite stream) = kinds.CloseWrite
kind_from (Close stream) = kinds.Close
kind_from Heartbeat = kinds.Heartbeat

-- a frame's bytes behind the kind
abbrev pub body_from : MuxFrame → List ℕ
body_from (OpenStream stream) = to_be_bytes w32 stream
body_from (Accept stream) = to_be_bytes w32 stream
body_from (Payload stream bytes) = to_be_bytes w32 stream ++ to_be_bytes w16 (length bytes) ++ bytes
body_from (Window stream amount) = to_be_bytes w32 stream ++ to_be_bytes w32 amount
body_from (CloseWrite stream) = to_be_bytes w32 stream
body_from (Close stream) = to_be_bytes w32 stream
body_from Heartbeat = to_be_bytes w32 0

pub spelling_is : (frame : MuxFrame) → spelling frame ≡ code (kind_from frame) ∷ body_from frame
spelling_is (OpenStream stream) = refl
spelling_is (Accept stream) = refl
spelling_is (Payload stream bytes) = refl
spelling_is (Window stream amount) = refl
spelling_is (CloseWrite stream) = refl
spelling_is (Close stream) = refl
spelling_is Heartbeat = refl

-- ---- the shape of what stands behind a kind

-- as many bytes as the two before say
abbrev pub IsSized : List ℕ → List ℕ → Type 0
IsSized size bytes = length bytes ≡ value size

abbrev pub Tail : Kind → List ℕ → Type 0
Tail kinds.Data bytes = Parts 2 (IsNumber 2 1 MAX_PAYLOAD) IsSized bytes
Tail kinds.Window bytes = IsNumber 4 1 MAX_AMOUNT bytes
Tail _ bytes = bytes ≡ []

abbrev pub IsStreamOf4 : Kind → List ℕ → Type 0
IsStreamOf4 kind bytes = IsNumber 4 (streams_of kind).0 (streams_of kind).1 bytes

abbrev pub Shape : Kind → List ℕ → Type 0
Shape kind bytes = Parts 4 (IsStreamOf4 kind) (λ _ rest. Tail kind rest) bytes

frame_shape : (frame : MuxFrame) → IsFrame frame → Shape (kind_from frame) (body_from frame)
frame_shape (OpenStream stream) ok = record { front = number_4 1 (2 ^ 32 - 1) stream ok.1 ok.0 (omega (arith, ok.1)); back = refl }
frame_shape (Accept stream) ok = record { front = number_4 1 (2 ^ 32 - 1) stream ok.1 ok.0 (omega (arith, ok.1)); back = refl }
frame_shape (Payload stream bytes) ok = record {
  front = number_4 1 (2 ^ 32 - 1) stream ok.0.1 ok.0.0 (omega (arith, ok.0.1));
  back = record {
    front = number_2 1 MAX_PAYLOAD (length bytes) (omega (arith, ok.1.1)) ok.1.0 ok.1.1;
    back = sym (value_of_2 (length bytes) (omega (arith, ok.1.1)));
  };
}
frame_shape (Window stream amount) ok = record {
  front = number_4 1 (2 ^ 32 - 1) stream ok.0.1 ok.0.0 (omega (arith, ok.0.1));
  back = number_4 1 MAX_AMOUNT amount (omega (arith, ok.1.1)) ok.1.0 ok.1.1;
}
frame_shape (CloseWrite stream) ok = record { front = number_4 1 (2 ^ 32 - 1) stream ok.1 ok.0 (omega (arith, ok.1)); back = refl }
frame_shape (Close stream) ok = record { front = number_4 1 (2 ^ 32 - 1) stream ok.1 ok.0 (omega (arith, ok.1)); back = refl }
frame_shape Heartbeat ok = record { front = number_4 0 0 0 (omega arith) (omega arith) (omega arith); back = refl }

pub heads : (a b : ℕ) (x y : List ℕ) → a ∷ x ≡ b ∷ y → (a ≡ b) × (x ≡ y)
heads a b x y e = (cc, cc)

pub body_shape : (kind : Kind) (bytes : List ℕ) → IsBody kind bytes → Shape kind bytes
body_shape kind bytes body =
    let e = heads (code kind) (code (kind_from body.0)) bytes (body_from body.0) (body.2 ∙ spelling_is body.0) in
    let k : kind_from body.0 ≡ kind = sym (code_is kind (kind_from body.0) e.0) in
    subst (Shape kind) (sym e.1) (subst (λ (of : Kind). Shape of (body_from body.0)) k (frame_shape body.0 body.1))

-- four bytes alone
plain_bytes : (low high : ℕ) (bytes : List ℕ) → IsNumber 4 low high (take 4 bytes) → drop 4 bytes ≡ [] → bytes ≡ to_be_bytes w32 (value (take 4 bytes))
plain_bytes low high bytes number none =
    sym (take-append-drop 4 bytes) ∙ ap (λ (rest : List ℕ). take 4 bytes ++ rest) none ∙ append-nil (take 4 bytes) ∙ sym (spelled_4 low high (take 4 bytes) number)

stream_is : (bytes : List ℕ) → IsNumber 4 1 (2 ^ 32 - 1) bytes → (0 < value bytes) × (value bytes < 2 ^ 32)
stream_is bytes number = (number.from_low, omega (arith, number.to_high))

pub shape_body : (kind : Kind) (bytes : List ℕ) → Shape kind bytes → IsBody kind bytes
shape_body kinds.Open bytes s = (OpenStream (value (take 4 bytes)), stream_is (take 4 bytes) s.front, ap (λ (rest : List ℕ). code kinds.Open ∷ rest) (plain_bytes 1 (2 ^ 32 - 1) bytes s.front s.back))
shape_body kinds.Accept bytes s = (Accept (value (take 4 bytes)), stream_is (take 4 bytes) s.front, ap (λ (rest : List ℕ). code kinds.Accept ∷ rest) (plain_bytes 1 (2 ^ 32 - 1) bytes s.front s.back))
shape_body kinds.Data bytes s =
    let size = take 2 (drop 4 bytes) in
    let payload = drop 2 (drop 4 bytes) in
    let is_sized : length payload ≡ value size = s.back.back in
    let size_is : to_be_bytes w16 (length payload) ≡ size = ap (to_be_bytes w16) is_sized ∙ spelled_2 1 MAX_PAYLOAD size s.back.front in
    let stream_spelled : to_be_bytes w32 (value (take 4 bytes)) ≡ take 4 bytes = spelled_4 1 (2 ^ 32 - 1) (take 4 bytes) s.front in
    let cut : (take 4 bytes ++ size) ++ payload ≡ bytes = append_assoc (take 4 bytes) size payload ∙ ap (λ (rest : List ℕ). take 4 bytes ++ rest) (take-append-drop 2 (drop 4 bytes)) ∙ take-append-drop 4 bytes in
    let spelled : (to_be_bytes w32 (value (take 4 bytes)) ++ to_be_bytes w16 (length payload)) ++ payload ≡ bytes = ap (λ (xs : List ℕ). (xs ++ to_be_bytes w16 (length payload)) ++ payload) stream_spelled ∙ ap (λ (xs : List ℕ). (take 4 bytes ++ xs) ++ payload) size_is ∙ cut in
    let ok : IsFrame (Payload (value (take 4 bytes)) payload) = (stream_is (take 4 bytes) s.front, (omega (arith, is_sized, s.back.front.from_low), omega (arith, is_sized, s.back.front.to_high))) in
    (Payload (value (take 4 bytes)) payload, ok, ap (λ (rest : List ℕ). code kinds.Data ∷ rest) (sym spelled))
shape_body kinds.Window bytes s =
    let stream_spelled : to_be_bytes w32 (value (take 4 bytes)) ≡ take 4 bytes = spelled_4 1 (2 ^ 32 - 1) (take 4 bytes) s.front in
    let amount_spelled : to_be_bytes w32 (value (drop 4 bytes)) ≡ drop 4 bytes = spelled_4 1 MAX_AMOUNT (drop 4 bytes) s.back in
    let spelled : to_be_bytes w32 (value (take 4 bytes)) ++ to_be_bytes w32 (value (drop 4 bytes)) ≡ bytes = ap (λ (xs : List ℕ). xs ++ to_be_bytes w32 (value (drop 4 bytes))) stream_spelled ∙ ap (λ (xs : List ℕ). take 4 bytes ++ xs) amount_spelled ∙ take-append-drop 4 bytes in
    let ok : IsFrame (Window (value (take 4 bytes)) (value (drop 4 bytes))) = (stream_is (take 4 bytes) s.front, (s.back.from_low, s.back.to_high)) in
    (Window (value (take 4 bytes)) (value (drop 4 bytes)), ok, ap (λ (rest : List ℕ). code kinds.Window ∷ rest) (sym spelled))
shape_body kinds.CloseWrite bytes s = (CloseWrite (value (take 4 bytes)), stream_is (take 4 bytes) s.front, ap (λ (rest : List ℕ). code kinds.CloseWrite ∷ rest) (plain_bytes 1 (2 ^ 32 - 1) bytes s.front s.back))
shape_body kinds.Close bytes s = (Close (value (take 4 bytes)), stream_is (take 4 bytes) s.front, ap (λ (rest : List ℕ). code kinds.Close ∷ rest) (plain_bytes 1 (2 ^ 32 - 1) bytes s.front s.back))
shape_body kinds.Heartbeat bytes s =
    let zero_is : value (take 4 bytes) ≡ 0 = omega (arith, s.front.to_high) in
    (Heartbeat, tt, ap (λ (rest : List ℕ). code kinds.Heartbeat ∷ rest) (plain_bytes 0 0 bytes s.front s.back ∙ ap (to_be_bytes w32) zero_is))

-- ---- what goes on, and where it doesn't

zeros : (n : ℕ) → (bytes : List ℕ) × (length bytes ≡ n)
zeros zero = ([], refl)
zeros (suc n) = (0 ∷ (zeros n).0, ap suc (zeros n).1)

tail_some : (kind : Kind) → (bytes : List ℕ) × Tail kind bytes
tail_some kinds.Open = ([], refl)
tail_some kinds.Accept = ([], refl)
tail_some kinds.Data = (to_be_bytes w16 1 ++ 0 ∷ [], record { front = number_2 1 MAX_PAYLOAD 1 (omega arith) (omega arith) (omega arith); back = refl })
tail_some kinds.Window = (to_be_bytes w32 1, number_4 1 MAX_AMOUNT 1 (omega arith) (omega arith) (omega arith))
tail_some kinds.CloseWrite = ([], refl)
tail_some kinds.Close = ([], refl)
tail_some kinds.Heartbeat = ([], refl)

-- the stream isn't whole
pub stream_continues : (kind : Kind) (bytes : List ℕ) → Continues (IsStreamOf4 kind) bytes → Continues (IsBody kind) bytes
stream_continues kind bytes goes =
    continues_along (Shape kind) (IsBody kind) bytes (shape_body kind)
    (parts_continue_front 4 (IsStreamOf4 kind) (λ _ rest. Tail kind rest) bytes (λ xs number. number.width_is) (λ xs number. tail_some kind) goes)

-- the stream goes wrong
pub stream_fault : (kind : Kind) (bytes : List ℕ) (place : ℕ) → place < 4 → IsFault (IsStreamOf4 kind) bytes place → IsFault (IsBody kind) bytes place
stream_fault kind bytes place inside fault =
    fault_along (Shape kind) (IsBody kind) bytes place (shape_body kind) (body_shape kind)
    (parts_fault_front 4 (IsStreamOf4 kind) (λ _ rest. Tail kind rest) bytes place (λ xs number. number.width_is) (λ xs number. tail_some kind) inside fault)

-- the stream is whole, and what is behind it isn't
pub tail_continues : (kind : Kind) (bytes : List ℕ) → IsStreamOf4 kind (take 4 bytes) → Continues (Tail kind) (drop 4 bytes) → Continues (IsBody kind) bytes
tail_continues kind bytes number goes =
    let shape = parts_continue_back 4 (IsStreamOf4 kind) (λ _ rest. Tail kind rest) (take 4 bytes) (drop 4 bytes) number.width_is number goes in
    continues_along (Shape kind) (IsBody kind) bytes (shape_body kind) (subst (Continues (Shape kind)) (take-append-drop 4 bytes) shape)

-- the stream is whole, and what is behind it goes wrong
pub tail_fault : (kind : Kind) (bytes : List ℕ) (place : ℕ) → IsStreamOf4 kind (take 4 bytes) → IsFault (Tail kind) (drop 4 bytes) place → IsFault (IsBody kind) bytes (4 + place)
tail_fault kind bytes place number fault =
    let shape = parts_fault_back 4 (IsStreamOf4 kind) (λ _ rest. Tail kind rest) (take 4 bytes) (drop 4 bytes) place number.width_is number fault in
    fault_along (Shape kind) (IsBody kind) bytes (4 + place) (shape_body kind) (body_shape kind) (subst (λ (xs : List ℕ). IsFault (Shape kind) xs (4 + place)) (take-append-drop 4 bytes) shape)

-- a length that isn't whole, or goes wrong, and a payload that isn't whole
pub size_continues : (bytes : List ℕ) → Continues (IsNumber 2 1 MAX_PAYLOAD) bytes → Continues (Tail kinds.Data) bytes
size_continues bytes goes = parts_continue_front 2 (IsNumber 2 1 MAX_PAYLOAD) IsSized bytes (λ xs number. number.width_is) (λ xs number. zeros (value xs)) goes

pub size_fault : (bytes : List ℕ) (place : ℕ) → place < 2 → IsFault (IsNumber 2 1 MAX_PAYLOAD) bytes place → IsFault (Tail kinds.Data) bytes place
size_fault bytes place inside fault = parts_fault_front 2 (IsNumber 2 1 MAX_PAYLOAD) IsSized bytes place (λ xs number. number.width_is) (λ xs number. zeros (value xs)) inside fault

pub payload_continues : (bytes : List ℕ) → IsNumber 2 1 MAX_PAYLOAD (take 2 bytes) → length (drop 2 bytes) < value (take 2 bytes) → Continues (Tail kinds.Data) bytes
payload_continues bytes number short =
    let have = drop 2 bytes in
    let want = value (take 2 bytes) in
    let more = zeros (want - (length have + 1)) in
    let sized : IsSized (take 2 bytes) (have ++ 0 ∷ more.0) = omega (arith, length-append have (0 ∷ more.0), more.1) in
    let shape = parts_continue_back 2 (IsNumber 2 1 MAX_PAYLOAD) IsSized (take 2 bytes) have number.width_is number (0, more.0, sized) in
    subst (Continues (Tail kinds.Data)) (take-append-drop 2 bytes) shape

pub stream_number : (stream : ℕ) (bytes : List ℕ) → IsStreamOf stream bytes → IsNumber 4 1 (2 ^ 32 - 1) (take 4 bytes)
stream_number stream bytes is = rw is.2 (number_4 1 (2 ^ 32 - 1) stream is.0.1 is.0.0 (omega (arith, is.0.1)))
