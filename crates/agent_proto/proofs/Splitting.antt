-- Messages one behind the other: they have one reading, and what is wrong behind them is wrong in the stream.
use Rattle.std.proofs.Common.{◌≡◌, ℕ, ◌+◌, ◌-◌, ◌<◌, ◌≤◌, List, [], ◌∷◌, ◌++◌, length, get_or, take, refl, add-one, sym, ap, subst, ◌∙◌, arith, append_assoc, length-append, inl, inr}
use Rattle.std.proofs.Math.Seq.{take-append-add, take-append_seam, take-suc}
use Rattle.std.proofs.lemmas.List.{append-nil, length-take-le}
use Rattle.std.proofs.lemmas.List.Concat.{flat_map-append}
use Rattle.std.proofs.lemmas.Bool.{cases_lt}
use Rattle.agent_proto.specs.declared.message.Message.{Message}
use Rattle.agent_proto.specs.Messages.{spelling}
use Rattle.mux_frames.specs.Prefix.{Continues, IsFault}
use Rattle.mux_frames.proofs.Splitting.{sound_front}
use Rattle.agent_proto.specs.Streams.{IsSent, IsSpelling, stream_of, AreSent, IsStream, Splits}
use Rattle.agent_proto.proofs.Spellings.{one_spelling, nothing_continues}

-- ---- lists

-- the longer of two fronts begins with the other
longer_front : (a b c d : List ℕ) → a ++ b ≡ c ++ d → length c ≤ length a → a ≡ c ++ take (length a - length c) d
longer_front a b c d e le =
    let n = length a - length c in
    let all : length a ≡ length c + n = omega arith in
    sym (take-append_seam a b) ∙ ap (take (length a)) e ∙ ap (λ (k : ℕ). take k (c ++ d)) all ∙ take-append-add c d n

pub AreSent-append : (xs ys : List Message) → AreSent xs → AreSent ys → AreSent (xs ++ ys)
AreSent-append [] ys p q = q
AreSent-append (x ∷ xs) ys p q = (p.0, AreSent-append xs ys p.1 q)

-- ---- readings

-- less than a whole message has no whole message in front
pub partial_front : (message : Message) (behind rest : List ℕ) → IsSent message → Continues IsSpelling rest → rest ≡ spelling message ++ behind → ⊥
partial_front message behind rest ok goes e =
    let whole : spelling message ++ (behind ++ goes.0 ∷ goes.1) ≡ spelling goes.2.0 ++ [] =
    sym (append_assoc (spelling message) behind (goes.0 ∷ goes.1)) ∙ ap (λ (xs : List ℕ). xs ++ goes.0 ∷ goes.1) (sym e) ∙ goes.2.2 ∙ sym (append-nil (spelling goes.2.0)) in
    let none : behind ++ goes.0 ∷ goes.1 ≡ [] = (one_spelling message goes.2.0 (behind ++ goes.0 ∷ goes.1) [] ok goes.2.1 whole).1 in
    omega (arith, ap length none, length-append behind (goes.0 ∷ goes.1))

-- of two readings of the same bytes the one that is known to be whole begins the other
pub read_front : (xs ys : List Message) (rest behind : List ℕ) → AreSent xs → AreSent ys → Continues IsSpelling rest → stream_of xs ++ rest ≡ stream_of ys ++ behind
    → (later : List Message) × AreSent later × (xs ≡ ys ++ later) × (stream_of later ++ rest ≡ behind)
read_front xs [] rest behind ok_x ok_y partial e = (xs, ok_x, refl, e)
read_front [] (y ∷ ys) rest behind ok_x ok_y partial e = absurd (partial_front y (stream_of ys ++ behind) rest ok_y.0 partial (e ∙ append_assoc (spelling y) (stream_of ys) behind))
read_front (x ∷ xs) (y ∷ ys) rest behind ok_x ok_y partial e =
    let same = one_spelling x y (stream_of xs ++ rest) (stream_of ys ++ behind) ok_x.0 ok_y.0 (sym (append_assoc (spelling x) (stream_of xs) rest) ∙ e ∙ append_assoc (spelling y) (stream_of ys) behind) in
    let found = read_front xs ys rest behind ok_x.1 ok_y.1 partial same.1 in
    (found.0, found.1, ap (λ (z : Message). z ∷ xs) same.0 ∙ ap (λ (zs : List Message). y ∷ zs) found.2, found.3)

-- the messages that whole messages begin with
pub whole_front : (xs ys : List Message) (behind : List ℕ) → AreSent xs → AreSent ys → stream_of xs ≡ stream_of ys ++ behind → (later : List Message) × AreSent later × (xs ≡ ys ++ later) × (stream_of later ≡ behind)
whole_front xs ys behind ok_x ok_y e =
    let found = read_front xs ys [] behind ok_x ok_y nothing_continues (append-nil (stream_of xs) ∙ e) in
    (found.0, found.1, found.2, sym (append-nil (stream_of found.0)) ∙ found.3)

pub one_reading_of : (bytes : List ℕ) (xs ys : List Message) (rest others : List ℕ) → Splits bytes xs rest → Splits bytes ys others → (xs ≡ ys) × (rest ≡ others)
one_reading_of bytes xs ys rest others a b = last (read_front xs ys rest others a.each b.each a.partial (sym a.whole ∙ b.whole))
  where
    last : (found : (later : List Message) × AreSent later × (xs ≡ ys ++ later) × (stream_of later ++ rest ≡ others)) → (xs ≡ ys) × (rest ≡ others)
    last ([], _, x_is, r_is) = (x_is ∙ append-nil ys, r_is)
    last (z ∷ zs, ok, x_is, r_is) = absurd (partial_front z (stream_of zs ++ rest) others ok.0 b.partial (sym r_is ∙ append_assoc (spelling z) (stream_of zs) rest))

-- ---- faults

-- where no message goes on no stream does
pub stream_fault_of : (bytes : List ℕ) (place : ℕ) → IsFault IsSpelling bytes place → IsFault IsStream bytes place
stream_fault_of bytes place fault = record {
  within = fault.within;
  before = (fault.before.0, fault.before.1, (fault.before.2.0 ∷ [], (fault.before.2.1, tt), fault.before.2.2 ∙ sym (append-nil (spelling fault.before.2.0))));
  none = λ more text. none more text.0 text.1 text.2;
}
  where
    seen : List ℕ
    seen = take (place + 1) bytes

    seen_len : length (take (place + 1) bytes) ≡ place + 1
    seen_len = length-take-le (place + 1) bytes (omega (arith, fault.within))

    before_len : length (take place bytes) ≡ place
    before_len = length-take-le place bytes (omega (arith, fault.within))

    begins : (more : List ℕ) (x : Message) (xs : List Message) → take (place + 1) bytes ++ more ≡ stream_of (x ∷ xs) → length (spelling x) < place + 1 → take place bytes ≡ spelling x ++ take (length (take place bytes) - length (spelling x)) (stream_of xs)
    begins more x xs e short =
        let last = get_or bytes place 0 in
        let one_more : take (place + 1) bytes ≡ take place bytes ++ last ∷ [] = rw add-one (take-suc bytes place 0 fault.within) in
        let whole : take place bytes ++ last ∷ more ≡ spelling x ++ stream_of xs = sym (append_assoc (take place bytes) (last ∷ []) more) ∙ ap (λ (xs : List ℕ). xs ++ more) (sym one_more) ∙ e in
        longer_front (take place bytes) (last ∷ more) (spelling x) (stream_of xs) whole (omega (arith, before_len))

    none : (more : List ℕ) (messages : List Message) → AreSent messages → take (place + 1) bytes ++ more ≡ stream_of messages → ⊥
    none more [] ok e = omega (arith, ap length e, length-append (take (place + 1) bytes) more, seen_len)
    none more (x ∷ xs) ok e = elim (cases_lt (length (spelling x)) (place + 1)) [
      | inl short ↦ partial_front x (take (length (take place bytes) - length (spelling x)) (stream_of xs)) (take place bytes) ok.0 fault.before (begins more x xs e short)
      | inr long ↦ fault.none (take (length (spelling x) - length (take (place + 1) bytes)) more)
          (x, ok.0, sym (longer_front (spelling x) (stream_of xs) (take (place + 1) bytes) more (sym e) (omega (arith, seen_len))))
    ]

-- what is wrong behind whole messages is wrong in the whole stream
pub fault_behind : (messages : List Message) (bytes : List ℕ) (place : ℕ) → AreSent messages → IsFault IsStream bytes place → IsFault IsStream (stream_of messages ++ bytes) (length (stream_of messages) + place)
fault_behind messages bytes place ok fault =
    let front = stream_of messages in
    let before_is : take (length front + place) (front ++ bytes) ≡ front ++ take place bytes = take-append-add front bytes place in
    let count : (length front + place) + 1 ≡ length front + (place + 1) = omega arith in
    let seen_is : take ((length front + place) + 1) (front ++ bytes) ≡ front ++ take (place + 1) bytes = ap (λ (n : ℕ). take n (front ++ bytes)) count ∙ take-append-add front bytes (place + 1) in
    let goes = fault.before in
    let text : IsStream (front ++ (take place bytes ++ goes.0 ∷ goes.1)) =
    (messages ++ goes.2.0, AreSent-append messages goes.2.0 ok goes.2.1, ap (λ (xs : List ℕ). front ++ xs) goes.2.2 ∙ sym (flat_map-append spelling messages goes.2.0)) in
    record {
      within = omega (arith, length-append front bytes, fault.within);
      before = (goes.0, goes.1, subst IsStream (sym (append_assoc front (take place bytes) (goes.0 ∷ goes.1)) ∙ ap (λ (xs : List ℕ). xs ++ goes.0 ∷ goes.1) (sym before_is)) text);
      none = λ more stream.
          let whole : stream_of stream.0 ≡ front ++ (take (place + 1) bytes ++ more) = sym stream.2 ∙ ap (λ (xs : List ℕ). xs ++ more) seen_is ∙ append_assoc front (take (place + 1) bytes) more in
          let found = whole_front stream.0 messages (take (place + 1) bytes ++ more) stream.1 ok whole in
          fault.none more (found.0, found.1, sym found.3);
    }

pub no_fault_in : (bytes : List ℕ) (messages : List Message) (rest : List ℕ) (place : ℕ) → Splits bytes messages rest → IsFault IsStream bytes place → ⊥
no_fault_in bytes messages rest place split fault =
    let goes = split.partial in
    let more = goes.0 ∷ goes.1 in
    let spelled : rest ++ more ≡ stream_of (goes.2.0 ∷ []) = goes.2.2 ∙ sym (append-nil (spelling goes.2.0)) in
    let whole : bytes ++ more ≡ stream_of (messages ++ goes.2.0 ∷ []) =
    ap (λ (xs : List ℕ). xs ++ more) split.whole ∙ append_assoc (stream_of messages) rest more ∙ ap (λ (xs : List ℕ). stream_of messages ++ xs) spelled ∙ sym (flat_map-append spelling messages (goes.2.0 ∷ [])) in
    sound_front IsStream bytes more place (messages ++ goes.2.0 ∷ [], AreSent-append messages (goes.2.0 ∷ []) split.each (goes.2.1, tt), whole) fault
