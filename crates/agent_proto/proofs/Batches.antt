-- The messages found so far, one step of the search, and its ends.
use Rattle.std.proofs.Common.{◌≡◌, ℕ, ◌+◌, ◌<◌, ◌≤◌, List, [], ◌∷◌, ◌++◌, length, take, drop, refl, sym, ap, subst, ◌∙◌, arith, length-drop, length-append, append_assoc, Some}
use Rattle.std.specs.Prelude.{Option}
use Rattle.std.proofs.lemmas.List.{append-nil, take-append-drop, length-take-le, drop_at}
use Rattle.std.proofs.Math.Seq.{take-add}
use Rattle.std.proofs.lemmas.List.Concat.{flat_map-append}
use Rattle.mux_frames.specs.Prefix.{Continues, IsFault}
use Rattle.agent_proto.specs.declared.limits.TheConstants.{MAX_MESSAGE}
use Rattle.agent_proto.specs.declared.message.Message.{Message}
use Rattle.agent_proto.specs.declared.message.Message.TheVariants.{NoMemory}
use Rattle.agent_proto.specs.declared.place.Place.{Place}
use Rattle.agent_proto.specs.Fields.{number_field}
use Rattle.agent_proto.specs.Messages.{body, spelling}
use Rattle.agent_proto.specs.Bodies.{ReadsBody}
use Rattle.agent_proto.specs.Streams.{IsSpelling, stream_of, IsStream, Splits}
use Rattle.agent_proto.specs.declared.walk.End.TheVariants as ends
use Rattle.agent_proto.specs.Follows.{Follows, Ends}
use Rattle.agent_proto.specs.Batches.{IsSpelt, Found, Added}
use Rattle.agent_proto.proofs.Numbers.{length_of}
use Rattle.agent_proto.proofs.MessageLaws.{written_found}
use Rattle.agent_proto.proofs.Spellings.{size_of_spelling, size_of_message, spelling_some}
use Rattle.agent_proto.proofs.Splitting.{AreSent-append, stream_fault_of, fault_behind}
use Rattle.agent_proto.proofs.Running.{held_short}
use Rattle.agent_proto.proofs.Follows.{follows_continues}

-- ---- one message

pub has_length : (bytes : List ℕ) → IsSpelling bytes → 4 ≤ length bytes
has_length bytes is = omega (arith, ap length is.2, size_of_spelling is.0)

-- what is read behind the length of a message's bytes
pub reads_it : (bytes : List ℕ) (found : Option Message) → IsSpelling bytes → ReadsBody (drop 4 bytes) found → (message : Message) × (found ≡ Some message) × IsSpelt bytes message
reads_it bytes found is reads =
    let message = is.0 in
    let behind : drop 4 bytes ≡ body message = ap (drop 4) is.2 ∙ drop_at (number_field 4 (length (body message))) (body message) 4 (length_of 4 (length (body message))) in
    (message, written_found message found is.1.sound (subst (λ (xs : List ℕ). ReadsBody xs found) behind reads), (is.1, is.2))

-- ---- messages one behind the other

pub added_start : (start : List Message) (bytes : List ℕ) → Added start bytes start 0
added_start start bytes = record { more = []; found = record { within = omega arith; front = refl; each = tt }; items = sym (append-nil start) }

pub added_next : (start : List Message) (bytes : List ℕ) (messages : List Message) (used : ℕ) (message : Message) (size : ℕ) → Added start bytes messages used → size ≤ length (drop used bytes) → IsSpelt (take size (drop used bytes)) message
    → Added start bytes (messages ++ message ∷ []) (used + size) × (0 < size)
added_next start bytes messages used message size added fits spelt =
    let found = added.found in
    let longer : take (used + size) bytes ≡ take used bytes ++ take size (drop used bytes) = take-add used size bytes in
    let one : stream_of (message ∷ []) ≡ spelling message = append-nil (spelling message) in
    let front : take (used + size) bytes ≡ stream_of (added.more ++ message ∷ []) =
    longer ∙ ap (λ (xs : List ℕ). xs ++ take size (drop used bytes)) found.front ∙ ap (λ (xs : List ℕ). stream_of added.more ++ xs) (spelt.1 ∙ sym one) ∙ sym (flat_map-append spelling added.more (message ∷ [])) in (
      record {
        more = added.more ++ message ∷ [];
        found = record { within = omega (arith, found.within, fits, length-drop used bytes); front = front; each = AreSent-append added.more (message ∷ []) found.each (spelt.0, tt) };
        items = ap (λ (xs : List Message). xs ++ message ∷ []) added.items ∙ append_assoc start added.more (message ∷ []);
      },
      omega (arith, spelling_some message, ap length spelt.1, length-take-le size (drop used bytes) fits),
    )

pub found_splits : (bytes : List ℕ) (messages : List Message) (used : ℕ) → Found bytes messages used → Continues IsSpelling (drop used bytes) → Splits bytes messages (drop used bytes) × (used ≡ length (stream_of messages))
found_splits bytes messages used found partial = (
  record { whole = sym (take-append-drop used bytes) ∙ ap (λ (xs : List ℕ). xs ++ drop used bytes) found.front; each = found.each; partial = partial },
  sym (length-take-le used bytes found.within) ∙ ap length found.front,
)

pub found_fault : (bytes : List ℕ) (messages : List Message) (used place : ℕ) → Found bytes messages used → IsFault IsSpelling (drop used bytes) place → IsFault IsStream bytes (used + place)
found_fault bytes messages used place found fault =
    let behind = fault_behind messages (drop used bytes) place found.each (stream_fault_of (drop used bytes) place fault) in
    let whole : stream_of messages ++ drop used bytes ≡ bytes = ap (λ (xs : List ℕ). xs ++ drop used bytes) (sym found.front) ∙ take-append-drop used bytes in
    let used_is : length (stream_of messages) ≡ used = sym (ap length found.front) ∙ length-take-le used bytes found.within in
    subst (λ (n : ℕ). IsFault IsStream bytes (n + place)) used_is (subst (λ (xs : List ℕ). IsFault IsStream xs (length (stream_of messages) + place)) whole behind)

-- ---- a piece behind the bytes that are held back

pub follows_short : (seen : List ℕ) (place : Place) → Follows seen place → length seen < MAX_MESSAGE + 4
follows_short seen place f = held_short seen (follows_continues seen place f)

-- the piece completes the first message, and these are behind it
pub first_splits : (held last behind : List ℕ) (first : Message) (more : List Message) (used : ℕ) → IsSpelt (held ++ last) first → Found behind more used → Continues IsSpelling (drop used behind)
    → Splits (held ++ (last ++ behind)) (first ∷ more) (drop used behind) × (length held + length last + used ≡ length (stream_of (first ∷ more)))
first_splits held last behind first more used spelt found partial =
    let split = found_splits behind more used found partial in
    let size : length (held ++ last) ≡ length (spelling first) = ap length spelt.1 in (
      record {
        whole = sym (append_assoc held last behind) ∙ ap (λ (xs : List ℕ). xs ++ behind) spelt.1 ∙ ap (λ (xs : List ℕ). spelling first ++ xs) split.0.whole ∙ sym (append_assoc (spelling first) (stream_of more) (drop used behind));
        each = (spelt.0, found.each);
        partial = partial;
      },
      omega (arith, size, length-append held last, length-append (spelling first) (stream_of more), split.1),
    )

pub first_fault : (held last behind : List ℕ) (at : ℕ) → IsSpelling (held ++ last) → IsFault IsStream behind at → IsFault IsStream (held ++ (last ++ behind)) (length held + length last + at)
first_fault held last behind at is fault =
    let message = is.0 in
    let one : stream_of (message ∷ []) ≡ held ++ last = append-nil (spelling message) ∙ sym is.2 in
    let there = fault_behind (message ∷ []) behind at (is.1, tt) fault in
    let all : stream_of (message ∷ []) ++ behind ≡ held ++ (last ++ behind) = ap (λ (xs : List ℕ). xs ++ behind) one ∙ append_assoc held last behind in
    let count : length (stream_of (message ∷ [])) + at ≡ length held + length last + at = let n : length (stream_of (message ∷ [])) ≡ length (held ++ last) = ap length one in omega (arith, n, length-append held last) in
    subst (λ (n : ℕ). IsFault IsStream (held ++ (last ++ behind)) n) count (subst (λ (xs : List ℕ). IsFault IsStream xs (length (stream_of (message ∷ [])) + at)) all there)

-- ---- a walk from a message's start

pub start_bad : (rest : List ℕ) (at : ℕ) → Ends [] rest (ends.Bad at) → (at < length rest) × IsFault IsSpelling rest at
start_bad rest at e = let none : 0 + at ≡ at = omega arith in (e.0, subst (λ (n : ℕ). IsFault IsSpelling rest n) none e.1)

-- ---- a piece, taken in

pub spelled_short : (bytes : List ℕ) → IsSpelling bytes → length bytes ≤ MAX_MESSAGE + 4
spelled_short bytes is = omega (arith, ap length is.2, size_of_message is.0 is.1)

-- nothing is completed
pub none_splits : (bytes rest : List ℕ) (messages : List Message) (place : Place) → Follows bytes place → rest ≡ bytes → messages ≡ [] → Splits bytes messages rest × (0 ≡ length (stream_of messages)) × Follows rest place
none_splits bytes rest messages place f same none =
    subst (λ (ms : List Message). Splits bytes ms rest × (0 ≡ length (stream_of ms)) × Follows rest place) (sym none)
    (record { whole = sym same; each = tt; partial = follows_continues rest place there }, refl, there)
  where
    there : Follows rest place
    there = subst (λ (xs : List ℕ). Follows xs place) (sym same) f

-- the first message stands where its place was kept
pub reads_on : (held last behind rest : List ℕ) (first : Message) (start messages items : List Message) (used : ℕ) (place : Place) → start ≡ NoMemory ∷ [] → Added start behind messages used → Follows (drop used behind) place
    → IsSpelt (held ++ last) first → items ≡ first ∷ drop 1 messages → rest ≡ drop used behind
    → Splits (held ++ (last ++ behind)) items rest × (length held + length last + used ≡ length (stream_of items)) × Follows rest place
reads_on held last behind rest first start messages items used place alone added f spelt put left =
    let all : messages ≡ NoMemory ∷ added.more = added.items ∙ ap (λ (ms : List Message). ms ++ added.more) alone in
    let same : items ≡ first ∷ added.more = put ∙ ap (λ (ms : List Message). first ∷ drop 1 ms) all in
    let split = first_splits held last behind first added.more used spelt added.found (follows_continues (drop used behind) place f) in
    subst (λ (ms : List Message). Splits (held ++ (last ++ behind)) ms rest × (length held + length last + used ≡ length (stream_of ms)) × Follows rest place) (sym same)
    (subst (λ (xs : List ℕ). Splits (held ++ (last ++ behind)) (first ∷ added.more) xs × (length held + length last + used ≡ length (stream_of (first ∷ added.more))) × Follows xs place) (sym left) (split.0, split.1, f))
