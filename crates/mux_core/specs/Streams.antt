-- The live streams of an end.
use Rattle.std.specs.Prelude.{◌≡◌, ℕ, ◌+◌, ◌-◌, Bool, false, not, ◌&&◌, nat_le, List, [], length, Option, None, Some, refl}
use Rattle.std.specs.Ordering.{nat_cmp}
use Rattle.std.specs.Coded.{Coded, code_by, coded×, coded_ℕ, coded_bool, coded_list}
use Rattle.std.specs.FinMap.{FinMap, get, insert, from_entries}
use Rattle.std.specs.BTreeMap.{BTreeMap}
use Rattle.mux_core.specs.declared.stream.TheConstants.{WINDOW}
use Rattle.mux_core.specs.declared.stream.StreamState.{StreamState}
use Rattle.mux_core.specs.declared.stream.Stream.{Stream}

-- the live streams, by their numbers
abbrev pub Streams : Type 0
Streams = FinMap nat_cmp Stream

-- the streams that the tree holds
abbrev pub streams_in : BTreeMap ℕ Stream → Streams
streams_in tree = from_entries tree.entries

-- no stream has the number 0
abbrev pub HasNoZero : Streams → Type 0
HasNoZero streams = get streams 0 ≡ None

-- a stream as it is opened: full credit, nothing buffered, and neither direction has ended
abbrev pub fresh_stream : Bool → Stream
fresh_stream accepted =
    record {
      state = record { accepted = accepted; credit = WINDOW; write_ended = false; read_ended = false; end_read = false; closed = false };
      buffer = [];
    }

-- neither this end ended its writing nor the other end closed the stream
abbrev pub is_writable : StreamState → Bool
is_writable state = not state.write_ended && not state.closed

-- the other end may still write: neither its CloseWrite nor its Close came
abbrev pub is_readable : StreamState → Bool
is_readable state = not state.read_ended && not state.closed

-- the other end may still write so many bytes, and they fit behind what is buffered
abbrev pub has_room : Stream → ℕ → Bool
has_room s size = is_readable s.state && nat_le size (WINDOW - length s.buffer)

-- no credit passes 65,536
abbrev pub has_credit_room : StreamState → ℕ → Bool
has_credit_room state amount = nat_le (state.credit + amount) WINDOW

abbrev pub with_state : StreamState → Stream → Stream
with_state state s = record { state = state; buffer = s.buffer }

abbrev pub with_buffer : List ℕ → Stream → Stream
with_buffer bytes s = record { state = s.state; buffer = bytes }

abbrev pub changed_at : Streams → ℕ → (Stream → Stream) → Option Stream → Streams
changed_at streams number change None = streams
changed_at streams number change (Some s) = insert streams number (change s)

-- the streams with this one changed, where it is live
abbrev pub changed : Streams → ℕ → (Stream → Stream) → Streams
changed streams number change = changed_at streams number change (get streams number)

-- streams are told apart by their fields
abbrev pub state_code : Coded StreamState
state_code =
    code_by (Bool × (ℕ × (Bool × (Bool × (Bool × Bool))))) (coded× coded_bool (coded× coded_ℕ (coded× coded_bool (coded× coded_bool (coded× coded_bool coded_bool)))))
    (λ s. (s.accepted, (s.credit, (s.write_ended, (s.read_ended, (s.end_read, s.closed))))))
    (λ p. record { accepted = p.0; credit = p.1.0; write_ended = p.1.1.0; read_ended = p.1.1.1.0; end_read = p.1.1.1.1.0; closed = p.1.1.1.1.1 }) (λ _. refl)

abbrev pub stream_code : Coded Stream
stream_code = code_by (StreamState × List ℕ) (coded× state_code (coded_list coded_ℕ)) (λ s. (s.state, s.buffer)) (λ p. record { state = p.0; buffer = p.1 }) (λ _. refl)
