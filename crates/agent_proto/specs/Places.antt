-- Where in a message its first bytes end, and what a byte more makes of it.
use Rattle.std.specs.Prelude.{◌≡◌, ℕ, Bool, cond, ◌&&◌, ◌||◌, ◌+◌, ◌-◌, ◌*◌, ◌^◌, ◌==◌, ◌<◌, ◌≤◌, nat_le, List, [], length, take, drop, Option, Some, None, IsTrue, ⊤}
use Rattle.mux_frames.specs.Numbers.{value_from}
use Rattle.agent_proto.specs.declared.behind.Behind.{Behind}
use Rattle.agent_proto.specs.declared.behind.Behind.TheVariants as behind
use Rattle.agent_proto.specs.declared.kind.Request.{Request}
use Rattle.agent_proto.specs.declared.kind.Reply.{Reply}
use Rattle.agent_proto.specs.declared.kind.Reply.TheVariants as replies
use Rattle.agent_proto.specs.declared.field_place.Wanted.TheVariants as wanted
use Rattle.agent_proto.specs.declared.field_place.Measured.TheVariants as measured
use Rattle.agent_proto.specs.declared.field_place.FieldPlace.{FieldPlace}
use Rattle.agent_proto.specs.declared.field_place.FieldPlace.TheVariants.{Any, Found, Done, Size}
use Rattle.agent_proto.specs.declared.field_place.Next.{Next}
use Rattle.agent_proto.specs.declared.field_place.Next.TheVariants.{Refused, Whole as whole_field, On as on_field}
use Rattle.agent_proto.specs.declared.limits.TheConstants.{MAX_MESSAGE}
use Rattle.agent_proto.specs.declared.message.Message.{Message}
use Rattle.agent_proto.specs.declared.place.Place.{Place}
use Rattle.agent_proto.specs.declared.place.Place.TheVariants.{Head, Kind, Count, Field}
use Rattle.agent_proto.specs.declared.place.Step.{Step}
use Rattle.agent_proto.specs.declared.place.Step.TheVariants.{Bad, Whole, On}
use Rattle.agent_proto.specs.Kinds.{request_of, reply_of}
use Rattle.agent_proto.specs.FieldPlaces.{worth, field_step, IsPlace}
use Rattle.agent_proto.specs.Behinds.{next_field, then_taken, rows_taken, bit_taken_then, behind_taken, behind_sizes, AreFew}
use Rattle.agent_proto.specs.Reading.{message_in, whole}
use Rattle.agent_proto.specs.Sizes.{field_sizes, meets}

-- ---- what is left behind a kind's fields

-- so many bytes of the count are to come, and those so far have this value
abbrev pub count_taken : ℕ → ℕ → List ℕ → Option (List ℕ)
count_taken due value bytes = cond (nat_le due (length bytes)) (rows_taken (value_from value (take due bytes)) (drop due bytes)) None

abbrev pub reply_taken : Reply → List ℕ → Option (List ℕ)
reply_taken replies.Listed bytes = count_taken 4 0 bytes
reply_taken replies.Held bytes = then_taken (Found wanted.Any) Some bytes
reply_taken replies.Piece bytes = then_taken (Size measured.Piece 4 0) (bit_taken_then Some) bytes
reply_taken replies.Changed bytes = then_taken (Found wanted.Any) Some bytes
reply_taken replies.TooLarge bytes = then_taken (Any 8) Some bytes
reply_taken replies.DigestDiffers bytes = then_taken (Any 64) Some bytes
reply_taken replies.Done bytes = then_taken Done Some bytes
reply_taken replies.NoParent bytes = then_taken (Found wanted.Any) Some bytes
reply_taken replies.Differs bytes = then_taken (Found wanted.Any) Some bytes
reply_taken replies.Full bytes = then_taken (Any 16) Some bytes
reply_taken replies.TooLong bytes = then_taken (Any 8) Some bytes
reply_taken reply bytes = Some bytes

-- behind the kind of a request: who asks, and the operation
abbrev pub asked_taken : Request → List ℕ → Option (List ℕ)
asked_taken request bytes = then_taken (Any 28) (behind_taken (behind.Asked request)) bytes

-- ---- a byte more

-- the field begins, if it and what is behind it can have so many bytes
abbrev pub start : FieldPlace → Behind → ℕ → Step
start field b left = cond (meets (field_sizes field) (behind_sizes b) left) (On (Field field b left)) Bad

abbrev pub whole_if_none : ℕ → Step
whole_if_none left = cond (left == 0) Whole Bad

-- a field is whole
abbrev pub after : Option (FieldPlace × Behind) → ℕ → Step
after None left = whole_if_none left
after (Some next) left = start next.0 next.1 left

abbrev pub in_field : Next → Behind → ℕ → Step
in_field Refused b left = Bad
in_field whole_field b left = after (next_field b) left
in_field (on_field field) b left = start field b left

-- whether a count, of which so many bytes are to come, those so far having this value, and its rows can have so many bytes
abbrev pub can_count : ℕ → ℕ → ℕ → Bool
can_count due value left =
    nat_le due left && (nat_le (4 * (value * worth due) + due) left && (nat_le left (4356 * ((value + 1) * worth due - 1) + due) && (left == due || nat_le (due + 4) left)))

abbrev pub in_count : ℕ → ℕ → ℕ → Step
in_count due value left = cond (can_count due value left) (cond (due == 0) (after (next_field (behind.Rows value)) left) (On (Count due value left))) Bad

abbrev pub reply_start : Reply → ℕ → Step
reply_start replies.Listed left = in_count 4 0 left
reply_start replies.Held left = start (Found wanted.Any) behind.Nothing left
reply_start replies.Piece left = start (Size measured.Piece 4 0) behind.Bit left
reply_start replies.Changed left = start (Found wanted.Any) behind.Nothing left
reply_start replies.TooLarge left = start (Any 8) behind.Nothing left
reply_start replies.DigestDiffers left = start (Any 64) behind.Nothing left
reply_start replies.Done left = start Done behind.Nothing left
reply_start replies.NoParent left = start (Found wanted.Any) behind.Nothing left
reply_start replies.Differs left = start (Found wanted.Any) behind.Nothing left
reply_start replies.Full left = start (Any 16) behind.Nothing left
reply_start replies.TooLong left = start (Any 8) behind.Nothing left
reply_start reply left = whole_if_none left

abbrev pub other_start : Option Reply → ℕ → Step
other_start None left = Bad
other_start (Some reply) left = reply_start reply left

abbrev pub kind_start : Option Request → ℕ → ℕ → Step
kind_start None byte left = other_start (reply_of byte) left
kind_start (Some request) byte left = start (Any 28) (behind.Asked request) left

-- whether a message has so many bytes behind its length
abbrev pub is_length : ℕ → Bool
is_length size = (size == 1 || size == 2) || (nat_le 5 size && nat_le size MAX_MESSAGE)

abbrev pub in_head : ℕ → ℕ → Step
in_head due value = cond (due == 0) (cond (is_length value) (On (Kind value)) Bad) (cond (nat_le (value * worth due) MAX_MESSAGE) (On (Head due value)) Bad)

abbrev pub step : Place → ℕ → Step
step (Head due value) byte = in_head (due - 1) (value * 256 + byte)
step (Kind left) byte = kind_start (request_of byte) byte (left - 1)
step (Count due value left) byte = in_count (due - 1) (value * 256 + byte) (left - 1)
step (Field field b left) byte = in_field (field_step field byte) b (left - 1)

-- ---- what goes on from a place

abbrev pub IsRest : Place → List ℕ → Type 0
IsRest (Head due value) bytes =
    (due ≤ length bytes) × ((value_from value (take due bytes) ≡ length (drop due bytes)) × ((length (drop due bytes) ≤ MAX_MESSAGE) × ((message : Message) × (whole (message_in (drop due bytes)) ≡ Some message))))
IsRest (Kind left) bytes = (length bytes ≡ left) × ((message : Message) × (whole (message_in bytes) ≡ Some message))
IsRest (Count due value left) bytes = (length bytes ≡ left) × (count_taken due value bytes ≡ Some [])
IsRest (Field field b left) bytes = (length bytes ≡ left) × (then_taken field (behind_taken b) bytes ≡ Some [])

-- the places that there are
abbrev pub IsReached : Place → Type 0
IsReached (Head due value) = (1 ≤ due) × ((due ≤ 4) × (value * worth due ≤ MAX_MESSAGE))
IsReached (Kind left) = IsTrue (is_length left)
IsReached (Count due value left) = (1 ≤ due) × ((due ≤ 4) × ((left ≤ MAX_MESSAGE) × ((value < 2 ^ 32) × IsTrue (can_count due value left))))
IsReached (Field field b left) = IsPlace field × (AreFew b × ((left ≤ MAX_MESSAGE) × IsTrue (meets (field_sizes field) (behind_sizes b) left)))

-- what a byte made of a field is one of the places in fields
abbrev pub IsNext : Next → Type 0
IsNext Refused = ⊤
IsNext whole_field = ⊤
IsNext (on_field field) = IsPlace field
