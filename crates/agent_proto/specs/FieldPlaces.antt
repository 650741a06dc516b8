-- Where in a message's field its first bytes end, and what a byte more makes of it.
use Rattle.std.specs.Prelude.{ℕ, Bool, true, false, cond, ◌+◌, ◌-◌, ◌*◌, ◌==◌, ◌<◌, ◌≤◌, ◌^◌, ⊤, nat_le, List, [], ◌∷◌, Option, Some, None, IsTrue}
use Rattle.agent_proto.specs.declared.character.Begun.{Begun}
use Rattle.agent_proto.specs.declared.character.Begun.TheVariants.{Whole as whole_char}
use Rattle.agent_proto.specs.declared.path_place.PathPlace.{PathPlace}
use Rattle.agent_proto.specs.declared.field_place.Wanted.{Wanted}
use Rattle.agent_proto.specs.declared.field_place.Wanted.TheVariants as wanted
use Rattle.agent_proto.specs.declared.field_place.Measured.{Measured}
use Rattle.agent_proto.specs.declared.field_place.Measured.TheVariants as measured
use Rattle.agent_proto.specs.declared.field_place.FieldPlace.{FieldPlace}
use Rattle.agent_proto.specs.declared.field_place.FieldPlace.TheVariants.{Any, AnyThenBit, Found, Done, Size, Path, Text}
use Rattle.agent_proto.specs.declared.field_place.Next.{Next}
use Rattle.agent_proto.specs.declared.field_place.Next.TheVariants.{Refused, Whole, On}
use Rattle.agent_proto.specs.Characters.{char_step, bytes_due}
use Rattle.agent_proto.specs.PathPlaces.{name_start, path_step, can_end}

-- ---- entries

abbrev pub may_be_none : Wanted → Bool
may_be_none wanted.Any = true
may_be_none wanted.Replaced = true
may_be_none _ = false

abbrev pub may_be_dir : Wanted → Bool
may_be_dir wanted.Replaced = false
may_be_dir wanted.File = false
may_be_dir _ = true

abbrev pub may_be_link : Wanted → Bool
may_be_link wanted.File = false
may_be_link _ = true

abbrev pub may_be_other : Wanted → Bool
may_be_other wanted.Any = true
may_be_other wanted.There = true
may_be_other _ = false

-- ---- lengths

-- in how many bytes the length stands
abbrev pub width : Measured → ℕ
width measured.Bytes = 4
width measured.Piece = 4
width _ = 2

abbrev pub least_size : Measured → ℕ
least_size measured.Name = 1
least_size measured.Text = 1
least_size _ = 0

abbrev pub most_size : Measured → ℕ
most_size measured.Path = 4096
most_size measured.Name = 255
most_size measured.Text = 4096
most_size measured.Bytes = 4294967295
most_size measured.Piece = 65536

-- what a byte is worth that so many others follow, at most four
abbrev pub worth : ℕ → ℕ
worth due = cond (due == 0) 1 (cond (due == 1) 256 (cond (due == 2) 65536 (cond (due == 3) 16777216 4294967296)))

abbrev pub some_bytes : ℕ → Next
some_bytes size = cond (size == 0) Whole (On (Any size))

-- what is as long as was said
abbrev pub behind_size : Measured → ℕ → Next
behind_size measured.Path size = cond (size == 0) Whole (On (Path (name_start 63) size))
behind_size measured.Name size = On (Path (name_start 0) size)
behind_size measured.Text size = On (Text whole_char size)
behind_size measured.Bytes size = some_bytes size
behind_size measured.Piece size = some_bytes size

-- so many bytes of the length are to come, and those so far have this value
abbrev pub size_step : Measured → ℕ → ℕ → Next
size_step m due value =
    cond (nat_le (value * worth due) (most_size m))
    (cond (due == 0) (cond (nat_le (least_size m) value) (behind_size m value) Refused) (On (Size m due value)))
    Refused

-- ---- a byte more

abbrev pub any_step : ℕ → Next
any_step count = cond (nat_le count 1) Whole (On (Any (count - 1)))

abbrev pub bit_step : ℕ → ℕ → Next
bit_step count byte = cond (count == 0) (cond (nat_le byte 1) Whole Refused) (On (AnyThenBit (count - 1)))

abbrev pub whole_if : Bool → Next
whole_if may = cond may Whole Refused

abbrev pub link_if : Bool → Next
link_if may = cond may (On (Size measured.Text 2 0)) Refused

abbrev pub found_step : Wanted → ℕ → Next
found_step w byte =
    cond (byte == 0) (whole_if (may_be_none w))
    (cond (byte == 1) (whole_if (may_be_dir w))
    (cond (byte == 2) (On (AnyThenBit 16))
    (cond (byte == 3) (link_if (may_be_link w))
    (cond (byte == 4) (whole_if (may_be_other w))
    Refused))))

abbrev pub done_step : ℕ → Next
done_step byte = cond (byte == 0) Whole (cond (byte == 1) (On (Any 16)) Refused)

-- so many bytes of the text are left
abbrev pub path_left : PathPlace → ℕ → Next
path_left p left = cond (can_end p left) (cond (left == 0) Whole (On (Path p left))) Refused

abbrev pub path_next : Option PathPlace → ℕ → Next
path_next None left = Refused
path_next (Some p) left = path_left p left

abbrev pub text_left : Begun → ℕ → Next
text_left begun left = cond (nat_le (bytes_due begun) left) (cond (left == 0) Whole (On (Text begun left))) Refused

abbrev pub text_next : Option Begun → ℕ → Next
text_next None left = Refused
text_next (Some begun) left = text_left begun left

abbrev pub field_step : FieldPlace → ℕ → Next
field_step (Any count) byte = any_step count
field_step (AnyThenBit count) byte = bit_step count byte
field_step (Found w) byte = found_step w byte
field_step Done byte = done_step byte
field_step (Size m due value) byte = size_step m (due - 1) (value * 256 + byte)
field_step (Path p left) byte = path_next (path_step p byte) (left - 1)
field_step (Text begun left) byte = text_next (char_step begun byte) (left - 1)

-- what is left behind the field that goes on with these bytes, if one does
abbrev pub taken : Next → List ℕ → Option (List ℕ)
taken Refused bytes = None
taken Whole bytes = Some bytes
taken (On field) [] = None
taken (On field) (b ∷ bytes) = taken (field_step field b) bytes

-- ---- which places there are

abbrev pub IsPlace : FieldPlace → Type 0
IsPlace (Any count) = (1 ≤ count) × (count < 2 ^ 32)
IsPlace (AnyThenBit count) = count ≤ 16
IsPlace (Found w) = ⊤
IsPlace Done = ⊤
IsPlace (Size m due value) = (1 ≤ due) × (due ≤ 4) × (due ≤ width m) × (value < 2 ^ 32) × (value * worth due ≤ most_size m)
IsPlace (Path p left) = (1 ≤ left) × (left ≤ 4096) × (p.len ≤ 255) × (p.names ≤ 63) × IsTrue (can_end p left)
IsPlace (Text begun left) = (1 ≤ left) × (left ≤ 4096) × (bytes_due begun ≤ left)
