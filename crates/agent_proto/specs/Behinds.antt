-- What is to come of a message behind the field in course.
use Rattle.std.specs.Prelude.{ℕ, zero, suc, cond, ◌+◌, ◌-◌, ◌*◌, ◌==◌, ◌<◌, ◌^◌, ⊤, List, Option, Some, None}
use Rattle.std.specs.Option.{option_and_then}
use Rattle.agent_proto.specs.declared.behind.Behind.{Behind}
use Rattle.agent_proto.specs.declared.behind.Behind.TheVariants as behind
use Rattle.agent_proto.specs.declared.kind.Request.{Request}
use Rattle.agent_proto.specs.declared.kind.Request.TheVariants as requests
use Rattle.agent_proto.specs.declared.field_place.Wanted.TheVariants as wanted
use Rattle.agent_proto.specs.declared.field_place.Measured.TheVariants as measured
use Rattle.agent_proto.specs.declared.field_place.FieldPlace.{FieldPlace}
use Rattle.agent_proto.specs.declared.field_place.FieldPlace.TheVariants.{Any, AnyThenBit, Found, Size}
use Rattle.agent_proto.specs.declared.field_place.Next.TheVariants.{On}
use Rattle.agent_proto.specs.declared.sizes.Sizes.{Sizes}
use Rattle.agent_proto.specs.FieldPlaces.{taken}
use Rattle.agent_proto.specs.Sizes.{of_size, between}

-- the next field, and what is behind it
abbrev pub asked_next : Request → Option (FieldPlace × Behind)
asked_next requests.List = Some (Size measured.Path 2 0, behind.Nothing)
asked_next requests.Fetch = Some (Size measured.Path 2 0, behind.Stamped)
asked_next requests.StageClear = None
asked_next requests.StageOpen = None
asked_next requests.StageAppend = Some (Size measured.Bytes 4 0, behind.Nothing)
asked_next requests.StageKeep = Some (Any 32, behind.Nothing)
asked_next requests.Place = Some (Size measured.Path 2 0, behind.Placed)
asked_next requests.MakeDir = Some (Size measured.Path 2 0, behind.Nothing)
asked_next requests.MakeLink = Some (Size measured.Path 2 0, behind.Linked)
asked_next requests.Remove = Some (Size measured.Path 2 0, behind.Tracked)
asked_next requests.SetExec = Some (Size measured.Path 2 0, behind.FileBit)

abbrev pub next_row : ℕ → Option (FieldPlace × Behind)
next_row rows = cond (rows == 0) None (Some (Size measured.Name 2 0, behind.Entry (rows - 1)))

abbrev pub next_field : Behind → Option (FieldPlace × Behind)
next_field behind.Nothing = None
next_field behind.Bit = Some (AnyThenBit 0, behind.Nothing)
next_field behind.Replaced = Some (Found wanted.Replaced, behind.Nothing)
next_field behind.Tracked = Some (Found wanted.Tracked, behind.Nothing)
next_field behind.FileBit = Some (Found wanted.File, behind.Bit)
next_field behind.Stamped = Some (Any 24, behind.Nothing)
next_field behind.BitReplaced = Some (AnyThenBit 0, behind.Replaced)
next_field behind.Placed = Some (Any 32, behind.BitReplaced)
next_field behind.Linked = Some (Size measured.Text 2 0, behind.Replaced)
next_field (behind.Asked request) = asked_next request
next_field (behind.Entry rows) = Some (Found wanted.There, behind.Rows rows)
next_field (behind.Rows rows) = next_row rows

-- ---- what is left behind it

abbrev pub then_taken : FieldPlace → (List ℕ → Option (List ℕ)) → List ℕ → Option (List ℕ)
then_taken field next bytes = option_and_then next (taken (On field) bytes)

abbrev pub rows_taken : ℕ → List ℕ → Option (List ℕ)
rows_taken zero bytes = Some bytes
rows_taken (suc rows) bytes = then_taken (Size measured.Name 2 0) (λ rest. then_taken (Found wanted.There) (rows_taken rows) rest) bytes

abbrev pub replaced_taken : List ℕ → Option (List ℕ)
replaced_taken bytes = then_taken (Found wanted.Replaced) Some bytes

abbrev pub bit_taken_then : (List ℕ → Option (List ℕ)) → List ℕ → Option (List ℕ)
bit_taken_then next bytes = then_taken (AnyThenBit 0) next bytes

abbrev pub behind_taken : Behind → List ℕ → Option (List ℕ)
behind_taken behind.Nothing bytes = Some bytes
behind_taken behind.Bit bytes = bit_taken_then Some bytes
behind_taken behind.Replaced bytes = replaced_taken bytes
behind_taken behind.Tracked bytes = then_taken (Found wanted.Tracked) Some bytes
behind_taken behind.FileBit bytes = then_taken (Found wanted.File) (bit_taken_then Some) bytes
behind_taken behind.Stamped bytes = then_taken (Any 24) Some bytes
behind_taken behind.BitReplaced bytes = bit_taken_then replaced_taken bytes
behind_taken behind.Placed bytes = then_taken (Any 32) (bit_taken_then replaced_taken) bytes
behind_taken behind.Linked bytes = then_taken (Size measured.Text 2 0) replaced_taken bytes
behind_taken (behind.Asked requests.List) bytes = then_taken (Size measured.Path 2 0) Some bytes
behind_taken (behind.Asked requests.Fetch) bytes = then_taken (Size measured.Path 2 0) (then_taken (Any 24) Some) bytes
behind_taken (behind.Asked requests.StageClear) bytes = Some bytes
behind_taken (behind.Asked requests.StageOpen) bytes = Some bytes
behind_taken (behind.Asked requests.StageAppend) bytes = then_taken (Size measured.Bytes 4 0) Some bytes
behind_taken (behind.Asked requests.StageKeep) bytes = then_taken (Any 32) Some bytes
behind_taken (behind.Asked requests.Place) bytes = then_taken (Size measured.Path 2 0) (then_taken (Any 32) (bit_taken_then replaced_taken)) bytes
behind_taken (behind.Asked requests.MakeDir) bytes = then_taken (Size measured.Path 2 0) Some bytes
behind_taken (behind.Asked requests.MakeLink) bytes = then_taken (Size measured.Path 2 0) (then_taken (Size measured.Text 2 0) replaced_taken) bytes
behind_taken (behind.Asked requests.Remove) bytes = then_taken (Size measured.Path 2 0) (then_taken (Found wanted.Tracked) Some) bytes
behind_taken (behind.Asked requests.SetExec) bytes = then_taken (Size measured.Path 2 0) (then_taken (Found wanted.File) (bit_taken_then Some)) bytes
behind_taken (behind.Entry rows) bytes = then_taken (Found wanted.There) (rows_taken rows) bytes
behind_taken (behind.Rows rows) bytes = rows_taken rows bytes

-- ---- how many bytes it can have

abbrev pub asked_sizes : Request → Sizes
asked_sizes requests.List = between 2 4098
asked_sizes requests.Fetch = between 26 4122
asked_sizes requests.StageClear = of_size 0
asked_sizes requests.StageOpen = of_size 0
asked_sizes requests.StageAppend = between 4 4294967299
asked_sizes requests.StageKeep = of_size 32
asked_sizes requests.Place = between 36 8230
asked_sizes requests.MakeDir = between 2 4098
asked_sizes requests.MakeLink = between 6 12295
asked_sizes requests.Remove = between 3 8197
asked_sizes requests.SetExec = between 21 4117

abbrev pub entry_sizes : Sizes
entry_sizes = record { one = 1; low = 4; high = 4099 }

abbrev pub behind_sizes : Behind → Sizes
behind_sizes behind.Nothing = of_size 0
behind_sizes behind.Bit = of_size 1
behind_sizes behind.Replaced = entry_sizes
behind_sizes behind.Tracked = entry_sizes
behind_sizes behind.FileBit = of_size 19
behind_sizes behind.Stamped = of_size 24
behind_sizes behind.BitReplaced = record { one = 2; low = 5; high = 4100 }
behind_sizes behind.Placed = record { one = 34; low = 37; high = 4132 }
behind_sizes behind.Linked = between 4 8197
behind_sizes (behind.Asked request) = asked_sizes request
behind_sizes (behind.Entry rows) = cond (rows == 0) entry_sizes (between (4 * rows + 1) (4356 * rows + 4099))
behind_sizes (behind.Rows rows) = between (4 * rows) (4356 * rows)

-- as few rows as a message can have, and more
abbrev pub AreFew : Behind → Type 0
AreFew (behind.Entry rows) = rows < 2 ^ 40
AreFew (behind.Rows rows) = rows < 2 ^ 40
AreFew _ = ⊤
