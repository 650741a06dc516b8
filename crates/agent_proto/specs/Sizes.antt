-- How many bytes a part of a message can have.
use Rattle.std.specs.Prelude.{◌≡◌, ◌⊎◌, ℕ, Bool, ◌&&◌, ◌||◌, ◌+◌, ◌-◌, ◌*◌, ◌==◌, ◌<◌, ◌≤◌, ◌^◌, nat_le, max, min}
use Rattle.agent_proto.specs.declared.field_place.Wanted.{Wanted}
use Rattle.agent_proto.specs.declared.field_place.Wanted.TheVariants as wanted
use Rattle.agent_proto.specs.declared.field_place.Measured.{Measured}
use Rattle.agent_proto.specs.declared.field_place.FieldPlace.{FieldPlace}
use Rattle.agent_proto.specs.declared.field_place.FieldPlace.TheVariants.{Any, AnyThenBit, Found, Done, Size, Path, Text}
use Rattle.agent_proto.specs.declared.sizes.Sizes.{Sizes}
use Rattle.agent_proto.specs.FieldPlaces.{least_size, most_size, worth}

-- this is one of the sizes
abbrev pub Has : Sizes → ℕ → Type 0
Has s n = (n ≡ s.one) ⊎ ((s.low ≤ n) × (n ≤ s.high))

abbrev pub of_size : ℕ → Sizes
of_size size = record { one = size; low = size; high = size }

abbrev pub between : ℕ → ℕ → Sizes
between low high = record { one = low; low = low; high = high }

abbrev pub is_within : ℕ → ℕ → ℕ → Bool
is_within low high n = nat_le low n && nat_le n high

-- whether a size of each make this number together
abbrev pub meets : Sizes → Sizes → ℕ → Bool
meets s t n =
    (s.one + t.one == n)
    || (is_within (s.one + t.low) (s.one + t.high) n
    || (is_within (s.low + t.one) (s.high + t.one) n
    || is_within (s.low + t.low) (s.high + t.high) n))

-- none of them comes near the greatest number
abbrev pub IsSmall : Sizes → Type 0
IsSmall s = (s.one < 2 ^ 60) × (s.low < 2 ^ 60) × (s.high < 2 ^ 60)

-- of a length, and of what is as long: so many of the length's bytes are to come, and those so far have this value
abbrev pub measured_sizes : Measured → ℕ → ℕ → Sizes
measured_sizes m due value = between (due + max (least_size m) (value * worth due)) (due + min (most_size m) ((value + 1) * worth due - 1))

abbrev pub found_sizes : Wanted → Sizes
found_sizes wanted.File = of_size 18
found_sizes _ = record { one = 1; low = 4; high = 4099 }

abbrev pub field_sizes : FieldPlace → Sizes
field_sizes (Any count) = of_size count
field_sizes (AnyThenBit count) = of_size (count + 1)
field_sizes (Found w) = found_sizes w
field_sizes Done = record { one = 1; low = 17; high = 17 }
field_sizes (Size m due value) = measured_sizes m due value
field_sizes (Path p left) = of_size left
field_sizes (Text begun left) = of_size left
