-- An identifier is a UUID of version 4 (RFC 9562), made of sixteen drawn bytes.
use Rattle.std.specs.Prelude.{ℕ, ◌+◌, ◌%◌, List, slice_index, slice_set}

-- The low four bits of byte 6 stay, and its high ones become 4, the version. The low six bits of byte 8 stay, and its high ones become 10 in binary,
-- the variant.
abbrev pub identifier : List ℕ → List ℕ
identifier bytes = slice_set (slice_set bytes 8 (slice_index bytes 8 % 64 + 128)) 6 (slice_index bytes 6 % 16 + 64)
