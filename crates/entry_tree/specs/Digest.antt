-- The digest of a file's content, and its spelling.
use Rattle.std.specs.Prelude.{◌≡◌, ℕ, Bool, false, List, length, bytes_eq, Result, Ok, Err}
use Rattle.hex.specs.Hex.{encode_lower, decode_sized}
use Rattle.hex.specs.declared.error.FromHexError.{FromHexError}

-- a digest is 32 bytes
abbrev pub IsDigest : List ℕ → Type 0
IsDigest bs = length bs ≡ 32

-- whether digits spell the bytes to which they decode
abbrev pub spells_back : List ℕ → Result (List ℕ) FromHexError → Bool
spells_back digits (Ok bytes) = bytes_eq (encode_lower bytes) digits
spells_back digits (Err e) = false

-- the digits of a digest: the lower-case spelling of 32 bytes
abbrev pub is_digest_text : List ℕ → Bool
is_digest_text digits = spells_back digits (decode_sized digits 32)
