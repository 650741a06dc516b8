-- The digits of a digest.
use Rattle.std.proofs.Common.{◌≡◌, Bool, true, false, List, ℕ, ◌/◌, ◌%◌, length, ap, ◌∙◌, Ok, Err}
use Rattle.std.specs.Prelude.{◌==◌, if◌then◌else◌}
use Rattle.hex.specs.Hex.{IsBytes, encode_lower, decode_sized, decode_pairs}
use Rattle.hex.specs.declared.error.FromHexError.TheVariants.{OddLength, InvalidStringLength}
use Rattle.hex.proofs.HexLemmas.{decode_sized-encode_lower, decode_pairs-ok}
use Rattle.entry_tree.specs.Digest.{is_digest_text, spells_back}
use Rattle.entry_tree.proofs.Paths.{name_itself}

-- what is written of a digest is read
pub digest_is_read : (bytes : List ℕ) → length bytes ≡ 32 → IsBytes bytes → is_digest_text (encode_lower bytes) ≡ true
digest_is_read bytes len h = ap (spells_back (encode_lower bytes)) (decode_sized-encode_lower bytes 32 len h) ∙ name_itself (encode_lower bytes)

-- what digits decode to are bytes
pub sized_are_bytes : (digits : List ℕ) (n : ℕ) (bytes : List ℕ) → decode_sized digits n ≡ Ok bytes → IsBytes bytes
sized_are_bytes digits n bytes h = by (length digits % 2 == 1) (length digits / 2 == n) h
  where
    by : (odd sized : Bool) → (if odd then Err OddLength else if sized then decode_pairs 0 digits else Err InvalidStringLength) ≡ Ok bytes → IsBytes bytes
    by true sized e = absurd (cc)
    by false true e = (decode_pairs-ok 0 digits bytes e).2
    by false false e = absurd (cc)
