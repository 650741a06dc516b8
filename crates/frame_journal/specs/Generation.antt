-- The generation of a journal that may stand on two disks. A checkpoint begins with a frame that tells it.
use Rattle.std.specs.Prelude.{ℕ, Bool, ◌&&◌, cond, nat_eq, bytes_eq, List, [], ◌∷◌, ◌++◌, length, take, drop, replicate}
use Rattle.std.specs.Int.{w64, to_be_bytes, from_be_bytes}

-- what a generation's payload begins with: the byte 2, and sixteen zero bytes
unfoldable pub generation_head : List ℕ
generation_head = 2 ∷ replicate 16 0

-- the payload of a generation: that, and the number in eight bytes
unfoldable pub generation_payload : ℕ → List ℕ
generation_payload n = (2 ∷ replicate 16 0) ++ to_be_bytes w64 n

-- a payload is one of a generation: it has 25 bytes, and begins as one
unfoldable pub is_generation : List ℕ → Bool
is_generation payload = nat_eq (length payload) 25 && bytes_eq (take 17 payload) (2 ∷ replicate 16 0)

-- the number in it
unfoldable pub number_in : List ℕ → ℕ
number_in payload = from_be_bytes w64 (drop 17 payload)

-- the generation of a journal: the one that its first frame tells, or 0
abbrev pub generation_of : List (List ℕ) → ℕ
generation_of [] = 0
generation_of (payload ∷ payloads) = cond (is_generation payload) (number_in payload) 0

-- a journal's payloads without the one that tells its generation
abbrev pub without_generation : List (List ℕ) → List (List ℕ)
without_generation [] = []
without_generation (payload ∷ payloads) = cond (is_generation payload) payloads (payload ∷ payloads)

-- what a checkpoint writes: its generation and its payloads
abbrev pub checkpoint_of : ℕ → List (List ℕ) → List (List ℕ)
checkpoint_of generation payloads = generation_payload generation ∷ payloads
