-- Frames are spelt in one way.
use Rattle.std.proofs.Common.{◌≡◌, ℕ, ◌+◌, ◌^◌, ◌<◌, List, ◌++◌, length, take, drop, refl, sym, ap, ◌∙◌, append_assoc, arith}
use Rattle.std.proofs.lemmas.List.{take_at, drop_at, length-append}
use Rattle.std.proofs.lemmas.Nat.{from_be_bytes-to_be_bytes_8}
use Rattle.std.specs.Int.{w64, to_be_bytes, from_be_bytes}
use Rattle.frame_journal.specs.Layout.{block, frame, IsPayload}

length-number : (n : ℕ) → length (to_be_bytes w64 n) ≡ 8
length-number n = refl

pub length-block : (payload : List ℕ) → length (block payload) ≡ 8 + length payload
length-block payload = omega (arith, length-append (to_be_bytes w64 (length payload)) payload, length-number (length payload))

pub length-frame : (payload : List ℕ) → length (frame payload) ≡ 9 + length payload
length-frame payload = omega (arith, length-block payload)

-- numbers with the same eight bytes are one
same_number : (m n : ℕ) → m < 2 ^ 64 → n < 2 ^ 64 → to_be_bytes w64 m ≡ to_be_bytes w64 n → m ≡ n
same_number m n p q e = sym (from_be_bytes-to_be_bytes_8 m p) ∙ ap (from_be_bytes w64) e ∙ from_be_bytes-to_be_bytes_8 n q

front : (xs ys us vs : List ℕ) → length xs ≡ length us → xs ++ ys ≡ us ++ vs → xs ≡ us
front xs ys us vs len e = sym (take_at xs ys (length xs) refl) ∙ ap (take (length xs)) e ∙ take_at us vs (length xs) (sym len)

back : (xs ys us vs : List ℕ) → length xs ≡ length us → xs ++ ys ≡ us ++ vs → ys ≡ vs
back xs ys us vs len e = sym (drop_at xs ys (length xs) refl) ∙ ap (drop (length xs)) e ∙ drop_at us vs (length xs) (sym len)

-- the length that a block begins with
pub block_length : (p : List ℕ) (n : ℕ) (x y : List ℕ) → IsPayload p → n < 2 ^ 64 → block p ++ x ≡ to_be_bytes w64 n ++ y → (length p ≡ n) × (p ++ x ≡ y)
block_length p n x y fits small e =
    let is : to_be_bytes w64 (length p) ++ (p ++ x) ≡ to_be_bytes w64 n ++ y = sym (append_assoc (to_be_bytes w64 (length p)) p x) ∙ e in
    let m-bytes = to_be_bytes w64 (length p) in
    let n-bytes = to_be_bytes w64 n in
    (same_number (length p) n fits small (front m-bytes (p ++ x) n-bytes y refl is), back m-bytes (p ++ x) n-bytes y refl is)

-- what begins with two blocks begins with one
pub same_block : (p q x y : List ℕ) → IsPayload p → IsPayload q → block p ++ x ≡ block q ++ y → (p ≡ q) × (x ≡ y)
same_block p q x y p-fits q-fits e =
    let one = block_length p (length q) x (q ++ y) p-fits q-fits (e ∙ append_assoc (to_be_bytes w64 (length q)) q y) in
    (front p x q y one.0 one.1, back p x q y one.0 one.1)
