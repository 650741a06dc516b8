-- Bytes that grow, and are then written into, are bytes that others are written over.
use Rattle.std.proofs.Common.{◌≡◌, ℕ, ◌+◌, ◌-◌, ◌<◌, List, ◌++◌, length, take, drop, replicate, sym, ap, ◌∙◌, arith}
use Rattle.std.proofs.lemmas.List.{append-nil, length-replicate, take-replicate, drop_all}
use Rattle.disk_model.specs.Content.{written_over}
use Rattle.disk_model.proofs.Overwriting.{take-append, drop-append, written_some}

pub grown_over : (old grown : List ℕ) (place : ℕ) (bytes : List ℕ) → 0 < length bytes → grown ≡ old ++ replicate (place + length bytes - length old) 0
    → take place grown ++ bytes ++ drop (place + length bytes) grown ≡ written_over old place bytes
grown_over old grown place bytes some is =
    let zeros : List ℕ = replicate (place + length bytes - length old) 0 in
    let before : take place grown ≡ take place old ++ replicate (place - length old) 0 =
    ap (take place) is ∙ take-append place old zeros ∙ ap (λ l. take place old ++ l) (take-replicate (place - length old) (place + length bytes - length old) 0 (omega arith)) in
    let behind : drop (place + length bytes) grown ≡ drop (place + length bytes) old =
    ap (drop (place + length bytes)) is ∙ drop-append (place + length bytes) old zeros
    ∙ ap (λ l. drop (place + length bytes) old ++ l) (drop_all (place + length bytes - length old) zeros (omega (arith, length-replicate {A = ℕ} (place + length bytes - length old) 0)))
    ∙ append-nil (drop (place + length bytes) old) in
    ap (λ l. l ++ bytes ++ drop (place + length bytes) grown) before ∙ ap (λ l. take place old ++ replicate (place - length old) 0 ++ bytes ++ l) behind ∙ sym (written_some old place bytes some)
