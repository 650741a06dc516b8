-- Pieces of which the front was read.
use Rattle.std.proofs.Common.{cond, min, inl, inr, ◌++◌, eq-eqb, ne_eqb, ◌≡◌, ℕ, ◌+◌, ◌<◌, ◌≤◌, ◌≢◌, List, [], ◌∷◌, length, take, drop, map, get_or, Vec, Global, ap, sym, ◌∙◌, refl, subst, arith}
use Rattle.std.proofs.lemmas.List.{drop_more, get_or-map, length-map, drop_all, drop-drop, length-drop, length-take, take-append-drop, append_assoc, take_at}
use Rattle.std.proofs.lemmas.Bool.Decides.{eqb_tells}
use Rattle.std.specs.List.{concat}
use Rattle.std.proofs.lemmas.List.Elements.{All-head, All-tail, All-cons}
use Rattle.outside_io.specs.MemInput.{HasNoEmpty, without_front, first_piece, after_taking}

-- the first piece that is left, and those behind it
pub pieces_at : (pieces : List (Vec ℕ Global)) (read place : ℕ) (piece : Vec ℕ Global) → read < length pieces → piece ≡ get_or pieces read piece
    → without_front place (drop read (map (λ v. v.items) pieces)) ≡ drop place piece.items ∷ drop (read + 1) (map (λ v. v.items) pieces)
pieces_at pieces read place piece within is =
    let all = map (λ (v : Vec ℕ Global). v.items) pieces in
    let in_all : read < length all = omega (arith, length-map pieces (λ (v : Vec ℕ Global). v.items)) in
    ap (without_front place) (drop_more all read [] in_all ∙ ap (λ (xs : List ℕ). xs ∷ drop (read + 1) all) (get_or-map (λ (v : Vec ℕ Global). v.items) pieces read piece [] within ∙ ap (λ (v : Vec ℕ Global). v.items) (sym is)))

-- behind the last piece nothing is left
pub pieces_past : (pieces : List (Vec ℕ Global)) (read place : ℕ) → length pieces ≤ read → without_front place (drop read (map (λ v. v.items) pieces)) ≡ []
pieces_past pieces read place past =
    let all = map (λ (v : Vec ℕ Global). v.items) pieces in
    ap (without_front place) (drop_all read all (omega (arith, length-map pieces (λ (v : Vec ℕ Global). v.items))))

pub without_front-zero : (pieces : List (List ℕ)) → without_front 0 pieces ≡ pieces
without_front-zero [] = refl
without_front-zero (piece ∷ pieces) = refl

-- where no piece is empty, the first is not
pub first_some : (all : List (List ℕ)) (piece : List ℕ) (pieces : List (List ℕ)) → HasNoEmpty all → all ≡ piece ∷ pieces → 0 < length piece
first_some all piece pieces whole is = All-head (λ (p : List ℕ). 0 < length p) piece pieces (subst HasNoEmpty is whole)

-- and where it begins, there is more of it
pub first_begun : (all : List (List ℕ)) (place : ℕ) (piece : List ℕ) (pieces : List (List ℕ)) → HasNoEmpty all → all ≡ drop place piece ∷ pieces → place < length piece
first_begun all place piece pieces whole is = omega (arith, length-drop place piece, first_some all (drop place piece) pieces whole is)

-- what is left once the first piece was taken whole
pub whole_taken : (all : List (List ℕ)) (piece : List ℕ) (pieces : List (List ℕ)) (place count : ℕ) → HasNoEmpty all → all ≡ drop place piece ∷ pieces → place + count ≡ length piece
    → HasNoEmpty (without_front 0 pieces) × (without_front 0 pieces ≡ after_taking count all)
whole_taken all piece pieces place count whole is end =
    let len : length (drop place piece) ≡ count = omega (arith, length-drop place piece) in
    let zero = without_front-zero pieces in (
      subst HasNoEmpty (sym zero) (All-tail (λ (p : List ℕ). 0 < length p) (drop place piece) pieces (subst HasNoEmpty is whole)),
      zero ∙ sym (ap (after_taking count) is ∙ ap (λ b. cond b pieces (drop count (drop place piece) ∷ pieces)) (eq-eqb _ _ len)),
    )

-- what is left once only a part of it was taken
pub part_taken : (all : List (List ℕ)) (piece : List ℕ) (pieces : List (List ℕ)) (place count : ℕ) → HasNoEmpty all → all ≡ drop place piece ∷ pieces → place + count < length piece
    → HasNoEmpty (drop (place + count) piece ∷ pieces) × (drop (place + count) piece ∷ pieces ≡ after_taking count all)
part_taken all piece pieces place count whole is more =
    let len : length (drop place piece) ≢ count = omega (arith, length-drop place piece) in (
      All-cons (λ (p : List ℕ). 0 < length p) (drop (place + count) piece) pieces (omega (arith, length-drop (place + count) piece)) (All-tail (λ (p : List ℕ). 0 < length p) (drop place piece) pieces (subst HasNoEmpty is whole)),
      ap (λ (p : List ℕ). p ∷ pieces) (sym (drop-drop count place piece)) ∙ sym (ap (after_taking count) is ∙ ap (λ b. cond b pieces (drop count (drop place piece) ∷ pieces)) (ne_eqb _ _ len)),
    )

-- what was taken and what is left make up what there was
pub taken_and_left : (all : List (List ℕ)) (n : ℕ) → n ≤ length (first_piece all) → concat all ≡ take n (first_piece all) ++ concat (after_taking n all)
taken_and_left [] n within = let none : 0 ≡ n = omega arith in ap (λ k. take k [] ++ []) none
taken_and_left (piece ∷ pieces) n within =
    let rest = drop n piece in
    let split : piece ++ concat pieces ≡ take n piece ++ (rest ++ concat pieces) = ap (λ (p : List ℕ). p ++ concat pieces) (sym (take-append-drop n piece)) ∙ append_assoc (take n piece) rest (concat pieces) in
    elim (eqb_tells (length piece) n) [
      | inl h ↦ split ∙ ap (λ (p : List ℕ). take n piece ++ (p ++ concat pieces)) (drop_all n piece (omega (arith, h.1))) ∙ sym (ap (λ b. take n piece ++ concat (cond b pieces (rest ∷ pieces))) h.0)
      | inr h ↦ split ∙ sym (ap (λ b. take n piece ++ concat (cond b pieces (rest ∷ pieces))) h.0)
    ]

-- where nothing was taken, nothing is left
pub none_left : (all : List (List ℕ)) (room n : ℕ) → HasNoEmpty all → n ≡ min (length (first_piece all)) room → n ≡ 0 → 0 < room → concat (after_taking n all) ≡ []
none_left [] room n whole is none some = refl
none_left (piece ∷ pieces) room n whole is none some = absurd (omega (arith, first_some (piece ∷ pieces) piece pieces whole refl))

-- a front that was copied stands at the front
pub copied_front : (from into : List ℕ) (n : ℕ) → n ≤ length from → take n (take n from ++ drop n into) ≡ take n from
copied_front from into n within = take_at (take n from) (drop n into) n (omega (arith, length-take n from))
