-- The pieces of a content join to it.
use Rattle.std.proofs.Common.{◌≡◌, ℕ, ◌+◌, ◌-◌, ◌<◌, ◌≤◌, Bool, true, false, cond, List, [], ◌∷◌, ◌++◌, length, take, drop, sym, ap, ◌∙◌, arith, nat_lt, nat_le}
use Rattle.std.specs.List.{concat}
use Rattle.std.proofs.lemmas.Bool.{leb-true, leb-false}
use Rattle.std.proofs.lemmas.List.{append-nil, take_all, take-append-drop, length-drop, drop-drop}
use Rattle.root_laws.specs.Pieces.{pieces_in, ArePiecesFrom}
use Rattle.roots_api.specs.Steps.{piece_of}
use Rattle.roots_api.specs.declared.answer.Answer.{Answer}
use Rattle.roots_api.specs.declared.answer.Answer.TheVariants.{Piece, TooLarge}
use Rattle.roots_api.specs.declared.limits.TheConstants.{MAX_FETCH, MAX_PIECE}

bytes_in : Answer (List ℕ) → List ℕ
bytes_in (Piece bytes last) = bytes
bytes_in answer = []

last_in : Answer (List ℕ) → Bool
last_in (Piece bytes last) = last
last_in answer = false

-- what a piece is
piece_is : (content : List ℕ) (offset : ℕ) (bytes : List ℕ) (last : Bool) → piece_of content offset ≡ Piece bytes last → (bytes ≡ take MAX_PIECE (drop offset content)) × (last ≡ nat_le (length content) (offset + MAX_PIECE))
unfolding bytes_in last_in
piece_is content offset bytes last h =
    elim (nat_lt MAX_FETCH (length content)) as (λ b. ◌≡◌ {A = Answer (List ℕ)} (cond b (TooLarge (length content)) (Piece (take MAX_PIECE (drop offset content)) (nat_le (length content) (offset + MAX_PIECE)))) (Piece bytes last)
    → (bytes ≡ take MAX_PIECE (drop offset content)) × (last ≡ nat_le (length content) (offset + MAX_PIECE))) [
      | true ↦ λ e. absurd (cc)
      | false ↦ λ e. (sym (ap bytes_in e), sym (ap last_in e))
    ] h

module _ (content : List ℕ) where
  last_short : (offset : ℕ) (bytes : List ℕ) → piece_of content offset ≡ Piece bytes true → length content ≤ offset + MAX_PIECE
  last_short offset bytes h = leb-true (length content) (offset + MAX_PIECE) (sym (piece_is content offset bytes true h).1)

  more_long : (offset : ℕ) (bytes : List ℕ) → piece_of content offset ≡ Piece bytes false → offset + MAX_PIECE < length content
  more_long offset bytes h = leb-false (length content) (offset + MAX_PIECE) (sym (piece_is content offset bytes false h).1)

  pub joined : (offset : ℕ) (pieces : List (List ℕ)) → ArePiecesFrom content offset pieces → concat pieces ≡ drop offset content
  joined offset [] h = absurd h
  joined offset (bytes ∷ []) h =
      let short = last_short offset bytes h in
      let rest = length-drop offset content in
      append-nil bytes ∙ (piece_is content offset bytes true h).0 ∙ take_all MAX_PIECE (drop offset content) (omega arith)
  joined offset (bytes ∷ next ∷ more) h =
      ap (λ (l : List ℕ). l ++ concat (next ∷ more)) (piece_is content offset bytes false h.0).0
      ∙ ap (λ (l : List ℕ). take MAX_PIECE (drop offset content) ++ l) (joined (offset + MAX_PIECE) (next ∷ more) h.1 ∙ sym (drop_more offset))
      ∙ take-append-drop MAX_PIECE (drop offset content)
    where
      drop_more : (offset : ℕ) → drop MAX_PIECE (drop offset content) ≡ drop (offset + MAX_PIECE) content
      drop_more offset = drop-drop MAX_PIECE offset content

  counted : (offset : ℕ) (pieces : List (List ℕ)) → ArePiecesFrom content offset pieces → length pieces ≡ pieces_in (length content - offset)
  counted offset [] h = absurd h
  counted offset (bytes ∷ []) h = let short = last_short offset bytes h in omega arith
  counted offset (bytes ∷ next ∷ more) h =
      let long = more_long offset bytes h.0 in
      let rest = counted (offset + MAX_PIECE) (next ∷ more) h.1 in
      omega arith

  pub all_counted : (pieces : List (List ℕ)) → ArePiecesFrom content 0 pieces → length pieces ≡ pieces_in (length content)
  all_counted pieces h = counted 0 pieces h ∙ ap pieces_in (whole (length content))
    where
      whole : (n : ℕ) → n - 0 ≡ n
      whole n = omega arith
