-- A content in pieces.
use Rattle.std.specs.Prelude.{◌≡◌, ℕ, ◌+◌, ◌-◌, ◌/◌, max, true, false, List, [], ◌∷◌, length}
use Rattle.std.specs.List.{concat}
use Rattle.roots_api.specs.Steps.{piece_of}
use Rattle.roots_api.specs.declared.answer.Answer.TheVariants.{Piece}
use Rattle.roots_api.specs.declared.limits.TheConstants.{MAX_PIECE}

-- how many pieces a content of so many bytes has: one at least, each but the last full
abbrev pub pieces_in : ℕ → ℕ
pieces_in n = max 1 ((n + (MAX_PIECE - 1)) / MAX_PIECE)

-- the pieces of a content from a byte of it on, each behind the one before, up to the last
abbrev pub ArePiecesFrom : List ℕ → ℕ → List (List ℕ) → Type 0
ArePiecesFrom content offset [] = ⊥
ArePiecesFrom content offset (bytes ∷ []) = piece_of content offset ≡ Piece bytes true
ArePiecesFrom content offset (bytes ∷ next ∷ more) = (piece_of content offset ≡ Piece bytes false) × ArePiecesFrom content (offset + MAX_PIECE) (next ∷ more)

-- the pieces from the start on, joined, are the content
abbrev pub PiecesJoin : Type 0
PiecesJoin = (content : List ℕ) (pieces : List (List ℕ)) → ArePiecesFrom content 0 pieces → concat pieces ≡ content

-- and there are so many
abbrev pub PiecesCount : Type 0
PiecesCount = (content : List ℕ) (pieces : List (List ℕ)) → ArePiecesFrom content 0 pieces → length pieces ≡ pieces_in (length content)
