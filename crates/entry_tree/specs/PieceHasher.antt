-- What a hasher has taken.
use Rattle.std.specs.Prelude.{ℕ, List}
use Rattle.sha2.specs.Hashers.{Holds256}
use Rattle.entry_tree.specs.declared.piece_hasher.PieceHasher.{PieceHasher}

-- the hasher has taken pieces which joined are these bytes
abbrev pub HasTaken : PieceHasher → List ℕ → Type 0
HasTaken hasher bytes = Holds256 hasher.inner bytes
