-- Matching: which lists of characters a list of pieces matches, and which lists of names a list of parts.
use Rattle.std.specs.Prelude.{◌≡◌, ℕ, Bool, true, false, List, [], ◌∷◌, ◌++◌, ◌≢◌, IsSomeAnd}
use Rattle.sync_path.specs.Path.{last_name}
use Rattle.ignore_glob.specs.Grammar.{Meaning}
use Rattle.std.specs.Bool.{MatchBool}
use Rattle.std.specs.Str.{chars}
use Rattle.ignore_glob.specs.declared.piece.Piece.{Piece}
use Rattle.ignore_glob.specs.declared.piece.Piece.TheVariants as pieces
use Rattle.ignore_glob.specs.declared.piece.Part.{Part}
use Rattle.ignore_glob.specs.declared.piece.Part.TheVariants as parts

-- Both are matched by one rule. A pattern is a list of wildcards; some are runs, and any other fits single items.
module _ {X P : Type 0} (is_run : P → Bool) (Fits : P → X → Type 0) where
  -- The items match the pattern. No wildcard matches no item. A run stands for some items at the front, also none, and what
  -- is behind them matches the others. Any other wildcard stands for the first item, which it fits.
  abbrev pub Matches : List X → List P → Type 0
  Matches items [] = items ≡ []
  Matches items (p ∷ ps) = MatchBool (is_run p)
      ((front : List X) × (back : List X) × (items ≡ front ++ back) × Matches back ps)
      ((first : X) × (rest : List X) × (items ≡ first ∷ rest) × Fits p first × Matches rest ps)

  -- some end of the items matches the pattern
  abbrev pub MatchesSuffix : List X → List P → Type 0
  MatchesSuffix items ps = (front : List X) × (back : List X) × (items ≡ front ++ back) × Matches back ps

-- whether a piece stands for any characters
abbrev pub is_run : Piece → Bool
is_run pieces.Run = true
is_run pieces.One = false
is_run (pieces.Same c) = false

-- the piece stands for this one character
abbrev pub FitsChar : Piece → ℕ → Type 0
FitsChar pieces.Run c = ⊥
FitsChar pieces.One c = Unit {0}
FitsChar (pieces.Same wanted) c = c ≡ wanted

-- the pieces match the characters
abbrev pub MatchesPieces : List ℕ → List Piece → Type 0
MatchesPieces = Matches is_run FitsChar

-- whether a part stands for any names
abbrev pub is_span : Part → Bool
is_span parts.Span = true
is_span (parts.Glob glob) = false

-- the part stands for this one name
abbrev pub FitsName : Part → List ℕ → Type 0
FitsName parts.Span name = ⊥
FitsName (parts.Glob glob) name = MatchesPieces (chars name) glob

-- the parts match the names of a path
abbrev pub MatchesParts : List (List ℕ) → List Part → Type 0
MatchesParts = Matches is_span FitsName

-- a part without an anchor matches the last name of the path, or spans
abbrev pub MatchesLast : List (List ℕ) → Part → Type 0
MatchesLast names parts.Span = Unit {0}
MatchesLast names (parts.Glob glob) = IsSomeAnd (last_name names) (λ name. MatchesPieces (chars name) glob)

-- one part without an anchor matches the last name; any other parts match the whole path
abbrev pub Covers : Bool → List Part → List (List ℕ) → Type 0
Covers true ps names = MatchesParts names ps
Covers false [] names = MatchesParts names []
Covers false (part ∷ []) names = MatchesLast names part
Covers false (part ∷ next ∷ more) names = MatchesParts names (part ∷ next ∷ more)

-- The pattern matches what lies at these names, a directory or not. The root is matched by none.
pub record IsMatch (p : Meaning) (names : List (List ℕ)) (is_dir : Bool) : Type 0 where
  pub below : names ≢ []
  pub kind : p.directories ≡ true → is_dir ≡ true
  pub covers : Covers p.anchored p.parts names
