-- How far a pattern goes along some items up to its first run.
use Rattle.std.specs.Prelude.{◌≡◌, ◌↔◌, ℕ, ◌+◌, Bool, cond, List, [], ◌∷◌, ◌++◌, ◌<◌, ◌≤◌, length, map, drop}
use denote.Ref.{Bor}
use Rattle.std.specs.Str.{chars, IsUtf8}
use Rattle.ignore_glob.specs.declared.piece.Piece.{Piece}
use Rattle.ignore_glob.specs.declared.piece.Piece.TheVariants as pieces
use Rattle.ignore_glob.specs.declared.part_match.Stretch.{Stretch}
use Rattle.ignore_glob.specs.declared.part_match.Stretch.TheVariants as stretches
use Rattle.ignore_glob.specs.declared.piece.Part.{Part}
use Rattle.ignore_glob.specs.declared.piece.Part.TheVariants as parts
use Rattle.ignore_glob.specs.declared.path_match.Reach.{Reach}
use Rattle.ignore_glob.specs.declared.path_match.Reach.TheVariants as reaches
use Rattle.ignore_glob.specs.Matching.{Matches, MatchesSuffix, MatchesPieces, MatchesParts, is_run, is_span, FitsChar, FitsName}

module _ {X P : Type 0} (is_run : P → Bool) (Fits : P → X → Type 0) where
  -- how many single items a pattern stands for
  abbrev pub width : List P → ℕ
  width [] = 0
  width (p ∷ ps) = cond (is_run p) (width ps) (1 + width ps)

  -- The front of the pattern stands for the front of the items, one for each: the whole matches just where what is left does.
  pub record Along (items : List X) (pattern : List P) (rest : List X) (left : List P) : Type 0 where
    pub taken : List X
    pub used : List P
    pub items_are : items ≡ taken ++ rest
    pub pattern_is : pattern ≡ used ++ left
    pub as_many : width used ≡ length taken
    pub on : Matches is_run Fits items pattern → Matches is_run Fits rest left
    pub back : Matches is_run Fits rest left → Matches is_run Fits items pattern

-- what a stretch of pieces found
abbrev pub Stretches : List ℕ → List Piece → Stretch → Type 0
Stretches text ps stretches.Whole = MatchesPieces text ps
Stretches text ps stretches.Fails = MatchesPieces text ps → ⊥
Stretches text ps (stretches.Run rest behind) = Along is_run FitsChar text ps (chars rest.now) (pieces.Run ∷ behind.now) × IsUtf8 rest.now

-- what is found of some end of a text that pieces match
abbrev pub FindsStretch : List ℕ → List Piece → Stretch → Type 0
FindsStretch text ps stretches.Whole = MatchesSuffix is_run FitsChar text ps
FindsStretch text ps stretches.Fails = MatchesSuffix is_run FitsChar text ps → ⊥
FindsStretch text ps (stretches.Run rest behind) =
    (MatchesSuffix is_run FitsChar text ps ↔ MatchesSuffix is_run FitsChar (chars rest.now) behind.now) × IsUtf8 rest.now × (length behind.now < length ps)

-- the names that a slice of texts holds
abbrev pub names_of : List (Bor (List ℕ)) → List (List ℕ)
names_of texts = map (λ text. text.now) texts

-- what a stretch of parts found
abbrev pub Reaches : List (List ℕ) → ℕ → List Part → ℕ → Reach → Type 0
Reaches names at ps from reaches.Whole = MatchesParts (drop at names) (drop from ps)
Reaches names at ps from reaches.Fails = MatchesParts (drop at names) (drop from ps) → ⊥
Reaches names at ps from (reaches.Span next behind) =
    Along is_span FitsName (drop at names) (drop from ps) (drop next names) (parts.Span ∷ drop behind ps) × (at ≤ next) × (next ≤ length names) × (from < behind) × (behind ≤ length ps)

-- what is found of some end of the names that parts match
abbrev pub FindsReach : List (List ℕ) → ℕ → List Part → ℕ → Reach → Type 0
FindsReach names at ps from reaches.Whole = MatchesSuffix is_span FitsName (drop at names) (drop from ps)
FindsReach names at ps from reaches.Fails = MatchesSuffix is_span FitsName (drop at names) (drop from ps) → ⊥
FindsReach names at ps from (reaches.Span next behind) =
    (MatchesSuffix is_span FitsName (drop at names) (drop from ps) ↔ MatchesSuffix is_span FitsName (drop next names) (drop behind ps)) × (next ≤ length names) × (from < behind) × (behind ≤ length ps)
