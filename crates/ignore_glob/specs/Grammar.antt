-- The grammar of a pattern: which texts are patterns, and what each means.
use Rattle.std.specs.Prelude.{◌≡◌, ◌≢◌, ℕ, ◌≤◌, Bool, false, not, cond, ◌&&◌, ◌||◌, ◌==◌, ◌⊎◌, List, [], ◌∷◌, ◌++◌, length, IsTrue}
use Rattle.std.specs.List.{slice_split}
use Rattle.std.specs.Str.{chars}
use Rattle.ignore_glob.specs.declared.limits.TheConstants.{MAX_PARTS}
use Rattle.ignore_glob.specs.declared.piece.Piece.{Piece}
use Rattle.ignore_glob.specs.declared.piece.Piece.TheVariants as pieces
use Rattle.ignore_glob.specs.declared.piece.Part.{Part}
use Rattle.ignore_glob.specs.declared.piece.Part.TheVariants as parts

-- the characters with a meaning: `!`, `/`, `*`, `?` and `\`
abbrev pub bang : ℕ
bang = 33

abbrev pub slash : ℕ
slash = 47

abbrev pub star : ℕ
star = 42

abbrev pub question_mark : ℕ
question_mark = 63

abbrev pub backslash : ℕ
backslash = 92

-- `{` and `[`, which are kept for what patterns may mean one day
abbrev pub is_bracket : ℕ → Bool
is_bracket c = (c == 123) || (c == 91)

-- a character that stands for itself
abbrev pub is_plain : ℕ → Bool
is_plain c = not (c == star) && not (c == question_mark) && not (c == backslash) && not (is_bracket c)

-- What a pattern means. Contracts see a `Pattern` as this.
pub record Meaning : Type 0 where
  pub negated : Bool
  pub anchored : Bool
  pub directories : Bool
  pub parts : List Part

-- ---- a part: the characters of its pieces, one behind the other

-- these characters are this piece: `*`, `?`, a character that stands for itself, or a `\` and any character
abbrev pub IsPiece : List ℕ → Piece → Type 0
IsPiece text pieces.Run = text ≡ star ∷ []
IsPiece text pieces.One = text ≡ question_mark ∷ []
IsPiece text (pieces.Same c) = ((text ≡ c ∷ []) × IsTrue (is_plain c)) ⊎ (text ≡ backslash ∷ c ∷ [])

-- these characters are these pieces
abbrev pub ArePieces : List ℕ → List Piece → Type 0
ArePieces text [] = text ≡ []
ArePieces text (p ∷ ps) = (front : List ℕ) × (back : List ℕ) × (text ≡ front ++ back) × IsPiece front p × ArePieces back ps

-- the text `**`
abbrev pub two_stars : List ℕ
two_stars = star ∷ star ∷ []

-- this text is this part: exactly `**` spans, and any other text is pieces, though not none
abbrev pub IsPart : List ℕ → Part → Type 0
IsPart text parts.Span = text ≡ two_stars
IsPart text (parts.Glob glob) = (text ≢ two_stars) × (text ≢ []) × ArePieces (chars text) glob

-- each of these texts is the part in its place
abbrev pub AreParts : List (List ℕ) → List Part → Type 0
AreParts [] [] = Unit {0}
AreParts [] (part ∷ more) = ⊥
AreParts (text ∷ texts) [] = ⊥
AreParts (text ∷ texts) (part ∷ more) = IsPart text part × AreParts texts more

-- ---- the whole text

-- whether the bytes begin with this one, and what is behind it if they do
abbrev pub begins_with : ℕ → List ℕ → Bool
begins_with b [] = false
begins_with b (first ∷ rest) = first == b

abbrev pub take_off : ℕ → List ℕ → List ℕ
take_off b [] = []
take_off b (first ∷ rest) = cond (first == b) rest (first ∷ rest)

-- whether the bytes end with this one, and what is before it if they do
abbrev pub ends_with : ℕ → List ℕ → Bool
ends_with b [] = false
ends_with b (last ∷ []) = last == b
ends_with b (first ∷ second ∷ rest) = ends_with b (second ∷ rest)

abbrev pub take_off_end : ℕ → List ℕ → List ℕ
take_off_end b [] = []
take_off_end b (last ∷ []) = cond (last == b) [] (last ∷ [])
take_off_end b (first ∷ second ∷ rest) = first ∷ take_off_end b (second ∷ rest)

-- a text without the `!` and then the `/` that it begins with
abbrev pub body : List ℕ → List ℕ
body text = take_off slash (take_off bang text)

-- and without the `/` that it then ends with
abbrev pub middle : List ℕ → List ℕ
middle text = take_off_end slash (body text)

-- the texts between the slashes
abbrev pub cut : List ℕ → List (List ℕ)
cut text = slice_split (λ b. b == slash) text

-- The text is a pattern of this meaning. It is read in this order: a leading `!` negates, a leading `/` behind it anchors,
-- a trailing `/` means that only directories match, and what is left isn't empty and is cut at each `/` into 1 to 64 parts.
pub record IsPattern (text : List ℕ) (p : Meaning) : Type 0 where
  pub negated : p.negated ≡ begins_with bang text
  pub anchored : p.anchored ≡ begins_with slash (take_off bang text)
  pub directories : p.directories ≡ ends_with slash (body text)
  pub some : middle text ≢ []
  pub parts : AreParts (cut (middle text)) p.parts
  pub few : length p.parts ≤ MAX_PARTS
