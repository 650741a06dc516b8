-- Where a text that is no pattern goes wrong: the first byte of the first offence.
use Rattle.std.specs.Prelude.{◌≡◌, ◌≢◌, ℕ, ◌+◌, ◌-◌, ◌<◌, min, ◌⊎◌, List, [], ◌∷◌, ◌++◌, length, IsTrue}
use Rattle.std.specs.List.{flat_map}
use Rattle.std.specs.Str.{chars, encode_utf8_all}
use Rattle.ignore_glob.specs.declared.piece.Piece.{Piece}
use Rattle.ignore_glob.specs.declared.piece.Part.{Part}
use Rattle.ignore_glob.specs.declared.limits.TheConstants.{MAX_PARTS, MAX_PLACE}
use Rattle.ignore_glob.specs.Grammar.{slash, backslash, is_bracket, ArePieces, AreParts, body, middle, cut}

-- what stands here in a part is no piece: a bracket that no `\` takes, or a `\` with nothing behind it
-- (so it ends the text or stands before a `/`, at which parts are cut)
abbrev pub Offends : List ℕ → Type 0
Offends [] = ⊥
Offends (c ∷ rest) = IsTrue (is_bracket c) ⊎ ((c ≡ backslash) × (rest ≡ []))

-- so many bytes into a part's text an offence stands behind whole pieces
pub record IsPieceFault (text : List ℕ) (place : ℕ) : Type 0 where
  pub front : List ℕ
  pub back : List ℕ
  pub text_is : chars text ≡ front ++ back
  pub pieces : List Piece
  pub whole : ArePieces front pieces
  pub offence : Offends back
  pub place_is : place ≡ length (encode_utf8_all front)

-- a part's text goes wrong so many bytes in: it is empty, and the `/` that ends it is the offence, or its pieces go wrong
abbrev pub IsTextFault : List ℕ → ℕ → Type 0
IsTextFault text place = ((text ≡ []) × (place ≡ 0)) ⊎ IsPieceFault text place

-- behind so many parts this text goes wrong: it is the 65th, or it is no part
abbrev pub IsPartFault : ℕ → List ℕ → ℕ → Type 0
IsPartFault number text place = ((number ≡ MAX_PARTS) × (place ≡ 0)) ⊎ ((number < MAX_PARTS) × IsTextFault text place)

-- texts with a `/` behind each
abbrev pub slashed : List (List ℕ) → List ℕ
slashed texts = flat_map (λ text. text ++ slash ∷ []) texts

-- so many bytes into what is cut into parts it goes wrong: behind whole parts stands the first text that is none
pub record IsMiddleFault (text : List ℕ) (place : ℕ) : Type 0 where
  pub before : List (List ℕ)
  pub wrong : List ℕ
  pub after : List (List ℕ)
  pub cut_is : cut text ≡ before ++ wrong ∷ after
  pub parts : List Part
  pub whole : AreParts before parts
  pub offset : ℕ
  pub fault : IsPartFault (length before) wrong offset
  pub place_is : place ≡ length (slashed before) + offset

-- the text goes wrong at this byte; where nothing is left to be cut, at its end
abbrev pub IsFault : List ℕ → ℕ → Type 0
IsFault text place = ((middle text ≡ []) × (place ≡ length text))
    ⊎ ((middle text ≢ []) × (offset : ℕ) × IsMiddleFault (middle text) offset × (place ≡ (length text - length (body text)) + offset))

-- a place as a u32: the last one stands for each from there on
abbrev pub counted : ℕ → ℕ
counted place = min place MAX_PLACE
