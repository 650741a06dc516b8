-- What the steps of a reading find.
use Rattle.std.specs.Prelude.{◌≡◌, ℕ, ◌≤◌, List, [], ◌∷◌, ◌++◌, length, ◌+◌, Result, Ok, Err, Option, Some, None}
use denote.Ref.{Bor}
use Rattle.std.specs.Global.{Vec}
use Rattle.std.specs.Str.{chars}
use Rattle.ignore_glob.specs.declared.piece.Piece.{Piece}
use Rattle.ignore_glob.specs.declared.piece.Part.{Part}
use Rattle.ignore_glob.specs.declared.fault.Fault.{Fault}
use Rattle.ignore_glob.specs.declared.fault.Fault.TheVariants as faults
use Rattle.ignore_glob.specs.declared.limits.TheConstants.{MAX_PARTS}
use Rattle.ignore_glob.specs.Grammar.{IsPiece, ArePieces, IsPart, AreParts, cut, slash}
use Rattle.ignore_glob.specs.Faults.{IsPieceFault, IsTextFault, IsMiddleFault, slashed}

-- the characters begin with this piece, and these are left
abbrev pub TakesPiece : List ℕ → Piece → List ℕ → Type 0
TakesPiece text p rest = (front : List ℕ) × (text ≡ front ++ rest) × IsPiece front p

-- a fault of a text, where P says at which place it may be
abbrev pub IsFaultOf : (ℕ → Type 0) → Fault → Type 0
IsFaultOf P (faults.At place) = P place
IsFaultOf P faults.Memory = Unit {0}

abbrev pub ReadsPieces : List ℕ → Result (Vec Piece) Fault → Type 0
ReadsPieces text (Ok pieces) = ArePieces (chars text) pieces.items
ReadsPieces text (Err fault) = IsFaultOf (IsPieceFault text) fault

abbrev pub ReadsPart : List ℕ → Result Part Fault → Type 0
ReadsPart text (Ok part) = IsPart text part
ReadsPart text (Err fault) = IsFaultOf (λ place. IsTextFault text place × (place ≤ length text)) fault

abbrev pub ReadsParts : List ℕ → Result (Vec Part) Fault → Type 0
ReadsParts text (Ok parts) = AreParts (cut text) parts.items × (length parts.items ≤ MAX_PARTS)
ReadsParts text (Err fault) = IsFaultOf (λ place. IsMiddleFault text place × (place ≤ length text)) fault

-- the texts so far are these parts, and these bytes are left to be cut
pub record PartsSoFar (text left : List ℕ) (parts : List Part) : Type 0 where
  pub before : List (List ℕ)
  pub cut_is : cut text ≡ before ++ cut left
  pub whole : AreParts before parts
  pub bytes : length text ≡ length (slashed before) + length left
  pub few : length parts ≤ MAX_PARTS

-- the first of the texts between the slashes, and what is behind the slash that ends it
abbrev pub CutsFirst : List ℕ → List ℕ → Option (Bor (List ℕ)) → Type 0
CutsFirst text first None = (cut text ≡ first ∷ []) × (first ≡ text)
CutsFirst text first (Some behind) = (cut text ≡ first ∷ cut behind.now) × (text ≡ first ++ slash ∷ behind.now)

-- the characters so far are these pieces
pub record PiecesSoFar (text rest : List ℕ) (pieces : List Piece) : Type 0 where
  pub before : List ℕ
  pub text_is : chars text ≡ before ++ chars rest
  pub whole : ArePieces before pieces
