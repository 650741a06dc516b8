-- Which paths rules ignore, as a test: what `Ignores` says, computed.
use Rattle.std.specs.Prelude.{ℕ, Bool, true, false, not, ◌==◌, ◌&&◌, ◌||◌, cond, List, [], ◌∷◌, Option, Some, None}
use Rattle.std.specs.Str.{chars}
use Rattle.sync_path.specs.Path.{last_name}
use Rattle.ignore_glob.specs.Grammar.{Meaning}
use Rattle.ignore_glob.specs.Matching.{is_run, is_span}
use Rattle.ignore_glob.specs.declared.piece.Piece.{Piece}
use Rattle.ignore_glob.specs.declared.piece.Piece.TheVariants as pieces
use Rattle.ignore_glob.specs.declared.piece.Part.{Part}
use Rattle.ignore_glob.specs.declared.piece.Part.TheVariants as parts

module _ {X : Type 0} where
  -- whether there are none
  abbrev pub is_nil : List X → Bool
  is_nil [] = true
  is_nil (x ∷ xs) = false

  -- whether some end of the items passes a test
  abbrev pub some_end : (List X → Bool) → List X → Bool
  some_end test [] = test []
  some_end test (x ∷ xs) = test (x ∷ xs) || some_end test xs

  -- whether there is a first item that fits, and what is behind it passes a test
  abbrev pub first_fits : (X → Bool) → (List X → Bool) → List X → Bool
  first_fits fits test [] = false
  first_fits fits test (x ∷ xs) = fits x && test xs

module _ {X P : Type 0} where
  -- whether items match a pattern, a list of wildcards
  abbrev pub matches : (P → Bool) → (P → X → Bool) → List P → List X → Bool
  matches run fits [] items = is_nil items
  matches run fits (p ∷ ps) items = cond (run p) (some_end (matches run fits ps) items) (first_fits (fits p) (matches run fits ps) items)

-- whether a piece stands for this one character
abbrev pub fits_char : Piece → ℕ → Bool
fits_char pieces.Run c = false
fits_char pieces.One c = true
fits_char (pieces.Same wanted) c = c == wanted

-- whether a part stands for this one name
abbrev pub fits_name : Part → List ℕ → Bool
fits_name parts.Span name = false
fits_name (parts.Glob glob) name = matches is_run fits_char glob (chars name)

-- whether parts match the names of a path
abbrev pub matches_parts : List Part → List (List ℕ) → Bool
matches_parts ps names = matches is_span fits_name ps names

-- whether a glob matches this name, if there is one
abbrev pub matches_name : List Piece → Option (List ℕ) → Bool
matches_name glob None = false
matches_name glob (Some name) = matches is_run fits_char glob (chars name)

-- whether a part without an anchor matches the last name of a path, or spans
abbrev pub matches_last : Part → List (List ℕ) → Bool
matches_last parts.Span names = true
matches_last (parts.Glob glob) names = matches_name glob (last_name names)

-- whether parts, with an anchor or not, match the names of a path
abbrev pub covers : Bool → List Part → List (List ℕ) → Bool
covers true ps names = matches_parts ps names
covers false [] names = matches_parts [] names
covers false (part ∷ []) names = matches_last part names
covers false (part ∷ next ∷ more) names = matches_parts (part ∷ next ∷ more) names

-- whether a pattern matches what lies at these names, a directory or not
abbrev pub is_match : Meaning → List (List ℕ) → Bool → Bool
is_match p names is_dir = not (is_nil names) && ((not p.directories || is_dir) && covers p.anchored p.parts names)

-- what is said later, or else what was said before
abbrev pub or_else : Option Bool → Option Bool → Option Bool
or_else (Some said) before = Some said
or_else None before = before

-- what the last of the rules that matches says: whether what lies there is ignored; none where none matches
abbrev pub verdict : List Meaning → List (List ℕ) → Bool → Option Bool
verdict [] names is_dir = None
verdict (p ∷ ps) names is_dir = or_else (verdict ps names is_dir) (cond (is_match p names is_dir) (Some (not p.negated)) None)

-- whether it is said that it is ignored
abbrev pub says_so : Option Bool → Bool
says_so None = false
says_so (Some said) = said

-- whether the rules ignore what lies at these names, a directory or not
abbrev pub ignores : List Meaning → List (List ℕ) → Bool → Bool
ignores rules names is_dir = says_so (verdict rules names is_dir)
