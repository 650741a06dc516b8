-- Which words spell an atom, and where the words of a line go wrong.
use Rattle.std.specs.Prelude.{◌≡◌, ℕ, Bool, true, false, ◌==◌, ◌&&◌, List, [], ◌∷◌, ◌++◌, codes, Option, Some, None}
use Rattle.std.specs.Fmt.{decimal}
use Rattle.hex.specs.Hex.{encode_lower}
use Rattle.line_words.specs.Lines.{Item, HasWords, AreBytes}
use Rattle.line_words.specs.Spelling.{written}
use Rattle.entry_tree.specs.Digest.{IsDigest}
use Rattle.entry_tree.specs.ProblemKind.{problem_number}
use Rattle.entry_tree.specs.Text.{is_text, IsText}
use Rattle.entry_tree.specs.declared.atom.Atom.{Atom}
use Rattle.entry_tree.specs.declared.atom.Atom.TheVariants.{Dir, File, Link, Untracked, Problem}

-- the word behind the digest of an executable file; behind that of another file stands none
abbrev pub executable_word : Bool → List (List ℕ)
executable_word true = codes "x" ∷ []
executable_word false = []

-- the words of an atom: that of its kind, and behind it what tells it from others of its kind. A link's text stands behind `=` (61).
abbrev pub words_of : Atom → List (List ℕ)
words_of Dir = codes "dir" ∷ []
words_of (File digest executable) = codes "file" ∷ encode_lower digest ∷ executable_word executable
words_of (Link text) = codes "link" ∷ (61 ∷ text) ∷ []
words_of Untracked = codes "untracked" ∷ []
words_of (Problem kind) = codes "problem" ∷ decimal (problem_number kind) ∷ []

-- the spelling of an atom: its words as a line has them
abbrev pub spelling_of : Atom → List ℕ
spelling_of atom = written (words_of atom)

-- what the types of a digest and of a link's text keep
abbrev pub IsAtom : Atom → Type 0
IsAtom Dir = Unit {0}
IsAtom (File digest executable) = IsDigest digest × AreBytes digest
IsAtom (Link text) = IsText text × AreBytes text
IsAtom Untracked = Unit {0}
IsAtom (Problem kind) = Unit {0}

-- `=` and the text of a link
abbrev pub is_link_text : List ℕ → Bool
is_link_text [] = false
is_link_text (b ∷ text) = (b == 61) && is_text text

-- The words of some atom begin with these.
pub record BeginsAtom (words : List (List ℕ)) : Type 0 where
  pub atom : Atom
  pub is_atom : IsAtom atom
  pub rest : List (List ℕ)
  pub is : words_of atom ≡ words ++ rest

-- no atom goes on behind these words with what stands here, a word or none
abbrev pub NoneGoesOn : List (List ℕ) → Option (List ℕ) → Type 0
NoneGoesOn words None = Unit {0}
NoneGoesOn words (Some word) = BeginsAtom (words ++ word ∷ []) → ⊥

-- behind these words a line, which ends at `end`, goes wrong at this place: at its end, if they are no atom, or at the next item
abbrev pub StopsAt : List (List ℕ) → List Item → ℕ → ℕ → Type 0
StopsAt words [] end place = (place ≡ end) × ((atom : Atom) → IsAtom atom → words_of atom ≡ words → ⊥)
StopsAt words (item ∷ rest) end place = (place ≡ item.place) × NoneGoesOn words item.word

-- Behind some words of an atom these items of a line, which ends at `end`, go wrong at this place: up to there they go on with an
-- atom, and there no atom does.
pub record GoesWrong (before : List (List ℕ)) (items : List Item) (end place : ℕ) : Type 0 where
  pub front : List Item
  pub rest : List Item
  pub words : List (List ℕ)
  pub all : items ≡ front ++ rest
  pub read : HasWords front words
  pub begun : BeginsAtom (before ++ words)
  pub stops : StopsAt (before ++ words) rest end place

-- these items of a line, which ends at `end`, are no atom, by what stands at this place
abbrev pub IsBadAtom : List Item → ℕ → ℕ → Type 0
IsBadAtom items end place = GoesWrong [] items end place
