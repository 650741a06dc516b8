-- What the steps of the reader of atoms answer.
use Rattle.std.specs.Prelude.{◌≡◌, ℕ, cond, List, ◌++◌, codes, bytes_eq, Option, Some, None, Result, Ok, Err}
use Rattle.line_words.specs.Lines.{Item, HasWords}
use Rattle.entry_tree.specs.AtomText.{words_of, IsAtom, GoesWrong}
use Rattle.entry_tree.specs.declared.atom.Atom.{Atom}
use Rattle.entry_tree.specs.declared.atom_kind.AtomKind.{AtomKind}
use Rattle.entry_tree.specs.declared.atom_kind.AtomKind.TheVariants.{Dir, File, Link, Untracked, Problem}
use Rattle.entry_tree.specs.declared.atom_error.AtomError.{AtomError}
use Rattle.entry_tree.specs.declared.atom_error.AtomError.TheVariants.{Bad, Memory}

-- the kind that a word begins
abbrev pub kind_of_word : List ℕ → Option AtomKind
kind_of_word word =
    cond (bytes_eq word (codes "dir")) (Some Dir)
    (cond (bytes_eq word (codes "file")) (Some File)
    (cond (bytes_eq word (codes "link")) (Some Link)
    (cond (bytes_eq word (codes "untracked")) (Some Untracked)
    (cond (bytes_eq word (codes "problem")) (Some Problem) None))))

-- the word that begins a kind
abbrev pub word_of_kind : AtomKind → List ℕ
word_of_kind Dir = codes "dir"
word_of_kind File = codes "file"
word_of_kind Link = codes "link"
word_of_kind Untracked = codes "untracked"
word_of_kind Problem = codes "problem"

-- what is read of the items behind some words of an atom
abbrev pub Answers : List (List ℕ) → List Item → ℕ → Result Atom AtomError → Type 0
Answers before items end (Ok atom) = (words : List (List ℕ)) × IsAtom atom × HasWords items words × (words_of atom ≡ before ++ words)
Answers before items end (Err (Bad bad)) = GoesWrong before items end bad.place
Answers before items end (Err Memory) = (atom : Atom) × (words : List (List ℕ)) × IsAtom atom × HasWords items words × (words_of atom ≡ before ++ words)
