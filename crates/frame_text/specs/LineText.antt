-- The further lines of a session's payload: what each sets or drops.
use Rattle.std.specs.Prelude.{ℕ, Bool, true, false, not, List, [], ◌∷◌, codes, IsTrue}
use Rattle.sync_path.specs.Path.{IsPath}
use Rattle.entry_tree.specs.AtomText.{words_of, IsAtom}
use Rattle.entry_tree.specs.PathWord.{path_word}
use Rattle.entry_tree.specs.declared.atom.Atom.{Atom}
use Rattle.entry_tree.specs.declared.atom.Atom.TheVariants.{Dir, File, Link, Untracked, Problem}
use Rattle.mode_rules.specs.declared.ancestor_line.AncestorLine.{AncestorLine}
use Rattle.mode_rules.specs.declared.ancestor_line.AncestorLine.TheVariants.{Set, Drop}
use Rattle.frame_text.specs.declared.version.Version.{Version}
use Rattle.frame_text.specs.declared.version.Version.TheVariants.{V1, V2}

-- the words of a line: `set`, the path and the atom, or `drop` and the path
abbrev pub words_of_line : AncestorLine → List (List ℕ)
words_of_line (Set path atom) = codes "set" ∷ path_word path ∷ words_of atom
words_of_line (Drop path) = codes "drop" ∷ path_word path ∷ []

-- whether a payload of this version may set the atom: it is tracked, and version 1 has no executable bit
abbrev pub fits : Version → Atom → Bool
fits version Dir = true
fits V1 (File digest executable) = not executable
fits V2 (File digest executable) = true
fits version (Link text) = true
fits version Untracked = false
fits version (Problem kind) = false

-- what the types of a path and an atom keep, and the atom fits the version
abbrev pub IsLine : Version → AncestorLine → Type 0
IsLine version (Set path atom) = IsPath path × IsAtom atom × IsTrue (fits version atom)
IsLine version (Drop path) = IsPath path
