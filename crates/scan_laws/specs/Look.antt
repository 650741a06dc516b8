-- What a scan sees of a root where nothing changes and no call fails, said straight from the root's state.
use Rattle.std.specs.Prelude.{ℕ, Bool, true, not, ◌&&◌, cond, List, [], ◌∷◌, ◌++◌, length, nat_lt, Option, None}
use Rattle.std.specs.FinMap as map
use Rattle.std.specs.Option.{option_map}
use Rattle.sha2.specs.Sha256.{sha256}
use Rattle.entry_tree.specs.Tree.{Names}
use Rattle.entry_tree.specs.declared.atom.Atom.{Atom}
use Rattle.entry_tree.specs.declared.atom.Atom.TheVariants as atom
use Rattle.entry_tree.specs.declared.problem_kind.ProblemKind.TheVariants as problem
use Rattle.entry_tree.specs.declared.entry.Entry.{Entry}
use Rattle.entry_tree.specs.declared.entry.Entry.TheVariants as entry
use Rattle.ignore_glob.specs.Grammar.{Meaning}
use Rattle.roots_api.specs.States.{RootState, content_of}
use Rattle.scan_core.specs.Board.{left_alone}
use Rattle.scan_core.specs.Ignoring.{ignores}

-- whether the rules ignore none of the folders in which a path lies, the outermost first; `before` are the names down to here
abbrev pub is_reached_from : List Meaning → Names → Names → Bool
is_reached_from rules before [] = true
is_reached_from rules before (name ∷ names) = not (ignores rules before true) && is_reached_from rules (before ++ name ∷ []) names

abbrev pub is_reached : List Meaning → Names → Bool
is_reached rules p = is_reached_from rules [] p

module _ (s : RootState) (rules : List Meaning) (size : ℕ) where
  -- the atom of a content: Problem 2 where it has more bytes than a file may have
  abbrev pub content_atom : List ℕ → Bool → Atom
  content_atom content exec = cond (nat_lt size (length content)) (atom.Problem problem.TooLarge) (atom.File (sha256 content) exec)

  abbrev pub look_as : Entry → Atom
  look_as entry.Dir = atom.Dir
  look_as (entry.File stamp exec) = content_atom (content_of s.ledger stamp) exec
  look_as (entry.Link text) = atom.Link text
  look_as entry.Other = atom.Untracked

  abbrev pub look_atom : Names → Entry → Atom
  look_atom p entry = cond (left_alone rules p entry) atom.Untracked (look_as entry)

  -- LOOK, at a path: the atom of the entry that stands there, in folders that the rules don't ignore
  abbrev pub look_at : Names → Option Atom
  look_at p = cond (is_reached rules p) (option_map (look_atom p) (map.get s.tree p)) None
