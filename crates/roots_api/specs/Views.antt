-- What a root shows: its entries as atoms.
use Rattle.std.specs.Prelude.{ℕ, List, map}
use Rattle.std.specs.FinMap as finite
use Rattle.sha2.specs.Sha256.{sha256}
use Rattle.entry_tree.specs.Tree.{ByPath}
use Rattle.entry_tree.specs.declared.atom.Atom.{Atom}
use Rattle.entry_tree.specs.declared.atom.Atom.TheVariants as atom
use Rattle.entry_tree.specs.declared.entry.Entry.{Entry}
use Rattle.entry_tree.specs.declared.entry.Entry.TheVariants.{Dir, File, Link, Other}
use Rattle.roots_api.specs.States.{RootState, content_of}

-- the atom of an entry: a file has the digest of its stamp's content and its executable bit, and what is never tracked is untracked
abbrev pub atom_of : List (List ℕ) → Entry → Atom
atom_of ledger Dir = atom.Dir
atom_of ledger (File stamp exec) = atom.File (sha256 (content_of ledger stamp)) exec
atom_of ledger (Link text) = atom.Link text
atom_of ledger Other = atom.Untracked

-- what a root in this state shows
abbrev pub view_of : RootState → ByPath Atom
view_of s = finite.from_entries (map (λ e. (e.0, atom_of s.ledger e.1)) (finite.entries s.tree))
