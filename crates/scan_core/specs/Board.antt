-- What a scan makes of what it is answered: what it has seen, and what it still asks for.
use Rattle.std.specs.Prelude.{ℕ, ◌+◌, Bool, true, false, cond, List, [], ◌∷◌, ◌++◌, Option, Some, None, not, is_some}
use Rattle.std.specs.FinMap as map
use Rattle.sync_path.specs.Path.{may_follow}
use Rattle.entry_tree.specs.Atom.{is_dir}
use Rattle.entry_tree.specs.Tree.{Names, ByPath, set_at, at_parent, refusal}
use Rattle.entry_tree.specs.declared.atom.Atom.{Atom}
use Rattle.entry_tree.specs.declared.atom.Atom.TheVariants as atom
use Rattle.entry_tree.specs.declared.entry.Entry.{Entry}
use Rattle.entry_tree.specs.declared.entry.Entry.TheVariants as entry
use Rattle.entry_tree.specs.declared.entry.Stamp.{Stamp}
use Rattle.ignore_glob.specs.Grammar.{Meaning}
use Rattle.scan_cache.specs.Cache.{digest_for}
use Rattle.scan_cache.specs.declared.line.Line.{Line}
use Rattle.scan_core.specs.Ignoring.{ignores}
use Rattle.scan_core.specs.declared.board.Board.{Board}
use Rattle.scan_core.specs.declared.wanted.Next.{Next}
use Rattle.scan_core.specs.declared.wanted.Wanted.{Wanted}
use Rattle.scan_core.specs.declared.wanted.Wanted.TheVariants.{Names as WantedNames, Content}

-- as it begins: nothing is seen, and the root is to be listed
abbrev pub new_board : Board
new_board = record { next = Some (record { path = []; wanted = WantedNames }); later = map.empty; rows = 0; seen = map.empty; stamps = map.empty }

-- whether something can be seen at a path: its parent is seen as a folder, or it is the root
abbrev pub may_stand : ByPath Atom → Names → Bool
may_stand seen path = not (is_some (refusal is_dir (at_parent seen path)))

-- what is seen with an atom at a path. Nothing is seen below anything but a folder.
abbrev pub seen_with : ByPath Atom → Names → Atom → ByPath Atom
seen_with seen path atom = cond (may_stand seen path) (set_at is_dir seen path atom) seen

-- an atom is seen at a path
abbrev pub shows : Board → Names → Atom → Board
shows b path atom = record { next = b.next; later = b.later; rows = b.rows; seen = seen_with b.seen path atom; stamps = b.stamps }

-- a file with this stamp is seen at a path
abbrev pub shows_file : Board → Names → Stamp → Bool → List ℕ → Board
shows_file b path stamp exec digest =
    record { next = b.next; later = b.later; rows = b.rows; seen = seen_with b.seen path (atom.File digest exec); stamps = cond (may_stand b.seen path) (map.insert b.stamps path stamp) b.stamps }

-- what is asked for at a path comes later
abbrev pub asks : Board → Names → Wanted → Board
asks b path wanted = record { next = b.next; later = map.insert b.later path wanted; rows = b.rows; seen = b.seen; stamps = b.stamps }

-- whether an entry at a path isn't looked at further: the rules ignore it as what it is, or it is never tracked
abbrev pub left_alone : List Meaning → Names → Entry → Bool
left_alone rules path entry.Dir = ignores rules path true
left_alone rules path (entry.File stamp exec) = ignores rules path false
left_alone rules path (entry.Link text) = ignores rules path false
left_alone rules path entry.Other = true

-- a file is seen where its digest is known; else its content is asked for
abbrev pub placed_file : Board → Names → Stamp → Bool → Option (List ℕ) → Board
placed_file b path stamp exec (Some digest) = shows_file b path stamp exec digest
placed_file b path stamp exec None = asks b path (Content stamp exec)

abbrev pub placed_as : ByPath Line → Board → Names → Entry → Board
placed_as cache b path entry.Dir = asks b path WantedNames
placed_as cache b path (entry.File stamp exec) = placed_file b path stamp exec (digest_for cache path stamp)
placed_as cache b path (entry.Link text) = shows b path (atom.Link text)
placed_as cache b path entry.Other = shows b path atom.Untracked

-- What becomes of an entry at a path: what is left alone is seen as untracked; the names of a folder, and the content of a file
-- that the cache doesn't know, are asked for; and the others are seen.
abbrev pub placed : List Meaning → ByPath Line → Board → Names → Entry → Board
placed rules cache b path entry = cond (left_alone rules path entry) (shows b path atom.Untracked) (placed_as cache b path entry)

module _ (rules : List Meaning) (cache : ByPath Line) (folder : Names) where
  -- what becomes of a row of a folder
  abbrev pub with_row : Board → List ℕ × Entry → Board
  with_row b row = cond (may_follow folder row.0) (placed rules cache b (folder ++ row.0 ∷ []) row.1) b

  -- what becomes of its rows, one after another
  abbrev pub with_rows : Board → List (List ℕ × Entry) → Board
  with_rows b [] = b
  with_rows b (row ∷ rows) = with_rows (with_row b row) rows

-- so many rows more were listed
abbrev pub counts : Board → ℕ → Board
counts b rows = record { next = b.next; later = b.later; rows = b.rows + rows; seen = b.seen; stamps = b.stamps }

-- the first of what is asked for, in path order
abbrev pub first_in : List (Names × Wanted) → Option Next
first_in [] = None
first_in (e ∷ es) = Some (record { path = e.0; wanted = e.1 })

abbrev pub first_of : ByPath Wanted → Option Next
first_of later = first_in (map.entries later)

-- and what is left behind it
abbrev pub without_in : ByPath Wanted → List (Names × Wanted) → ByPath Wanted
without_in later [] = later
without_in later (e ∷ es) = map.remove later e.0

abbrev pub without_first : ByPath Wanted → ByPath Wanted
without_first later = without_in later (map.entries later)

-- the first of what is asked for comes next
abbrev pub advanced : Board → Board
advanced b = record { next = first_of b.later; later = without_first b.later; rows = b.rows; seen = b.seen; stamps = b.stamps }
