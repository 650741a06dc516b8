-- What an edit needs, and what it makes of a root.
use Rattle.std.specs.Prelude.{Bool, false, not, cond, Option, Some, None, is_some}
use Rattle.std.specs.FinMap as map
use Rattle.entry_tree.specs.Entry.{is_dir}
use Rattle.entry_tree.specs.Tree.{Names, ByPath, holds_folder, set_at, without_under}
use Rattle.entry_tree.specs.declared.entry.Entry.{Entry}
use Rattle.entry_tree.specs.declared.entry.Entry.TheVariants as entry
use Rattle.roots_api.specs.Expected.{holds_file}
use Rattle.roots_api.specs.States.{RootState, missing_parent, with_tree, with_file, with_exec}
use Rattle.roots_api.specs.declared.edit.Edit.{Edit}
use Rattle.roots_api.specs.declared.edit.Edit.TheVariants.{Put, Link, Dir, Other, SetExec, Del}

-- a path with what stands there, where the test refuses it
abbrev pub refused_where : Bool → ByPath Entry → Names → Option (Names × Option Entry)
refused_where refused tree path = cond refused (Some (path, map.get tree path)) None

-- the first of two that is there
abbrev pub first_of : {X : Type 0} → Option X → Option X → Option X
first_of None second = second
first_of (Some x) second = Some x

-- The parent, or else the path, that isn't as the edit needs it, with what stands there. A file, a link or another thing
-- needs a parent that is a folder, and no folder at its path; a folder needs the parent, and nothing at its path; an
-- executable bit needs a file; to take away needs something there.
abbrev pub refused_at : ByPath Entry → Edit → Option (Names × Option Entry)
refused_at tree (Put path bytes) = first_of (missing_parent tree path) (refused_where (holds_folder is_dir (map.get tree path)) tree path)
refused_at tree (Link path text) = first_of (missing_parent tree path) (refused_where (holds_folder is_dir (map.get tree path)) tree path)
refused_at tree (Other path) = first_of (missing_parent tree path) (refused_where (holds_folder is_dir (map.get tree path)) tree path)
refused_at tree (Dir path) = first_of (missing_parent tree path) (refused_where (is_some (map.get tree path)) tree path)
refused_at tree (SetExec path on) = refused_where (not (holds_file (map.get tree path))) tree path
refused_at tree (Del path) = cond (is_some (map.get tree path)) None (Some (path, None))

-- what an edit makes of a root
abbrev pub edited : RootState → Edit → RootState
edited s (Put path bytes) = with_file s path bytes false
edited s (Link path text) = with_tree s (set_at is_dir s.tree path (entry.Link text))
edited s (Other path) = with_tree s (set_at is_dir s.tree path entry.Other)
edited s (Dir path) = with_tree s (set_at is_dir s.tree path entry.Dir)
edited s (SetExec path on) = with_exec s path on
edited s (Del path) = with_tree s (without_under s.tree path)
