-- Which operations can be asked, and which edits can be made: what the types of their fields keep.
use Rattle.std.specs.Prelude.{IsTrue, ⊤, Option, Some, None}
use Rattle.sync_path.specs.Path.{IsPath}
use Rattle.entry_tree.specs.Digest.{IsDigest}
use Rattle.entry_tree.specs.Entry.{is_tracked}
use Rattle.entry_tree.specs.Text.{IsText}
use Rattle.entry_tree.specs.declared.entry.Entry.{Entry}
use Rattle.entry_tree.specs.declared.entry.Entry.TheVariants as entry
use Rattle.roots_api.specs.Expected.{is_leaf, is_file}
use Rattle.roots_api.specs.declared.edit.Edit.{Edit}
use Rattle.roots_api.specs.declared.edit.Edit.TheVariants as edit
use Rattle.roots_api.specs.declared.op.Op.{Op}
use Rattle.roots_api.specs.declared.op.Op.TheVariants.{List as OpList, Fetch, StageClear, StageOpen, StageAppend, StageKeep, Place, MakeDir, MakeLink, Remove, SetExec}

-- an entry that there can be: the text of a link is one
abbrev pub IsEntry : Entry → Type 0
IsEntry entry.Dir = ⊤
IsEntry (entry.File stamp exec) = ⊤
IsEntry (entry.Link text) = IsText text
IsEntry entry.Other = ⊤

-- what can be replaced: nothing, a file or a link
abbrev pub IsReplaced : Option Entry → Type 0
IsReplaced None = ⊤
IsReplaced (Some expected) = IsTrue (is_leaf expected) × IsEntry expected

-- An operation that can be asked: its path is one, its digest has 32 bytes, its text is one, and it expects a file or a link
-- in place of which it puts something, a folder, a file or a link that it takes away, a file whose bit it sets.
abbrev pub IsAsked : Op → Type 0
IsAsked (OpList path) = IsPath path
IsAsked (Fetch path stamp offset) = IsPath path
IsAsked StageClear = ⊤
IsAsked StageOpen = ⊤
IsAsked (StageAppend bytes) = ⊤
IsAsked (StageKeep digest) = IsDigest digest
IsAsked (Place path digest exec expected) = IsPath path × IsDigest digest × IsReplaced expected
IsAsked (MakeDir path) = IsPath path
IsAsked (MakeLink path text expected) = IsPath path × IsText text × IsReplaced expected
IsAsked (Remove path expected) = IsPath path × IsTrue (is_tracked expected) × IsEntry expected
IsAsked (SetExec path expected on) = IsPath path × IsTrue (is_file expected)

-- an edit that can be made: its path is one, and so is its text
abbrev pub IsMade : Edit → Type 0
IsMade (edit.Put path bytes) = IsPath path
IsMade (edit.Link path text) = IsPath path × IsText text
IsMade (edit.Dir path) = IsPath path
IsMade (edit.Other path) = IsPath path
IsMade (edit.SetExec path on) = IsPath path
IsMade (edit.Del path) = IsPath path
