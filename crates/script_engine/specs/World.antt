-- What a script acts on: the two roots and the session.
use Rattle.std.specs.Prelude.{ℕ, List, if◌then◌else◌, codes, Option, None, Some}
use Rattle.std.specs.Str.{bytes_eq}
use Rattle.script_engine.specs.declared.flat_roots.FlatRoots.{FlatRoots}
use Rattle.script_engine.specs.declared.flat_roots.RootName.{RootName}
use Rattle.script_engine.specs.declared.flat_roots.RootName.TheVariants.{A, B}
use Rattle.script_engine.specs.declared.session.Session.{Session}
use Rattle.script_engine.specs.Names.{ByName}

-- the two roots, and the session if one was created
pub record World : Type 0 where
  pub roots : FlatRoots
  pub session : Option Session

abbrev pub world_of : FlatRoots → Option Session → World
world_of roots session = record { roots = roots; session = session }

-- the world in which a script begins: there is no session
abbrev pub start : FlatRoots → World
start roots = world_of roots None

-- the files of a root, by their names
abbrev pub Files : Type 0
Files = ByName (List ℕ)

-- which root has the name
abbrev pub root_named : List ℕ → Option RootName
root_named word = if bytes_eq word (codes "A") then Some A else (if bytes_eq word (codes "B") then Some B else None)

abbrev pub other_root : RootName → RootName
other_root A = B
other_root B = A

-- the files that a root holds
abbrev pub files_of : FlatRoots → RootName → Files
files_of roots A = roots.a
files_of roots B = roots.b

-- the roots with these files at one of them
abbrev pub with_files : FlatRoots → RootName → Files → FlatRoots
with_files roots A files = record roots { a = files }
with_files roots B files = record roots { b = files }
