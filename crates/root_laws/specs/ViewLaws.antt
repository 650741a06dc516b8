-- What a root shows, path by path.
use Rattle.std.specs.Prelude.{◌≡◌, List}
use Rattle.std.specs.FinMap as map
use Rattle.std.specs.Option.{option_map}
use Rattle.entry_tree.specs.Atom as atom
use Rattle.entry_tree.specs.Tree.{Names, IsClosed}
use Rattle.roots_api.specs.Logs.{IsLegal, state_of}
use Rattle.roots_api.specs.States.{RootState}
use Rattle.roots_api.specs.Views.{atom_of, view_of}
use Rattle.roots_api.specs.declared.event.Event.{Event}

-- at each path stands the atom of the entry there
abbrev pub ViewsByPoint : Type 0
ViewsByPoint = (s : RootState) (path : Names) → map.get (view_of s) path ≡ option_map (atom_of s.ledger) (map.get s.tree path)

-- what a root with a legal log shows is closed under parents
abbrev pub ViewsAreClosed : Type 0
ViewsAreClosed = (log : List Event) → IsLegal log → IsClosed atom.is_dir (view_of (state_of log))
