-- The three trees that a decision looks at: the ancestor, and what was seen of alpha and of beta.
use Rattle.std.specs.Prelude.{Bool, true, false, ◌&&◌, ◌||◌, not, List, ◌++◌, map, Option, Some, None}
use Rattle.std.specs.List.{filter, list_all}
use Rattle.std.specs.FinMap as trees
use Rattle.sync_path.specs.Path.{is_under, is_below, path_cmp}
use Rattle.entry_tree.specs.Tree.{Names, ByPath}
use Rattle.entry_tree.specs.Tree.{holds_folder as has_folder}
use Rattle.entry_tree.specs.Atom.{is_dir, is_tracked, same_atom}
use Rattle.entry_tree.specs.declared.atom.Atom.{Atom}
use Rattle.entry_tree.specs.declared.atom.Atom.TheVariants.{Dir, File, Link, Untracked, Problem}

-- the ancestor, and what was seen of the two sides
pub record Trees : Type 0 where
  pub ancestor : ByPath Atom
  pub alpha : ByPath Atom
  pub beta : ByPath Atom

-- something that is tracked stands there
abbrev pub holds_tracked : Option Atom → Bool
holds_tracked None = false
holds_tracked (Some atom) = is_tracked atom

-- something stands there that is not tracked
abbrev pub is_blocked : Option Atom → Bool
is_blocked None = false
is_blocked (Some atom) = not (is_tracked atom)

-- a folder stands there
abbrev pub holds_folder : Option Atom → Bool
holds_folder found = has_folder is_dir found

-- wherever a side is compared, what is untracked counts as nothing
abbrev pub compared : Option Atom → Option Atom
compared None = None
compared (Some Dir) = Some Dir
compared (Some (File digest executable)) = Some (File digest executable)
compared (Some (Link text)) = Some (Link text)
compared (Some Untracked) = None
compared (Some (Problem kind)) = Some (Problem kind)

-- the same stands there, or nothing on either side
abbrev pub same_there : Option Atom → Option Atom → Bool
same_there None None = true
same_there None (Some y) = false
same_there (Some x) None = false
same_there (Some x) (Some y) = same_atom x y

-- at the path the side is as the ancestor
abbrev pub is_same_at : ByPath Atom → ByPath Atom → Names → Bool
is_same_at ancestor side path = same_there (compared (trees.get side path)) (trees.get ancestor path)

-- at the path the side holds nothing, or what the ancestor holds there
abbrev pub is_less_at : ByPath Atom → ByPath Atom → Names → Bool
is_less_at ancestor side path = same_there (compared (trees.get side path)) None || is_same_at ancestor side path

-- these paths in path order, each once
abbrev pub in_order : List Names → List Names
in_order paths = trees.keys (trees.from_entries {R = path_cmp} (map (λ path. (path, tt {0})) paths))

-- each path at which one of the trees holds something, in path order
abbrev pub paths_of : Trees → List Names
paths_of t = in_order (trees.keys t.ancestor ++ trees.keys t.alpha ++ trees.keys t.beta)

-- those of them at and below a path
abbrev pub paths_at : Trees → Names → List Names
paths_at t path = filter (λ p. is_under p path) (paths_of t)

-- at and below the path the side is as the ancestor
abbrev pub same : Trees → ByPath Atom → Names → Bool
same t side path = list_all (is_same_at t.ancestor side) (paths_at t path)

-- at and below the path the side holds only what the ancestor holds in the same place
abbrev pub less : Trees → ByPath Atom → Names → Bool
less t side path = list_all (is_less_at t.ancestor side) (paths_at t path)

-- the paths at and below a path at which the side differs from the ancestor, in path order
abbrev pub differing : Trees → ByPath Atom → Names → List Names
differing t side path = filter (λ p. not (is_same_at t.ancestor side p)) (paths_at t path)

-- whether each of these paths that lies above the path is a folder on both sides
unfoldable pub is_in_folders : ByPath Atom → ByPath Atom → List Names → Names → Bool
is_in_folders alpha beta paths path =
    list_all (λ p. not (is_below path p) || (holds_folder (trees.get alpha p) && holds_folder (trees.get beta p))) paths

-- a path is decided on its own where each path above it is a folder on both sides
-- (a tree is closed under parents, so each path above one that it holds is among these)
abbrev pub is_point : Trees → Names → Bool
is_point t path = is_in_folders t.alpha t.beta (paths_of t) path
