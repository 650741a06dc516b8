-- Trees: what stands at each path, as a finite map closed under parents.
use Rattle.std.specs.Prelude.{ℕ, Bool, false, not, cond, List, [], ◌∷◌, ◌++◌, bytes_eq, IsTrue, Option, Some, None}
use Rattle.std.specs.FinMap as map
use Rattle.std.specs.List.{filter, filter_map, list_any}
use Rattle.std.specs.Option.{option_map}
use Rattle.sync_path.specs.Path.{path_cmp, is_under, parent_of}
pub use Rattle.sync_path.specs.Path.{is_below}
use Rattle.entry_tree.specs.declared.tree_error.TreeError.{TreeError}
use Rattle.entry_tree.specs.declared.tree_error.TreeError.TheVariants.{NoParent, NotDir}

-- a path, as the list of its names, each the list of its bytes
abbrev pub Names : Type 0
Names = List (List ℕ)

-- what stands at each path: a finite map from paths, in path order
abbrev pub ByPath : Type 0 → Type 0
ByPath X = map.FinMap path_cmp X

-- the name by which a path stands directly below another, if it does
abbrev pub name_below : Names → Names → Option (List ℕ)
name_below [] path = None
name_below (first ∷ []) [] = Some first
name_below (first ∷ second ∷ path) [] = None
name_below (first ∷ path) (name ∷ names) = cond (bytes_eq name first) (name_below path names) None

module _ {X : Type 0} where
  -- what an entry is among those directly below a path, if it stands there: its name and what it holds
  abbrev pub child_row : Names → Names × X → Option (List ℕ × X)
  child_row path e = option_map (λ name. (name, e.1)) (name_below e.0 path)

  -- the entries at and below a path, in path order
  abbrev pub entries_under : ByPath X → Names → List (Names × X)
  entries_under tree path = filter (λ e. is_under e.0 path) (map.entries tree)

  -- the entries below a path, in path order
  abbrev pub entries_below : ByPath X → Names → List (Names × X)
  entries_below tree path = filter (λ e. is_below e.0 path) (map.entries tree)

  -- whether anything stands below a path
  abbrev pub has_below : ByPath X → Names → Bool
  has_below tree path = list_any (λ e. is_below e.0 path) (map.entries tree)

  -- the names directly below a path, in the order of their bytes
  abbrev pub names_below : ByPath X → Names → List (List ℕ)
  names_below tree path = filter_map (λ e. name_below e.0 path) (map.entries tree)

  -- what stands directly below a path, each by its name, in the order of the names' bytes
  abbrev pub children_below : ByPath X → Names → List (List ℕ × X)
  children_below tree path = filter_map (child_row path) (map.entries tree)

  -- the tree without all at and below a path
  abbrev pub without_under : ByPath X → Names → ByPath X
  without_under tree path = map.retain_keys tree (λ q. not (is_under q path))

  -- the tree without all below a path
  abbrev pub without_below : ByPath X → Names → ByPath X
  without_below tree path = map.retain_keys tree (λ q. not (is_below q path))

  -- what the tree holds at the parent of a path; outer None for the root, which has no parent
  abbrev pub at_parent : ByPath X → Names → Option (Option X)
  at_parent tree path = option_map (map.get tree) (parent_of path)

  module _ (is_folder : X → Bool) where
    -- whether this is there, and a folder
    abbrev pub holds_folder : Option X → Bool
    holds_folder None = false
    holds_folder (Some x) = is_folder x

    -- closed under parents: the parent of each path in the tree holds a folder
    abbrev pub IsClosed : ByPath X → Type 0
    IsClosed tree =
        (path : Names) (name : List ℕ) → IsTrue (map.contains_key tree (path ++ name ∷ [])) → IsTrue (holds_folder (map.get tree path))

    -- the tree with x at a path; where x is no folder, all below is gone
    abbrev pub set_at : ByPath X → Names → X → ByPath X
    set_at tree path x = map.insert (cond (is_folder x) tree (without_below tree path)) path x

    -- why nothing can be set at a path, by what its parent holds: the root has none, and a folder takes all
    abbrev pub refusal : Option (Option X) → Option TreeError
    refusal None = None
    refusal (Some None) = Some NoParent
    refusal (Some (Some x)) = cond (is_folder x) None (Some NotDir)
