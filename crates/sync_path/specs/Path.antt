-- Which lists of names make a path, what the text of a path is, and how paths lie to one another.
use Rattle.std.specs.Prelude.{ℕ, Bool, true, false, ◌&&◌, ◌+◌, ◌≤◌, List, [], ◌∷◌, length, nat_lt, nat_le, bytes_eq, IsTrue, Option, Some, None}
use Rattle.std.specs.declared.cmp.Ordering.{Ordering}
use Rattle.std.specs.Cmp.Lexicographic.{slice_cmp}
use Rattle.std.specs.List.{list_all, join_with_byte}
use Rattle.std.specs.Option.{option_map}
use Rattle.std.specs.Ordering.{nat_cmp}
use Rattle.sync_path.specs.Name.{is_name}
use Rattle.sync_path.specs.declared.limits.TheConstants.{MAX_DEPTH, MAX_PATH_LEN}

-- the text of a path: its names with a `/` (47) between each two, and no byte for the root
abbrev pub path_text : List (List ℕ) → List ℕ
path_text names = join_with_byte 47 names

-- These names, of the outermost folder first, make a path.
pub record IsPath (names : List (List ℕ)) : Type 0 where
  pub each_name : IsTrue (list_all is_name names)
  pub depth : length names ≤ MAX_DEPTH
  pub len : length (path_text names) ≤ MAX_PATH_LEN

-- where in a text a name begins that stands behind these: behind each of them there's a `/`
abbrev pub place_behind : List (List ℕ) → ℕ
place_behind [] = 0
place_behind (name ∷ names) = length name + 1 + place_behind names

-- whether a name of so many bytes may stand behind so many names and begin at this place
abbrev pub has_room : ℕ → ℕ → ℕ → Bool
has_room depth place len = nat_lt depth MAX_DEPTH && nat_le (place + len) MAX_PATH_LEN

-- whether these bytes may stand behind the names of a path: they are a name, not the 65th, and end by byte 4,096
abbrev pub may_follow : List (List ℕ) → List ℕ → Bool
may_follow names name = is_name name && has_room (length names) (place_behind names) (length name)

-- the names without the last one; the root has no parent
abbrev pub parent_of : List (List ℕ) → Option (List (List ℕ))
parent_of [] = None
parent_of (name ∷ []) = Some []
parent_of (name ∷ next ∷ names) = option_map (λ above. name ∷ above) (parent_of (next ∷ names))

-- the last of the names; the root has none
abbrev pub last_name : List (List ℕ) → Option (List ℕ)
last_name [] = None
last_name (name ∷ []) = Some name
last_name (name ∷ next ∷ names) = last_name (next ∷ names)

-- Path order: lists of names in order of their bytes, a prefix first. (Not the order of the texts, in which `a-b` is before `a/b`.)
abbrev pub path_cmp : List (List ℕ) → List (List ℕ) → Ordering
path_cmp = slice_cmp (slice_cmp nat_cmp)

-- whether a path lies at or below another: the other's names are the first of its own
abbrev pub is_under : List (List ℕ) → List (List ℕ) → Bool
is_under path [] = true
is_under [] (name ∷ names) = false
is_under (first ∷ path) (name ∷ names) = bytes_eq name first && is_under path names

-- whether a path lies below another: under it, and another path
abbrev pub is_below : List (List ℕ) → List (List ℕ) → Bool
is_below [] [] = false
is_below (first ∷ path) [] = true
is_below [] (name ∷ names) = false
is_below (first ∷ path) (name ∷ names) = bytes_eq name first && is_below path names
