-- What is left of a walk over the entries at and below a path.
use Rattle.std.specs.Prelude.{◌≡◌, Bool, ◌&&◌, cond, List, [], ◌∷◌, Option, Some, None}
use Rattle.std.specs.List.{filter}
use Rattle.std.specs.declared.ops.Bound.{Bound}
use Rattle.std.specs.declared.ops.Bound.TheVariants.{Included, Excluded, Unbounded}
use Rattle.std.specs.BTreeMap.Range.{range_contains}
use Rattle.sync_path.specs.Path.{path_cmp, is_under}
use Rattle.entry_tree.specs.Tree.{Names}

-- the first entries, as long as they are under the path
abbrev pub front_under : {X : Type 0} → Names → List (Names × X) → List (Names × X)
front_under path [] = []
front_under path (e ∷ es) = cond (is_under e.0 path) (e ∷ front_under path es) []

-- the same of what a walk has left, and nothing where it has met its end
abbrev pub left_under : {X : Type 0} → Names → Option (List (Names × X)) → List (Names × X)
left_under path None = []
left_under path (Some es) = front_under path es

-- a walk starts at the path, or right behind it
abbrev pub StartsAt : Bound Names → Names → Type 0
StartsAt (Included start) path = start ≡ path
StartsAt (Excluded start) path = start ≡ path
StartsAt Unbounded path = ⊥

-- whether a path is met by a walk from there on under the path
abbrev pub is_met : Bound Names → Names → Names → Bool
is_met start path q = range_contains path_cmp start Unbounded q && is_under q path

-- the entries under a path that stand behind another
abbrev pub left_behind : {X : Type 0} → Names → Names → List (Names × X) → List (Names × X)
left_behind path at es = filter (λ e. is_met (Excluded at) path e.0) es

-- the list has this first
pub record HasFirst {A : Type 0} (first : A) (all : List A) : Type 0 where
  pub rest : List A
  pub is : all ≡ first ∷ rest
