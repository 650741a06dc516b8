-- The order of a change's operations, and what it spares the code: what an operation rests on is told by two of those that weren't done.
use Rattle.std.specs.Prelude.{◌≡◌, ℕ, ◌-◌, Bool, true, false, not, ◌&&◌, ◌||◌, List, [], ◌∷◌, length, Option, Some, None, if◌then◌else◌}
use Rattle.std.specs.List.{AllByRecursion, slice_get}
use Rattle.sync_path.specs.Path.{path_cmp, is_below}
use Rattle.std.specs.declared.cmp.Ordering.TheVariants.{Less}
use Rattle.entry_tree.specs.Tree.{Names}
use Rattle.mode_rules.specs.PointLaws.{EachPair}
use Rattle.roots_api.specs.declared.op.Op.{Op}
use Rattle.roots_api.specs.declared.op.Op.TheVariants.{Place, MakeDir, MakeLink, Remove}
use Rattle.transition_plan.specs.Courses.{is_blocked}
use Rattle.transition_plan.specs.Resting.{rests_on}
use Rattle.transition_plan.specs.declared.step.Step.{Step}
use Rattle.transition_plan.specs.declared.undone.Undone.{Undone}

-- behind the removal of a path, only paths before it are removed
abbrev pub MayFollowRemoval : Names → Op → Type 0
MayFollowRemoval path (Remove next expected) = path_cmp next path ≡ Less
MayFollowRemoval path op = Unit {0}

-- behind the making of a folder nothing is removed, and what is made has a path behind it
abbrev pub MayFollowFolder : Names → Op → Type 0
MayFollowFolder path (Remove next expected) = ⊥
MayFollowFolder path (MakeDir next) = path_cmp path next ≡ Less
MayFollowFolder path (Place next digest executable expected) = path_cmp path next ≡ Less
MayFollowFolder path (MakeLink next text expected) = path_cmp path next ≡ Less
MayFollowFolder path op = Unit {0}

-- behind all else nothing is removed
abbrev pub MayFollowOther : Op → Type 0
MayFollowOther (Remove next expected) = ⊥
MayFollowOther op = Unit {0}

-- whether, of two operations of a change, this one may stand before the other
abbrev pub MayStandBefore : Op → Op → Type 0
MayStandBefore (Remove path expected) op = MayFollowRemoval path op
MayStandBefore (MakeDir path) op = MayFollowFolder path op
MayStandBefore earlier op = MayFollowOther op

-- whether an operation rests on one that wasn't done, if there is one
abbrev pub rests_on_one : Op → Option Undone → Bool
rests_on_one op None = false
rests_on_one op (Some earlier) = rests_on op earlier.op

-- whether it rests on the first of these, or on the folder in charge
abbrev pub is_made_held : List Undone → ℕ → Op → Bool
is_made_held undone folder op = rests_on_one op (slice_get undone 0) || rests_on_one op (slice_get undone folder)

-- whether an operation rests on those that tell: a removal on the last of these, and anything else on the first, or on the folder in charge
abbrev pub is_held : List Undone → ℕ → Op → Bool
is_held undone folder (Remove path expected) = rests_on_one (Remove path expected) (slice_get undone (length undone - 1))
is_held undone folder op = is_made_held undone folder op

-- whether the first of these steps does
abbrev pub is_first_held : List Undone → ℕ → List Step → Bool
is_first_held undone folder [] = false
is_first_held undone folder (step ∷ rest) = is_held undone folder step.op

-- whether an operation makes a folder
abbrev pub is_folder : Op → Bool
is_folder (MakeDir path) = true
is_folder op = false

-- the place of the folder in charge once this operation isn't done either: the last folder that rests on none before it
abbrev pub folder_with : List Undone → ℕ → Op → ℕ
folder_with undone folder op = if is_folder op && not (is_held undone folder op) then length undone else folder

-- These steps are in order behind those that weren't done, and each that rests on one of these rests on one that tells.
pub record AreInOrder (undone : List Undone) (folder : ℕ) (rest : List Step) : Type 0 where
  pub ordered : EachPair (λ (a b : Step). MayStandBefore a.op b.op) rest
  pub behind : AllByRecursion (λ (u : Undone). AllByRecursion (λ (step : Step). MayStandBefore u.op step.op) rest) undone
  pub held : AllByRecursion (λ (step : Step). is_blocked undone step.op ≡ true → is_held undone folder step.op ≡ true) rest
