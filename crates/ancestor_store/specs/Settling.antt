-- Lines that lead from one tree to another, in whatever order they are taken up.
use Rattle.std.specs.Prelude.{◌≡◌, ◌⊎◌, Bool, true, List, ◌++◌, Some, None, IsTrue}
use Rattle.std.specs.FinMap as map
use Rattle.std.specs.List.{list_any, AllByRecursion}
use Rattle.std.specs.Option.{is_some}
use Rattle.entry_tree.specs.Atom.{is_dir}
use Rattle.entry_tree.specs.Tree.{Names, ByPath, set_at, without_under}
use Rattle.entry_tree.specs.declared.atom.Atom.{Atom}
use Rattle.mode_rules.specs.AncestorFold.{with_lines}
use Rattle.mode_rules.specs.declared.ancestor_line.AncestorLine.{AncestorLine}
use Rattle.mode_rules.specs.declared.ancestor_line.AncestorLine.TheVariants.{Set, Drop}
use Rattle.mode_rules.proofs.Folding.{touches_line}
use Rattle.ancestor_store.specs.declared.uptake.Uptake.{Uptake}

-- whether one of the lines decides what stands at the path
abbrev pub touched : Names → List AncestorLine → Bool
touched q lines = list_any (touches_line q) lines

-- the line says what a tree holds: it sets what stands there, or drops where nothing stands
abbrev pub Agrees : ByPath Atom → AncestorLine → Type 0
Agrees to (Set path atom) = map.get to path ≡ Some atom
Agrees to (Drop path) = map.get to path ≡ None

-- Lines that lead from one tree to another, in any order and with no memory: each says what the other holds, where the other holds something the one does
-- too, and what the two don't have in common is decided by a line.
pub record Settles (from to : ByPath Atom) (lines : List AncestorLine) : Type 0 where
  pub agree : AllByRecursion (Agrees to) lines
  pub held : (q : Names) → is_some (map.get to q) ≡ true → is_some (map.get from q) ≡ true
  pub reached : (q : Names) → (map.get from q ≡ map.get to q) ⊎ (touched q lines ≡ true)

-- the tree with a line taken up; one that sets something where nothing is held may fail
abbrev pub Places : AncestorLine → ByPath Atom → ByPath Atom → Type 0
Places (Set path atom) from next = IsTrue (map.contains_key from path) → next ≡ set_at is_dir from path atom
Places (Drop path) from next = next ≡ without_under from path

-- the lines were taken up from the first one on, and these are left
pub record IsFront (lines behind : List AncestorLine) (from next : ByPath Atom) : Type 0 where
  pub front : List AncestorLine
  pub all : lines ≡ front ++ behind
  pub folds : with_lines from front ≡ Some next

-- a line that takes nothing away: it sets a folder, or something where nothing is held
abbrev pub Adds : ByPath Atom → ByPath Atom → AncestorLine → Type 0
Adds from to (Set path atom) = (map.get to path ≡ Some atom) × ((is_dir atom ≡ true) ⊎ (map.get from path ≡ None))
Adds from to (Drop path) = ⊥

-- What is done to one tree so that it becomes another, and what takes the first part of it back.
pub record IsUptake (from to : ByPath Atom) (u : Uptake) : Type 0 where
  pub adds : AllByRecursion (Adds from to) u.adds
  pub back : AllByRecursion (Agrees from) u.back
  pub rest : AllByRecursion (Agrees to) u.rest
  pub taken_back : (q : Names) → touched q u.adds ≡ true → touched q u.back ≡ true
  pub there : (q : Names) → is_some (map.get to q) ≡ true → (is_some (map.get from q) ≡ true) ⊎ (touched q u.adds ≡ true)
  pub reached : (q : Names) → (map.get from q ≡ map.get to q) ⊎ ((touched q u.adds ≡ true) ⊎ (touched q u.rest ≡ true))

-- what the one tree holds the other does
abbrev pub IsPart : ByPath Atom → ByPath Atom → Type 0
IsPart part tree = (q : Names) (atom : Atom) → map.get part q ≡ Some atom → map.get tree q ≡ Some atom

-- what comes of lines that a part of a tree takes up
abbrev pub IsOutcome : ByPath Atom → List AncestorLine → ByPath Atom → Type 0
IsOutcome tree lines outcome = (part : ByPath Atom) × IsPart part tree × (with_lines part lines ≡ Some outcome)
