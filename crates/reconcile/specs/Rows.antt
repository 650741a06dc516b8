-- Rows: paths with what each of three trees holds there.
use Rattle.std.specs.Prelude.{ℕ, Bool, false, List, [], ◌∷◌, ◌++◌, map, take, drop, Option, Some, None, if◌then◌else◌}
use Rattle.std.specs.Coded.{Coded, code_by, coded×, coded_list, coded_option, coded_ℕ}
use Rattle.std.specs.FinMap as trees
use Rattle.std.specs.List.{prefix_len}
use Rattle.std.specs.Ordering.{is_lt, eq_by_cmp}
use Rattle.sync_path.specs.Path.{path_cmp}
use Rattle.entry_tree.specs.Tree.{Names}
use Rattle.entry_tree.specs.contracts.atom.Atom.{the_row}
use Rattle.entry_tree.specs.declared.atom.Atom.{Atom}
use Rattle.entry_tree.specs.declared.side.Side.{Side}
use Rattle.entry_tree.specs.declared.side.Side.TheVariants.{Alpha, Beta}
use Rattle.mode_rules.specs.Trees.{Trees, paths_of}
use Rattle.reconcile.specs.declared.part.Part.{Part}
use Rattle.reconcile.specs.declared.part.Part.TheVariants as parts
use mathlib.Core.Path.{refl}

-- what each of three trees holds at a path
pub record Three : Type 0 where
  pub ancestor : Option Atom
  pub alpha : Option Atom
  pub beta : Option Atom

abbrev pub three_code : Coded Three
three_code =
    code_by (Option Atom × (Option Atom × Option Atom)) (coded× (coded_option the_row.coded) (coded× (coded_option the_row.coded) (coded_option the_row.coded)))
    (λ three. (three.ancestor, (three.alpha, three.beta))) (λ p. record { ancestor = p.0; alpha = p.1.0; beta = p.1.1 }) (λ _. refl)

-- a path, and what each of three trees holds there
abbrev pub PathThree : Type 0
PathThree = Names × Three

abbrev pub row_code : Coded PathThree
row_code = coded× (coded_list (coded_list coded_ℕ)) three_code

-- what the trees hold at a path
abbrev pub row_of : Trees → Names → PathThree
row_of t path = (path, record { ancestor = trees.get t.ancestor path; alpha = trees.get t.alpha path; beta = trees.get t.beta path })

-- the rows of three trees, in path order
abbrev pub rows_of : Trees → List PathThree
rows_of t = map (row_of t) (paths_of t)

-- what a side holds at the row's path
abbrev pub on_side : Three → Side → Option Atom
on_side three Alpha = three.alpha
on_side three Beta = three.beta

-- nothing in any of the trees
abbrev pub nothing : Three
nothing = record { ancestor = None; alpha = None; beta = None }

-- the same, with what one of the trees holds
abbrev pub with_part : Part → Three → Atom → Three
with_part parts.Ancestor three atom = record { ancestor = Some atom; alpha = three.alpha; beta = three.beta }
with_part parts.Alpha three atom = record { ancestor = three.ancestor; alpha = Some atom; beta = three.beta }
with_part parts.Beta three atom = record { ancestor = three.ancestor; alpha = three.alpha; beta = Some atom }

-- how many of the rows, from the first on, stand before the path
abbrev pub front_len : Names → List PathThree → ℕ
front_len path rows = prefix_len (λ row. is_lt (path_cmp row.0 path)) rows

-- what the first of the rows holds, if it is that of the path
abbrev pub held_at : Names → List PathThree → Three
held_at path [] = nothing
held_at path (row ∷ rows) = if eq_by_cmp path_cmp row.0 path then row.1 else nothing

-- whether the first of the rows is that of the path
abbrev pub is_met : Names → List PathThree → Bool
is_met path [] = false
is_met path (row ∷ rows) = eq_by_cmp path_cmp row.0 path

-- the same as a number
abbrev pub met_len : Names → List PathThree → ℕ
met_len path rows = if is_met path rows then 1 else 0

-- rows with one more tree's entries, both in path order: those before an entry, the entry's, and so on
unfoldable pub joined : Part → List PathThree → List (Names × Atom) → List PathThree
joined part rows [] = rows
joined part rows (e ∷ es) =
    take (front_len e.0 rows) rows
    ++ (e.0, with_part part (held_at e.0 (drop (front_len e.0 rows) rows)) e.1)
    ∷ joined part (drop (met_len e.0 (drop (front_len e.0 rows) rows)) (drop (front_len e.0 rows) rows)) es
