-- What an undisturbed change leaves: one whose operations are answered by the rows on states that follow from each other.
use Rattle.std.specs.Prelude.{◌≡◌, ◌<◌, ◌≤◌, ℕ, Bool, true, false, not, ◌&&◌, List, [], ◌∷◌, ◌++◌, length, map, reverse, Option, Some, None, is_some, if◌then◌else◌}
use Rattle.std.specs.FinMap as finite
use Rattle.std.specs.List.{filter, find, list_any}
use Rattle.std.specs.Option.{option_map, option_map_or}
use Rattle.sha2.specs.Sha256.{sha256}
use Rattle.sync_path.specs.Path.{is_under, is_below}
use Rattle.entry_tree.specs.Atom.{is_dir, is_tracked}
use Rattle.entry_tree.specs.Tree.{Names, ByPath, holds_folder}
use Rattle.entry_tree.specs.declared.atom.Atom.{Atom}
use Rattle.entry_tree.specs.declared.atom.Atom.TheVariants as atom
use Rattle.entry_tree.specs.declared.entry.Entry.{Entry}
use Rattle.entry_tree.specs.declared.entry.Entry.TheVariants as entry
use Rattle.entry_tree.specs.declared.entry.Stamp.{Stamp}
use Rattle.entry_tree.specs.declared.side.Side.{Side}
use Rattle.mode_rules.specs.Placing.{sets_bit_alone}
use Rattle.mode_rules.specs.Trees.{holds_tracked, is_blocked}
use Rattle.mode_rules.specs.declared.change.Change.{Change}
use Rattle.mode_rules.specs.declared.problem.Cause.{Cause}
use Rattle.mode_rules.specs.declared.problem.Cause.TheVariants as cause
use Rattle.mode_rules.specs.declared.problem.Problem.{Problem}
use Rattle.roots_api.specs.States.{RootState, kept_by, content_of, missing_parent}
use Rattle.roots_api.specs.Steps.{answer_of, after}
use Rattle.roots_api.specs.Views.{atom_of}
use Rattle.transition_plan.specs.Courses.{course_of, next_op, problems_of}
use Rattle.transition_plan.specs.Stepping.{entry_of}
use Rattle.transition_laws.specs.Turns.{Turn, AreTurns, course_with}

-- ---- the turns, and the states before and behind them

-- each operation is answered by its row, on the states that follow from each other from this one on
abbrev pub AreAnswered : ℕ → RootState → List Turn → Type 0
AreAnswered id s [] = Unit {0}
AreAnswered id s (t ∷ ts) = (t.answer ≡ Some (answer_of s id t.op)) × AreAnswered id (after s id t.op (answer_of s id t.op)) ts

-- the state behind all of them
abbrev pub state_behind : ℕ → RootState → List Turn → RootState
state_behind id s [] = s
state_behind id s (t ∷ ts) = state_behind id (after s id t.op (answer_of s id t.op)) ts

-- ---- which paths stay

-- A tree at and below a path. Only a folder has anything below it.
pub record IsPartOfTree (tree : ByPath Atom) (at : Names) : Type 0 where
  pub within : (p : Names) → is_some (finite.get tree p) ≡ true → is_under p at ≡ true
  pub folders : (p r : Names) → is_some (finite.get tree r) ≡ true → is_below r p ≡ true → is_under p at ≡ true → holds_folder is_dir (finite.get tree p) ≡ true

-- whether an entry isn't tracked: it is untracked, or a problem
abbrev pub is_let_be : Names × Atom → Bool
is_let_be e = not (is_tracked e.1)

-- whether a tree holds anything that isn't tracked
abbrev pub has_let_be : ByPath Atom → Bool
has_let_be tree = list_any is_let_be (finite.entries tree)

-- whether it holds such a thing below a path
abbrev pub has_let_be_below : ByPath Atom → Names → Bool
has_let_be_below tree p = list_any (λ (e : Names × Atom). is_let_be e && is_below e.0 p) (finite.entries tree)

-- whether a path lies below such a thing
abbrev pub is_beneath_let_be : ByPath Atom → Names → Bool
is_beneath_let_be tree p = list_any (λ (e : Names × Atom). is_let_be e && is_below p e.0) (finite.entries tree)

-- A FOLDER STAYS where something below it isn't tracked.
abbrev pub stays : ByPath Atom → Names → Bool
stays tree p = holds_folder is_dir (finite.get tree p) && has_let_be_below tree p

-- All else that is tracked goes.
abbrev pub goes : ByPath Atom → Names → Bool
goes tree p = holds_tracked (finite.get tree p) && not (stays tree p)

-- ---- where a change begins

-- an entry stands at a path in place of an atom: it has the stamp that was handed in, whose content has the atom's digest
pub record StandsFor (s : RootState) (stamps : ByPath Stamp) (p : Names) (a : Atom) : Type 0 where
  pub found : Entry
  pub there : finite.get s.tree p ≡ Some found
  pub expected : entry_of stamps p a ≡ Some found
  pub shown : atom_of s.ledger found ≡ a

-- A STATE AGREES WITH A TREE at and below a path. What is tracked stands there, with its stamp; something stands where the tree holds what isn't tracked;
-- nothing else stands there, but below such things; and the path's parent is a folder.
pub record Agrees (s : RootState) (stamps : ByPath Stamp) (tree : ByPath Atom) (at : Names) : Type 0 where
  pub tracked : (p : Names) (a : Atom) → finite.get tree p ≡ Some a → is_tracked a ≡ true → StandsFor s stamps p a
  pub let_be : (p : Names) (a : Atom) → finite.get tree p ≡ Some a → is_tracked a ≡ false → is_some (finite.get s.tree p) ≡ true
  pub nothing : (p : Names) → is_under p at ≡ true → finite.get tree p ≡ None → is_beneath_let_be tree p ≡ false → finite.get s.tree p ≡ None
  pub parent : missing_parent s.tree at ≡ None

-- a session keeps a content with this digest
pub record KeepsContent (s : RootState) (id : ℕ) (digest : List ℕ) : Type 0 where
  pub bytes : List ℕ
  pub kept : kept_by s id digest ≡ Some bytes
  pub is : sha256 bytes ≡ digest

-- a change may begin on a state that agrees with its old tree, and in which all files of its new tree are kept
pub record MayBegin (s : RootState) (id : ℕ) (stamps : ByPath Stamp) (change : Change) : Type 0 where
  pub old : IsPartOfTree change.old change.at
  pub new : IsPartOfTree change.new change.at
  pub free : is_blocked (finite.get change.old change.at) ≡ false
  pub agrees : Agrees s stamps change.old change.at
  pub kept : (p : Names) (digest : List ℕ) (exec : Bool) → finite.get change.new p ≡ Some (atom.File digest exec) → KeepsContent s id digest

-- ---- what a change leaves

-- a file of this digest and bit stands there, with a stamp that isn't below this one
pub record IsFileLeft (first : ℕ) (s : RootState) (digest : List ℕ) (exec : Bool) (found : Option Entry) : Type 0 where
  pub stamp : Stamp
  pub there : found ≡ Some (entry.File stamp exec)
  pub late : first ≤ stamp.0
  pub shown : sha256 (content_of s.ledger stamp) ≡ digest

-- what stands there is an atom's entry, if there is an atom that is tracked, and else nothing
abbrev pub IsLeft : ℕ → RootState → Option Atom → Option Entry → Type 0
IsLeft first s None found = found ≡ None
IsLeft first s (Some atom.Dir) found = found ≡ Some entry.Dir
IsLeft first s (Some (atom.File digest exec)) found = IsFileLeft first s digest exec found
IsLeft first s (Some (atom.Link text)) found = found ≡ Some (entry.Link text)
IsLeft first s (Some atom.Untracked) found = found ≡ None
IsLeft first s (Some (atom.Problem kind)) found = found ≡ None

-- the least stamp that a file may have behind a change: that of the next content, where the change doesn't set a bit alone
abbrev pub least_stamp : RootState → Change → ℕ
least_stamp s change = if sets_bit_alone change then 0 else length s.ledger

-- the stamp of a file, if one stands there
abbrev pub stamp_there : Option Entry → Option Stamp
stamp_there (Some (entry.File stamp exec)) = Some stamp
stamp_there found = None

-- WHAT AN UNDISTURBED CHANGE LEAVES. Outside its path all stays. Where all that its old tree holds is tracked, its new tree's tracked atoms stand at
-- and below its path, and nothing else; a bit is set with no new stamp. Else the folders stay above what isn't tracked, all else that is tracked goes, and
-- nothing is made. All contents stay, and all that is staged.
pub record Leaves (change : Change) (old new : RootState) : Type 0 where
  pub others : (p : Names) → is_under p change.at ≡ false → finite.get new.tree p ≡ finite.get old.tree p
  pub whole : has_let_be change.old ≡ false → (p : Names) → is_under p change.at ≡ true → IsLeft (least_stamp old change) new (finite.get change.new p) (finite.get new.tree p)
  pub bit : sets_bit_alone change ≡ true → stamp_there (finite.get new.tree change.at) ≡ stamp_there (finite.get old.tree change.at)
  pub part : has_let_be change.old ≡ true → (p : Names) → is_under p change.at ≡ true → finite.get new.tree p ≡ (if goes change.old p then None else finite.get old.tree p)
  pub added : List (List ℕ)
  pub contents : new.ledger ≡ old.ledger ++ added
  pub staged : new.staging ≡ old.staging

-- ---- the problems

-- the folders that stay, in the order of their removals: the last path first
abbrev pub staying : ByPath Atom → List Names
staying tree = reverse (filter (stays tree) (finite.keys tree))

-- the paths of all that is tracked, in path order
abbrev pub tracked_paths : ByPath Atom → List Names
tracked_paths tree = map (λ (e : Names × Atom). e.0) (filter (λ (e : Names × Atom). is_tracked e.1) (finite.entries tree))

abbrev pub problem_at : Side → Names → Cause → Problem
problem_at side p why = record { side = side; path = p; cause = why }

-- a folder stays since it isn't empty, or is skipped for the first one below it that stays
abbrev pub why_stays : List Names → Names → Cause
why_stays all p = option_map_or cause.Skipped (find (λ r. is_below r p) all) cause.NotEmpty

-- what is to be made is skipped for the first folder that stays
abbrev pub skipped_for : Side → List Names → List Names → List Problem
skipped_for side [] paths = []
skipped_for side (first ∷ more) paths = map (λ p. problem_at side p (cause.Skipped first)) paths

-- THE PROBLEMS OF AN UNDISTURBED CHANGE, in the order of its operations
abbrev pub problems_left : Change → List Problem
problems_left change =
    map (λ p. problem_at change.side p (why_stays (staying change.old) p)) (staying change.old)
    ++ skipped_for change.side (staying change.old) (tracked_paths change.new)

-- ---- the laws

-- all operations of a change were answered, or skipped
abbrev pub IsAtEnd : ByPath Stamp → Change → List Turn → Type 0
IsAtEnd stamps change turns = AreTurns (course_of stamps change) turns × (next_op (course_with (course_of stamps change) turns) ≡ None)

abbrev pub UndisturbedLeaves : Type 0
UndisturbedLeaves =
    (stamps : ByPath Stamp) (change : Change) (id : ℕ) (s : RootState) (turns : List Turn) → MayBegin s id stamps change → IsAtEnd stamps change turns → AreAnswered id s turns
    → Leaves change s (state_behind id s turns)

abbrev pub UndisturbedProblems : Type 0
UndisturbedProblems =
    (stamps : ByPath Stamp) (change : Change) (id : ℕ) (s : RootState) (turns : List Turn) → MayBegin s id stamps change → IsAtEnd stamps change turns → AreAnswered id s turns
    → problems_of (course_with (course_of stamps change) turns) ≡ problems_left change
