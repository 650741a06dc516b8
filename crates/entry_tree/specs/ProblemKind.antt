-- The numbers that stand for the kinds of problem.
use Rattle.std.specs.Prelude.{ℕ, Bool, ◌||◌, List, codes, bytes_eq}
use Rattle.entry_tree.specs.declared.problem_kind.ProblemKind.{ProblemKind}
use Rattle.entry_tree.specs.declared.problem_kind.ProblemKind.TheVariants.{Changed, TooLarge, Failed}

-- 1 where the file changed while it was read, 2 where it is too large, 3 where it could not be read
abbrev pub problem_number : ProblemKind → ℕ
problem_number Changed = 1
problem_number TooLarge = 2
problem_number Failed = 3

-- the number of a kind of problem, as it is written
abbrev pub is_problem_text : List ℕ → Bool
is_problem_text word = bytes_eq word (codes "1") || bytes_eq word (codes "2") || bytes_eq word (codes "3")
