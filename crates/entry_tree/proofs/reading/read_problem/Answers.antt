use Rattle.std.proofs.Common.{rules, ◌≡◌, [], ◌∷◌, codes, subst, false, Some, take}
use Rattle.entry_tree.specs.AtomReading.{Answers}
use Rattle.entry_tree.proofs.Atoms.{refused, ended, stopped, onward}
use Rattle.std.specs.Fmt.{decimal}
use Rattle.entry_tree.specs.ProblemKind.{problem_number, is_problem_text}
use Rattle.entry_tree.proofs.Atoms.{problem_begins, problem_is_none, bad_number, short_number}
use Rattle.entry_tree.proofs.reading.read_problem.Goals as goal

pub returns-in-Some : goal.returns-in-Some
returns-in-Some c =
    let word = take c.in-Ok-Some.word.len c.read_into.new.room in
    let e : c.args.words.now ≡ record { place = c.in-Ok-Some.word.place; word = Some word } ∷ c.read_into.new.self = search rules in
    let is : decimal (problem_number c.in-Some.kind) ≡ word = search rules in
    onward (codes "problem" ∷ []) c.args.words.now c.args.end _ _ _ c.read_end.result e
    (subst (λ word. Answers (codes "problem" ∷ word ∷ []) c.read_into.new.self c.args.end c.read_end.result) is c.read_end.ensures)

pub returns-in-None : goal.returns-in-None
returns-in-None c =
    let word = take c.in-Ok-Some.word.len c.read_into.new.room in
    let e : c.args.words.now ≡ record { place = c.in-Ok-Some.word.place; word = Some word } ∷ c.read_into.new.self = search rules in
    let none : is_problem_text word ≡ false = search rules in
    rw c.bad.ensures (stopped (codes "problem" ∷ []) c.args.words.now c.args.end _ (Some word) _ e problem_begins (bad_number word none))

pub returns-in-Ok-None : goal.returns-in-Ok-None
returns-in-Ok-None c =
    let e : c.args.words.now ≡ [] = search rules in
    rw c.bad-in-Ok-None.ensures (ended (codes "problem" ∷ []) c.args.words.now c.args.end e problem_begins problem_is_none)

pub returns-in-Err : goal.returns-in-Err
returns-in-Err c =
    rw c.bad-in-Err.ensures (refused (codes "problem" ∷ []) c.args.words.now c.args.end 1 c.in-Err.word c.read_into.new.room c.read_into.new.self c.in-Err.ensures.room c.in-Err.ensures.reads problem_begins short_number)
