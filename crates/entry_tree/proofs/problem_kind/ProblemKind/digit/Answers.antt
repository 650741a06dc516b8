use Rattle.std.proofs.Common.{sym, ap, ◌∙◌, lit<}
use Rattle.std.specs.Fmt.{decimal}
use Rattle.entry_tree.specs.ProblemKind.{problem_number}
use Rattle.std.proofs.lemmas.Fmt.{decimal_digit}
use Rattle.entry_tree.proofs.problem_kind.ProblemKind.digit.Goals as goal

pub returns-in-Changed : goal.returns-in-Changed
returns-in-Changed c = sym (ap (λ kind. decimal (problem_number kind)) c.in-Changed.is ∙ decimal_digit 1 (lit< tt))

pub returns-in-TooLarge : goal.returns-in-TooLarge
returns-in-TooLarge c = sym (ap (λ kind. decimal (problem_number kind)) c.in-TooLarge.is ∙ decimal_digit 2 (lit< tt))

pub returns-in-Failed : goal.returns-in-Failed
returns-in-Failed c = sym (ap (λ kind. decimal (problem_number kind)) c.in-Failed.is ∙ decimal_digit 3 (lit< tt))
