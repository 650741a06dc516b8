use Rattle.std.proofs.Common.{◌≡◌, sym, ◌∙◌, codes, rules, lit<}
use Rattle.std.proofs.lemmas.Fmt.{decimal_digit}
use Rattle.entry_tree.proofs.problem_kind.ProblemKind.read.Goals as goal

pub returns-then-eq-clause-value : goal.returns-then-eq-clause-value
returns-then-eq-clause-value c = let is : c.args.digit.now ≡ codes "1" = search rules in decimal_digit 1 (lit< tt) ∙ sym is

pub returns-then-eq-2-clause-value : goal.returns-then-eq-2-clause-value
returns-then-eq-2-clause-value c = let is : c.args.digit.now ≡ codes "2" = search rules in decimal_digit 2 (lit< tt) ∙ sym is

pub returns-then-eq-3-clause-value : goal.returns-then-eq-3-clause-value
returns-then-eq-3-clause-value c = let is : c.args.digit.now ≡ codes "3" = search rules in decimal_digit 3 (lit< tt) ∙ sym is
