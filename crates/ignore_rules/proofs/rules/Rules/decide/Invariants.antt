use Rattle.std.proofs.Common.{length}
use Rattle.ignore_rules.proofs.Deciding.{Looked}
use Rattle.ignore_rules.proofs.rules.Rules.decide.Given as goal

abbrev pub invariant-loop-last : goal.invariant-loop-last
invariant-loop-last l = Looked l.fn.self l.path l.is_dir l.left

abbrev pub decreases-loop-last : goal.decreases-loop-last
decreases-loop-last l = length l.left
