use Rattle.std.proofs.Common.{length}
use Rattle.std.specs.List.{AllByRecursion}
use Rattle.command_words.specs.Label.{IsLabel}
use Rattle.request_laws.proofs.kept.are_labels.Given as goal

-- if each of those that are left has, each has
abbrev pub invariant-loop-rest : goal.invariant-loop-rest
invariant-loop-rest l = AllByRecursion IsLabel l.rest → AllByRecursion IsLabel l.fn.labels

abbrev pub decreases-loop-rest : goal.decreases-loop-rest
decreases-loop-rest l = length l.rest
