use Rattle.std.proofs.Common.{map, take}
use Rattle.std.specs.Prelude.{string_bytes}
use Rattle.ignore_rules.proofs.ReadingRules.{RulesSoFar}
use Rattle.ignore_rules.proofs.rules.read_rules.Given as goal

abbrev pub invariant-loop-index : goal.invariant-loop-index
invariant-loop-index l = RulesSoFar l.vcs (map string_bytes (take l.index l.texts)) l.patterns.items
