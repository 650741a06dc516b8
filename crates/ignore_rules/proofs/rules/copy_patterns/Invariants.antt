use Rattle.std.proofs.Common.{◌≡◌, take}
use Rattle.ignore_rules.proofs.rules.copy_patterns.Given as goal

abbrev pub invariant-loop-pattern : goal.invariant-loop-pattern
invariant-loop-pattern l = l.copied.items ≡ take l.pattern-index l.patterns
