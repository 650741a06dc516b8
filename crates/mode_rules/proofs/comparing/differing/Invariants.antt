use Rattle.std.proofs.Common.{◌≡◌, ◌++◌, not, drop}
use Rattle.std.specs.List.{filter}
use Rattle.sync_path.specs.Path.{is_under}
use Rattle.mode_rules.specs.Trees.{is_same_at}
use Rattle.mode_rules.proofs.comparing.differing.Given as goal

-- what was found, and what is still to be found, is all that is to be found
abbrev pub invariant-loop-other : goal.invariant-loop-other
invariant-loop-other l =
    l.found ++ filter (λ p. not (is_same_at l.ancestor l.side p)) (filter (λ p. is_under p l.path) (drop l.other-index l.paths))
    ≡ filter (λ p. not (is_same_at l.ancestor l.side p)) (filter (λ p. is_under p l.path) l.paths)
