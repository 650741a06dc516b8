use Rattle.std.specs.Str.Iter.{split_steps}
use Rattle.std.specs.Str.Pattern.{FindsChar}
use Rattle.std.proofs.Common.{◌≡◌}
use Rattle.sync_path.proofs.TextParts.{Progress}
use Rattle.sync_path.proofs.reading.bad_place.Given as goal

abbrev pub invariant-loop-part : goal.invariant-loop-part
invariant-loop-part l = Progress (split_steps FindsChar (λ a b. b ≡ a)) (λ x. x.now) l.part-iterator l.text l.depth l.place
