use Rattle.std.proofs.Common.{◌≡◌, length}
use Rattle.std.specs.List.{AllByRecursion, list_all}
use Rattle.frame_text.specs.Agreed.{sets_tracked}
use Rattle.frame_text.specs.LineText.{IsLine}
use Rattle.frame_text.specs.declared.version.Version.TheVariants.{V2}
use Rattle.frame_text.proofs.frame.all_tracked.Given as goal

abbrev pub invariant-loop-rest : goal.invariant-loop-rest
invariant-loop-rest l = (list_all sets_tracked l.fn.lines ≡ list_all sets_tracked l.rest) × (AllByRecursion (IsLine V2) l.rest → AllByRecursion (IsLine V2) l.fn.lines)

abbrev pub decreases-loop-rest : goal.decreases-loop-rest
decreases-loop-rest l = length l.rest
