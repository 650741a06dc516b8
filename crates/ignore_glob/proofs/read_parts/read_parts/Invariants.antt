use Rattle.std.proofs.Common.{length}
use denote.Text.{Utf8}
use denote.Shadow.{shadow}
use Rattle.ignore_glob.specs.Reading.{PartsSoFar}
use Rattle.ignore_glob.proofs.read_parts.read_parts.Given as goal

abbrev pub invariant-loop-first : goal.invariant-loop-first
invariant-loop-first l = shadow (Utf8 l.left) × PartsSoFar l.fn.text l.left l.parts.items

abbrev pub decreases-loop-first : goal.decreases-loop-first
decreases-loop-first l = length l.left
