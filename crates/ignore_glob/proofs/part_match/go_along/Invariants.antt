use Rattle.std.proofs.Common.{length}
use Rattle.std.specs.Str.{chars}
use denote.Text.{Utf8}
use denote.Shadow.{shadow}
use Rattle.ignore_glob.specs.Matching.{is_run, FitsChar}
use Rattle.ignore_glob.specs.Stretch.{Along}
use Rattle.ignore_glob.proofs.part_match.go_along.Given as goal

abbrev pub invariant-loop-piece : goal.invariant-loop-piece
invariant-loop-piece l = shadow (Utf8 l.rest) × Along is_run FitsChar (chars l.fn.text) l.fn.pieces (chars l.rest) l.left

abbrev pub decreases-loop-piece : goal.decreases-loop-piece
decreases-loop-piece l = length l.left
