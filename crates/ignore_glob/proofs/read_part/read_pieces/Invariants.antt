use Rattle.std.proofs.Common.{length}
use Rattle.std.specs.Str.{chars}
use denote.Text.{Utf8}
use denote.Shadow.{shadow}
use Rattle.ignore_glob.specs.Reading.{PiecesSoFar}
use Rattle.ignore_glob.proofs.read_part.read_pieces.Given as goal

abbrev pub invariant-loop-c : goal.invariant-loop-c
invariant-loop-c l = shadow (Utf8 l.rest) × PiecesSoFar l.fn.text l.rest l.pieces.items

abbrev pub decreases-loop-c : goal.decreases-loop-c
decreases-loop-c l = length (chars l.rest)
