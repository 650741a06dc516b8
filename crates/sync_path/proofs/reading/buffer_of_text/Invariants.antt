use Rattle.std.specs.Str.Iter.{split_steps}
use Rattle.std.specs.Str.Pattern.{FindsChar}
use Rattle.std.proofs.Common.{◌≡◌, string_bytes}
use Rattle.sync_path.proofs.TextParts.{Filling}
use Rattle.sync_path.proofs.reading.buffer_of_text.Given as goal

abbrev pub invariant-loop-part : goal.invariant-loop-part
invariant-loop-part l = Filling (split_steps FindsChar (λ a b. b ≡ a)) (λ x. x.now) l.part-iterator l.text (string_bytes l.buffer)
