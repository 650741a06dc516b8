use Rattle.std.proofs.Common.{◌≡◌, ◌++◌, drop}
use Rattle.frame_journal.specs.Reading.{payloads_of}
use Rattle.frame_journal.specs.Generation.{checkpoint_of}
use Rattle.frame_journal.proofs.generation.with_generation.Given as goal

abbrev pub invariant-loop-payload : goal.invariant-loop-payload
invariant-loop-payload l = payloads_of l.all.items ++ payloads_of (drop l.payload-index l.payloads) ≡ checkpoint_of l.number (payloads_of l.payloads)
