use Rattle.std.proofs.Common.{◌≡◌, ◌++◌, drop}
use Rattle.frame_journal.specs.Layout.{frames, ArePayloads}
use Rattle.frame_journal.specs.Reading.{payloads_of}
use Rattle.frame_journal.proofs.generation.spelt.Given as goal

abbrev pub invariant-loop-payload : goal.invariant-loop-payload
invariant-loop-payload l = record {
  bytes : l.bytes.items ++ frames (payloads_of (drop l.payload-index l.payloads)) ≡ frames (payloads_of l.payloads);
  fit : ArePayloads (payloads_of (drop l.payload-index l.payloads)) → ArePayloads (payloads_of l.payloads);
}
