use Rattle.std.proofs.Common.{◌≡◌, ◌-◌, ◌<◌, ◌≤◌}
use Rattle.disk_model.specs.Disk.{OnTold}
use Rattle.frame_journal.specs.Reading.{payloads_of, ReadUpTo}
use Rattle.frame_journal.proofs.frames.read_frames.Given as goal

abbrev pub invariant-loop-payloads : goal.invariant-loop-payloads
invariant-loop-payloads g l = record {
  read : OnTold (g.D.Disk.history l.disk) (λ now. ReadUpTo (payloads_of l.payloads.items) l.place now.bytes);
  inside : l.place < l.end;
  same : g.D.Disk.history l.disk ≡ g.D.Disk.history l.fn.disk;
  counts : g.D.Disk.faults l.fn.disk ≤ g.D.Disk.faults l.disk;
  quiet : g.D.Disk.faults l.disk ≡ g.D.Disk.faults l.fn.disk;
}

abbrev pub decreases-loop-payloads : goal.decreases-loop-payloads
decreases-loop-payloads g l = l.end - l.place
