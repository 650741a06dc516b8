use Rattle.std.proofs.Common.{◌≡◌, ◌≤◌, ◌+◌, ◌-◌, ◌^◌, None, length}
use Rattle.outside_io.specs.Reading.{rest_of}
use Rattle.outside_io.specs.Taking.{CountsTaken}
use Rattle.script_engine.specs.World.{world_of}
use Rattle.script_engine.proofs.RunLemmas.{HasDone}
use Rattle.script_engine.proofs.script.run_lines.Given as goal

-- the lines so far are done, and their replies are written
abbrev pub invariant-lines : goal.invariant-lines
invariant-lines g l = record {
  done : HasDone (g.S.Source.left l.initial.source) (rest_of l.reader (g.S.Source.left l.source))
      (g.K.Sink.written l.initial.sink) (g.K.Sink.written l.sink) l.initial.roots (world_of l.roots l.session);
  counted : CountsTaken (g.S.Source.left l.initial.source) 0 (g.S.Source.left l.source) l.reader.taken;
  going : l.reader.stuck ≡ None;
  reads : g.S.Source.faults l.initial.source ≤ g.S.Source.faults l.source;
  writes : g.K.Sink.faults l.initial.sink ≤ g.K.Sink.faults l.sink;
}

-- what is held, and what may still be taken
abbrev pub decreases-lines : goal.decreases-lines
decreases-lines g l = (2 ^ 30 - l.reader.taken) + length l.reader.held
