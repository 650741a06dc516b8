use Rattle.std.proofs.Common.{inl, inr, Ok, Err, ap, string_bytes, arith}
use Rattle.std.proofs.KnownBytes.{Keeps-refl, prepend_known-end}
use Rattle.outside_io.specs.Reading.{rest_of}
use Rattle.outside_io.proofs.TakingLemmas.{CountsTaken-trans}
use Rattle.script_engine.specs.World.{world_of}
use Rattle.script_engine.proofs.RunLemmas.{HasDone-more, Run-whole, Run-faulted, Run-spent, Run-wanting, Run-unwritten}
use Rattle.script_engine.proofs.script.run_lines.Goals as goal

pub returns-in-Ok-None-clause-run : goal.returns-in-Ok-None-clause-run
returns-in-Ok-None-clause-run g c =
    let left = g.S.Source.left in
    let written = g.K.Sink.written in
    let rest = rest_of c.lines.reader (left c.lines.source) in
    let none = ap Ok c.in-Ok-None.field-0-is in
    let ended = c.in-Ok-None.ensures.end none in
    Run-whole (left c.args.source.now) rest (left c.next.new.source) c.next.new.self.taken (written c.args.sink.now)
    (written c.lines.sink) c.args.roots.now (world_of c.lines.roots c.lines.session) c.lines.invariant.done
    (prepend_known-end rest (left c.lines.source) c.lines.reader.held (Keeps-refl rest) ended.0 ended.2) ended.3
    (CountsTaken-trans (left c.args.source.now) (left c.lines.source) (left c.next.new.source) 0 c.lines.reader.taken c.next.new.self.taken
    c.lines.invariant.counted c.in-Ok-None.ensures.counted)
    (c.in-Ok-None.ensures.met none)

pub returns-in-Err-ReadFault-clause-run : goal.returns-in-Err-ReadFault-clause-run
returns-in-Err-ReadFault-clause-run g c =
    let left = g.S.Source.left in
    let written = g.K.Sink.written in
    let fault = ap Err c.in-Err-ReadFault.field-0-is in
    Run-faulted (left c.args.source.now) (rest_of c.lines.reader (left c.lines.source)) (left c.next.new.source) c.next.new.self.taken
    (written c.args.sink.now) (written c.lines.sink) c.args.roots.now (world_of c.lines.roots c.lines.session)
    c.lines.invariant.done
    (c.in-Err-ReadFault.ensures.no_line (inl fault))
    (CountsTaken-trans (left c.args.source.now) (left c.lines.source) (left c.next.new.source) 0 c.lines.reader.taken c.next.new.self.taken
    c.lines.invariant.counted c.in-Err-ReadFault.ensures.counted)
    (c.in-Err-ReadFault.ensures.fault_before c.lines.invariant.going fault)

pub returns-in-Err-SourceSpent-clause-run : goal.returns-in-Err-SourceSpent-clause-run
returns-in-Err-SourceSpent-clause-run g c =
    let left = g.S.Source.left in
    let written = g.K.Sink.written in
    let fault = ap Err c.in-Err-SourceSpent.field-0-is in
    Run-spent (left c.args.source.now) (rest_of c.lines.reader (left c.lines.source)) (left c.next.new.source) c.next.new.self.taken
    (written c.args.sink.now) (written c.lines.sink) c.args.roots.now (world_of c.lines.roots c.lines.session)
    c.lines.invariant.done
    (c.in-Err-SourceSpent.ensures.no_line (inr fault))
    (CountsTaken-trans (left c.args.source.now) (left c.lines.source) (left c.next.new.source) 0 c.lines.reader.taken c.next.new.self.taken
    c.lines.invariant.counted c.in-Err-SourceSpent.ensures.counted)
    (c.in-Err-SourceSpent.ensures.spent fault)

pub returns-in-Err-Memory-clause-run : goal.returns-in-Err-Memory-clause-run
returns-in-Err-Memory-clause-run g c =
    let left = g.S.Source.left in
    let written = g.K.Sink.written in
    Run-wanting (left c.args.source.now) (rest_of c.lines.reader (left c.lines.source)) (left c.next.new.source) c.next.new.self.taken
    (written c.args.sink.now) (written c.lines.sink) c.args.roots.now (world_of c.lines.roots c.lines.session)
    c.lines.invariant.done
    (CountsTaken-trans (left c.args.source.now) (left c.lines.source) (left c.next.new.source) 0 c.lines.reader.taken c.next.new.self.taken
    c.lines.invariant.counted c.in-Err-Memory.ensures.counted)

pub returns-in_default-clause-run : goal.returns-in_default-clause-run
returns-in_default-clause-run g c =
    let left = g.S.Source.left in
    let written = g.K.Sink.written in
    rw c.in_default.ensures.err.0 (Run-wanting (left c.args.source.now) (rest_of c.lines.reader (left c.lines.source)) (left c.next.new.source) c.next.new.self.taken
    (written c.args.sink.now) (written c.lines.sink) c.args.roots.now (world_of c.lines.roots c.lines.session)
    c.lines.invariant.done
    (CountsTaken-trans (left c.args.source.now) (left c.lines.source) (left c.next.new.source) 0 c.lines.reader.taken c.next.new.self.taken
    c.lines.invariant.counted c.in-Ok-Some.ensures.counted))

pub returns-in_default-send-clause-run : goal.returns-in_default-send-clause-run
returns-in_default-send-clause-run g c =
    let left = g.S.Source.left in
    let written = g.K.Sink.written in
    let taken = rw c.in-Ok-Some.field-0-is at c.in-Ok-Some.ensures.line in
    let part = rw c.as_bytes.ensures.value at c.in_default-send.ensures.part in
    Run-unwritten (left c.args.source.now) (rest_of c.lines.reader (left c.lines.source)) (left c.next.new.source)
    c.next.new.self.held c.next.new.self.taken (written c.args.sink.now) (written c.lines.sink) (written c.send.new.sink)
    c.args.roots.now (world_of c.lines.roots c.lines.session) (world_of c.answer.new.roots c.answer.new.session)
    c.in-Ok-Some.line (string_bytes c.in-Ok.reply) c.lines.invariant.done taken
    (CountsTaken-trans (left c.args.source.now) (left c.lines.source) (left c.next.new.source) 0 c.lines.reader.taken c.next.new.self.taken
    c.lines.invariant.counted c.in-Ok-Some.ensures.counted)
    c.in-Ok.ensures.answered part

pub lines-preserved : goal.lines-preserved
lines-preserved g c =
    let left = g.S.Source.left in
    let written = g.K.Sink.written in
    let taken = rw c.in-Ok-Some.field-0-is at c.in-Ok-Some.ensures.line in
    let sent = rw c.as_bytes.ensures.value at c.in-Ok-send.ensures.all in
    let counted = CountsTaken-trans (left c.args.source.now) (left c.lines.source) (left c.next.new.source) 0 c.lines.reader.taken
    c.next.new.self.taken c.lines.invariant.counted c.in-Ok-Some.ensures.counted in
    record {
      done = HasDone-more (left c.args.source.now) (rest_of c.lines.reader (left c.lines.source)) (left c.next.new.source)
          c.next.new.self.held c.next.new.self.taken (written c.args.sink.now) (written c.lines.sink) (written c.send.new.sink)
          c.args.roots.now (world_of c.lines.roots c.lines.session) (world_of c.answer.new.roots c.answer.new.session)
          c.in-Ok-Some.line (string_bytes c.in-Ok.reply) c.lines.invariant.done taken counted c.in-Ok.ensures.answered sent;
      counted = counted;
      going = c.in-Ok-Some.ensures.stuck;
      reads = omega arith;
      writes = omega (arith, c.in-Ok-send.ensures.counts);
    }
