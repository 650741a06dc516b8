use Rattle.std.proofs.Common.{◌+◌, length, ap, arith}
use Rattle.outside_io.proofs.Ranges.{range-drop}
use Rattle.outside_io.proofs.read_buffer.ReadBuffer.pass.Goals as goal

pub returns-clause-held : goal.returns-clause-held
returns-clause-held c =
    let at = c.self.inside in
    rw (← c.self.view_is) (range-drop at.bytes.items at.from at.to (c.args.place + 1) _ (omega arith) (omega (arith, ap (λ b. length b.held) c.self.view_is)))
