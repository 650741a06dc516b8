use Rattle.mux_frames.specs.Bytes.{bytes_of}
use Rattle.mux_frames.proofs.Shapes.{stream_continues, stream_fault}
use Rattle.mux_frames.proofs.scan.body_at.Goals as goal

pub returns-in-Short : goal.returns-in-Short
returns-in-Short c = stream_continues c.args.kind (bytes_of c.args.rest.now) (rw c.streams-low.ensures at c.in-Short.ensures.1)

pub returns-in-Bad : goal.returns-in-Bad
returns-in-Bad c = stream_fault c.args.kind (bytes_of c.args.rest.now) c.in-Bad.place c.in-Bad.ensures.0 (rw c.streams-low.ensures at c.in-Bad.ensures.1)
