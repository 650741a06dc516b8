use Rattle.std.proofs.Common.{List, ℕ, subst}
use Rattle.mux_frames.specs.declared.kind.Kind.TheVariants as kinds
use Rattle.mux_frames.specs.Prefix.{Continues, IsFault}
use Rattle.mux_frames.specs.Bytes.{bytes_of}
use Rattle.mux_frames.proofs.Shapes.{Tail, stream_number, tail_continues, tail_fault}
use Rattle.mux_frames.proofs.scan.window_at.Goals as goal

pub returns-in-Short : goal.returns-in-Short
returns-in-Short c =
    let bytes = bytes_of c.args.rest.now in
    tail_continues kinds.Window bytes (stream_number c.args.stream bytes c.requires) (subst (Continues (Tail kinds.Window)) c.skip.ensures c.in-Short.ensures.1)

pub returns-in-Bad : goal.returns-in-Bad
returns-in-Bad c =
    let bytes = bytes_of c.args.rest.now in
    tail_fault kinds.Window bytes c.in-Bad.place (stream_number c.args.stream bytes c.requires) (subst (λ (rest : List ℕ). IsFault (Tail kinds.Window) rest c.in-Bad.place) c.skip.ensures c.in-Bad.ensures.1)
