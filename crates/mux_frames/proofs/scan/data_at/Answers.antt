use Rattle.std.proofs.Common.{◌≡◌, ◌<◌, List, ℕ, length, drop, take, subst, ap, arith, length-drop}
use Rattle.mux_frames.specs.declared.kind.Kind.TheVariants as kinds
use Rattle.mux_frames.specs.Prefix.{Continues, IsFault}
use Rattle.mux_frames.specs.Numbers.{value}
use Rattle.mux_frames.specs.Bytes.{bytes_of}
use Rattle.mux_frames.proofs.Shapes.{Tail, stream_number, tail_continues, tail_fault, size_continues, size_fault, payload_continues}
use Rattle.mux_frames.proofs.scan.data_at.Goals as goal

pub returns-in-Short : goal.returns-in-Short
returns-in-Short c =
    let bytes = bytes_of c.args.rest.now in
    let goes = size_continues (bytes_of c.skip.result) c.in-Short.ensures.1 in
    tail_continues kinds.Data bytes (stream_number c.args.stream bytes c.requires) (subst (Continues (Tail kinds.Data)) c.skip.ensures goes)

pub returns-in-Bad : goal.returns-in-Bad
returns-in-Bad c =
    let bytes = bytes_of c.args.rest.now in
    let fault = size_fault (bytes_of c.skip.result) c.in-Bad.place c.in-Bad.ensures.0 c.in-Bad.ensures.1 in
    tail_fault kinds.Data bytes c.in-Bad.place (stream_number c.args.stream bytes c.requires) (subst (λ (rest : List ℕ). IsFault (Tail kinds.Data) rest c.in-Bad.place) c.skip.ensures fault)

pub returns-then-len-size : goal.returns-then-len-size
returns-then-len-size c =
    let bytes = bytes_of c.args.rest.now in
    let behind = bytes_of c.skip.result in
    let behind_len : length behind ≡ length (drop 4 bytes) = ap length c.skip.ensures in
    let short : length (drop 2 behind) < value (take 2 behind) = omega (arith, length-drop 2 behind, behind_len, length-drop 4 bytes, c.in-Whole.ensures.0, c.in-Whole.ensures.2, c.len.ensures.count, c.requires.1) in
    let goes = payload_continues behind c.in-Whole.ensures.1 short in
    tail_continues kinds.Data bytes (stream_number c.args.stream bytes c.requires) (subst (Continues (Tail kinds.Data)) c.skip.ensures goes)
