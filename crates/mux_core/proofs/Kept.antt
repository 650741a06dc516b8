-- Each law, after a run, from what holds then.
use Rattle.std.proofs.Common.{ℕ, ◌+◌, List, ◌++◌, length, ap, ◌∙◌}
use Rattle.std.specs.Prelude.{Ok}
use Rattle.std.specs.FinMap as map
use Rattle.mux_frames.specs.declared.frame.MuxFrame.{MuxFrame}
use Rattle.mux_core.specs.declared.answer.ReadAnswer.TheVariants as answers
use Rattle.mux_core.specs.Worlds.{Side, Event, Read, Reply, Answered, World, Happens, at, other}
use Rattle.mux_core.specs.Histories.{delivered}
use Rattle.mux_core.specs.Links.{payloads, windows, buffered_in}
use Rattle.mux_core.specs.JoinedLaws.{Reaches, IsInOrder, IsAllThere, IsReadToTheEnd, IsInBalance, IsWhole}
use Rattle.mux_core.proofs.Joints.{reads_prefix, reads_all, reads_end, adds_up}
use Rattle.mux_core.proofs.Joined.{end_means}
use Rattle.mux_core.proofs.Everywhere.{always, same_frames}

pub in_order : (steps : List (Event × Reply)) (w : World) → Reaches steps w → IsInOrder steps
in_order steps w r side n =
    let j = always steps w r side in
    reads_prefix side steps (at w side).end (at w (other side)).end j.f j.pair n

pub all_there : (steps : List (Event × Reply)) (w : World) → Reaches steps w → IsAllThere steps w
all_there steps w r side n s uncut at_n frames carries =
    let j = always steps w r side in
    ap (λ (fs : List MuxFrame). delivered side n steps ++ (s.buffer ++ payloads n fs)) (same_frames (at w (other side)) (at w side) frames j.f.back carries (j.carries_back uncut))
    ∙ reads_all side steps (at w side).end (at w (other side)).end j.f j.pair n s at_n

pub read_to_the_end : (steps : List (Event × Reply)) (w v : World) → Reaches steps w → (side : Side) (n most : ℕ) → Happens w (Read side n most) (Answered (Ok answers.End)) v → IsReadToTheEnd steps side n
read_to_the_end steps w v r side n most h =
    let j = always steps w r side in
    let means = end_means (at w side).end n most h.0 h.1 in
    reads_end side steps (at w side).end (at w (other side)).end j.f j.pair n means.0 means.1 means.2 means.3

pub in_balance : (steps : List (Event × Reply)) (w : World) → Reaches steps w → IsInBalance steps w
in_balance steps w r side n s uncut uncut_there at_n still there back carries carries_back =
    let j = always steps w r side in
    let ahead = same_frames (at w side) (at w (other side)) there j.f.later carries (j.carries uncut) in
    let behind = same_frames (at w (other side)) (at w side) back j.f.back carries_back (j.carries_back uncut_there) in
    ap (λ (fs : List MuxFrame). s.state.credit + length (payloads n fs) + length (buffered_in (map.get (at w (other side)).end.streams n)) + windows n back) ahead
    ∙ ap (λ (fs : List MuxFrame). s.state.credit + length (payloads n j.f.later) + length (buffered_in (map.get (at w (other side)).end.streams n)) + windows n fs) behind
    ∙ adds_up side steps (at w side).end (at w (other side)).end j.f j.pair n s uncut_there at_n still

pub whole : (steps : List (Event × Reply)) (w : World) → Reaches steps w → IsWhole w
whole steps w r side uncut =
    let j = always steps w r side in
    (j.f.later, j.carries uncut)
