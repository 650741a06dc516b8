-- A link is cut by a cut alone, and no pair answers as a session does.
use Rattle.std.proofs.Common.{◌≡◌, ℕ, zero, suc, ◌+◌, arith, Bool, true, false, cond, ◌||◌, eqb, leb, not, List, length, take, min, refl, sym, ap, ◌∙◌}
use Rattle.std.specs.Prelude.{Option, Some, None, Result, Ok, Err}
use Rattle.std.specs.FinMap as map
use Rattle.mux_core.specs.declared.answer.ReadAnswer.{ReadAnswer}
use Rattle.mux_core.specs.declared.answer.ReadAnswer.TheVariants as answers
use Rattle.mux_core.specs.declared.error.MuxError.{MuxError}
use Rattle.mux_core.specs.declared.error.MuxError.TheVariants as errors
use Rattle.mux_core.specs.declared.error.OpenError.{OpenError}
use Rattle.mux_core.specs.declared.error.OpenError.TheVariants as opening
use Rattle.mux_core.specs.declared.opening.TheConstants.{MAX_LIVE}
use Rattle.mux_frames.specs.declared.frame.MuxFrame.TheVariants as frames
use Rattle.mux_core.specs.Streams.{is_writable, with_state}
use Rattle.mux_core.specs.declared.stream.Stream.{Stream}
use Rattle.mux_core.specs.Ends.{End, tells, opened}
use Rattle.mux_core.specs.Calls.{open_step, last_number, write_live, accepts, read_drained, read_bytes, read_live, close_write_live, ends_writing, close_live, set, dropped}
use Rattle.mux_core.specs.Worlds.{Side, Near, Far, other, Post, World, at, with_end}
use Rattle.mux_core.proofs.Tallies.{or_false}
use Rattle.mux_core.proofs.EndSteps.{or_true}
use Rattle.mux_link.specs.declared.op.LinkOp.{LinkOp}
use Rattle.mux_link.specs.declared.op.LinkOp.TheVariants as ops
use Rattle.mux_link.specs.declared.reply.LinkReply.{LinkReply}
use Rattle.mux_link.specs.declared.reply.LinkReply.TheVariants as replies
use Rattle.mux_link.specs.Posts.{side_of}
use Rattle.mux_link.specs.Calls.{Opens, Writes, Reads, EndsWriting, Closes}
use Rattle.mux_link.specs.Moves.{Moves, Went, is_cut}
use Rattle.mux_link.specs.Steps.{Steps, is_cutting}
use Rattle.mux_link.proofs.Handing.{went_linked}

-- ---- the calls leave an end cut or not as it was

one_of : {A : Type 0} → (b : Bool) (x y : A × End) (c : Bool) → x.1.is_cut ≡ c → y.1.is_cut ≡ c → (cond b x y).1.is_cut ≡ c
one_of true x y c p q = p
one_of false x y c p q = q

one_end : (b : Bool) (x y : End) (c : Bool) → x.is_cut ≡ c → y.is_cut ≡ c → (cond b x y).is_cut ≡ c
one_end true x y c p q = p
one_end false x y c p q = q

open_cut : (e : End) → (open_step e).1.is_cut ≡ e.is_cut
open_cut e =
    let full : Result ℕ OpenError × End = (Err (opening.StreamsFull (min (map.len e.streams) MAX_LIVE)), e) in
    let done : Result ℕ OpenError × End = (Ok (e.last + 1), opened e (e.last + 1) false (frames.OpenStream (e.last + 1))) in
    one_of (leb MAX_LIVE (map.len e.streams) || eqb e.last last_number) full done e.is_cut refl refl

write_cut : (e : End) (k : ℕ) (bytes : List ℕ) (o : Option Stream) → (write_live e k bytes o).1.is_cut ≡ e.is_cut
write_cut e k bytes None = refl
write_cut e k bytes (Some s) =
    let count = min (length bytes) s.state.credit in
    let no : Result ℕ MuxError × End = (Err errors.WriteClosed, e) in
    let done : Result ℕ MuxError × End = (Ok count, accepts e k s (take count bytes)) in
    one_of (e.is_cut || not (is_writable s.state)) no done e.is_cut refl refl

drained_cut : (e : End) (k : ℕ) (s : Stream) → (read_drained e k s).1.is_cut ≡ e.is_cut
drained_cut e k s =
    let gone = dropped e k in
    let read = set e k (with_state (record s.state { end_read = true }) s) in
    let ended : ReadAnswer × End = (answers.End, cond s.state.write_ended gone read) in
    let broken : ReadAnswer × End = (answers.Broken, gone) in
    let empty : ReadAnswer × End = (answers.Empty, e) in
    one_of s.state.read_ended ended (cond (s.state.closed || e.is_cut) broken empty) e.is_cut (one_end s.state.write_ended gone read e.is_cut refl refl) (one_of (s.state.closed || e.is_cut) broken empty e.is_cut refl refl)

read_cut : (e : End) (k most : ℕ) (o : Option Stream) → (read_live e k most o).1.is_cut ≡ e.is_cut
read_cut e k most None = refl
read_cut e k most (Some s) =
    let count = min most (length s.buffer) in
    one_of (eqb count 0) (read_drained e k s) (read_bytes e k s count) e.is_cut (drained_cut e k s) refl

ends_cut : (e : End) (k : ℕ) (o : Option Stream) → (close_write_live e k o).1.is_cut ≡ e.is_cut
ends_cut e k None = refl
ends_cut e k (Some s) =
    let told = tells e (frames.CloseWrite k) in
    let no : Result Unit MuxError × End = (Err errors.WriteClosed, e) in
    let done : Result Unit MuxError × End = (Ok tt, ends_writing told k s) in
    one_of (e.is_cut || not (is_writable s.state)) no done e.is_cut refl (one_end s.state.end_read (dropped told k) (set told k (with_state (record s.state { write_ended = true }) s)) e.is_cut refl refl)

closes_cut : (e : End) (k : ℕ) (o : Option Stream) → (close_live e k o).1.is_cut ≡ e.is_cut
closes_cut e k None = refl
closes_cut e k (Some s) = refl

-- what a step leaves
left_by : {A : Type 0} → (step : A × End) (answer : A) (e after : End) → step ≡ (answer, after) → step.1.is_cut ≡ e.is_cut → after.is_cut ≡ e.is_cut
left_by {A} step answer e after is cut = sym (ap (λ (x : A × End). x.1.is_cut) is) ∙ cut

same_end : (e after : End) → after ≡ e → after.is_cut ≡ e.is_cut
same_end e after is = ap (λ (x : End). x.is_cut) is

opens : (e after : End) (reply : LinkReply) → Opens e reply after → after.is_cut ≡ e.is_cut
opens e after (replies.Opened number) h = left_by _ _ e after h.1 (open_cut e)
opens e after (replies.StreamsFull live) h = left_by _ _ e after h.1 (open_cut e)
opens e after replies.Cut h = same_end e after h.1
opens e after replies.NoMemory h = same_end e after h
opens e after reply h = absurd h

writes : (e after : End) (k : ℕ) (bytes : List ℕ) (reply : LinkReply) → Writes e k bytes reply after → after.is_cut ≡ e.is_cut
writes e after k bytes (replies.Wrote count) h = left_by _ _ e after h (write_cut e k bytes (map.get e.streams k))
writes e after k bytes replies.NoStream h = left_by _ _ e after h (write_cut e k bytes (map.get e.streams k))
writes e after k bytes replies.WriteClosed h = left_by _ _ e after h (write_cut e k bytes (map.get e.streams k))
writes e after k bytes replies.NoMemory h = same_end e after h
writes e after k bytes reply h = absurd h

reads_at : (e after : End) (k most : ℕ) (answer : ReadAnswer) → Reads e k most (replies.Read answer) after → after.is_cut ≡ e.is_cut
reads_at e after k zero answer h = same_end e after (h.1 refl).2
reads_at e after k (suc most) answer h = left_by _ _ e after (h.0 (omega arith)) (read_cut e k (suc most) (map.get e.streams k))

reads : (e after : End) (k most : ℕ) (reply : LinkReply) → Reads e k most reply after → after.is_cut ≡ e.is_cut
reads e after k most (replies.Read answer) h = reads_at e after k most answer h
reads e after k most replies.NoStream h = left_by _ _ e after h (read_cut e k most (map.get e.streams k))
reads e after k most replies.NoMemory h = same_end e after h.1
reads e after k most reply h = absurd h

ends : (e after : End) (k : ℕ) (reply : LinkReply) → EndsWriting e k reply after → after.is_cut ≡ e.is_cut
ends e after k replies.Done h = left_by _ _ e after h (ends_cut e k (map.get e.streams k))
ends e after k replies.NoStream h = left_by _ _ e after h (ends_cut e k (map.get e.streams k))
ends e after k replies.WriteClosed h = left_by _ _ e after h (ends_cut e k (map.get e.streams k))
ends e after k replies.NoMemory h = same_end e after h
ends e after k reply h = absurd h

closes : (e after : End) (k : ℕ) (reply : LinkReply) → Closes e k reply after → after.is_cut ≡ e.is_cut
closes e after k replies.Done h = left_by _ _ e after h (closes_cut e k (map.get e.streams k))
closes e after k replies.NoStream h = left_by _ _ e after h (closes_cut e k (map.get e.streams k))
closes e after k replies.NoMemory h = same_end e after h
closes e after k reply h = absurd h

-- ---- the steps

abbrev pub link_cut : World → Bool
link_cut w = is_cut w.near w.far

both : (w v : World) → v.near.end.is_cut ≡ w.near.end.is_cut → v.far.end.is_cut ≡ w.far.end.is_cut → link_cut v ≡ (link_cut w || false)
both w v a b = ap (λ (x : Bool). x || v.far.end.is_cut) a ∙ ap (λ (x : Bool). w.near.end.is_cut || x) b ∙ sym (or_false (link_cut w))

on_end : (side : Side) (w v : World) → (at v side).end.is_cut ≡ (at w side).end.is_cut → v ≡ with_end w side (at v side).end → link_cut v ≡ (link_cut w || false)
on_end Near w v same is = both w v same (ap (λ (x : World). x.far.end.is_cut) is)
on_end Far w v same is = both w v (ap (λ (x : World). x.near.end.is_cut) is) same

moved : (side : Side) (w v : World) → (at v side).end.is_cut ≡ (at w side).end.is_cut → (at v (other side)).end.is_cut ≡ (at w (other side)).end.is_cut → link_cut v ≡ (link_cut w || false)
moved Near w v a b = both w v a b
moved Far w v a b = both w v b a

went : (side : Side) (w v : World) (count : ℕ) → Went (at w side) (at w (other side)) count (at v side) (at v (other side)) → link_cut v ≡ (link_cut w || false)
went side w v count h = let x = went_linked (at w side) (at w (other side)) (at v side) (at v (other side)) count h in moved side w v x.0 x.1

moves : (side : Side) (w v : World) (most : ℕ) (reply : LinkReply) → Moves (at w side) (at w (other side)) most reply (at v side) (at v (other side)) → link_cut v ≡ (link_cut w || false)
moves side w v most (replies.Moved count) h = by_cut (is_cut (at w side) (at w (other side))) refl
  where
    by_cut : (b : Bool) → is_cut (at w side) (at w (other side)) ≡ b → link_cut v ≡ (link_cut w || false)
    by_cut true is = let z = h.0 is in moved side w v (ap (λ (x : Post). x.end.is_cut) z.1) (ap (λ (x : Post). x.end.is_cut) z.2)
    by_cut false is = went side w v most (h.1 is).1
moves side w v most replies.NoMemory h = went side w v h.1.0 h.1.2
moves side w v most reply h = absurd h

pub steps_cut : (w v : World) (op : LinkOp) (reply : LinkReply) → Steps w op reply v → link_cut v ≡ (link_cut w || is_cutting op)
steps_cut w v ops.OpenStream reply h = on_end Near w v (opens _ _ reply h.0) h.1
steps_cut w v (ops.Write side k bytes) reply h = on_end (side_of side) w v (writes _ _ k bytes reply h.0) h.1
steps_cut w v (ops.Read side k most) reply h = on_end (side_of side) w v (reads _ _ k most reply h.0) h.1
steps_cut w v (ops.CloseWrite side k) reply h = on_end (side_of side) w v (ends _ _ k reply h.0) h.1
steps_cut w v (ops.Close side k) reply h = on_end (side_of side) w v (closes _ _ k reply h.0) h.1
steps_cut w v (ops.Move side most) reply h = moves (side_of side) w v most reply h
steps_cut w v ops.Cut reply h = ap link_cut h.1 ∙ sym (or_true (link_cut w))

-- no pair answers Paused
pub not_paused : (w v : World) (op : LinkOp) → Steps w op replies.Paused v → ⊥
not_paused w v ops.OpenStream h = h.0
not_paused w v (ops.Write side k bytes) h = h.0
not_paused w v (ops.Read side k most) h = h.0
not_paused w v (ops.CloseWrite side k) h = h.0
not_paused w v (ops.Close side k) h = h.0
not_paused w v (ops.Move side most) h = h
not_paused w v ops.Cut h = apart h.0
  where
    apart : replies.Paused ≡ replies.Done → ⊥
    apart e = cc
