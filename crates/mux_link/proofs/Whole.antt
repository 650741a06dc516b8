-- A list of steps of a pair is a run of two joined ends, which have its law.
use Rattle.std.proofs.Common.{◌≡◌, ℕ, zero, suc, ◌<◌, Bool, ◌||◌, List, [], ◌∷◌, ◌++◌, refl, sym, ap, ◌∙◌, arith}
use Rattle.std.specs.Prelude.{Ok}
use Rattle.mux_core.specs.declared.answer.ReadAnswer.TheVariants as answers
use Rattle.mux_core.specs.Worlds.{other, Event, Reply, World, fresh_world, Happens}
use Rattle.mux_core.specs.Worlds as worlds
use Rattle.mux_core.specs.Histories.{sent, delivered, has_ended, has_closed}
use Rattle.mux_core.specs.Links.{payloads}
use Rattle.mux_core.specs.JoinedLaws as joined
use Rattle.mux_core.specs.JoinedLaws.{IsInOrder, IsAllThere, IsReadToTheEnd, IsInBalance, IsWhole}
use Rattle.mux_core.proofs.Pasts.{sent-append, delivered-append, has_ended-append, has_closed-append}
use Rattle.mux_core.proofs.Kept.{in_order, all_there, read_to_the_end, in_balance, whole}
use Rattle.mux_link.specs.declared.op.LinkOp.{LinkOp}
use Rattle.mux_link.specs.declared.op.LinkOp.TheVariants as ops
use Rattle.mux_link.specs.declared.side.Side2.{Side2}
use Rattle.mux_link.specs.declared.reply.LinkReply.{LinkReply}
use Rattle.mux_link.specs.declared.reply.LinkReply.TheVariants as replies
use Rattle.mux_link.specs.Posts.{side_of}
use Rattle.mux_link.specs.Steps.{Steps}
use Rattle.mux_link.specs.Laws.{history, calls, Runs, Reaches}
use Rattle.mux_link.proofs.Reaching.{runs-append}
use Rattle.mux_link.proofs.Made.{Same, same, made, answered}

same_both : (xs xs_told ys ys_told : List (Event × Reply)) → Same xs xs_told → Same ys ys_told → Same (xs ++ ys) (xs_told ++ ys_told)
same_both xs xs_told ys ys_told a b = record {
  sent = λ side n. sent-append side n xs ys ∙ ap (λ (zs : List ℕ). zs ++ sent side n ys) (a.sent side n) ∙ ap (λ (zs : List ℕ). sent side n xs_told ++ zs) (b.sent side n) ∙ sym (sent-append side n xs_told ys_told);
  delivered = λ side n. delivered-append side n xs ys ∙ ap (λ (zs : List ℕ). zs ++ delivered side n ys) (a.delivered side n) ∙ ap (λ (zs : List ℕ). delivered side n xs_told ++ zs) (b.delivered side n) ∙ sym (delivered-append side n xs_told ys_told);
  ended = λ side n. has_ended-append side n xs ys ∙ ap (λ (z : Bool). z || has_ended side n ys) (a.ended side n) ∙ ap (λ (z : Bool). has_ended side n xs_told || z) (b.ended side n) ∙ sym (has_ended-append side n xs_told ys_told);
  closed = λ side n. has_closed-append side n xs ys ∙ ap (λ (z : Bool). z || has_closed side n ys) (a.closed side n) ∙ ap (λ (z : Bool). has_closed side n xs_told || z) (b.closed side n) ∙ sym (has_closed-append side n xs_told ys_told);
}

-- the steps are these events, which tell the same
pub record Ran (w : World) (steps : List (LinkOp × LinkReply)) (v : World) : Type 0 where
  pub events : List (Event × Reply)
  pub run : worlds.Runs w events v
  pub same : Same events (history steps)

pub ran : (w v : World) (steps : List (LinkOp × LinkReply)) → Runs w steps v → Ran w steps v
ran w v [] is = record { events = []; run = is; same = same [] }
ran w v (step ∷ steps) r =
    let m = made w r.0 step.0 step.1 r.1 in
    let rest = ran r.0 v steps r.2 in
    record {
      events = m.events ++ rest.events;
      run = runs-append m.events rest.events w r.0 v m.run rest.run;
      same = same_both m.events (calls step.0 step.1) rest.events (history steps) m.same rest.same;
    }

-- a pair that was reached is a world that was
pub as_world : (steps : List (LinkOp × LinkReply)) (w : World) → Reaches steps w → (events : List (Event × Reply)) × joined.Reaches events w × Same events (history steps)
as_world steps w r = let run = ran (fresh_world r.0) w steps r.2 in (run.events, (r.0, r.1, run.run), run.same)

-- ---- the laws

pub pair_in_order : (steps : List (LinkOp × LinkReply)) (w : World) → Reaches steps w → IsInOrder (history steps)
pair_in_order steps w r side n =
    let x = as_world steps w r in
    let rest = in_order x.0 w x.1 side n in
    (rest.0, ap (λ (zs : List ℕ). zs ++ rest.0) (sym (x.2.delivered side n)) ∙ rest.1 ∙ x.2.sent (other side) n)

pub pair_all_there : (steps : List (LinkOp × LinkReply)) (w : World) → Reaches steps w → IsAllThere (history steps) w
pair_all_there steps w r side n s uncut at_n frames carries =
    let x = as_world steps w r in
    ap (λ (zs : List ℕ). zs ++ (s.buffer ++ payloads n frames)) (sym (x.2.delivered side n)) ∙ all_there x.0 w x.1 side n s uncut at_n frames carries ∙ x.2.sent (other side) n

pub pair_in_balance : (steps : List (LinkOp × LinkReply)) (w : World) → Reaches steps w → IsInBalance (history steps) w
pair_in_balance steps w r side n s uncut uncut_there at_n still there back carries carries_back =
    let x = as_world steps w r in
    in_balance x.0 w x.1 side n s uncut uncut_there at_n (x.2.closed (other side) n ∙ still) there back carries carries_back

pub pair_whole : (steps : List (LinkOp × LinkReply)) (w : World) → Reaches steps w → IsWhole w
pair_whole steps w r = let x = as_world steps w r in whole x.0 w x.1

-- a read that answers End is one of some bytes
end_happens : (w v : World) (side : Side2) (stream most : ℕ) → Steps w (ops.Read side stream most) (replies.Read answers.End) v → Happens w (worlds.Read (side_of side) stream most) (worlds.Answered (Ok answers.End)) v
end_happens w v side stream zero h = absurd (apart (h.0.1 refl).1)
  where
    apart : answers.End ≡ answers.Got [] → ⊥
    apart e = cc
end_happens w v side stream (suc most) h =
    let some : 0 < suc most = omega arith in
    let a = answered _ _ (side_of side) w v (h.0.0 some) h.1 in
    (some, a.0, a.1)

pub pair_at_the_end : (steps : List (LinkOp × LinkReply)) (w v : World) → Reaches steps w → (side : Side2) (stream most : ℕ) → Steps w (ops.Read side stream most) (replies.Read answers.End) v
    → IsReadToTheEnd (history steps) (side_of side) stream
pair_at_the_end steps w v r side stream most h =
    let x = as_world steps w r in
    let here = side_of side in
    let z = read_to_the_end x.0 w v x.1 here stream most (end_happens w v side stream most h) in
    (sym (x.2.delivered here stream) ∙ z.0 ∙ x.2.sent (other here) stream, sym (x.2.ended (other here) stream) ∙ z.1)
