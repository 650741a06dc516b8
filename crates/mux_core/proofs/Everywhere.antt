-- What holds of two joined ends after every run.
use Rattle.std.proofs.Common.{◌≡◌, ℕ, ◌+◌, ◌<◌, ◌^◌, Bool, true, false, cond, List, [], ◌∷◌, ◌++◌, length, refl, sym, ap, subst, ◌∙◌, arith, append_assoc, length-append}
use Rattle.std.specs.Prelude.{Result, Ok, Err}
use Rattle.std.specs.List.{AllByRecursion}
use Rattle.std.proofs.lemmas.List.{append-nil}
use Rattle.mux_frames.specs.declared.frame.MuxFrame.{MuxFrame}
use Rattle.mux_frames.specs.Streams.{stream_of, AreFrames}
use Rattle.mux_frames.specs.Frames.{spelling}
use Rattle.mux_frames.proofs.Splitting.{whole_front, spelling_some}
use Rattle.mux_core.specs.declared.error.MuxError.{MuxError}
use Rattle.mux_core.specs.Ends.{End, fresh_end, cut_off}
use Rattle.mux_core.specs.Worlds.{Side, Near, Far, other, Event, Open, Write, Read, CloseWrite, Close, Move, Cut, Reply, Opened, Wrote, Answered, Done, Moved, BadFrame, WasCut, Post, World, fresh_world, at, with_end, Happens, Runs}
use Rattle.mux_core.specs.Links.{Carries}
use Rattle.mux_core.specs.JoinedLaws.{Reaches, IsAccepted}
use Rattle.mux_core.proofs.Tallies.{opens}
use Rattle.mux_core.proofs.Joints.{Joint, EndLaw}
use Rattle.mux_core.proofs.Pasts.{not_yet}
use Rattle.mux_core.proofs.Moves.{flip, moved, never_fails, cut_here}
use Rattle.mux_core.proofs.Joined.{post, opens_keep, writes_keep, reads_keep, ends_keep, closes_keep}

-- ---- the beginning

fresh_last : (near : Bool) (last : ℕ) → last ≡ last + opens (cond near (let fs : List MuxFrame = [] in fs) [])
fresh_last true last = omega arith
fresh_last false last = omega arith

fresh_law : (side : Side) (near : Bool) (last : ℕ) → last < 2 ^ 32 → EndLaw side [] (fresh_end near last) [] []
fresh_law side near last small = record {
  strands = λ n. not_yet near last n;
  order = tt;
  last = fresh_last near last;
  small = small;
}

begins : (last : ℕ) → last < 2 ^ 32 → Joint Near [] (fresh_world last).near (fresh_world last).far
begins last small = record {
  f = record { told = []; heard = []; told_there = []; heard_there = []; later = []; back = [] };
  pair = record { law = fresh_law Near true last small; law_there = fresh_law Far false last small; told_is = refl; told_there_is = refl; start = refl; near = refl; which = refl };
  carries = λ _. (tt, refl);
  carries_back = λ _. (tt, refl);
  sound = refl;
  sound_there = refl;
}

-- ---- either side

pub from_near : (side : Side) (past : List (Event × Reply)) (w : World) → Joint Near past w.near w.far → Joint side past (at w side) (at w (other side))
from_near Near past w j = j
from_near Far past w j = flip Near past w.near w.far j

to_near : (side : Side) (past : List (Event × Reply)) (w : World) → Joint side past (at w side) (at w (other side)) → Joint Near past w.near w.far
to_near Near past w j = j
to_near Far past w j = flip Far past w.far w.near j

-- a side's end is another
put : (side : Side) (past : List (Event × Reply)) (w v : World) (e : End) → v ≡ with_end w side e → Joint side past (post e (at w side)) (at w (other side)) → Joint Near past v.near v.far
put Near past w v e is j = subst (λ (x : World). Joint Near past x.near x.far) (sym is) j
put Far past w v e is j = subst (λ (x : World). Joint Near past x.near x.far) (sym is) (flip Far past (post e w.far) w.near j)

moved_ok : (answer : Result Unit MuxError) → answer ≡ Ok tt → IsAccepted (Moved answer)
moved_ok (Ok done) is = tt
moved_ok (Err error) is = cc

-- ---- one thing that happens

one : (past : List (Event × Reply)) (w v : World) (event : Event) (reply : Reply) → Joint Near past w.near w.far → Happens w event reply v → Joint Near (past ++ (event, reply) ∷ []) v.near v.far × IsAccepted reply
one past w v Open (Opened answer) j h =
    (subst (λ (a : Reply). Joint Near (past ++ (Open, a) ∷ []) v.near v.far) (ap Opened (sym h.1)) (put Near _ w v _ h.2 (opens_keep past w.near w.far j)), tt)
one past w v (Write side k bytes) (Wrote answer) j h =
    (subst (λ (a : Reply). Joint Near (past ++ (Write side k bytes, a) ∷ []) v.near v.far) (ap Wrote (sym h.0)) (put side _ w v _ h.1 (writes_keep side past (at w side) (at w (other side)) k bytes (from_near side past w j))), tt)
one past w v (Read side k most) (Answered answer) j h =
    (subst (λ (a : Reply). Joint Near (past ++ (Read side k most, a) ∷ []) v.near v.far) (ap Answered (sym h.1)) (put side _ w v _ h.2 (reads_keep side past (at w side) (at w (other side)) k most (from_near side past w j) h.0)), tt)
one past w v (CloseWrite side k) (Done answer) j h =
    (subst (λ (a : Reply). Joint Near (past ++ (CloseWrite side k, a) ∷ []) v.near v.far) (ap Done (sym h.0)) (put side _ w v _ h.1 (ends_keep side past (at w side) (at w (other side)) k (from_near side past w j))), tt)
one past w v (Close side k) (Done answer) j h =
    (subst (λ (a : Reply). Joint Near (past ++ (Close side k, a) ∷ []) v.near v.far) (ap Done (sym h.0)) (put side _ w v _ h.1 (closes_keep side past (at w side) (at w (other side)) k (from_near side past w j))), tt)
one past w v (Move side count) (Moved answer) j h =
    let m = moved side past ((Move side count, Moved answer) ∷ []) (at w side) (at w (other side)) (at v side) (at v (other side)) count answer (from_near side past w j) h.0 h.1 h.2 (λ n. refl) (λ n. refl) in
    (to_near side (past ++ (Move side count, Moved answer) ∷ []) v m.0, moved_ok answer m.1)
one past w v (Move side count) (BadFrame place) j h = absurd (never_fails side past (at w side) (at w (other side)) (at v side) (at v (other side)) count place (from_near side past w j) h.0 h.2)
one past w v (Cut side) WasCut j h =
    (put side (past ++ (Cut side, WasCut) ∷ []) w v (cut_off (at w side).end) h (cut_here side past ((Cut side, WasCut) ∷ []) (at w side) (at w (other side)) (λ n. refl) (λ n. refl) (from_near side past w j)), tt)
one past w v event reply j h = absurd h

-- ---- a whole run

run : (past steps : List (Event × Reply)) (w v : World) → Joint Near past w.near w.far → Runs w steps v → Joint Near (past ++ steps) v.near v.far × AllByRecursion (λ step. IsAccepted step.1) steps
run past [] w v j is = (subst (λ (ps : List (Event × Reply)). Joint Near ps v.near v.far) (sym (append-nil past)) (subst (λ (x : World). Joint Near past x.near x.far) (sym is) j), tt)
run past (step ∷ steps) w v j r =
    let first = one past w r.0 step.0 step.1 j r.1 in
    let rest = run (past ++ step ∷ []) steps r.0 v first.0 r.2 in
    (subst (λ (ps : List (Event × Reply)). Joint Near ps v.near v.far) (append_assoc past (step ∷ []) steps) rest.0, (first.1, rest.1))

pub always : (steps : List (Event × Reply)) (w : World) → Reaches steps w → (side : Side) → Joint side steps (at w side) (at w (other side))
always steps w r side = from_near side steps w (run [] steps (fresh_world r.0) w (begins r.0 r.1) r.2).0

pub accepts_all : (steps : List (Event × Reply)) (w : World) → Reaches steps w → AllByRecursion (λ step. IsAccepted step.1) steps
accepts_all steps w r = (run [] steps (fresh_world r.0) w (begins r.0 r.1) r.2).1

-- the link carries these frames and no others
pub same_frames : (from to : Post) (xs ys : List MuxFrame) → Carries from to xs → Carries from to ys → xs ≡ ys
same_frames from to xs ys a b = last (whole_front xs ys [] a.0 b.0 (sym a.1 ∙ b.1 ∙ sym (append-nil (stream_of ys))))
  where
    last : (found : (later : List MuxFrame) × AreFrames later × (xs ≡ ys ++ later) × (stream_of later ≡ [])) → xs ≡ ys
    last ([], _, is, _) = is ∙ append-nil ys
    last (x ∷ later, ok, is, none) = absurd (omega (arith, spelling_some x, ap length none, length-append (spelling x) (stream_of later)))
