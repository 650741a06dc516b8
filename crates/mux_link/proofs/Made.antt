-- What a step of a pair is in the world of two joined ends.
use Rattle.std.proofs.Common.{◌≡◌, ℕ, zero, suc, ◌<◌, Bool, true, false, cond, List, [], ◌∷◌, ◌++◌, refl, sym, ap, subst, ◌∙◌, arith}
use Rattle.std.specs.Prelude.{Option, Some, None, Result, Ok, Err}
use Rattle.std.specs.FinMap as map
use Rattle.std.proofs.lemmas.Bool.{or_parts}
use Rattle.mux_core.specs.declared.answer.ReadAnswer.{ReadAnswer}
use Rattle.mux_core.specs.declared.answer.ReadAnswer.TheVariants as answers
use Rattle.mux_core.specs.declared.error.MuxError.{MuxError}
use Rattle.mux_core.specs.declared.error.MuxError.TheVariants as errors
use Rattle.mux_core.specs.declared.error.OpenError.TheVariants as opening
use Rattle.mux_core.specs.declared.stream.Stream.{Stream}
use Rattle.mux_core.specs.Ends.{End, cut_off}
use Rattle.mux_core.specs.Calls.{read_live}
use Rattle.mux_core.specs.Worlds.{Side, Near, Far, other, Event, Reply, Post, World, at, with_end, Happens, Runs}
use Rattle.mux_core.specs.Worlds as worlds
use Rattle.mux_core.specs.Histories.{sent, delivered, has_ended, has_closed, is_on}
use Rattle.mux_link.specs.declared.op.LinkOp.{LinkOp}
use Rattle.mux_link.specs.declared.op.LinkOp.TheVariants as ops
use Rattle.mux_link.specs.declared.side.Side2.{Side2}
use Rattle.mux_link.specs.declared.reply.LinkReply.{LinkReply}
use Rattle.mux_link.specs.declared.reply.LinkReply.TheVariants as replies
use Rattle.mux_link.specs.Posts.{IsReached, side_of}
use Rattle.mux_link.specs.Calls.{Opens, Writes, Reads, EndsWriting, Closes}
use Rattle.mux_link.specs.Moves.{Moves, Went, is_cut}
use Rattle.mux_link.specs.Steps.{OnEnd, Steps, cut_both}
use Rattle.mux_link.specs.Laws.{calls}
use Rattle.mux_link.proofs.Reaching.{reached_by}

-- What was sent, delivered, ended and closed is the same in both lists.
pub record Same (xs ys : List (Event × Reply)) : Type 0 where
  pub sent : (side : Side) (n : ℕ) → sent side n xs ≡ sent side n ys
  pub delivered : (side : Side) (n : ℕ) → delivered side n xs ≡ delivered side n ys
  pub ended : (side : Side) (n : ℕ) → has_ended side n xs ≡ has_ended side n ys
  pub closed : (side : Side) (n : ℕ) → has_closed side n xs ≡ has_closed side n ys

pub same : (xs : List (Event × Reply)) → Same xs xs
same xs = record { sent = λ _ _. refl; delivered = λ _ _. refl; ended = λ _ _. refl; closed = λ _ _. refl }

-- a step is these events, and tells of the users' calls what it is said to tell
pub record Made (w : World) (op : LinkOp) (reply : LinkReply) (v : World) : Type 0 where
  pub events : List (Event × Reply)
  pub run : Runs w events v
  pub same : Same events (calls op reply)

-- nothing happened, and nothing of the users' calls is told
nothing : (w v : World) (op : LinkOp) (reply : LinkReply) → v ≡ w → Same [] (calls op reply) → Made w op reply v
nothing w v op reply is none = record { events = []; run = is; same = none }

one : (w v : World) (op : LinkOp) (reply : LinkReply) (event : Event) (answer : Reply) → Happens w event answer v → Same ((event, answer) ∷ []) (calls op reply) → Made w op reply v
one w v op reply event answer h none = record { events = (event, answer) ∷ []; run = (v, h, refl); same = none }

none : (event : Event) (answer : Reply) → ((side : Side) (n : ℕ) → sent side n ((event, answer) ∷ []) ≡ []) → ((side : Side) (n : ℕ) → delivered side n ((event, answer) ∷ []) ≡ [])
    → ((side : Side) (n : ℕ) → has_ended side n ((event, answer) ∷ []) ≡ false) → ((side : Side) (n : ℕ) → has_closed side n ((event, answer) ∷ []) ≡ false) → Same ((event, answer) ∷ []) []
none event answer a b c d = record { sent = a; delivered = b; ended = c; closed = d }

-- an end that stays leaves the world as it was
stays : (side : Side) (w v : World) → (at v side).end ≡ (at w side).end → v ≡ with_end w side (at v side).end → v ≡ w
stays Near w v same is = is ∙ ap (with_end w Near) same
stays Far w v same is = is ∙ ap (with_end w Far) same

-- the step of an end, as its answer and what it leaves
pub answered : {A : Type 0} → (step : A × End) (answer : A) (side : Side) (w v : World) → step ≡ (answer, (at v side).end) → v ≡ with_end w side (at v side).end → (answer ≡ step.0) × (v ≡ with_end w side step.1)
answered {A} step answer side w v h is = (sym (ap (λ (x : A × End). x.0) h), is ∙ ap (with_end w side) (sym (ap (λ (x : A × End). x.1) h)))

opens : (w v : World) (reply : LinkReply) → OnEnd w Near (λ e after. Opens e reply after) v → Made w ops.OpenStream reply v
opens w v (replies.Opened number) h =
    let a = answered _ _ Near w v h.0.1 h.1 in
    one w v ops.OpenStream (replies.Opened number) worlds.Open (worlds.Opened (Ok number)) (h.0.0, a.0, a.1) (none _ _ (λ _ _. refl) (λ _ _. refl) (λ _ _. refl) (λ _ _. refl))
opens w v (replies.StreamsFull live) h =
    let a = answered _ _ Near w v h.0.1 h.1 in
    one w v ops.OpenStream (replies.StreamsFull live) worlds.Open (worlds.Opened (Err (opening.StreamsFull live))) (h.0.0, a.0, a.1) (none _ _ (λ _ _. refl) (λ _ _. refl) (λ _ _. refl) (λ _ _. refl))
opens w v replies.Cut h = nothing w v ops.OpenStream replies.Cut (stays Near w v h.0.1 h.1) (same [])
opens w v replies.NoMemory h = nothing w v ops.OpenStream replies.NoMemory (stays Near w v h.0 h.1) (same [])
opens w v reply h = absurd h.0

writes : (w v : World) (side : Side2) (k : ℕ) (bytes : List ℕ) (reply : LinkReply) → OnEnd w (side_of side) (λ e after. Writes e k bytes reply after) v → Made w (ops.Write side k bytes) reply v
writes w v side k bytes (replies.Wrote count) h =
    one w v (ops.Write side k bytes) (replies.Wrote count) (worlds.Write (side_of side) k bytes) (worlds.Wrote (Ok count)) (answered _ _ (side_of side) w v h.0 h.1) (same _)
writes w v side k bytes replies.NoStream h =
    one w v (ops.Write side k bytes) replies.NoStream (worlds.Write (side_of side) k bytes) (worlds.Wrote (Err errors.NoStream)) (answered _ _ (side_of side) w v h.0 h.1)
    (none _ _ (λ _ _. refl) (λ _ _. refl) (λ _ _. refl) (λ _ _. refl))
writes w v side k bytes replies.WriteClosed h =
    one w v (ops.Write side k bytes) replies.WriteClosed (worlds.Write (side_of side) k bytes) (worlds.Wrote (Err errors.WriteClosed)) (answered _ _ (side_of side) w v h.0 h.1)
    (none _ _ (λ _ _. refl) (λ _ _. refl) (λ _ _. refl) (λ _ _. refl))
writes w v side k bytes replies.NoMemory h = nothing w v (ops.Write side k bytes) replies.NoMemory (stays (side_of side) w v h.0 h.1) (same [])
writes w v side k bytes reply h = absurd h.0

-- a read of a stream that isn't live changes nothing
read_none : (e after : End) (k most : ℕ) (o : Option Stream) → read_live e k most o ≡ (Err errors.NoStream, after) → after ≡ e
read_none e after k most None is = sym (ap (λ (x : Result ReadAnswer MuxError × End). x.1) is)
read_none e after k most (Some s) is = absurd (apart _ (ap (λ (x : Result ReadAnswer MuxError × End). x.0) is))
  where
    apart : (a : ReadAnswer) → ◌≡◌ {A = Result ReadAnswer MuxError} (Ok a) (Err errors.NoStream) → ⊥
    apart a e = cc

-- a read that got no bytes tells of none
no_bytes : (side : Side) (k : ℕ) (answer : ReadAnswer) → answer ≡ answers.Got [] → Same [] ((worlds.Read side k 0, worlds.Answered (Ok answer)) ∷ [])
no_bytes side k answer is =
    subst (λ (a : ReadAnswer). Same [] ((worlds.Read side k 0, worlds.Answered (Ok a)) ∷ [])) (sym is) (record { sent = λ _ _. refl; delivered = λ at n. either (is_on at n side k); ended = λ _ _. refl; closed = λ _ _. refl })
  where
    either : (b : Bool) → [] ≡ cond b (let xs : List ℕ = [] in xs) [] ++ []
    either true = refl
    either false = refl

read_at : (w v : World) (side : Side2) (k most : ℕ) (answer : ReadAnswer) → OnEnd w (side_of side) (λ e after. Reads e k most (replies.Read answer) after) v → Made w (ops.Read side k most) (replies.Read answer) v
read_at w v side k zero answer h =
    let z = h.0.1 refl in
    nothing w v (ops.Read side k 0) (replies.Read answer) (stays (side_of side) w v z.2 h.1) (no_bytes (side_of side) k answer z.1)
read_at w v side k (suc most) answer h =
    let some : 0 < suc most = omega arith in
    let a = answered _ _ (side_of side) w v (h.0.0 some) h.1 in
    one w v (ops.Read side k (suc most)) (replies.Read answer) (worlds.Read (side_of side) k (suc most)) (worlds.Answered (Ok answer)) (some, a.0, a.1) (same _)

reads : (w v : World) (side : Side2) (k most : ℕ) (reply : LinkReply) → OnEnd w (side_of side) (λ e after. Reads e k most reply after) v → Made w (ops.Read side k most) reply v
reads w v side k most (replies.Read answer) h = read_at w v side k most answer h
reads w v side k most replies.NoStream h =
    let e = (at w (side_of side)).end in
    nothing w v (ops.Read side k most) replies.NoStream (stays (side_of side) w v (read_none e (at v (side_of side)).end k most (map.get e.streams k) h.0) h.1) (same [])
reads w v side k most replies.NoMemory h = nothing w v (ops.Read side k most) replies.NoMemory (stays (side_of side) w v h.0.1 h.1) (same [])
reads w v side k most reply h = absurd h.0

ends : (w v : World) (side : Side2) (k : ℕ) (reply : LinkReply) → OnEnd w (side_of side) (λ e after. EndsWriting e k reply after) v → Made w (ops.CloseWrite side k) reply v
ends w v side k replies.Done h = one w v (ops.CloseWrite side k) replies.Done (worlds.CloseWrite (side_of side) k) (worlds.Done (Ok tt)) (answered _ _ (side_of side) w v h.0 h.1) (same _)
ends w v side k replies.NoStream h =
    one w v (ops.CloseWrite side k) replies.NoStream (worlds.CloseWrite (side_of side) k) (worlds.Done (Err errors.NoStream)) (answered _ _ (side_of side) w v h.0 h.1)
    (none _ _ (λ _ _. refl) (λ _ _. refl) (λ _ _. refl) (λ _ _. refl))
ends w v side k replies.WriteClosed h =
    one w v (ops.CloseWrite side k) replies.WriteClosed (worlds.CloseWrite (side_of side) k) (worlds.Done (Err errors.WriteClosed)) (answered _ _ (side_of side) w v h.0 h.1)
    (none _ _ (λ _ _. refl) (λ _ _. refl) (λ _ _. refl) (λ _ _. refl))
ends w v side k replies.NoMemory h = nothing w v (ops.CloseWrite side k) replies.NoMemory (stays (side_of side) w v h.0 h.1) (same [])
ends w v side k reply h = absurd h.0

closes : (w v : World) (side : Side2) (k : ℕ) (reply : LinkReply) → OnEnd w (side_of side) (λ e after. Closes e k reply after) v → Made w (ops.Close side k) reply v
closes w v side k replies.Done h = one w v (ops.Close side k) replies.Done (worlds.Close (side_of side) k) (worlds.Done (Ok tt)) (answered _ _ (side_of side) w v h.0 h.1) (same _)
closes w v side k replies.NoStream h =
    one w v (ops.Close side k) replies.NoStream (worlds.Close (side_of side) k) (worlds.Done (Err errors.NoStream)) (answered _ _ (side_of side) w v h.0 h.1)
    (none _ _ (λ _ _. refl) (λ _ _. refl) (λ _ _. refl) (λ _ _. refl))
closes w v side k replies.NoMemory h = nothing w v (ops.Close side k) replies.NoMemory (stays (side_of side) w v h.0 h.1) (same [])
closes w v side k reply h = absurd h.0

same_world : (side : Side) (w v : World) → at v side ≡ at w side → at v (other side) ≡ at w (other side) → v ≡ w
same_world Near w v a b = ap (λ (p : Post). record { near = p; far = v.far }) a ∙ ap (λ (p : Post). record { near = w.near; far = p }) b
same_world Far w v a b = ap (λ (p : Post). record { near = v.near; far = p }) a ∙ ap (λ (p : Post). record { near = p; far = w.far }) b

went : (w v : World) (side : Side2) (most count : ℕ) (reply : LinkReply) → is_cut (at w (side_of side)) (at w (other (side_of side))) ≡ false
    → Went (at w (side_of side)) (at w (other (side_of side))) count (at v (side_of side)) (at v (other (side_of side))) → Same ((worlds.Move (side_of side) count, worlds.Moved (Ok tt)) ∷ []) (calls (ops.Move side most) reply) → Made w (ops.Move side most) reply v
went w v side most count reply uncut h none =
    let linked = or_parts (at w (side_of side)).end.is_cut (at w (other (side_of side))).end.is_cut uncut in
    one w v (ops.Move side most) reply (worlds.Move (side_of side) count) (worlds.Moved (Ok tt)) (linked.0, linked.1, h) none

moves : (w v : World) (side : Side2) (most : ℕ) (reply : LinkReply) → Moves (at w (side_of side)) (at w (other (side_of side))) most reply (at v (side_of side)) (at v (other (side_of side))) → Made w (ops.Move side most) reply v
moves w v side most (replies.Moved count) h = by_cut (is_cut (at w (side_of side)) (at w (other (side_of side)))) refl
  where
    by_cut : (b : Bool) → is_cut (at w (side_of side)) (at w (other (side_of side))) ≡ b → Made w (ops.Move side most) (replies.Moved count) v
    by_cut true is = let z = h.0 is in nothing w v (ops.Move side most) (replies.Moved count) (same_world (side_of side) w v z.1 z.2) (same [])
    by_cut false is = went w v side most most (replies.Moved count) is (h.1 is).1 (none _ _ (λ _ _. refl) (λ _ _. refl) (λ _ _. refl) (λ _ _. refl))
moves w v side most replies.NoMemory h = went w v side most h.1.0 replies.NoMemory h.0 h.1.2 (none _ _ (λ _ _. refl) (λ _ _. refl) (λ _ _. refl) (λ _ _. refl))
moves w v side most reply h = absurd h

cuts : (w v : World) → v ≡ cut_both w → Made w ops.Cut replies.Done v
cuts w v is = record {
  events = (worlds.Cut Near, worlds.WasCut) ∷ (worlds.Cut Far, worlds.WasCut) ∷ [];
  run = (with_end w Near (cut_off w.near.end), refl, (v, is, refl));
  same = record { sent = λ _ _. refl; delivered = λ _ _. refl; ended = λ _ _. refl; closed = λ _ _. refl };
}

pub made : (w v : World) (op : LinkOp) (reply : LinkReply) → Steps w op reply v → Made w op reply v
made w v ops.OpenStream reply h = opens w v reply h
made w v (ops.Write side k bytes) reply h = writes w v side k bytes reply h
made w v (ops.Read side k most) reply h = reads w v side k most reply h
made w v (ops.CloseWrite side k) reply h = ends w v side k reply h
made w v (ops.Close side k) reply h = closes w v side k reply h
made w v (ops.Move side most) reply h = moves w v side most reply h
made w v ops.Cut reply h = subst (λ (x : LinkReply). Made w ops.Cut x v) (sym h.0) (cuts w v h.1)

-- a step leads from a world that was reached to one
pub step_reached : (w v : World) (op : LinkOp) (reply : LinkReply) → IsReached w → Steps w op reply v → IsReached v
step_reached w v op reply r h = let m = made w v op reply h in reached_by m.events w v r m.run
