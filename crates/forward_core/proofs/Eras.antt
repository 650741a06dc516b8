-- The steps of a session since its link was made are a run of that link.
use Rattle.std.proofs.Common.{◌≡◌, ℕ, Bool, true, false, cond, ◌||◌, List, [], ◌∷◌, ◌++◌, refl, sym, ap, subst, ◌∙◌, arith}
use Rattle.mux_core.specs.declared.answer.ReadAnswer.TheVariants as answers
use Rattle.mux_core.specs.Worlds.{World, fresh_world}
use Rattle.mux_core.specs.JoinedLaws.{IsInOrder, IsAllThere, IsReadToTheEnd, IsInBalance, IsWhole}
use Rattle.mux_core.proofs.Tallies.{or_assoc}
use Rattle.mux_link.specs.declared.op.LinkOp.{LinkOp}
use Rattle.mux_link.specs.declared.op.LinkOp.TheVariants as ops
use Rattle.mux_link.specs.declared.side.Side2.{Side2}
use Rattle.mux_link.specs.declared.reply.LinkReply.{LinkReply}
use Rattle.mux_link.specs.declared.reply.LinkReply.TheVariants as replies
use Rattle.mux_link.specs.Posts.{side_of}
use Rattle.mux_link.specs.Steps.{Steps, cut_both, is_cutting}
use Rattle.mux_link.specs.Laws as links
use Rattle.mux_link.proofs.Reaching.{last_small}
use Rattle.mux_link.proofs.Cutting.{link_cut, steps_cut, not_paused}
use Rattle.mux_link.proofs.Whole.{as_world, pair_in_order, pair_all_there, pair_at_the_end, pair_in_balance, pair_whole}
use Rattle.forward_core.specs.declared.op.ForwardOp.{ForwardOp}
use Rattle.forward_core.specs.declared.op.ForwardOp.TheVariants.{Link, Pause, Resume}
use Rattle.forward_core.specs.Sessions.{Session, fresh_session, is_idle, paused_session, resumed_session}
use Rattle.forward_core.specs.Acts.{Acts, is_refused}
use Rattle.forward_core.specs.Laws.{Era, next_era, era_after, told, Runs}

-- the session's link came to what it is by the era's steps, and the era tells whether anything moves on it
record IsEra (s : Session) (e : Era) : Type 0 where
  reached : links.Reaches e.steps s.link
  idle : e.idle ≡ is_idle s

first : (paused : Bool) → IsEra (fresh_session paused) (record { idle = paused; steps = [] })
first true = record { reached = (0, omega arith, refl); idle = refl }
first false = record { reached = (0, omega arith, refl); idle = refl }

links-append : (steps : List (LinkOp × LinkReply)) (op : LinkOp) (reply : LinkReply) (w u v : World) → links.Runs w steps u → Steps u op reply v → links.Runs w (steps ++ (op, reply) ∷ []) v
links-append [] op reply w u v is step = (v, subst (λ (x : World). Steps x op reply v) is step, refl)
links-append (x ∷ steps) op reply w u v run step = (run.0, run.1, links-append steps op reply run.0 u v run.2 step)

goes_on : (e : Era) (op : LinkOp) (reply : LinkReply) (w v : World) → links.Reaches e.steps w → Steps w op reply v → links.Reaches (e.steps ++ (op, reply) ∷ []) v
goes_on e op reply w v r step = (r.0, r.1, links-append e.steps op reply (fresh_world r.0) w v r.2 step)

-- what a step of the link makes of the era
link_era : (e : Era) (op : LinkOp) (reply : LinkReply) → (reply ≡ replies.Paused → ⊥) → record { idle = e.idle || is_cutting op; steps = e.steps ++ (op, reply) ∷ [] } ≡ next_era e (Link op) reply
link_era e op replies.Paused other = absurd (other refl)
link_era e op reply other = refl

on_link : (s t : Session) (op : LinkOp) (reply : LinkReply) (e : Era) → IsEra s e → Acts s (Link op) reply t → IsEra t (next_era e (Link op) reply)
on_link s t op reply e era acts = by_refusal (is_refused s op) refl
  where
    step_of : Steps s.link op reply t.link × (t.paused ≡ s.paused) → IsEra t (next_era e (Link op) reply)
    step_of h = subst (λ (x : Era). IsEra t x) (link_era e op reply (λ is. not_paused s.link t.link op (subst (λ (r : LinkReply). Steps s.link op r t.link) is h.0))) (record {
      reached = goes_on e op reply s.link t.link era.reached h.0;
      idle = ap (λ (b : Bool). b || is_cutting op) era.idle ∙ sym (or_assoc s.paused (link_cut s.link) (is_cutting op)) ∙ ap (λ (b : Bool). s.paused || b) (sym (steps_cut s.link t.link op reply h.0)) ∙ ap (λ (b : Bool). b || link_cut t.link) (sym h.1);
    })

    refused_of : (reply ≡ replies.Paused) × (t ≡ s) → IsEra t (next_era e (Link op) reply)
    refused_of h = subst (λ (r : LinkReply). IsEra t (next_era e (Link op) r)) (sym h.0) (subst (λ (x : Session). IsEra x e) (sym h.1) era)

    by_refusal : (b : Bool) → is_refused s op ≡ b → IsEra t (next_era e (Link op) reply)
    by_refusal true is = refused_of (acts.0 is)
    by_refusal false is = step_of (acts.1 is)

on_pause : (s : Session) (e : Era) → IsEra s e → IsEra (paused_session s) (record { idle = true; steps = e.steps ++ (ops.Cut, replies.Done) ∷ [] })
on_pause s e era = record { reached = goes_on e ops.Cut replies.Done s.link (cut_both s.link) era.reached (refl, refl); idle = refl }

on_resume : (s : Session) (e : Era) → IsEra s e → IsEra (resumed_session s) (next_era e Resume replies.Done)
on_resume s e era = by_idle (is_idle s) era.idle
  where
    by_idle : (b : Bool) → e.idle ≡ b → (let r : Session = cond b (record { paused = false; link = fresh_world s.link.near.end.last }) s in IsEra r (next_era e Resume replies.Done))
    by_idle true is =
        let x = as_world e.steps s.link era.reached in
        let era_is : record { idle = false; steps = [] } ≡ next_era e Resume replies.Done = ap (λ (b : Bool). let y : Era = cond b (record { idle = false; steps = [] }) e in y) (sym is) in
        subst (λ (y : Era). IsEra (record { paused = false; link = fresh_world s.link.near.end.last }) y) era_is (record { reached = (s.link.near.end.last, last_small s.link (x.0, x.1), refl); idle = refl })
    by_idle false is =
        let era_is : e ≡ next_era e Resume replies.Done = ap (λ (b : Bool). let y : Era = cond b (record { idle = false; steps = [] }) e in y) (sym is) in
        subst (λ (y : Era). IsEra s y) era_is era

next : (s t : Session) (op : ForwardOp) (reply : LinkReply) (e : Era) → IsEra s e → Acts s op reply t → IsEra t (next_era e op reply)
next s t (Link op) reply e era acts = on_link s t op reply e era acts
next s t Pause reply e era acts = subst (λ (x : Session). IsEra x (record { idle = true; steps = e.steps ++ (ops.Cut, replies.Done) ∷ [] })) (sym acts.1) (on_pause s e era)
next s t Resume reply e era acts = subst (λ (x : Session). IsEra x (next_era e Resume reply)) (sym acts.1) (on_resume s e era)

all_steps : (s t : Session) (steps : List (ForwardOp × LinkReply)) (e : Era) → IsEra s e → Runs s steps t → IsEra t (era_after e steps)
all_steps s t [] e era is = subst (λ (x : Session). IsEra x e) (sym is) era
all_steps s t (step ∷ steps) e era run = all_steps run.0 t steps (next_era e step.0 step.1) (next s run.0 step.0 step.1 e era run.1) run.2

reached : (paused : Bool) (steps : List (ForwardOp × LinkReply)) (s : Session) → Runs (fresh_session paused) steps s → links.Reaches (era_after (record { idle = paused; steps = [] }) steps).steps s.link
reached paused steps s run = (all_steps (fresh_session paused) s steps (record { idle = paused; steps = [] }) (first paused) run).reached

-- ---- the laws

pub session_in_order : (paused : Bool) (steps : List (ForwardOp × LinkReply)) (s : Session) → Runs (fresh_session paused) steps s → IsInOrder (told paused steps)
session_in_order paused steps s run = pair_in_order _ s.link (reached paused steps s run)

pub session_all_there : (paused : Bool) (steps : List (ForwardOp × LinkReply)) (s : Session) → Runs (fresh_session paused) steps s → IsAllThere (told paused steps) s.link
session_all_there paused steps s run = pair_all_there _ s.link (reached paused steps s run)

pub session_in_balance : (paused : Bool) (steps : List (ForwardOp × LinkReply)) (s : Session) → Runs (fresh_session paused) steps s → IsInBalance (told paused steps) s.link
session_in_balance paused steps s run = pair_in_balance _ s.link (reached paused steps s run)

pub session_whole : (paused : Bool) (steps : List (ForwardOp × LinkReply)) (s : Session) → Runs (fresh_session paused) steps s → IsWhole s.link
session_whole paused steps s run = pair_whole _ s.link (reached paused steps s run)

pub session_at_the_end : (paused : Bool) (steps : List (ForwardOp × LinkReply)) (s t : Session) → Runs (fresh_session paused) steps s
    → (side : Side2) (stream most : ℕ) → Acts s (Link (ops.Read side stream most)) (replies.Read answers.End) t → IsReadToTheEnd (told paused steps) (side_of side) stream
session_at_the_end paused steps s t run side stream most acts = pair_at_the_end _ s.link t.link (reached paused steps s run) side stream most (acts.1 (never s.paused)).0
  where
    never : (b : Bool) → is_refused (record { paused = b; link = s.link }) (ops.Read side stream most) ≡ false
    never true = refl
    never false = refl
