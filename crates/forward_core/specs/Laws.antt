-- What holds of a session after every list of steps.
use Rattle.std.specs.Prelude.{◌≡◌, ℕ, Bool, true, false, ◌||◌, if◌then◌else◌, List, [], ◌∷◌, ◌++◌}
use Rattle.mux_core.specs.declared.answer.ReadAnswer.TheVariants as answers
use Rattle.mux_core.specs.Worlds.{Event, Reply}
use Rattle.mux_core.specs.JoinedLaws.{IsInOrder, IsAllThere, IsReadToTheEnd, IsInBalance, IsWhole}
use Rattle.mux_link.specs.declared.op.LinkOp.{LinkOp}
use Rattle.mux_link.specs.declared.op.LinkOp.TheVariants as ops
use Rattle.mux_link.specs.declared.side.Side2.{Side2}
use Rattle.mux_link.specs.declared.reply.LinkReply.{LinkReply}
use Rattle.mux_link.specs.declared.reply.LinkReply.TheVariants as replies
use Rattle.mux_link.specs.Posts.{side_of}
use Rattle.mux_link.specs.Steps.{is_cutting}
use Rattle.mux_link.specs.Laws.{history}
use Rattle.forward_core.specs.declared.op.ForwardOp.{ForwardOp}
use Rattle.forward_core.specs.declared.op.ForwardOp.TheVariants.{Link, Pause, Resume}
use Rattle.forward_core.specs.Sessions.{Session, fresh_session}
use Rattle.forward_core.specs.Acts.{Acts}

-- The time of one link, told from the operations and replies: whether the session was paused or the link
-- cut since it was made, and the link's steps.
pub record Era : Type 0 where
  pub idle : Bool
  pub steps : List (LinkOp × LinkReply)

-- What a step makes of it: a refusal as paused is no step of the link, a pause is a cut, and a resume
-- behind a pause or a cut begins the time of a new link.
abbrev pub next_era : Era → ForwardOp → LinkReply → Era
next_era e (Link op) replies.Paused = e
next_era e (Link op) reply = record { idle = e.idle || is_cutting op; steps = e.steps ++ (op, reply) ∷ [] }
next_era e Pause reply = record { idle = true; steps = e.steps ++ (ops.Cut, replies.Done) ∷ [] }
next_era e Resume reply = if e.idle then record { idle = false; steps = [] } else e

abbrev pub era_after : Era → List (ForwardOp × LinkReply) → Era
era_after e [] = e
era_after e (step ∷ steps) = era_after (next_era e step.0 step.1) steps

-- what the users of the link that is there were told, by the steps of a session that began paused or not
abbrev pub told : Bool → List (ForwardOp × LinkReply) → List (Event × Reply)
told paused steps = history (era_after (record { idle = paused; steps = [] }) steps).steps

-- a list of steps, with what was answered
abbrev pub Runs : Session → List (ForwardOp × LinkReply) → Session → Type 0
Runs s [] t = t ≡ s
Runs s (step ∷ steps) t = (next : Session) × Acts s step.0 step.1 next × Runs next steps t

-- what one side read of a stream is what the other side's writes began with
abbrev pub DeliversInOrder : Type 0
DeliversInOrder = (paused : Bool) (steps : List (ForwardOp × LinkReply)) (s : Session) → Runs (fresh_session paused) steps s → IsInOrder (told paused steps)

-- until a cut or a pause, while a side has the stream, nothing of what was accepted is lost
abbrev pub LosesNothing : Type 0
LosesNothing = (paused : Bool) (steps : List (ForwardOp × LinkReply)) (s : Session) → Runs (fresh_session paused) steps s → IsAllThere (told paused steps) s.link

-- End is answered only where the other side ended its writing and all of it was read
abbrev pub EndsAtTheEnd : Type 0
EndsAtTheEnd = (paused : Bool) (steps : List (ForwardOp × LinkReply)) (s t : Session) → Runs (fresh_session paused) steps s
    → (side : Side2) (stream most : ℕ) → Acts s (Link (ops.Read side stream most)) (replies.Read answers.End) t → IsReadToTheEnd (told paused steps) (side_of side) stream

-- until a cut, a pause or a Close a stream's credit, bytes and amounts add up to 65,536
abbrev pub CreditsAddUp : Type 0
CreditsAddUp = (paused : Bool) (steps : List (ForwardOp × LinkReply)) (s : Session) → Runs (fresh_session paused) steps s → IsInBalance (told paused steps) s.link

-- until a cut or a pause each direction carries whole frames, the first of which may have come in part
abbrev pub CarriesFrames : Type 0
CarriesFrames = (paused : Bool) (steps : List (ForwardOp × LinkReply)) (s : Session) → Runs (fresh_session paused) steps s → IsWhole s.link
