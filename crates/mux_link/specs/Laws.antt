-- What holds of a pair after every list of steps.
use Rattle.std.specs.Prelude.{◌≡◌, ℕ, ◌<◌, ◌^◌, List, [], ◌∷◌, Ok}
use Rattle.std.specs.List.{flat_map}
use Rattle.mux_core.specs.declared.answer.ReadAnswer.TheVariants as answers
use Rattle.mux_core.specs.Worlds.{World, Event, Reply, fresh_world}
use Rattle.mux_core.specs.Worlds as worlds
use Rattle.mux_core.specs.JoinedLaws.{IsInOrder, IsAllThere, IsReadToTheEnd, IsInBalance, IsWhole}
use Rattle.mux_link.specs.declared.op.LinkOp.{LinkOp}
use Rattle.mux_link.specs.declared.op.LinkOp.TheVariants as ops
use Rattle.mux_link.specs.declared.side.Side2.{Side2}
use Rattle.mux_link.specs.declared.reply.LinkReply.{LinkReply}
use Rattle.mux_link.specs.declared.reply.LinkReply.TheVariants as replies
use Rattle.mux_link.specs.Posts.{side_of}
use Rattle.mux_link.specs.Steps.{Steps}

-- The calls of the users that a step let through, as what happens in the world of `mux_core`. What was
-- sent, delivered, ended and closed are its folds of these.
abbrev pub calls : LinkOp → LinkReply → List (Event × Reply)
calls (ops.Write side stream bytes) (replies.Wrote count) = (worlds.Write (side_of side) stream bytes, worlds.Wrote (Ok count)) ∷ []
calls (ops.Read side stream most) (replies.Read answer) = (worlds.Read (side_of side) stream most, worlds.Answered (Ok answer)) ∷ []
calls (ops.CloseWrite side stream) replies.Done = (worlds.CloseWrite (side_of side) stream, worlds.Done (Ok tt)) ∷ []
calls (ops.Close side stream) replies.Done = (worlds.Close (side_of side) stream, worlds.Done (Ok tt)) ∷ []
calls _ _ = []

-- the same of a list of steps
abbrev pub history : List (LinkOp × LinkReply) → List (Event × Reply)
history steps = flat_map (λ step. calls step.0 step.1) steps

-- a list of steps, with what was answered
abbrev pub Runs : World → List (LinkOp × LinkReply) → World → Type 0
Runs w [] v = v ≡ w
Runs w (step ∷ steps) v = (next : World) × Steps w step.0 step.1 next × Runs next steps v

-- a pair that was made with some last number came to this world by these steps
abbrev pub Reaches : List (LinkOp × LinkReply) → World → Type 0
Reaches steps w = (last : ℕ) × (last < 2 ^ 32) × Runs (fresh_world last) steps w

-- what one side read of a stream is what the other side's writes began with
abbrev pub DeliversInOrder : Type 0
DeliversInOrder = (steps : List (LinkOp × LinkReply)) (w : World) → Reaches steps w → IsInOrder (history steps)

-- until a cut, while a side has the stream, nothing of what was accepted is lost
abbrev pub LosesNothing : Type 0
LosesNothing = (steps : List (LinkOp × LinkReply)) (w : World) → Reaches steps w → IsAllThere (history steps) w

-- End is answered only where the other side ended its writing and all of it was read
abbrev pub EndsAtTheEnd : Type 0
EndsAtTheEnd = (steps : List (LinkOp × LinkReply)) (w v : World) → Reaches steps w
    → (side : Side2) (stream most : ℕ) → Steps w (ops.Read side stream most) (replies.Read answers.End) v → IsReadToTheEnd (history steps) (side_of side) stream

-- until a cut or a Close a stream's credit, bytes and amounts add up to 65,536
abbrev pub CreditsAddUp : Type 0
CreditsAddUp = (steps : List (LinkOp × LinkReply)) (w : World) → Reaches steps w → IsInBalance (history steps) w

-- until a cut each direction carries whole frames, the first of which may have come in part
abbrev pub CarriesFrames : Type 0
CarriesFrames = (steps : List (LinkOp × LinkReply)) (w : World) → Reaches steps w → IsWhole w
