-- What a step of a pair answers and leaves.
use Rattle.std.specs.Prelude.{◌≡◌, Bool, true, false}
use Rattle.mux_core.specs.Ends.{End, cut_off}
use Rattle.mux_core.specs.Worlds.{World, Side, Near, Far, other, at, with_end}
use Rattle.mux_link.specs.declared.op.LinkOp.{LinkOp}
use Rattle.mux_link.specs.declared.op.LinkOp.TheVariants as ops
use Rattle.mux_link.specs.declared.reply.LinkReply.{LinkReply}
use Rattle.mux_link.specs.declared.reply.LinkReply.TheVariants as replies
use Rattle.mux_link.specs.Posts.{side_of}
use Rattle.mux_link.specs.Calls.{Opens, Writes, Reads, EndsWriting, Closes}
use Rattle.mux_link.specs.Moves.{Moves}

-- a call at the end of one side; all else stays
abbrev pub OnEnd : World → Side → (End → End → Type 0) → World → Type 0
OnEnd w side Makes v = Makes (at w side).end (at v side).end × (v ≡ with_end w side (at v side).end)

-- the operation cuts the link
abbrev pub is_cutting : LinkOp → Bool
is_cutting ops.Cut = true
is_cutting _ = false

-- both ends learn that the link was cut
abbrev pub cut_both : World → World
cut_both w = with_end (with_end w Near (cut_off w.near.end)) Far (cut_off w.far.end)

-- From this world, where the operation is asked for, the reply comes and that world is left.
abbrev pub Steps : World → LinkOp → LinkReply → World → Type 0
Steps w ops.OpenStream reply v = OnEnd w Near (λ e after. Opens e reply after) v
Steps w (ops.Write side stream bytes) reply v = OnEnd w (side_of side) (λ e after. Writes e stream bytes reply after) v
Steps w (ops.Read side stream most) reply v = OnEnd w (side_of side) (λ e after. Reads e stream most reply after) v
Steps w (ops.CloseWrite side stream) reply v = OnEnd w (side_of side) (λ e after. EndsWriting e stream reply after) v
Steps w (ops.Close side stream) reply v = OnEnd w (side_of side) (λ e after. Closes e stream reply after) v
Steps w (ops.Move side most) reply v = Moves (at w (side_of side)) (at w (other (side_of side))) most reply (at v (side_of side)) (at v (other (side_of side)))
Steps w ops.Cut reply v = (reply ≡ replies.Done) × (v ≡ cut_both w)
