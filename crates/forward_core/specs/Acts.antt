-- What a step of a forwarding session answers and leaves.
use Rattle.std.specs.Prelude.{◌≡◌, Bool, true, false, ◌&&◌}
use Rattle.mux_link.specs.declared.op.LinkOp.{LinkOp}
use Rattle.mux_link.specs.declared.op.LinkOp.TheVariants.{OpenStream}
use Rattle.mux_link.specs.declared.reply.LinkReply.{LinkReply}
use Rattle.mux_link.specs.declared.reply.LinkReply.TheVariants as replies
use Rattle.mux_link.specs.Steps.{Steps}
use Rattle.forward_core.specs.declared.op.ForwardOp.{ForwardOp}
use Rattle.forward_core.specs.declared.op.ForwardOp.TheVariants.{Link, Pause, Resume}
use Rattle.forward_core.specs.Sessions.{Session, paused_session, resumed_session}

abbrev pub is_open : LinkOp → Bool
is_open OpenStream = true
is_open _ = false

-- opening a stream is refused while the session is paused
abbrev pub is_refused : Session → LinkOp → Bool
is_refused s op = s.paused && is_open op

-- From this session, where the operation is asked for, the reply comes and that session is left.
abbrev pub Acts : Session → ForwardOp → LinkReply → Session → Type 0
Acts s (Link op) reply t = (is_refused s op ≡ true → (reply ≡ replies.Paused) × (t ≡ s)) × (is_refused s op ≡ false → Steps s.link op reply t.link × (t.paused ≡ s.paused))
Acts s Pause reply t = (reply ≡ replies.Done) × (t ≡ paused_session s)
Acts s Resume reply t = (reply ≡ replies.Done) × (t ≡ resumed_session s)
