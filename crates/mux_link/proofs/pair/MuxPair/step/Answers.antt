use Rattle.mux_link.specs.Posts.{joined}
use Rattle.mux_link.proofs.Made.{step_reached}
use Rattle.mux_link.proofs.pair.MuxPair.step.Goals as goal

pub invariant_of-self : goal.invariant_of-self
invariant_of-self c = step_reached (joined c.self.inside.near c.self.inside.far) (joined c.act.new.near c.act.new.far) c.args.op c.act.result c.self.invariant c.act.ensures
