use Rattle.mux_link.specs.Posts.{joined}
use Rattle.mux_link.proofs.Reaching.{near_is}
use Rattle.mux_link.proofs.pair.act.Goals as goal

pub open-requires : goal.open-requires
open-requires c = near_is (joined c.args.near.now c.args.far.now) c.requires
