use Rattle.std.proofs.Common.{sym, subst}
use Rattle.std.specs.Option.{option_copied}
use Rattle.mux_core.specs.Streams.{HasNoZero}
use Rattle.mux_core.proofs.StreamTree.{seen, live_positive}
use Rattle.mux_core.proofs.stream_map.StreamMap.get.Goals as goal

pub returns-clause-value : goal.returns-clause-value
returns-clause-value c = sym (seen c.self.inside.tree c.args.self.now c.args.number (option_copied c.get.result) c.self.view_is c.get.ensures.value)

pub returns-clause-positive : goal.returns-clause-positive
returns-clause-positive c = live_positive c.args.self.now c.args.number c.get.result (subst HasNoZero c.self.view_is c.self.invariant) (sym (returns-clause-value c))
