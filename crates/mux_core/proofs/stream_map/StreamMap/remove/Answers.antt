use Rattle.std.proofs.Common.{sym, subst}
use Rattle.mux_core.specs.Streams.{HasNoZero}
use Rattle.mux_core.proofs.StreamTree.{removed, zero-removed}
use Rattle.mux_core.proofs.stream_map.StreamMap.remove.Goals as goal

pub returns : goal.returns
returns c = removed c.self.inside.tree c.remove.new.self c.args.self.now c.args.number c.self.view_is c.remove.ensures.updates

pub invariant_of-self : goal.invariant_of-self
invariant_of-self c = subst HasNoZero (sym (removed c.self.inside.tree c.remove.new.self c.args.self.now c.args.number c.self.view_is c.remove.ensures.updates)) (zero-removed c.args.self.now c.args.number (subst HasNoZero c.self.view_is c.self.invariant))
