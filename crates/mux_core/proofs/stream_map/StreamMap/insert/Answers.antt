use Rattle.std.proofs.Common.{sym, subst}
use Rattle.mux_core.specs.Streams.{HasNoZero}
use Rattle.mux_core.proofs.StreamTree.{inserted, zero-inserted}
use Rattle.mux_core.proofs.stream_map.StreamMap.insert.Goals as goal

pub returns-clause-ok : goal.returns-clause-ok
returns-clause-ok c = inserted c.self.inside.tree c.insert.new.self c.args.self.now c.args.number c.args.stream c.self.view_is c.in_ok-insert.ensures.updates

pub invariant_of-self-2 : goal.invariant_of-self-2
invariant_of-self-2 c = subst HasNoZero (sym (inserted c.self.inside.tree c.insert.new.self c.args.self.now c.args.number c.args.stream c.self.view_is c.in_ok-insert.ensures.updates)) (zero-inserted c.args.self.now c.args.number c.args.stream (subst HasNoZero c.self.view_is c.self.invariant) c.requires)
