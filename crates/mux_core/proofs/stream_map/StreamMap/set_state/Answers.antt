use Rattle.std.proofs.Common.{◌∙◌, sym, ap, subst}
use Rattle.std.specs.Prelude.{None}
use Rattle.std.specs.Option.{option_copied_mut}
use Rattle.mux_core.specs.declared.stream_map.StreamMap.TheInside.{Inside}
use Rattle.mux_core.specs.Streams.{HasNoZero, streams_in, with_state}
use Rattle.mux_core.proofs.StreamTree.{seen, written, changed-some, changed-none, zero-changed}
use Rattle.mux_core.proofs.stream_map.StreamMap.set_state.Goals as goal
use Rattle.mux_core.proofs.stream_map.StreamMap.set_state.Goals.{in-Some, in-None}

pub returns : goal.returns
returns c =
    let streams = c.args.self.now in
    let k = c.args.number in
    elim c.match-get_mut.branch [
      | in-Some w ↦
          let s = w.in-Some.stream.now in
          let here = sym (ap option_copied_mut w.in-Some.is) ∙ c.get_mut.ensures.value in
          let new = with_state c.args.state s in
          ap (λ (x : Inside). streams_in x.tree) w.self-inside-is
          ∙ written c.self.inside.tree (c.get_mut.follows.lender new) streams k s new c.self.view_is here (c.get_mut.follows.holds new)
          ∙ sym (changed-some streams k (with_state c.args.state) s (seen c.self.inside.tree streams k _ c.self.view_is here))
      | in-None w ↦
          let here = sym (ap option_copied_mut w.in-None.is) ∙ c.get_mut.ensures.value in
          ap (λ (x : Inside). streams_in x.tree) w.self-inside-is
          ∙ ap streams_in c.get_mut.follows.holds-at-none
          ∙ c.self.view_is
          ∙ sym (changed-none streams k (with_state c.args.state) (seen c.self.inside.tree streams k None c.self.view_is here))
    ]

pub invariant_of-self : goal.invariant_of-self
invariant_of-self c = subst HasNoZero (sym (returns c)) (zero-changed c.args.self.now c.args.number (with_state c.args.state) (subst HasNoZero c.self.view_is c.self.invariant))
