use Rattle.std.proofs.Common.{◌≤◌, ◌+◌, ◌∙◌, length, sym, ap, subst}
use Rattle.std.specs.Prelude.{Option, None, Some, Result}
use Rattle.std.specs.declared.alloc.AllocError.{AllocError}
use Rattle.std.specs.Option.{IfSome, option_copied_mut}
use Rattle.mux_core.specs.declared.stream.TheConstants.{WINDOW}
use Rattle.mux_core.specs.declared.stream.Stream.{Stream}
use Rattle.mux_core.specs.declared.stream_map.StreamMap.TheInside.{Inside}
use Rattle.mux_core.specs.Streams.{HasNoZero, streams_in, with_buffer}
use Rattle.mux_core.proofs.StreamTree.{seen, written, Pushed, pushed, not_pushed}
use Rattle.mux_core.proofs.stream_map.StreamMap.push.Goals as goal
use Rattle.mux_core.proofs.stream_map.StreamMap.push.Goals.{in-Some, in-None+in-Some-1, in-None+in-None-1}

pub push-requires : goal.push-requires
push-requires c =
    let P : Option Stream → Type 0 = λ o. IfSome o (λ s. length s.buffer + length c.args.piece ≤ WINDOW) in
    subst P (seen c.self.inside.tree c.args.self.now c.args.number (Some c.in-Some.stream.now) c.self.view_is (sym (ap option_copied_mut c.in-Some.is) ∙ c.get_mut.ensures.value)) c.requires

ends : (c : goal.Joined-get_mut) → Pushed c.args.self.now c.args.number c.args.piece c.match-get_mut.result (streams_in c.match-get_mut.self-inside.tree)
ends c =
    let streams = c.args.self.now in
    let k = c.args.number in
    let none = subst HasNoZero c.self.view_is c.self.invariant in
    let Ends : Result Unit AllocError → Type 0 = λ r. Pushed streams k c.args.piece r (streams_in c.match-get_mut.self-inside.tree) in
    elim c.match-get_mut.branch [
      | in-Some w ↦
          let s = w.in-Some.stream.now in
          let here = sym (ap option_copied_mut w.in-Some.is) ∙ c.get_mut.ensures.value in
          let new = with_buffer w.push.new.self s in
          subst Ends (sym w.result-is)
          (pushed streams _ k s w.push.new.self c.args.piece w.push.result none (seen c.self.inside.tree streams k _ c.self.view_is here)
          (ap (λ (x : Inside). streams_in x.tree) w.self-inside-is
          ∙ written c.self.inside.tree (c.get_mut.follows.lender new) streams k s new c.self.view_is here (c.get_mut.follows.holds new))
          w.push.ensures.ok w.push.ensures.err)
      | in-None+in-Some-1 w ↦
          let here = sym (ap option_copied_mut w.in-None.is) ∙ c.get_mut.ensures.value in
          subst Ends (sym w.result-is)
          (not_pushed streams _ k c.args.piece none (seen c.self.inside.tree streams k None c.self.view_is here)
          (ap (λ (x : Inside). streams_in x.tree) w.self-inside-is ∙ ap streams_in c.get_mut.follows.holds-at-none ∙ c.self.view_is))
      | in-None+in-None-1 w ↦
          let here = sym (ap option_copied_mut w.in-None.is) ∙ c.get_mut.ensures.value in
          subst Ends (sym w.result-is)
          (not_pushed streams _ k c.args.piece none (seen c.self.inside.tree streams k None c.self.view_is here)
          (ap (λ (x : Inside). streams_in x.tree) w.self-inside-is ∙ ap streams_in c.get_mut.follows.holds-at-none ∙ c.self.view_is))
    ]

pub invariant_of-self : goal.invariant_of-self
invariant_of-self c = (ends c).zero

pub returns-clause-ok : goal.returns-clause-ok
returns-clause-ok c = (ends c).ok

pub returns-clause-err : goal.returns-clause-err
returns-clause-err c = (ends c).err
