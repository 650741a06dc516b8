use Rattle.std.proofs.Common.{◌≤◌, ◌∙◌, ℕ, List, length, drop, sym, ap, subst}
use Rattle.std.specs.Prelude.{Option, None, Some}
use Rattle.std.specs.Option.{IfSome, option_copied_mut}
use Rattle.std.specs.FinMap as map
use Rattle.mux_core.specs.declared.stream.Stream.{Stream}
use Rattle.mux_core.specs.declared.stream_map.StreamMap.TheInside.{Inside}
use Rattle.mux_core.specs.Streams.{HasNoZero, streams_in, with_buffer}
use Rattle.mux_core.proofs.StreamTree.{seen, written, changed-some, changed-none, zero-changed}
use Rattle.mux_core.proofs.stream_map.StreamMap.advance.Goals as goal
use Rattle.mux_core.proofs.stream_map.StreamMap.advance.Goals.{in-Some, in-None}

pub advance-requires : goal.advance-requires
advance-requires c =
    let P : Option Stream → Type 0 = λ o. IfSome o (λ s. c.args.count ≤ length s.buffer) in
    subst P (seen c.self.inside.tree c.args.self.now c.args.number (Some c.in-Some.stream.now) c.self.view_is (sym (ap option_copied_mut c.in-Some.is) ∙ c.get_mut.ensures.value)) c.requires

pub returns : goal.returns
returns c =
    let streams = c.args.self.now in
    let k = c.args.number in
    elim c.match-get_mut.branch [
      | in-Some w ↦
          let s = w.in-Some.stream.now in
          let here = sym (ap option_copied_mut w.in-Some.is) ∙ c.get_mut.ensures.value in
          let new = with_buffer w.advance.new.self s in
          ap (λ (x : Inside). streams_in x.tree) w.self-inside-is
          ∙ written c.self.inside.tree (c.get_mut.follows.lender new) streams k s new c.self.view_is here (c.get_mut.follows.holds new)
          ∙ ap (λ (b : List ℕ). map.insert streams k (with_buffer b s)) w.advance.ensures
          ∙ sym (changed-some streams k (λ t. with_buffer (drop c.args.count t.buffer) t) s (seen c.self.inside.tree streams k _ c.self.view_is here))
      | in-None w ↦
          let here = sym (ap option_copied_mut w.in-None.is) ∙ c.get_mut.ensures.value in
          ap (λ (x : Inside). streams_in x.tree) w.self-inside-is
          ∙ ap streams_in c.get_mut.follows.holds-at-none
          ∙ c.self.view_is
          ∙ sym (changed-none streams k (λ t. with_buffer (drop c.args.count t.buffer) t) (seen c.self.inside.tree streams k None c.self.view_is here))
    ]

pub invariant_of-self : goal.invariant_of-self
invariant_of-self c = subst HasNoZero (sym (returns c)) (zero-changed c.args.self.now c.args.number (λ t. with_buffer (drop c.args.count t.buffer) t) (subst HasNoZero c.self.view_is c.self.invariant))
