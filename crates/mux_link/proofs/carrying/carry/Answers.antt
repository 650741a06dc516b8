use Rattle.std.proofs.Common.{◌≡◌, ℕ, ◌+◌, ◌-◌, ◌≤◌, length, subst, ◌∙◌, arith}
use Rattle.mux_link.specs.Posts.{seen}
use Rattle.mux_link.specs.Moves.{Went}
use Rattle.mux_link.proofs.Reaching.{sound, not_bad}
use Rattle.mux_link.proofs.Handing.{went_none, went_join, went_joined, went_linked}
use Rattle.mux_link.proofs.carrying.carry.Goals as goal

pub loop-left-init : goal.loop-left-init
loop-left-init c =
    let from = seen c.args.from.now in
    let to = seen c.args.to.now in
    let known = sound from to c.requires.joined in
    let none : 0 ≡ c.min-count.result - c.min-count.result = omega arith in
    (omega arith, subst (λ (n : ℕ). Went from to n from to) none (went_none from to (not_bad from to c.requires.joined) known.small known.partial))

pub carry_part-requires-clause-joined : goal.carry_part-requires-clause-joined
carry_part-requires-clause-joined c =
    went_joined (seen c.args.from.now) (seen c.args.to.now) (seen c.loop-left.from) (seen c.loop-left.to) (c.min-count.result - c.loop-left.left) c.requires.joined c.requires.linked c.requires.linked_there c.loop-left.invariant.1

pub carry_part-requires-clause-linked_there : goal.carry_part-requires-clause-linked_there
carry_part-requires-clause-linked_there c =
    (went_linked (seen c.args.from.now) (seen c.args.to.now) (seen c.loop-left.from) (seen c.loop-left.to) (c.min-count.result - c.loop-left.left) c.loop-left.invariant.1).1 ∙ c.requires.linked_there

pub loop-left-preserved : goal.loop-left-preserved
loop-left-preserved c =
    let from = seen c.args.from.now in
    let to = seen c.args.to.now in
    let count = c.min-count.result in
    let left = c.loop-left.left in
    let more = c.in_ok-left.field-0 in
    let part = c.in_ok-left.ensures.ok in
    let inv = c.loop-left.invariant in
    let fits : (count - left) + more ≤ length c.args.from.now.end.waiting = omega (arith, part.1, inv.0, c.min-count.ensures, c.waiting.ensures) in
    let all : (count - left) + more ≡ count - (left - more) = omega (arith, part.1, inv.0) in (
      omega (arith, inv.0),
      subst (λ (n : ℕ). Went from to n (seen c.carry_part.new.from) (seen c.carry_part.new.to)) all
          (went_join from to (seen c.loop-left.from) (seen c.loop-left.to) (seen c.carry_part.new.from) (seen c.carry_part.new.to) (count - left) more fits inv.1 part.2),
    )
