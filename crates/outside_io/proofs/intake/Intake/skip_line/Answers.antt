use Rattle.std.proofs.Common.{◌≡◌, ◌<◌, List, ℕ, ap, sym, subst, ◌∙◌, arith}
use Rattle.std.specs.Io.KnownBytes.{Consumes}
use Rattle.outside_io.specs.Lines.{HasNoNewline}
use Rattle.outside_io.specs.Taking.{SkipsLine}
use Rattle.outside_io.proofs.SkipLemmas.{SkipsLine-newline, TakesNoLine-more}
use Rattle.outside_io.proofs.TakingLemmas.{CountsTaken-trans}
use Rattle.outside_io.proofs.intake.Intake.skip_line.Goals as goal
use Rattle.outside_io.specs.declared.limits.TheConstants.{MOST_TAKEN}

pub returns-in-Some-clause-ok : goal.returns-in-Some-clause-ok
returns-in-Some-clause-ok g c =
    let left = g.S.Source.left in
    let same : c.refill.new.self.held ≡ c.self-in-loop-self.inside.buffer.held = ap (λ t. t.held) (sym c.self-in-loop-self.view_is) in
    let given = subst (Consumes (left c.loop-self.source) (left c.refill.new.source)) same c.in_ok-refill.ensures.bytes.0 in
    let place = c.in-Some.ensures in
    subst (λ (h : List ℕ). SkipsLine (c.self-in-loop-self.inside.taken < MOST_TAKEN) (left c.args.source.now) h (left c.refill.new.source)) (sym c.pass.ensures.held)
    (SkipsLine-newline _ _ _ _ _ c.in-Some.place c.loop-self.invariant.passed given place.0 place.1 place.2)

pub loop-self-preserved : goal.loop-self-preserved
loop-self-preserved g c =
    let left = g.S.Source.left in
    let same : c.refill.new.self.held ≡ c.self-in-loop-self.inside.buffer.held = ap (λ t. t.held) (sym c.self-in-loop-self.view_is) in
    let none : HasNoNewline c.refill.new.self.held = subst HasNoNewline (sym same) c.in_default.ensures in
    record {
      line = c.refill.ensures.line ∙ c.loop-self.invariant.line;
      room = (c.refill.ensures.room ∙ c.loop-self.invariant.room.0, omega (arith, c.refill.ensures.room));
      passed = TakesNoLine-more _ _ _ c.refill.new.self.held c.loop-self.invariant.passed none c.in_ok-refill.ensures.bytes.0;
      taken = (omega (arith, c.in_ok-refill.ensures.count), c.refill.ensures.within);
      counted = CountsTaken-trans _ _ _ c.args.self.now.taken c.loop-self.self.taken c.refill.new.self.taken c.loop-self.invariant.counted c.refill.ensures.counted;
      counts = omega arith;
    }
