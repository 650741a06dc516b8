use Rattle.std.proofs.Common.{rules, ◌≡◌, ◌∷◌, ◌+◌, Err, refl, ap, subst, ◌∙◌, arith, length}
use Rattle.frame_text.specs.Folds.{IsBadFrame}
use Rattle.ancestor_store.specs.Keeping.{bytes_of}
use Rattle.ancestor_store.specs.Opening.{NoNext, Opened}
use Rattle.ancestor_store.proofs.Opened.{opened_bad, opened_start, opened_step}
use Rattle.ancestor_store.proofs.opening.folded_behind.Goals as goal

pub loop-frame-init : goal.loop-frame-init
loop-frame-init c = (opened_start c.args.first.now (bytes_of c.args.behind.now) c.args.ancestor c.requires, refl)

pub returns-in-Err-Bad-clause-bad : goal.returns-in-Err-Bad-clause-bad
returns-in-Err-Bad-clause-bad c = λ number e.
    let same : c.loop-frame.number ≡ number = cc in
    let parts : bytes_of c.loop-frame.rest.now ≡ c.as_slice.result.now ∷ bytes_of c.in-Some.more.now = search rules in
    let all = c.args.first.now ∷ bytes_of c.args.behind.now in
    let none : NoNext c.loop-frame.ancestor c.as_slice.result.now = c.next_frame.ensures.bad (c.in-Err-Bad.is ∙ ap Err c.in-Err-Bad.field-0-is) in
    subst (IsBadFrame all) same
    (opened_bad all c.loop-frame.ancestor c.loop-frame.number c.as_slice.result.now (bytes_of c.in-Some.more.now) (subst (Opened all c.loop-frame.ancestor c.loop-frame.number) parts c.loop-frame.invariant.0) none)

pub loop-frame-preserved : goal.loop-frame-preserved
loop-frame-preserved c =
    let parts : bytes_of c.loop-frame.rest.now ≡ c.as_slice.result.now ∷ bytes_of c.in-Some.more.now = search rules in
    let all = c.args.first.now ∷ bytes_of c.args.behind.now in
    let sizes : length c.loop-frame.rest.now ≡ 1 + length c.in-Some.more.now = search rules in (
      opened_step all c.loop-frame.ancestor c.next_frame.new.ancestor c.loop-frame.number c.as_slice.result.now (bytes_of c.in-Some.more.now)
          (subst (Opened all c.loop-frame.ancestor c.loop-frame.number) parts c.loop-frame.invariant.0) c.in-Ok.ensures.value,
      omega (arith, c.loop-frame.invariant.1, sizes),
    )
