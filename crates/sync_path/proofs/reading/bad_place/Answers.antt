use Rattle.std.proofs.Common.{◌≡◌, ◌∙◌, ◌<◌, length, lit<, sym, subst, arith}
use Rattle.std.proofs.lemmas.Iterator.{YieldsList}
use Rattle.std.proofs.lemmas.Iterator.Consumers.{YieldsList-at}
use Rattle.std.proofs.lemmas.Iterator.Splits.{YieldsList-from_str_split}
use Rattle.std.specs.Str.Iter.{split_steps}
use Rattle.std.specs.Str.Pattern.{FindsChar}
use Rattle.sync_path.proofs.TextParts.{parts_of-some, progress_start, progress_step, progress_bad, progress_end}
use Rattle.sync_path.proofs.reading.bad_place.Goals as goal

pub loop-part-init : goal.loop-part-init
loop-part-init c =
    let some : 0 < length c.args.text.now = grind arith in
    let all = YieldsList-from_str_split 47 c.args.text.now (lit< tt) c.split-part-items.ensures.text c.split-part-items.ensures.has_more c.split-part-items.ensures.pattern in
    progress_start _ _ _ _
    (subst (YieldsList (split_steps FindsChar (λ a b. b ≡ a)) (λ x. x.now) c.into_iter-part-iterator.result) (sym (parts_of-some c.args.text.now some))
    (YieldsList-at c.into_iter-part-iterator.ensures.into_iter_gives all))

pub returns-then-not-may_follow : goal.returns-then-not-may_follow
returns-then-not-may_follow c = progress_bad _ _ _ c.next.new.self _ _ _ c.in-Some.part c.loop-part.invariant c.in-Some.ensures.steps (sym c.may_follow.ensures ∙ c.if-not-may_follow.true)

pub loop-part-preserved : goal.loop-part-preserved
loop-part-preserved c = progress_step _ _ _ c.next.new.self _ _ _ c.in-Some.part c.loop-part.invariant c.in-Some.ensures.steps (sym c.may_follow.ensures ∙ c.if-not-may_follow.false)

pub returns : goal.returns
returns c = progress_end _ _ _ _ _ _ _ c.loop-part.invariant c.in-None.ensures.steps
