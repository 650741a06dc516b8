use Rattle.std.proofs.Common.{◌≡◌, ◌∙◌, ◌<◌, ◌++◌, ◌∷◌, [], length, lit<, sym, ap, subst, string_bytes, arith}
use Rattle.std.proofs.lemmas.Iterator.{YieldsList}
use Rattle.std.proofs.lemmas.Iterator.Consumers.{YieldsList-at}
use Rattle.std.proofs.lemmas.Iterator.Splits.{YieldsList-from_str_split}
use Rattle.std.specs.Str.Iter.{split_steps}
use Rattle.std.specs.Str.Pattern.{FindsChar}
use Rattle.sync_path.proofs.TextParts.{parts_of-some, filling_start, filling_step, filling_end}
use Rattle.sync_path.proofs.reading.buffer_of_text.Goals as goal

pub loop-part-init : goal.loop-part-init
loop-part-init c =
    let some : 0 < length c.args.text.now = grind arith in
    let all = YieldsList-from_str_split 47 c.args.text.now (lit< tt) c.split-part-items.ensures.text c.split-part-items.ensures.has_more c.split-part-items.ensures.pattern in
    rw (c.in_ok-reserve_exact.ensures.bytes ∙ c.new-buffer.ensures.bytes)
    (filling_start _ _ _ _
    (subst (YieldsList (split_steps FindsChar (λ a b. b ≡ a)) (λ x. x.now) c.into_iter-part-iterator.result) (sym (parts_of-some c.args.text.now some))
    (YieldsList-at c.into_iter-part-iterator.ensures.into_iter_gives all)))

pub loop-part-preserved : goal.loop-part-preserved
loop-part-preserved c =
    filling_step _ _ _ c.next.new.self _ _ _ c.in-Some.part c.loop-part.invariant c.in-Some.ensures.steps
    (c.in_ok-push.ensures.bytes ∙ ap (λ bs. string_bytes c.push_str.new.self ++ bs) (c.in_ok-push.ensures.ascii (lit< tt)) ∙ ap (λ bs. bs ++ 0 ∷ []) c.in_ok-push_str.ensures.bytes)

pub returns : goal.returns
returns c = filling_end _ _ _ _ _ _ c.loop-part.invariant c.in-None.ensures.steps
