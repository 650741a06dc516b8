use Rattle.std.proofs.Common.{rules, ◌≡◌, ◌∙◌, length, take, refl, sym, ap, subst, arith}
use Rattle.std.proofs.lemmas.List.{length-set, length-take-le, take_more_set}
use Rattle.line_words.specs.Spelling.{unescaped}
use Rattle.line_words.specs.Steps.{IsTooLong}
use Rattle.line_words.proofs.Unescaping.{behind_of, behind_of-nothing, behind_of-push, one_more}
use Rattle.line_words.proofs.escape.unescape_into.Goals as goal

pub loop-rest-init : goal.loop-rest-init
loop-rest-init c = (refl, omega arith, behind_of-nothing (unescaped c.args.reading c.args.spelling.now))

pub returns-then-len-room-clause-fits : goal.returns-then-len-room-clause-fits
returns-then-len-room-clause-fits c =
    let room = c.loop-rest.room in
    let len = c.loop-rest.len in
    let full : len ≡ length room = search rules in
    let count = length-take-le len room c.loop-rest.invariant.1 in
    let word = c.loop-rest.invariant.2 ∙ ap (behind_of (take len room)) c.in_ok-b.ensures.0 in
    subst (IsTooLong (length room)) (sym word) (one_more (length room) (take len room) c.in_ok-b.b (unescaped c.args.reading c.in_ok-b.behind.now) (count ∙ full))

pub loop-rest-preserved : goal.loop-rest-preserved
loop-rest-preserved c =
    let room = c.loop-rest.room in
    let len = c.loop-rest.len in
    let b = c.in_ok-b.b in
    let left = unescaped c.args.reading c.in_ok-b.behind.now in
    let differs : ¬ (len ≡ length room) = search rules in
    let count = length-set room len b in (
      count ∙ c.loop-rest.invariant.0,
      (let most = c.loop-rest.invariant.1 in omega arith),
      c.loop-rest.invariant.2 ∙ ap (behind_of (take len room)) c.in_ok-b.ensures.0 ∙ behind_of-push (take len room) b left
          ∙ ap (λ bs. behind_of bs left) (sym (take_more_set room len b (let most = c.loop-rest.invariant.1 in omega arith))),
    )
