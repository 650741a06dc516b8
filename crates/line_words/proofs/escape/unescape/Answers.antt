use Rattle.std.proofs.Common.{◌∙◌, sym, ap}
use Rattle.line_words.specs.Spelling.{unescaped}
use Rattle.line_words.proofs.Unescaping.{behind_of, behind_of-push}
use Rattle.line_words.proofs.escape.unescape.Goals as goal

pub loop-rest-preserved : goal.loop-rest-preserved
loop-rest-preserved c =
    let kept = unescaped c.args.reading c.in-Some.behind.now in
    c.loop-rest.invariant ∙ ap (behind_of c.loop-rest.bytes.items) c.in-Some.ensures.0
    ∙ behind_of-push c.loop-rest.bytes.items c.in-Some.b kept
    ∙ ap (λ bs. behind_of bs kept) (sym c.in_ok-push.ensures.items)
