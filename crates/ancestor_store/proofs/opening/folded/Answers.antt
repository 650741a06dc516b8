use Rattle.std.proofs.Common.{rules, ◌≡◌, ◌∷◌, Err, sym, ap, subst, ◌∙◌}
use Rattle.frame_text.specs.Folds.{IsBadFrame}
use Rattle.ancestor_store.specs.Keeping.{bytes_of}
use Rattle.ancestor_store.specs.Opening.{NoFirst}
use Rattle.ancestor_store.proofs.Opened.{bad_first}
use Rattle.ancestor_store.proofs.opening.folded.Goals as goal

pub returns-in-Err-Bad-clause-bad : goal.returns-in-Err-Bad-clause-bad
returns-in-Err-Bad-clause-bad c = λ number e.
    let same : 0 ≡ number = cc in
    let parts : bytes_of c.args.frames.now ≡ c.as_slice.result.now ∷ bytes_of c.in-Some.behind.now = search rules in
    let none : NoFirst c.as_slice.result.now = c.first_frame.ensures.bad (c.in-Err-Bad.is ∙ ap Err c.in-Err-Bad.field-0-is) in
    subst (IsBadFrame (bytes_of c.args.frames.now)) same (subst (λ fs. IsBadFrame fs 0) (sym parts) (bad_first c.as_slice.result.now (bytes_of c.in-Some.behind.now) none))
