use Rattle.std.proofs.Common.{◌++◌, List, ℕ, ap, sym, subst, ◌∙◌}
use Rattle.outside_io.specs.Lines.{HasNoNewline}
use Rattle.outside_io.proofs.TakingLemmas.{Consumes-prepended, HasNoNewline-behind}
use Rattle.outside_io.proofs.line_reader.LineReader.next.Goals as goal

pub returns-in-Some-clause-no_line : goal.returns-in-Some-clause-no_line
returns-in-Some-clause-no_line g c =
    λ _. (c.args.self.now.held, subst HasNoNewline (ap (λ r. r.held) c.self.view_is) (c.self.invariant.unbroken c.in-Some.fault c.in-Some.is), Consumes-prepended _ _)

pub returns-in-Err-clause-at_limit : goal.returns-in-Err-clause-at_limit
returns-in-Err-clause-at_limit g c =
    let made = c.prepare.ensures in
    let parts = sym (ap (λ r. r.held) c.self.view_is) ∙ ap (λ (l : List ℕ). l ++ c.self.inside.intake.held) (sym made.line) ∙ ap (λ (h : List ℕ). c.prepare.new.self.line ++ h) (sym made.held) in
    λ _ full none. c.in-Err.ensures.at_limit (made.taken ∙ ap (λ r. r.taken) c.self.view_is ∙ full) (HasNoNewline-behind _ _ (subst HasNoNewline parts none))

pub returns-in_default-answer-clause-at_limit : goal.returns-in_default-answer-clause-at_limit
returns-in_default-answer-clause-at_limit g c =
    let made = c.prepare.ensures in
    let parts = sym (ap (λ r. r.held) c.self.view_is) ∙ ap (λ (l : List ℕ). l ++ c.self.inside.intake.held) (sym made.line) ∙ ap (λ (h : List ℕ). c.prepare.new.self.line ++ h) (sym made.held) in
    λ _ full none. c.next-answer.ensures.at_limit (made.taken ∙ ap (λ r. r.taken) c.self.view_is ∙ full) (HasNoNewline-behind _ _ (subst HasNoNewline parts none))
