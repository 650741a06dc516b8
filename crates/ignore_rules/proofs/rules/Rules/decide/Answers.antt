use Rattle.std.proofs.Common.{not, sym, ap, ◌∙◌}
use Rattle.std.proofs.lemmas.Bool.{false≢true}
use Rattle.std.proofs.lemmas.List.{nil_from_length}
use Rattle.ignore_glob.specs.Grammar.{Meaning}
use Rattle.ignore_rules.proofs.Deciding.{found_last, one_last, none_left, not_true}
use Rattle.ignore_rules.proofs.rules.Rules.decide.Goals as goal

pub returns-then-matches : goal.returns-then-matches
returns-then-matches c =
    let last = c.in-Some.last.now in
    let found = found_last c.args.path.now c.args.is_dir c.args.self.now c.in-Some.before.now last c.loop-last.left.now c.loop-last.invariant c.in-Some.ensures.cases.0 (c.matches.ensures.0 c.if-matches.true) in (
      λ h. (last, found, sym c.is_negated.ensures ∙ not_true c.is_negated.result h),
      λ h. ap not (c.is_negated.ensures ∙ ap (λ (p : Meaning). p.negated) (one_last c.args.path.now c.args.is_dir c.args.self.now last h.0 found h.1) ∙ h.2),
    )

pub returns : goal.returns
returns c = (
  λ h. absurd (false≢true h),
  λ h. absurd (none_left c.args.path.now c.args.is_dir c.args.self.now c.loop-last.left.now c.loop-last.invariant (nil_from_length c.loop-last.left.now c.in_default.ensures.cases) h),
)
