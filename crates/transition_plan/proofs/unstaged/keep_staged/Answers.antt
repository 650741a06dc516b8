use Rattle.std.proofs.Common.{rules, not}
use Rattle.std.proofs.lemmas.Fn.{filter_same}
use Rattle.transition_plan.specs.Courses.{is_unstaged}
use Rattle.transition_plan.specs.declared.step.Step.{Step}
use Rattle.transition_plan.proofs.unstaged.keep_staged.Goals as goal

pub returns-clause-kept : goal.returns-clause-kept
returns-clause-kept c =
    filter_same _ (λ (step : Step). not (is_unstaged c.args.missing.now step.op)) _ (λ x b f' t. search rules) c.args.rest.now.items _ c.retain.ensures.filtered
