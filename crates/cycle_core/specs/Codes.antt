-- How the values that contracts see are told apart.
use Rattle.std.specs.Prelude.{Bool, List, refl}
use Rattle.std.specs.Coded.{Coded, code_by, coded×, coded_list, coded_bool}
use Rattle.entry_tree.specs.contracts.side.Side as side
use Rattle.entry_tree.specs.declared.side.Side.{Side}
use Rattle.mode_rules.specs.contracts.ancestor_line.AncestorLine as line
use Rattle.mode_rules.specs.contracts.conflict.Conflict as conflict
use Rattle.mode_rules.specs.contracts.problem.Problem as problem
use Rattle.mode_rules.specs.contracts.report.Outcome as outcome
use Rattle.mode_rules.specs.declared.ancestor_line.AncestorLine.{AncestorLine}
use Rattle.mode_rules.specs.declared.conflict.Conflict.{Conflict}
use Rattle.mode_rules.specs.declared.problem.Problem.{Problem}
use Rattle.mode_rules.specs.declared.report.Outcome.{Outcome}
use Rattle.stage_core.specs.Codes.{staging_code}
use Rattle.stage_core.specs.Told.{StagingTold}
use Rattle.transition_plan.specs.Courses.{Course}
use Rattle.transition_plan.specs.contracts.steps.Steps as steps
use Rattle.cycle_core.specs.Looks.{Looking}
use Rattle.cycle_core.specs.UnderWay.{UnderWay}
use Rattle.cycle_core.specs.contracts.looks.Looks as looks
use Rattle.cycle_core.specs.declared.looks.Looks.{Looks}

abbrev pub looking_code : Coded Looking
looking_code = code_by (Side × Looks) (coded× side.the_row.coded looks.the_row.coded) (λ l. (l.side, l.looks)) (λ p. record { side = p.0; looks = p.1 }) (λ _. refl)

abbrev pub under_way_code : Coded UnderWay
under_way_code =
    code_by (Outcome × (List Conflict × (List Problem × (List AncestorLine × (StagingTold × (StagingTold × (Bool × (Bool × List Course))))))))
    (coded× outcome.the_row.coded (coded× (coded_list conflict.the_row.coded) (coded× (coded_list problem.the_row.coded) (coded× (coded_list line.the_row.coded)
    (coded× staging_code (coded× staging_code (coded× coded_bool (coded× coded_bool (coded_list steps.the_row.coded)))))))))
    (λ w. (w.outcome, (w.conflicts, (w.seen, (w.agreed, (w.alpha, (w.beta, (w.alpha_asked, (w.beta_asked, w.courses)))))))))
    (λ p. record { outcome = p.0; conflicts = p.1.0; seen = p.1.1.0; agreed = p.1.1.1.0; alpha = p.1.1.1.1.0; beta = p.1.1.1.1.1.0; alpha_asked = p.1.1.1.1.1.1.0; beta_asked = p.1.1.1.1.1.1.1.0; courses = p.1.1.1.1.1.1.1.1 })
    (λ _. refl)
