-- How the values that contracts see are told apart.
use Rattle.std.specs.Prelude.{ℕ, List, refl}
use Rattle.std.specs.Coded.{Coded, code_by, coded×, coded_list, coded_ℕ}
use Rattle.std.specs.FinSet as set
use Rattle.entry_tree.specs.contracts.side.Side as side
use Rattle.entry_tree.specs.declared.side.Side.{Side}
use Rattle.mode_rules.specs.contracts.problem.Problem as problem
use Rattle.mode_rules.specs.declared.problem.Problem.{Problem}
use Rattle.roots_api.specs.contracts.answer.Answer as answer
use Rattle.roots_api.specs.contracts.content.Content as content
use Rattle.roots_api.specs.declared.answer.Answer.{Answer}
use Rattle.stage_core.specs.Staging.{Digests, Stand}
use Rattle.stage_core.specs.Told.{StagingTold}
use Rattle.stage_core.specs.contracts.doing.Doing as doing
use Rattle.stage_core.specs.contracts.need.Need as need
use Rattle.stage_core.specs.declared.doing.Doing.{Doing}
use Rattle.stage_core.specs.declared.need.Need.{Need}

abbrev pub stand_code : Coded Stand
stand_code =
    code_by (Doing × (List Need × (Digests × List Problem)))
    (coded× doing.the_row.coded (coded× (coded_list need.the_row.coded) (coded× (set.code (coded_list coded_ℕ)) (coded_list problem.the_row.coded))))
    (λ s. (s.doing, (s.left, (s.kept, s.missing)))) (λ p. record { doing = p.0; left = p.1.0; kept = p.1.1.0; missing = p.1.1.1 }) (λ _. refl)

abbrev pub staging_code : Coded StagingTold
staging_code =
    code_by (Side × (List Need × List (Answer (List ℕ))))
    (coded× side.the_row.coded (coded× (coded_list need.the_row.coded) (coded_list (answer.the_row content.the_row).coded)))
    (λ m. (m.side, (m.needs, m.answers))) (λ p. record { side = p.0; needs = p.1.0; answers = p.1.1 }) (λ _. refl)
