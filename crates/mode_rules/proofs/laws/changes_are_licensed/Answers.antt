use Rattle.std.proofs.Common.{◌≡◌}
use Rattle.entry_tree.specs.declared.side.Side.TheVariants.{Alpha}
use Rattle.mode_rules.specs.declared.change.Change.{Change}
use Rattle.mode_rules.specs.declared.mode.Mode.TheVariants.{TwoWaySafe, OneWaySafe}
use Rattle.mode_rules.specs.ChangeLaws.{ReplacesOthers, IsLicensed}
use Rattle.mode_rules.specs.Laws.{TakesOnlyTheAncestors}
use Rattle.mode_rules.specs.Plans.{points_of, change_at}
use Rattle.mode_rules.proofs.Changing.{replaces_others, licensed_by, with_both}
use Rattle.mode_rules.proofs.Licences.{two_way_takes, one_way_takes, alpha_takes}
use Rattle.mode_rules.proofs.PlanLaws.{all_kept}
use Rattle.mode_rules.proofs.laws.changes_are_licensed.Goals as goal

pub returns-clause-two_way : goal.returns-clause-two_way
returns-clause-two_way c = λ t closed.
    all_kept _ _ (λ p. with_both (TakesOnlyTheAncestors t) (ReplacesOthers t) (IsLicensed t) (licensed_by t) (change_at TwoWaySafe t p) (two_way_takes t p) (replaces_others t closed p TwoWaySafe)) (points_of t)

pub returns-clause-one_way : goal.returns-clause-one_way
returns-clause-one_way c = λ t closed.
    all_kept _ _ (λ p. with_both (TakesOnlyTheAncestors t) (ReplacesOthers t) (IsLicensed t) (licensed_by t) (change_at OneWaySafe t p) (one_way_takes t p) (replaces_others t closed p OneWaySafe)) (points_of t)

pub returns-clause-of_alpha : goal.returns-clause-of_alpha
returns-clause-of_alpha c = λ mode t closed.
    all_kept _ _ (λ p. with_both (λ (change : Change). change.side ≡ Alpha → TakesOnlyTheAncestors t change) (ReplacesOthers t) (λ (change : Change). change.side ≡ Alpha → IsLicensed t change)
    (λ change takes replaces alpha. licensed_by t change (takes alpha) replaces) (change_at mode t p) (alpha_takes mode t p) (replaces_others t closed p mode)) (points_of t)
