use Rattle.sync_path.proofs.Texts.{path_or_bad, path_from_text, path_has_no_bad, one_bad_place}
use Rattle.sync_path.proofs.laws.one_reading.Goals as goal

pub returns-clause-either : goal.returns-clause-either
returns-clause-either c = path_or_bad

pub returns-clause-not_both : goal.returns-clause-not_both
returns-clause-not_both c = λ text place path bad. path_has_no_bad text place (path_from_text text path) bad

pub returns-clause-one_place : goal.returns-clause-one_place
returns-clause-one_place c = one_bad_place
