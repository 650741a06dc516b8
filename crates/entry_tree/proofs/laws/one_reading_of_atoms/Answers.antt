use Rattle.entry_tree.proofs.AtomLaws.{not_both, one_place}
use Rattle.entry_tree.proofs.laws.one_reading_of_atoms.Goals as goal

pub returns-clause-not_both : goal.returns-clause-not_both
returns-clause-not_both c = not_both

pub returns-clause-one_place : goal.returns-clause-one_place
returns-clause-one_place c = one_place
