use Rattle.entry_tree.proofs.AtomLaws.{written_atom}
use Rattle.entry_tree.proofs.laws.written_atom_is_read.Goals as goal

pub returns : goal.returns
returns c = written_atom
