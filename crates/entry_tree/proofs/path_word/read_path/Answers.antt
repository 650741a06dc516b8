use Rattle.std.proofs.Common.{subst}
use Rattle.std.specs.Str.{IsUtf8}
use Rattle.entry_tree.proofs.PathWords.{path_word_is_utf8}
use Rattle.entry_tree.proofs.path_word.read_path.Goals as goal

pub returns-in-Err-clause-none : goal.returns-in-Err-clause-none
returns-in-Err-clause-none c = λ e names path is. c.in-Err.ensures.cases.0 (subst IsUtf8 is (path_word_is_utf8 names path))
