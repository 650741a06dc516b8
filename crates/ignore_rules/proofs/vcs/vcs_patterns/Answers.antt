use Rattle.ignore_rules.proofs.Folders.{git, subversion, mercurial, bazaar, darcs}
use Rattle.ignore_rules.proofs.vcs.vcs_patterns.Goals as goal

pub folder_pattern-requires : goal.folder_pattern-requires
folder_pattern-requires c = git

pub folder_pattern-requires-2 : goal.folder_pattern-requires-2
folder_pattern-requires-2 c = subversion

pub folder_pattern-requires-3 : goal.folder_pattern-requires-3
folder_pattern-requires-3 c = mercurial

pub folder_pattern-requires-4 : goal.folder_pattern-requires-4
folder_pattern-requires-4 c = bazaar

pub folder_pattern-requires-5 : goal.folder_pattern-requires-5
folder_pattern-requires-5 c = darcs
