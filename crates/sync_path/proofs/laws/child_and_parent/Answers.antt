use Rattle.std.proofs.Common.{◌∷◌, []}
use Rattle.sync_path.proofs.Ends.{parent_of-push, last_name-push, child_from_ends, root_from_none}
use Rattle.sync_path.proofs.Lengths.{path_from_front, path_with, follows_in_path}
use Rattle.sync_path.proofs.laws.child_and_parent.Goals as goal

pub returns-clause-parent : goal.returns-clause-parent
returns-clause-parent c = parent_of-push

pub returns-clause-name : goal.returns-clause-name
returns-clause-name c = last_name-push

pub returns-clause-child : goal.returns-clause-child
returns-clause-child c = child_from_ends

pub returns-clause-root : goal.returns-clause-root
returns-clause-root c = root_from_none

pub returns-clause-fits : goal.returns-clause-fits
returns-clause-fits c = λ path name. (λ h. (path_from_front path (name ∷ []) h, follows_in_path path name [] h), λ h. path_with path name h.0 h.1)
