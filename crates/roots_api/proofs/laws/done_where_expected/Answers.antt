use Rattle.roots_api.proofs.Expecting.{may_make, may_place, may_remove, may_set_exec}
use Rattle.roots_api.proofs.laws.done_where_expected.Goals as goal

pub returns-clause-place : goal.returns-clause-place
returns-clause-place c = may_place

pub returns-clause-make_dir : goal.returns-clause-make_dir
returns-clause-make_dir c s id path stamp h = may_make s path _ stamp h

pub returns-clause-make_link : goal.returns-clause-make_link
returns-clause-make_link c s id path text expected stamp h = may_make s path expected stamp h

pub returns-clause-remove : goal.returns-clause-remove
returns-clause-remove c = may_remove

pub returns-clause-set_exec : goal.returns-clause-set_exec
returns-clause-set_exec c = may_set_exec
