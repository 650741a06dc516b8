use Rattle.sync_path.specs.PathOrder.{path_cmp_total}
use Rattle.sync_path.proofs.Intervals.{path_cmp_exact}
use Rattle.sync_path.proofs.laws.path_order_is_total.Goals as goal

pub returns-clause-total : goal.returns-clause-total
returns-clause-total c = path_cmp_total

pub returns-clause-exact : goal.returns-clause-exact
returns-clause-exact c = path_cmp_exact
