use Rattle.plan_laws.proofs.Next.{each_settles}
use Rattle.plan_laws.proofs.laws.plans_settle.Goals as goal

pub returns : goal.returns
returns c = each_settles
