use Rattle.std.proofs.Common.{rules}
use Rattle.sync_path.proofs.Below.{below_is}
use Rattle.sync_path.proofs.path.Path.is_below.Goals as goal

pub returns-then-is_lt : goal.returns-then-is_lt
returns-then-is_lt c = let h = below_is c.args.self.now c.args.other.now in search (rules, h)

pub returns-else-is_lt : goal.returns-else-is_lt
returns-else-is_lt c = let h = below_is c.args.self.now c.args.other.now in search (rules, h)
