use Rattle.std.proofs.Common.{length, ap, sym, ◌∙◌}
use Rattle.std.specs.FinMap as map
use Rattle.entry_tree.proofs.subtree.SubtreeOf.len.Goals as goal

pub returns : goal.returns
returns g c = ap length c.entries.ensures ∙ sym (map.len-entries c.args.self.now)
