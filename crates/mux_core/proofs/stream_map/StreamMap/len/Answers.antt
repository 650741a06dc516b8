use Rattle.std.proofs.Common.{ap, sym, ◌∙◌}
use Rattle.std.specs.FinMap as map
use Rattle.mux_core.proofs.TreeSize.{len-from_tree}
use Rattle.mux_core.proofs.stream_map.StreamMap.len.Goals as goal

pub returns : goal.returns
returns c = c.len.ensures.len ∙ sym (len-from_tree c.self.inside.tree c.len.ensures.ordered) ∙ ap map.len c.self.view_is
