use Rattle.std.proofs.Common.{ap₂, ◌∙◌}
use Rattle.std.specs.Cmp.Lexicographic.{slice_cmp}
use Rattle.std.specs.Ordering.{nat_cmp}
use Rattle.sync_path.specs.Path.{path_cmp}
use Rattle.sync_path.proofs.Buffers.{cmp-kept}
use Rattle.sync_path.proofs.path.Path.compare.Goals as goal

pub returns : goal.returns
returns c =
    c.cmp.ensures ∙ ap₂ (slice_cmp nat_cmp) c.as_str.ensures.value c.as_str-2.ensures.value
    ∙ cmp-kept _ _ c.self.invariant c.other.invariant ∙ ap₂ path_cmp c.self.view_is c.other.view_is
