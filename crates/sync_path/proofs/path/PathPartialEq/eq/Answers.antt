use Rattle.std.proofs.Common.{ap₂, ◌∙◌, eqb}
use lib.Pointwise.{pointwise}
use Rattle.sync_path.proofs.Buffers.{eq-kept}
use Rattle.sync_path.proofs.path.PathPartialEq.eq.Goals as goal

pub returns : goal.returns
returns c =
    c.eq.ensures ∙ ap₂ (pointwise eqb) c.as_str.ensures.value c.as_str-2.ensures.value
    ∙ eq-kept _ _ c.self.invariant c.other.invariant ∙ ap₂ (pointwise (pointwise eqb)) c.self.view_is c.other.view_is
