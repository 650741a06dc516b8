use Rattle.std.proofs.Common.{ap₂, ◌∙◌, eqb}
use Rattle.std.proofs.lemmas.Str.Pattern.{starts_text}
use Rattle.std.specs.List.{starts_with}
use Rattle.sync_path.specs.Path.{is_under}
use Rattle.sync_path.proofs.Buffers.{starts-kept}
use Rattle.sync_path.proofs.path.Path.is_under.Goals as goal

pub returns : goal.returns
returns c =
    starts_text c.starts_with.result c.as_str-2.result.now c.as_str.result.now c.starts_with.ensures.cases
    ∙ ap₂ (starts_with eqb) c.as_str.ensures.value c.as_str-2.ensures.value
    ∙ starts-kept _ _ c.self.invariant c.other.invariant ∙ ap₂ is_under c.self.view_is c.other.view_is
