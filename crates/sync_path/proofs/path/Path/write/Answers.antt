use Rattle.std.proofs.Common.{◌∙◌, ◌++◌, sym, ap}
use Rattle.sync_path.specs.Path.{path_text}
use Rattle.sync_path.proofs.TextParts.{slashed, path_text-cons}
use Rattle.sync_path.proofs.path.Path.write.Goals as goal

pub loop-name-init : goal.loop-name-init
loop-name-init c =
    ap (λ bs. bs ++ slashed c.into_iter-name-iterator.result) (c.in_ok-push_str.ensures.bytes ∙ ap (λ bs. bs ++ c.in-Some.first.now) c.in_ok-text.ensures.bytes)
    ∙ ap (λ ns. c.in-Some.first.now ++ slashed ns) c.into_iter-name-iterator.ensures.into_iter_gives
    ∙ sym (path_text-cons c.in-Some.first.now c.next.new.self) ∙ ap path_text (sym c.in-Some.ensures.steps ∙ c.names-names.ensures.value)
