use Rattle.std.proofs.Common.{◌≡◌, ◌++◌, ◌∷◌, List, ℕ, map, string_bytes, sym, ap, ◌∙◌, append_assoc}
use Rattle.std.specs.List.{flat_map}
use Rattle.std.specs.Map.Iter.{deref_pair}
use Rattle.std.proofs.lemmas.Map.Iter.{rest_more}
use Rattle.script_engine.specs.Replies as reply
use Rattle.script_engine.proofs.replies.flush_reply.Goals as goal

pub loop-name-preserved : goal.loop-name-preserved
loop-name-preserved c =
    let text = string_bytes c.loop-name.text in
    let more : List ℕ = flat_map reply.conflict_line (map (λ e. e.0) c.next.new.self) in
    let rest : c.loop-name.name-iterator ≡ deref_pair (c.in-Some.name, c.in-Some.field-0-1) ∷ c.next.new.self =
    rest_more deref_pair _ _ _ _ c.in-Some.is c.next.ensures.steps in
    let line : c.as_str-in-loop-name.result.now ≡ reply.conflict_line c.in-Some.name.now =
    c.as_str-in-loop-name.ensures.value ∙ c.in_ok-line.ensures ∙ ap reply.conflict_line c.as_str.ensures.value in
    ap (λ (t : List ℕ). t ++ more) (c.in_ok-push_str.ensures.bytes ∙ ap (λ (l : List ℕ). text ++ l) line)
    ∙ append_assoc text (reply.conflict_line c.in-Some.name.now) more
    ∙ ap (λ es. text ++ flat_map reply.conflict_line (map (λ e. e.0) es)) (sym rest)
    ∙ c.loop-name.invariant
