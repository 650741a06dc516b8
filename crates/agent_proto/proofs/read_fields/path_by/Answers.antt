use Rattle.std.proofs.Common.{◌≡◌, List, ℕ, None, Err, sym, ap, subst, ◌∙◌}
use Rattle.agent_proto.specs.Reading.{path_by}
use Rattle.agent_proto.proofs.Texts.{no_path_but_utf8, no_path_at_bad, path_of_text}
use Rattle.agent_proto.proofs.read_fields.path_by.Goals as goal

pub returns-in-Ok-read : goal.returns-in-Ok-read
returns-in-Ok-read c = sym (path_of_text c.args.text.now c.in-Ok-read.path (c.in-Ok-read.ensures.value ∙ c.in-Ok.ensures.cases.0) c.in-Ok-read.ensures.path)

pub returns-in-Err-Bad : goal.returns-in-Err-Bad
returns-in-Err-Bad c =
    let place = c.in-Err-Bad.field-0-0.place in
    let bad = (c.read.ensures.refused place).0 (c.in-Err-Bad.is ∙ ap Err c.in-Err-Bad.field-0-is) in
    sym (subst (λ (text : List ℕ). path_by text ≡ None) c.in-Ok.ensures.cases.0 (no_path_at_bad c.in-Ok.text.now place bad))

pub returns-in-Err : goal.returns-in-Err
returns-in-Err c = sym (no_path_but_utf8 c.args.text.now c.in-Err.ensures.cases.0)
