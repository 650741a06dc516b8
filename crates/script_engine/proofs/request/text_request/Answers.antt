use Rattle.std.proofs.Common.{◌≡◌, List, ℕ, Bor, map, ap, ◌∙◌, subst, IfOk}
use Rattle.script_engine.proofs.Forms.{request_by_first_words}
use Rattle.script_engine.proofs.request.text_request.Goals as goal

pub returns : goal.returns
returns c =
    let now = λ (word : Bor (List ℕ)). word.now in
    let words = ap (map now) c.as_slice.ensures.value ∙ c.in_ok-words.ensures in
    let e = request_by_first_words c.args.text.now (map now c.as_slice.result.now) words in
    subst (λ x. IfOk c.words_request.result (λ request. request ≡ x)) e c.words_request.ensures
