use Rattle.std.proofs.Common.{◌∙◌, ◌∷◌, ◌++◌, ap, sym, lit<, string_bytes}
use Rattle.line_words.specs.Spelling.{escaped}
use Rattle.entry_tree.proofs.PathWords.{first_name, next_name}
use Rattle.entry_tree.proofs.path_word.write_path.Goals as goal

pub loop-name-init : goal.loop-name-init
loop-name-init c =
    first_name (string_bytes c.args.text.now) c.in-Some.first.now (string_bytes c.write_word.new.text) c.into_iter-name-iterator.result c.args.path.now
    (c.in_ok-write_word.ensures.written ∙ ap (λ bs. string_bytes c.args.text.now ++ escaped bs) c.as_bytes.ensures.value)
    (sym c.names-names.ensures.value ∙ c.in-Some.ensures.steps ∙ ap (λ ns. c.in-Some.first.now ∷ ns) (sym c.into_iter-name-iterator.ensures.into_iter_gives))

pub loop-name-preserved : goal.loop-name-preserved
loop-name-preserved c =
    next_name (string_bytes c.loop-name.text) (string_bytes c.write_word-in-loop-name.new.text) c.in-Some-name.name.now _ c.loop-name.name-iterator c.next-in-loop-name.new.self
    c.loop-name.invariant c.in-Some-name.ensures.steps
    (c.in_ok-write_word-2.ensures.written ∙ ap (λ bs. string_bytes c.push.new.self ++ escaped bs) c.as_bytes-in-loop-name.ensures.value
    ∙ ap (λ bs. bs ++ escaped c.in-Some-name.name.now) (c.in_ok-push.ensures.bytes ∙ ap (λ bs. string_bytes c.loop-name.text ++ bs) (c.in_ok-push.ensures.ascii (lit< tt))))
