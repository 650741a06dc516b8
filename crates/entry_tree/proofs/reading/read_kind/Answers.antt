use Rattle.std.proofs.Common.{rules, ◌≡◌, [], ◌∷◌, subst, Some, None, take}
use Rattle.entry_tree.specs.AtomReading.{Answers, kind_of_word}
use Rattle.entry_tree.proofs.Atoms.{refused, ended, stopped, onward}
use Rattle.entry_tree.proofs.Atoms.{nothing_begins, nothing_is_none, no_kind, short_kind, word_is}
use Rattle.entry_tree.proofs.reading.read_kind.Goals as goal

pub returns-in-Some : goal.returns-in-Some
returns-in-Some c =
    let word = take c.in-Ok-Some.word.len c.read_into.new.room in
    let e : c.args.words.now ≡ record { place = c.in-Ok-Some.word.place; word = Some word } ∷ c.read_into.new.self = search rules in
    let is : kind_of_word word ≡ Some c.in-Some.kind = search rules in
    onward [] c.args.words.now c.args.end _ _ _ c.read_behind.result e
    (subst (λ word. Answers (word ∷ []) c.read_into.new.self c.args.end c.read_behind.result) (word_is c.in-Some.kind word is) c.read_behind.ensures)

pub returns-in-None : goal.returns-in-None
returns-in-None c =
    let word = take c.in-Ok-Some.word.len c.read_into.new.room in
    let e : c.args.words.now ≡ record { place = c.in-Ok-Some.word.place; word = Some word } ∷ c.read_into.new.self = search rules in
    let none : kind_of_word word ≡ None = search rules in
    rw c.bad.ensures (stopped [] c.args.words.now c.args.end _ (Some word) _ e nothing_begins (no_kind word none))

pub returns-in-Ok-None : goal.returns-in-Ok-None
returns-in-Ok-None c =
    let e : c.args.words.now ≡ [] = search rules in
    rw c.bad-in-Ok-None.ensures (ended [] c.args.words.now c.args.end e nothing_begins nothing_is_none)

pub returns-in-Err : goal.returns-in-Err
returns-in-Err c =
    rw c.bad-in-Err.ensures (refused [] c.args.words.now c.args.end 9 c.in-Err.word c.read_into.new.room c.read_into.new.self c.in-Err.ensures.room c.in-Err.ensures.reads nothing_begins short_kind)
