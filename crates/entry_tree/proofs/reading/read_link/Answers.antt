use Rattle.std.proofs.Common.{rules, ◌≡◌, [], ◌∷◌, codes, subst, false, Some, take}
use Rattle.entry_tree.specs.AtomReading.{Answers}
use Rattle.entry_tree.proofs.Atoms.{refused, ended, stopped, onward}
use Rattle.entry_tree.specs.AtomText.{is_link_text}
use Rattle.entry_tree.proofs.Atoms.{link_begins, link_is_none, bad_text, short_link}
use Rattle.entry_tree.proofs.reading.read_link.Goals as goal

pub returns-in-Some : goal.returns-in-Some
returns-in-Some c =
    let word = take c.in-Ok-Some.word.len c.read_into.new.room in
    let e : c.args.words.now ≡ record { place = c.in-Ok-Some.word.place; word = Some word } ∷ c.read_into.new.self = search rules in
    let is : 61 ∷ c.in-Some.text.now ≡ word = search rules in
    onward (codes "link" ∷ []) c.args.words.now c.args.end _ _ _ c.read_link_end.result e
    (subst (λ word. Answers (codes "link" ∷ word ∷ []) c.read_into.new.self c.args.end c.read_link_end.result) is c.read_link_end.ensures)

pub returns-in-None : goal.returns-in-None
returns-in-None c =
    let word = take c.in-Ok-Some.word.len c.read_into.new.room in
    let e : c.args.words.now ≡ record { place = c.in-Ok-Some.word.place; word = Some word } ∷ c.read_into.new.self = search rules in
    let none : is_link_text word ≡ false = search rules in
    rw c.bad.ensures (stopped (codes "link" ∷ []) c.args.words.now c.args.end _ (Some word) _ e link_begins (bad_text word none))

pub returns-in-Ok-None : goal.returns-in-Ok-None
returns-in-Ok-None c =
    let e : c.args.words.now ≡ [] = search rules in
    rw c.bad-in-Ok-None.ensures (ended (codes "link" ∷ []) c.args.words.now c.args.end e link_begins link_is_none)

pub returns-in-Err : goal.returns-in-Err
returns-in-Err c =
    rw c.bad-in-Err.ensures (refused (codes "link" ∷ []) c.args.words.now c.args.end 4097 c.in-Err.word c.read_into.new.room c.read_into.new.self c.in-Err.ensures.room c.in-Err.ensures.reads link_begins short_link)
