use Rattle.std.proofs.Common.{rules, ◌≡◌, [], ◌∷◌, codes, subst, false, Some, take}
use Rattle.entry_tree.specs.AtomReading.{Answers}
use Rattle.entry_tree.proofs.Atoms.{refused, stopped, onward}
use Rattle.std.specs.Prelude.{bytes_eq}
use Rattle.hex.specs.Hex.{encode_lower}
use Rattle.entry_tree.proofs.Atoms.{whole_executable, digest_begins, bad_bit, short_bit}
use Rattle.entry_tree.proofs.reading.read_bit.Goals as goal

pub read_end-requires-clause-whole : goal.read_end-requires-clause-whole
read_end-requires-clause-whole c = whole_executable c.args.digest

pub returns-in-Ok-Some : goal.returns-in-Ok-Some
returns-in-Ok-Some c =
    let word = take c.in-Ok-Some.word.len c.read_into.new.room in
    let e : c.args.words.now ≡ record { place = c.in-Ok-Some.word.place; word = Some word } ∷ c.read_into.new.self = search rules in
    let is : codes "x" ≡ word = search rules in
    onward (codes "file" ∷ encode_lower c.args.digest ∷ []) c.args.words.now c.args.end _ _ _ c.read_end.result e
    (subst (λ word. Answers (codes "file" ∷ encode_lower c.args.digest ∷ word ∷ []) c.read_into.new.self c.args.end c.read_end.result) is c.read_end.ensures)

pub returns-in-Ok-Some-2 : goal.returns-in-Ok-Some-2
returns-in-Ok-Some-2 c =
    let word = take c.in-Ok-Some.word.len c.read_into.new.room in
    let e : c.args.words.now ≡ record { place = c.in-Ok-Some.word.place; word = Some word } ∷ c.read_into.new.self = search rules in
    let none : bytes_eq word (codes "x") ≡ false = search rules in
    rw c.bad.ensures (stopped (codes "file" ∷ encode_lower c.args.digest ∷ []) c.args.words.now c.args.end _ (Some word) _ e (digest_begins c.args.digest c.requires) (bad_bit (encode_lower c.args.digest) word none))

pub returns-in-Err : goal.returns-in-Err
returns-in-Err c =
    rw c.bad-in-Err.ensures (refused (codes "file" ∷ encode_lower c.args.digest ∷ []) c.args.words.now c.args.end 1 c.in-Err.word c.read_into.new.room c.read_into.new.self c.in-Err.ensures.room c.in-Err.ensures.reads (digest_begins c.args.digest c.requires) (short_bit (encode_lower c.args.digest)))
