use Rattle.std.proofs.Common.{rules, ◌≡◌, [], ◌∷◌, codes, subst, false, Some, take}
use Rattle.entry_tree.specs.AtomReading.{Answers}
use Rattle.entry_tree.proofs.Atoms.{refused, ended, stopped, onward}
use Rattle.hex.specs.Hex.{encode_lower}
use Rattle.entry_tree.specs.Digest.{is_digest_text}
use Rattle.entry_tree.proofs.Atoms.{file_begins, file_is_none, bad_digest, short_digest}
use Rattle.entry_tree.proofs.reading.read_digest.Goals as goal

pub returns-in-Some : goal.returns-in-Some
returns-in-Some c =
    let word = take c.in-Ok-Some.word.len c.read_into.new.room in
    let e : c.args.words.now ≡ record { place = c.in-Ok-Some.word.place; word = Some word } ∷ c.read_into.new.self = search rules in
    let is : encode_lower c.in-Some.digest ≡ word = search rules in
    onward (codes "file" ∷ []) c.args.words.now c.args.end _ _ _ c.read_bit.result e
    (subst (λ word. Answers (codes "file" ∷ word ∷ []) c.read_into.new.self c.args.end c.read_bit.result) is c.read_bit.ensures)

pub returns-in-None : goal.returns-in-None
returns-in-None c =
    let word = take c.in-Ok-Some.word.len c.read_into.new.room in
    let e : c.args.words.now ≡ record { place = c.in-Ok-Some.word.place; word = Some word } ∷ c.read_into.new.self = search rules in
    let none : is_digest_text word ≡ false = search rules in
    rw c.bad.ensures (stopped (codes "file" ∷ []) c.args.words.now c.args.end _ (Some word) _ e file_begins (bad_digest word none))

pub returns-in-Ok-None : goal.returns-in-Ok-None
returns-in-Ok-None c =
    let e : c.args.words.now ≡ [] = search rules in
    rw c.bad-in-Ok-None.ensures (ended (codes "file" ∷ []) c.args.words.now c.args.end e file_begins file_is_none)

pub returns-in-Err : goal.returns-in-Err
returns-in-Err c =
    rw c.bad-in-Err.ensures (refused (codes "file" ∷ []) c.args.words.now c.args.end 64 c.in-Err.word c.read_into.new.room c.read_into.new.self c.in-Err.ensures.room c.in-Err.ensures.reads file_begins short_digest)
