use Rattle.std.proofs.Common.{rules, ◌≡◌, [], refl, ap, map}
use Rattle.entry_tree.specs.AtomText.{words_of}
use Rattle.entry_tree.specs.declared.atom.Atom.TheVariants.{Link}
use Rattle.entry_tree.proofs.Atoms.{passed, words_begin, whole_link}
use Rattle.entry_tree.proofs.reading.read_link_end.Goals as goal

pub returns-in-Some : goal.returns-in-Some
returns-in-Some c =
    rw c.bad.ensures (passed (words_of (Link c.args.text.now)) c.args.words.now c.args.end c.in-Some.place c.skip.new.self c.in-Some.ensures (words_begin (Link c.args.text.now) c.requires) (whole_link c.args.text.now))

pub returns-in-Err-Memory : goal.returns-in-Err-Memory
returns-in-Err-Memory c =
    let e : c.args.words.now ≡ [] = search rules in
    (Link c.args.text.now, [], c.requires, ap (map (λ i. i.word)) e, refl)
