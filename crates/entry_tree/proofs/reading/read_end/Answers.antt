use Rattle.entry_tree.specs.AtomText.{words_of}
use Rattle.entry_tree.proofs.Atoms.{passed, words_begin}
use Rattle.entry_tree.proofs.reading.read_end.Goals as goal

pub returns-in-Some : goal.returns-in-Some
returns-in-Some c =
    rw c.bad.ensures (passed (words_of c.args.atom) c.args.words.now c.args.end c.in-Some.place c.skip.new.self c.in-Some.ensures (words_begin c.args.atom c.requires.atom) c.requires.whole)
