use Rattle.std.proofs.Common.{◌∷◌, [], codes}
use Rattle.entry_tree.specs.PathWord.{path_word}
use Rattle.frame_text.specs.LineText.{IsLine, words_of_line}
use Rattle.frame_text.proofs.Readers.{onward_ok}
use Rattle.frame_text.proofs.LineReading.{no_path_to_drop}
use Rattle.frame_text.proofs.reading.read_drop.Goals as goal

pub returns-in-Ok-Some : goal.returns-in-Ok-Some
returns-in-Ok-Some c =
    let told = rw c.in-Ok-Some.field-0-is at c.in-Ok-Some.ensures in
    onward_ok (IsLine c.args.version) words_of_line (codes "drop" ∷ []) c.args.words.now c.next_path.new.words told.1.0 (path_word c.in-Ok-Some.path) c.read_end.result told.1.1 c.read_end.ensures

pub returns-in-Ok-None : goal.returns-in-Ok-None
returns-in-Ok-None c = let told = rw c.in-Ok-None.field-0-is at c.in-Ok-None.ensures in no_path_to_drop c.args.version c.args.words.now told
