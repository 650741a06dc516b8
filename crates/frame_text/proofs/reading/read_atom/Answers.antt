use Rattle.std.proofs.Common.{ap, ◌∙◌, Err}
use Rattle.frame_text.proofs.LineReading.{no_atom}
use Rattle.frame_text.proofs.reading.read_atom.Goals as goal

pub returns-in-Err-Bad : goal.returns-in-Err-Bad
returns-in-Err-Bad c = no_atom c.args.version c.args.words.now c.args.end c.in-Err-Bad.field-0-0.place c.args.path
    (c.read_atom_words.ensures.refused c.in-Err-Bad.field-0-0.place (c.in-Err-Bad.is ∙ ap Err c.in-Err-Bad.field-0-is))
