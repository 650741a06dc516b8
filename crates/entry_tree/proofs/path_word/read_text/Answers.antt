use Rattle.std.proofs.Common.{sym, ap, ◌∙◌, Err}
use Rattle.sync_path.specs.PathText.{IsBadPlace}
use Rattle.sync_path.proofs.Texts.{path_from_text, path_has_no_bad}
use Rattle.entry_tree.proofs.path_word.read_text.Goals as goal

pub returns-in-Err-Bad-clause-none : goal.returns-in-Err-Bad-clause-none
returns-in-Err-Bad-clause-none c = λ e names path is.
    let bad : IsBadPlace c.args.text.now c.in-Err-Bad.field-0-0.place = (c.read.ensures.refused c.in-Err-Bad.field-0-0.place).0 (c.in-Err-Bad.is ∙ ap Err c.in-Err-Bad.field-0-is) in
    path_has_no_bad c.args.text.now c.in-Err-Bad.field-0-0.place (path_from_text c.args.text.now (names, path, sym is)) bad
