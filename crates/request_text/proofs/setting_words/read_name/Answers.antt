use Rattle.std.proofs.Common.{◌∙◌, sym}
use Rattle.request_text.proofs.WordKinds.{name_read}
use Rattle.request_text.proofs.setting_words.read_name.Goals as goal

pub returns-in-Some : goal.returns-in-Some
returns-in-Some c = name_read c.args.value.now c.in-Some.found (sym c.in-Some.is ∙ c.in_ok-found.ensures)
