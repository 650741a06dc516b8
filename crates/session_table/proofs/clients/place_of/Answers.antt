use Rattle.std.proofs.Common.{sym, ◌∙◌}
use Rattle.command_words.proofs.LabelOrder.{place_none}
use Rattle.session_table.specs.Finding.{is_client}
use Rattle.session_table.proofs.clients.place_of.Goals as goal

pub returns-in-None : goal.returns-in-None
returns-in-None c = place_none (is_client c.args.name.now) c.args.rows.now (sym c.in-None.is ∙ c.first_of.ensures)
