use Rattle.std.proofs.Common.{sym, ap, ◌∙◌, slice_get}
use Rattle.std.proofs.lemmas.List.Folds.{find_at}
use Rattle.session_table.specs.Finding.{is_client}
use Rattle.session_table.proofs.clients.row_named.Goals as goal

pub returns : goal.returns
returns c = c.row_at.ensures ∙ ap (slice_get c.args.rows.now) c.place_of.ensures ∙ sym (find_at (is_client c.args.name.now) c.args.rows.now)
