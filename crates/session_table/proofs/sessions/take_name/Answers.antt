use Rattle.std.proofs.Common.{◌∙◌, sym, ap, cond, bytes_eq, None}
use Rattle.std.specs.Map.{lookup}
use Rattle.std.specs.Option.{option_copied}
use Rattle.session_table.specs.Finding.{has_name}
use Rattle.session_table.proofs.sessions.take_name.Goals as goal

pub returns-in-Some : goal.returns-in-Some
returns-in-Some c q =
    c.remove.ensures.names q
    ∙ ap (λ n. cond (bytes_eq q n) None (lookup (bytes_eq q) c.args.names.now.names)) c.as_str.ensures.value
    ∙ ap (λ o. cond (has_name q o) None (lookup (bytes_eq q) c.args.names.now.names)) (sym (ap option_copied c.in-Some.is) ∙ c.name.ensures)
