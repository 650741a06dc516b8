use Rattle.std.proofs.Common.{◌∙◌, ap, cond, bytes_eq, None}
use Rattle.std.specs.Map.{lookup}
use Rattle.session_table.specs.States.{NamesState}
use Rattle.session_table.proofs.Names.{removed_names}
use Rattle.session_table.proofs.name_map.NameMap.remove.Goals as goal

pub returns-clause-names : goal.returns-clause-names
returns-clause-names c q =
    let name = c.args.name.now in
    removed_names q name c.self.inside.ids.entries c.swap_remove.new.self.entries c.swap_remove.ensures.updates.1 c.swap_remove.ensures.updates.3
    ∙ ap (λ (v : NamesState). cond (bytes_eq q name) None (lookup (bytes_eq q) v.names)) c.self.view_is
