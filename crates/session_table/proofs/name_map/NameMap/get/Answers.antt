use Rattle.std.proofs.Common.{◌∙◌, ap, bytes_eq}
use Rattle.std.specs.Map.{lookup}
use Rattle.session_table.specs.States.{NamesState}
use Rattle.session_table.proofs.Names.{lookup_named}
use Rattle.session_table.proofs.name_map.NameMap.get.Goals as goal

pub returns : goal.returns
returns c = c.find_id.ensures ∙ lookup_named c.args.name.now c.self.inside.ids.entries ∙ ap (λ (v : NamesState). lookup (bytes_eq c.args.name.now) v.names) c.self.view_is
