use Rattle.std.proofs.Common.{◌∙◌, ◌++◌, ◌∷◌, [], ap, bytes_eq, string_bytes}
use Rattle.std.specs.Map.{lookup}
use Rattle.std.specs.String.{string_eq}
use Rattle.indexmap.proofs.CallerLemmas.{insert_entry-new}
use Rattle.session_table.specs.States.{named_entries, NamesState}
use Rattle.session_table.proofs.Names.{lookup_named, named_push}
use Rattle.session_table.proofs.name_map.NameMap.insert.Goals as goal

pub returns : goal.returns
returns c =
    let ids = c.self.inside.ids in
    let name = c.args.name in
    let fresh = lookup_named (string_bytes name) ids.entries ∙ ap (λ (v : NamesState). lookup (bytes_eq (string_bytes name)) v.names) c.self.view_is ∙ c.requires.fresh in
    ap named_entries (c.in-Ok.ensures.entries ∙ insert_entry-new string_eq ids name c.args.id fresh)
    ∙ named_push ids.entries name c.args.id
    ∙ ap (λ (v : NamesState). v.names ++ (string_bytes name, c.args.id) ∷ []) c.self.view_is
