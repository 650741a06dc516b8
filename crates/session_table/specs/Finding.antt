-- How sessions and clients are found.
use Rattle.std.specs.Prelude.{ℕ, Bool, true, false, ◌&&◌, cond, List, [], ◌∷◌, Option, Some, None, bytes_eq, nat_eq}
use Rattle.std.specs.List.{find}
use Rattle.std.specs.Map.{lookup}
use Rattle.std.specs.Option.{option_map}
use Rattle.command_words.specs.declared.session.SessionWord.{SessionWord}
use Rattle.command_words.specs.declared.session.SessionWord.TheVariants.{Identified, Named}
use Rattle.command_words.specs.declared.session_kind.SessionKind.{SessionKind}
use Rattle.command_words.specs.declared.session_kind.SessionKind.TheVariants.{Sync, Forward}
use Rattle.session_control.specs.declared.standing.Standing.{Standing}
use Rattle.session_table.specs.Creates.{kind_of, name_of}
use Rattle.session_table.specs.declared.client_row.ClientRow.{ClientRow}
use Rattle.session_table.specs.declared.session.Session.{Session}

abbrev pub same_kind : SessionKind → SessionKind → Bool
same_kind Sync Sync = true
same_kind Forward Forward = true
same_kind _ _ = false

abbrev pub has_name : List ℕ → Option (List ℕ) → Bool
has_name name None = false
has_name name (Some other) = bytes_eq name other

-- whether a session is of the kind and has the name
abbrev pub is_named : SessionKind → List ℕ → Session → Bool
is_named kind name s = same_kind kind (kind_of s.row.create) && has_name name (name_of s.row.create)

-- the identifier of the session of the kind that has the name
abbrev pub id_named : SessionKind → List ℕ → List (ℕ × Session) → Option ℕ
id_named kind name [] = None
id_named kind name (e ∷ es) = cond (is_named kind name e.1) (Some e.0) (id_named kind name es)

-- how the session stands that has the identifier
abbrev pub standing_at : ℕ → List (ℕ × Session) → Option Standing
standing_at id live = option_map (λ (s : Session). s.standing) (lookup (nat_eq id) live)

abbrev pub if_of_kind : SessionKind → ℕ → Option Session → Option ℕ
if_of_kind kind id None = None
if_of_kind kind id (Some s) = cond (same_kind kind (kind_of s.row.create)) (Some id) None

-- the identifier, if a live session of the kind has it
abbrev pub id_of_kind : SessionKind → ℕ → List (ℕ × Session) → Option ℕ
id_of_kind kind id live = if_of_kind kind id (lookup (nat_eq id) live)

-- the identifier of the live session of the kind that a line names by its identifier or its name
abbrev pub id_by : SessionKind → SessionWord → List (ℕ × Session) → Option ℕ
id_by kind (Identified i) live = cond (same_kind kind i.kind) (id_of_kind kind i.id live) None
id_by kind (Named name) live = id_named kind name live

abbrev pub is_client : List ℕ → ClientRow → Bool
is_client name row = bytes_eq name row.name

-- what is kept of the client that has the name
abbrev pub client_named : List ℕ → List ClientRow → Option ClientRow
client_named name rows = find (is_client name) rows
