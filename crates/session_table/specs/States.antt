-- What the table is: a list of sessions, the identifiers that were ever given, the clients, and the run.
use Rattle.std.specs.Prelude.{◌≡◌, ℕ, Bool, min, map, string_bytes, List, None, nat_eq}
use Rattle.std.specs.Map.{lookup}
use Rattle.std.specs.declared.string.String.{String}
use Rattle.command_words.specs.declared.session_kind.SessionKind.{SessionKind}
use Rattle.session_table.specs.declared.client_row.ClientRow.{ClientRow}
use Rattle.session_table.specs.declared.op.TableOp.{TableOp}
use Rattle.session_table.specs.declared.reply.TableReply.{TableReply}
use Rattle.session_table.specs.declared.session.Session.{Session}

-- The table's machine: the live sessions by their identifiers, in order of creation; every identifier ever given, with the kind of its
-- session; what is kept of each client; and the run.
pub record Machine : Type 0 where
  pub live : List (ℕ × Session)
  pub given : List (ℕ × SessionKind)
  pub clients : List ClientRow
  pub run : ℕ

-- What contracts see of a table: its machine, and how many more sessions and clients it may take without memory.
pub record TableState : Type 0 where
  pub machine : Machine
  pub session_room : ℕ
  pub client_room : ℕ

-- how many steps a table may do without memory
abbrev pub spare : TableState → ℕ
spare t = min t.session_room t.client_room

-- the sessions of a table, and how many more it may take without memory
pub record SessionsState : Type 0 where
  pub live : List (ℕ × Session)
  pub given : List (ℕ × SessionKind)
  pub room : ℕ

-- the names of live sessions of one kind with their identifiers, and how many more it may take without memory
pub record NamesState : Type 0 where
  pub names : List (List ℕ × ℕ)
  pub room : ℕ

-- texts as their bytes
abbrev pub named_entries : {A : Type 0} → List (String A × ℕ) → List (List ℕ × ℕ)
named_entries es = map (λ e. (string_bytes e.0, e.1)) es

-- What contracts see of a step that is prepared.
pub record PreparedStep : Type 0 where
  pub op : TableOp
  pub reply : TableReply
  pub acts : Bool

-- the clients of a table, and how many more it may take without memory
pub record ClientsState : Type 0 where
  pub rows : List ClientRow
  pub room : ℕ

-- each live session has an identifier that was given
abbrev pub IsCovered : List (ℕ × SessionKind) → List (ℕ × Session) → Type 0
IsCovered given live = (id : ℕ) → lookup (nat_eq id) given ≡ None → lookup (nat_eq id) live ≡ None
