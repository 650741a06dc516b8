-- What every run of the table keeps to.
use Rattle.std.specs.Prelude.{◌≡◌, ℕ, Bool, true, false, List, [], ◌∷◌, Option, Some, None, nat_eq}
use Rattle.std.specs.Map.{lookup}
use Rattle.command_words.specs.declared.client.Client.{Client}
use Rattle.command_words.specs.declared.session.SessionWord.TheVariants.{Identified}
use Rattle.command_words.specs.declared.session_kind.SessionKind.{SessionKind}
use Rattle.session_table.specs.Answers.{turned_away}
use Rattle.session_table.specs.Creates.{kind_of}
use Rattle.session_table.specs.Distinct.{AreDistinct}
use Rattle.session_table.specs.Finding.{client_named, id_by, id_named, is_named}
use Rattle.session_table.specs.Machine.{step}
use Rattle.session_table.specs.States.{IsCovered, Machine}
use Rattle.session_table.specs.declared.client_row.ClientRow.{ClientRow}
use Rattle.session_table.specs.declared.op.TableOp.{TableOp}
use Rattle.session_table.specs.declared.op.TableOp.TheVariants.{Ask, Begin, Ended}
use Rattle.session_table.specs.declared.reply.CommandReply.{CommandReply}
use Rattle.session_table.specs.declared.reply.CommandReply.TheVariants.{Created, Awaits, Ordered, Refused}
use Rattle.session_table.specs.declared.reply.TableReply.{TableReply}
use Rattle.session_table.specs.declared.reply.TableReply.TheVariants.{Command}
use Rattle.session_table.specs.declared.request.TableRequest.{TableRequest}
use Rattle.session_table.specs.declared.session.Session.{Session}

-- the table after these operations, one after another
abbrev pub after_all : List TableOp → Machine → Machine
after_all [] m = m
after_all (op ∷ ops) m = after_all ops (step op m).1

-- A line with the client's last number gets the kept reply, and leaves the table.
abbrev pub RepeatsLast : Type 0
RepeatsLast =
    (m : Machine) (client : Client) (row : ClientRow) (request : TableRequest) (drawn : Option ℕ)
    → client_named client.name m.clients ≡ Some row → client.number ≡ row.number → step (Ask (Some client) request drawn) m ≡ (Command row.reply, m)

-- A line that acted gets its own reply when it is sent again, and leaves the table, whatever it asks and draws then.
abbrev pub RepeatsActed : Type 0
RepeatsActed =
    (m : Machine) (client : Client) (request again : TableRequest) (drawn redrawn : Option ℕ)
    → turned_away client m.clients ≡ None
    → step (Ask (Some client) again redrawn) (step (Ask (Some client) request drawn) m).1 ≡ ((step (Ask (Some client) request drawn) m).0, (step (Ask (Some client) request drawn) m).1)

-- the identifier was given to a session of some kind, and no live session has it
abbrev pub IsGone : ℕ → Machine → Type 0
IsGone id m = ((kind : SessionKind) × (lookup (nat_eq id) m.given ≡ Some kind)) × (lookup (nat_eq id) m.live ≡ None)

-- An identifier that is gone stays gone.
abbrev pub StaysGone : Type 0
StaysGone = (id : ℕ) (m : Machine) (ops : List TableOp) → IsGone id m → IsGone id (after_all ops m)

-- what every table keeps to: its sessions are distinct, and their identifiers were given
abbrev pub IsSound : Machine → Type 0
IsSound m = IsCovered m.given m.live × AreDistinct m.live

-- A live session is found by its name.
abbrev pub IsFoundByName : Machine → Type 0
IsFoundByName m =
    (id : ℕ) (s : Session) (kind : SessionKind) (name : List ℕ)
    → lookup (nat_eq id) m.live ≡ Some s → is_named kind name s ≡ true → id_named kind name m.live ≡ Some id

-- A session that is found by a name is live, and has the name.
abbrev pub HasItsName : Machine → Type 0
HasItsName m =
    (id : ℕ) (kind : SessionKind) (name : List ℕ)
    → id_named kind name m.live ≡ Some id → (s : Session) × (lookup (nat_eq id) m.live ≡ Some s) × (is_named kind name s ≡ true)

-- A live session is found by its identifier.
abbrev pub IsFoundById : Machine → Type 0
IsFoundById m =
    (id : ℕ) (s : Session)
    → lookup (nat_eq id) m.live ≡ Some s → id_by (kind_of s.row.create) (Identified (record { kind = kind_of s.row.create; id = id })) m.live ≡ Some id

-- the session to which a command was done
abbrev pub done_to : CommandReply → Option ℕ
done_to (Created i) = Some i.id
done_to (Awaits id run cycle) = Some id
done_to (Ordered order i) = Some i.id
done_to (Refused refusal) = None

-- the session that a step may change
abbrev pub touched : TableOp → TableReply → Option ℕ
touched (Ask client request drawn) (Command reply) = done_to reply
touched (Begin id) reply = Some id
touched (Ended id report) reply = Some id
touched op reply = None

abbrev pub is_id : ℕ → Option ℕ → Bool
is_id id None = false
is_id id (Some other) = nat_eq other id

-- All sessions stay as they are but for the one that the step is about.
abbrev pub OthersStay : Type 0
OthersStay = (op : TableOp) (m : Machine) (id : ℕ) → is_id id (touched op (step op m).0) ≡ false → lookup (nat_eq id) (step op m).1.live ≡ lookup (nat_eq id) m.live
