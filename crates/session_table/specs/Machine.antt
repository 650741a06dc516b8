-- The session table as one machine: what an operation is answered, and the table that it leaves.
use Rattle.std.specs.Prelude.{◌≡◌, ℕ, Bool, true, false, cond, not, ◌&&◌, ◌++◌, max, List, [], ◌∷◌, Option, Some, None, is_some, is_none, nat_eq, nat_lt, length, slice_set, IsTrue}
use Rattle.std.specs.List.{position_or_len}
use Rattle.std.specs.Map.{lookup, remove_entry}
use Rattle.std.specs.Option.{option_map}
use Rattle.command_words.specs.declared.client.Client.{Client}
use Rattle.command_words.specs.declared.identifier.Identifier.{Identifier}
use Rattle.session_control.specs.declared.standing.Standing.{Standing}
use Rattle.session_table.specs.Answers.{answer, turned_away, IsNameOf}
use Rattle.session_table.specs.Lists.{query_reply, wait_reply}
use Rattle.session_table.specs.Finding.{is_client, standing_at}
use Rattle.session_table.specs.Standings.{after, change_by, new_session, with_report, with_standing}
use Rattle.session_table.specs.Replies.{is_lasting, is_refused}
use Rattle.session_table.specs.States.{Machine}
use Rattle.session_table.specs.declared.change.Change.{Change}
use Rattle.session_table.specs.declared.change.Change.TheVariants as changes
use Rattle.session_table.specs.declared.client_row.ClientRow.{ClientRow}
use Rattle.session_table.specs.declared.create.Create.{Create}
use Rattle.session_table.specs.declared.op.TableOp.{TableOp}
use Rattle.session_table.specs.declared.op.TableOp.TheVariants.{Ask, Query, Wait, Look, Begin, Ended}
use Rattle.session_table.specs.declared.reply.CommandReply.{CommandReply}
use Rattle.session_table.specs.declared.reply.CommandReply.TheVariants.{Created, Awaits, Ordered}
use Rattle.session_table.specs.declared.reply.TableReply.{TableReply}
use Rattle.session_table.specs.declared.reply.TableReply.TheVariants.{Command, Looked, Begun, Noted, NoMemory}
use Rattle.session_table.specs.declared.request.TableRequest.{TableRequest}
use Rattle.session_table.specs.declared.request.TableRequest.TheVariants.{Create as CreateSession, Flush, Pause, Resume, Reset, Terminate}
use Rattle.session_table.specs.declared.session.Session.{Session}

-- the sessions, with the one of this identifier changed
abbrev pub changed : ℕ → (Session → Session) → List (ℕ × Session) → List (ℕ × Session)
changed id change [] = []
changed id change (e ∷ es) = cond (nat_eq id e.0) ((e.0, change e.1) ∷ es) (e ∷ changed id change es)

abbrev pub with_live : List (ℕ × Session) → Machine → Machine
with_live live m = record { live = live; given = m.given; clients = m.clients; run = m.run }

abbrev pub with_clients : List ClientRow → Machine → Machine
with_clients clients m = record { live = m.live; given = m.given; clients = clients; run = m.run }

-- the machine with a new session
abbrev pub created : Create → Identifier → Machine → Machine
created c i m = record { live = m.live ++ (i.id, new_session i.id c) ∷ []; given = m.given ++ (i.id, i.kind) ∷ []; clients = m.clients; run = m.run }

-- the machine with one session's standing changed
abbrev pub altered : Change → ℕ → Machine → Machine
altered change id m = with_live (changed id (with_standing (change_by change)) m.live) m

-- the machine without a session; its identifier stays given
abbrev pub terminated : ℕ → Machine → Machine
terminated id m = with_live (remove_entry (nat_eq id) m.live) m

abbrev pub created_by : Create → CommandReply → Machine → Machine
created_by c (Created i) m = created c i m
created_by c _ m = m

abbrev pub altered_by : Change → CommandReply → Machine → Machine
altered_by change (Awaits id run cycle) m = altered change id m
altered_by change (Ordered order i) m = altered change i.id m
altered_by change _ m = m

abbrev pub terminated_by : CommandReply → Machine → Machine
terminated_by (Ordered order i) m = terminated i.id m
terminated_by _ m = m

-- What a command leaves that was answered so, to the session that the answer names. A refusal changes nothing.
abbrev pub done : TableRequest → CommandReply → Machine → Machine
done (CreateSession c) reply m = created_by c reply m
done (Flush word) reply m = altered_by changes.Flush reply m
done (Pause kind word) reply m = altered_by changes.Pause reply m
done (Resume kind word) reply m = altered_by changes.Resume reply m
done (Reset word) reply m = altered_by changes.Reset reply m
done (Terminate kind word) reply m = terminated_by reply m

abbrev pub client_row : Client → CommandReply → ClientRow
client_row client reply = record { name = client.name; number = client.number; reply = reply }

abbrev pub put_at : ℕ → ClientRow → List ClientRow → List ClientRow
put_at at row rows = cond (nat_lt at (length rows)) (slice_set rows at row) (rows ++ row ∷ [])

-- the clients, with this one's last number and its reply in its place; a new client stands last
abbrev pub kept : Client → CommandReply → List ClientRow → List ClientRow
kept client reply rows = put_at (position_or_len (is_client client.name) rows) (client_row client reply) rows

abbrev pub kept_for : Option Client → CommandReply → Machine → Machine
kept_for None reply m = m
kept_for (Some client) reply m = with_clients (kept client reply m.clients) m

-- a command that acts: it is answered and done, and the reply is kept, a refusal too
abbrev pub acted : Option Client → TableRequest → Option ℕ → Machine → CommandReply × Machine
acted client request drawn m = let reply = answer request drawn m in (reply, kept_for client reply (done request reply m))

abbrev pub turned_away_for : Option Client → Machine → Option CommandReply
turned_away_for None m = None
turned_away_for (Some client) m = turned_away client m.clients

abbrev pub asked_by : Option CommandReply → Option Client → TableRequest → Option ℕ → Machine → CommandReply × Machine
asked_by (Some reply) client request drawn m = (reply, m)
asked_by None client request drawn m = acted client request drawn m

-- a client's line that doesn't act leaves the table
abbrev pub asked : Option Client → TableRequest → Option ℕ → Machine → CommandReply × Machine
asked client request drawn m = asked_by (turned_away_for client m) client request drawn m

-- One step of the table: the reply and the next table.
abbrev pub step : TableOp → Machine → TableReply × Machine
step (Ask client request drawn) m = let a = asked client request drawn m in (Command a.0, a.1)
step (Query query) m = (query_reply query m, m)
step (Wait id run cycle) m = (wait_reply id run (max cycle 1) m, m)
step (Look id) m = (Looked (standing_at id m.live), m)
step (Begin id) m = (Begun (option_map (λ (s : Standing). after s.finished) (standing_at id m.live)), altered changes.Begin id m)
step (Ended id report) m = (Noted (is_some (lookup (nat_eq id) m.live)), with_live (changed id (with_report report) m.live) m)

-- Whether an operation acts, so that it is to be kept: a command without a client's number, where it isn't refused and is no flush; one
-- with a client's number, where that isn't turned away.
abbrev pub acts : TableOp → Machine → Bool
acts (Ask None request drawn) m = is_lasting request && not (is_refused (answer request drawn m))
acts (Ask (Some client) request drawn) m = is_none (turned_away client m.clients)
acts _ m = false

-- an empty table
abbrev pub empty_machine : ℕ → Machine
empty_machine run = record { live = []; given = []; clients = []; run = run }

abbrev pub with_run : ℕ → Machine → Machine
with_run run m = record { live = m.live; given = m.given; clients = m.clients; run = run }

-- the operations that can meet want of memory
abbrev pub takes_memory : TableOp → Bool
takes_memory (Look id) = false
takes_memory (Begin id) = false
takes_memory (Ended id report) = false
takes_memory _ = true

-- One step of a table: that of its machine. Want of memory leaves the machine as it was.
abbrev pub Steps : Machine → TableOp → TableReply → Machine → Type 0
Steps m op NoMemory n = IsTrue (takes_memory op) × (n ≡ m)
Steps m op reply n = step op m ≡ (reply, n)

-- the name of a create that is asked; other operations have none
abbrev pub IsNameFor : TableOp → Option (List ℕ) → Type 0
IsNameFor (Ask client request drawn) name = IsNameOf request name
IsNameFor _ name = Unit {0}
