-- What the table answers to a command: the refusals in their order.
use Rattle.std.specs.Prelude.{◌≡◌, ℕ, cond, List, Option, Some, None, nat_eq, nat_lt, nat_le, length}
use Rattle.std.specs.Map.{lookup}
use Rattle.std.specs.Option.{unwrap_or}
use Rattle.command_words.specs.declared.client.Client.{Client}
use Rattle.command_words.specs.declared.identifier.Identifier.{Identifier}
use Rattle.command_words.specs.declared.session_kind.SessionKind.{SessionKind}
use Rattle.command_words.specs.declared.session_kind.SessionKind.TheVariants.{Sync}
use Rattle.mode_rules.specs.declared.halt.Halt.{Halt}
use Rattle.session_control.specs.Control.{is_paused}
use Rattle.session_control.specs.declared.standing.Standing.{Standing}
use Rattle.session_table.specs.Creates.{has_same_roots, kind_of, name_of}
use Rattle.session_table.specs.Finding.{client_named, id_by, id_named, standing_at}
use Rattle.session_table.specs.Standings.{after}
use Rattle.session_table.specs.States.{Machine}
use Rattle.session_table.specs.declared.client_row.ClientRow.{ClientRow}
use Rattle.session_table.specs.declared.client_row.TheConstants.{MAX_CLIENTS}
use Rattle.session_table.specs.declared.create.Create.{Create}
use Rattle.session_table.specs.declared.refusal.TableRefusal.TheVariants.{NoSession, SameRoot, TableFull, NameTaken, IdTaken, OldNumber, ClientsFull}
use Rattle.session_table.specs.declared.refusal.TableRefusal.TheVariants as refusals
use Rattle.session_table.specs.declared.reply.CommandReply.{CommandReply}
use Rattle.session_table.specs.declared.reply.CommandReply.TheVariants.{Created, Awaits, Ordered, Refused}
use Rattle.session_table.specs.declared.reply.Order.{Order}
use Rattle.session_table.specs.declared.reply.Order.TheVariants as orders
use Rattle.session_table.specs.declared.request.TableRequest.{TableRequest}
use Rattle.session_table.specs.declared.request.TableRequest.TheVariants.{Create as CreateSession, Flush, Pause, Resume, Reset, Terminate}
use Rattle.session_table.specs.declared.session.Session.{Session}
use Rattle.session_table.specs.declared.session.TheConstants.{MAX_SESSIONS}

-- the live session that has the name of the one to be made
abbrev pub holder_of : SessionKind → Option (List ℕ) → List (ℕ × Session) → Option ℕ
holder_of kind None live = None
holder_of kind (Some name) live = id_named kind name live

abbrev pub unless_named : SessionKind → Option ℕ → CommandReply → CommandReply
unless_named kind None next = next
unless_named kind (Some id) next = Refused (NameTaken (record { kind = kind; id = id }))

abbrev pub unless_given : ℕ → Option SessionKind → CommandReply → CommandReply
unless_given id None next = next
unless_given id (Some kind) next = Refused (IdTaken (record { kind = kind; id = id }))

-- a create whose identifier was drawn before is refused
abbrev pub fresh_reply : SessionKind → ℕ → Machine → CommandReply
fresh_reply kind id m = unless_given id (lookup (nat_eq id) m.given) (Created (record { kind = kind; id = id }))

-- A create is refused where both sides are one root, where 256 sessions are live, where a live session of the kind has the name, and
-- where the identifier was ever given; the first of these.
abbrev pub create_reply : Create → ℕ → Machine → CommandReply
create_reply c id m =
    cond (has_same_roots c) (Refused SameRoot)
    (cond (nat_le MAX_SESSIONS (length m.live)) (Refused TableFull)
    (unless_named (kind_of c) (holder_of (kind_of c) (name_of c) m.live) (fresh_reply (kind_of c) id m)))

abbrev pub unless_halted : Option Halt → CommandReply → CommandReply
unless_halted None next = next
unless_halted (Some halt) next = Refused (refusals.Halted halt)

-- A flush is refused where the session isn't live, where it is paused, and where it is halted; the first of these. It waits for the
-- cycle behind the last that was begun.
abbrev pub flush_at : ℕ → ℕ → Option Standing → CommandReply
flush_at run id None = Refused NoSession
flush_at run id (Some s) = cond (is_paused s.wish) (Refused refusals.Paused) (unless_halted s.halted (Awaits id run (after s.begun)))

abbrev pub flush_reply : Option ℕ → Machine → CommandReply
flush_reply None m = Refused NoSession
flush_reply (Some id) m = flush_at m.run id (standing_at id m.live)

-- every other command is refused where the session isn't live
abbrev pub order_reply : Order → SessionKind → Option ℕ → CommandReply
order_reply order kind None = Refused NoSession
order_reply order kind (Some id) = Ordered order (record { kind = kind; id = id })

-- What a command is answered; `drawn` is the identifier that was drawn.
abbrev pub answer : TableRequest → Option ℕ → Machine → CommandReply
answer (CreateSession c) drawn m = create_reply c (unwrap_or drawn 0) m
answer (Flush word) drawn m = flush_reply (id_by Sync word m.live) m
answer (Pause kind word) drawn m = order_reply orders.Pause kind (id_by kind word m.live)
answer (Resume kind word) drawn m = order_reply orders.Resume kind (id_by kind word m.live)
answer (Reset word) drawn m = order_reply orders.Reset Sync (id_by Sync word m.live)
answer (Terminate kind word) drawn m = order_reply orders.Terminate kind (id_by kind word m.live)

abbrev pub by_number : ℕ → ClientRow → Option CommandReply
by_number number row = cond (nat_eq number row.number) (Some row.reply) (cond (nat_lt number row.number) (Some (Refused (OldNumber row.number))) None)

abbrev pub by_row : ℕ → Option ClientRow → List ClientRow → Option CommandReply
by_row number None rows = cond (nat_le MAX_CLIENTS (length rows)) (Some (Refused ClientsFull)) None
by_row number (Some row) rows = by_number number row

-- What a client gets whose line doesn't act: the kept reply where its number is its last, a refusal where its number is smaller, and a
-- refusal where it is new and 64 clients are kept.
abbrev pub turned_away : Client → List ClientRow → Option CommandReply
turned_away client rows = by_row client.number (client_named client.name rows) rows

-- a create that is answered so: its identifier was never given, and its name is new
abbrev pub IsNew : Create → Identifier → List (ℕ × SessionKind) → List (ℕ × Session) → Type 0
IsNew c i given live = (lookup (nat_eq i.id) given ≡ None) × (holder_of (kind_of c) (name_of c) live ≡ None) × (i.kind ≡ kind_of c)

abbrev pub IsNewIf : Create → CommandReply → Machine → Type 0
IsNewIf c (Created i) m = IsNew c i m.given m.live
IsNewIf c _ m = Unit {0}

abbrev pub IsFresh : TableRequest → CommandReply → Machine → Type 0
IsFresh (CreateSession c) reply m = IsNewIf c reply m
IsFresh _ reply m = Unit {0}

-- the name of a create; other commands have none
abbrev pub IsNameOf : TableRequest → Option (List ℕ) → Type 0
IsNameOf (CreateSession c) name = name ≡ name_of c
IsNameOf _ name = Unit {0}
