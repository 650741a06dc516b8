-- A client's line that is sent again.
use Rattle.std.proofs.Common.{◌≡◌, ◌∙◌, ℕ, Bool, true, false, cond, ◌≤◌, ◌++◌, List, [], ◌∷◌, Option, Some, None, nat_lt, length, slice_set, refl, sym, ap, subst, arith, ◌<◌}
use Rattle.std.proofs.lemmas.Bool.{eq-eqb}
use Rattle.std.proofs.lemmas.List.Folds.{find_at, find-set}
use Rattle.std.proofs.lemmas.Option.{slice_get_past}
use Rattle.std.proofs.lemmas.Slice.Eq.{bytes_eq-Decides}
use Rattle.std.specs.List.{find, position_or_len}
use Rattle.command_words.specs.declared.client.Client.{Client}
use Rattle.session_table.specs.Answers.{answer, by_row, turned_away}
use Rattle.session_table.specs.Finding.{client_named, is_client}
use Rattle.session_table.specs.Machine.{asked_by, client_row, done, kept, kept_for, put_at, step}
use Rattle.session_table.specs.States.{Machine}
use Rattle.session_table.specs.declared.client_row.ClientRow.{ClientRow}
use Rattle.session_table.specs.declared.op.TableOp.TheVariants.{Ask}
use Rattle.session_table.specs.declared.refusal.TableRefusal.TheVariants.{OldNumber}
use Rattle.session_table.specs.declared.reply.CommandReply.{CommandReply}
use Rattle.session_table.specs.declared.reply.CommandReply.TheVariants.{Refused}
use Rattle.session_table.specs.declared.reply.TableReply.TheVariants.{Command}
use Rattle.session_table.specs.declared.reply.TableReply.{TableReply}
use Rattle.session_table.specs.declared.request.TableRequest.{TableRequest}
use Rattle.session_table.proofs.Lookups.{some_is_not_none}

-- a new last row that passes is found where none was
find_push : (p : ClientRow → Bool) (rows : List ClientRow) (row : ClientRow) → find p rows ≡ None → p row ≡ true → find p (rows ++ row ∷ []) ≡ Some row
find_push p [] row h t = ap (λ b. cond b (Some row) None) t
find_push p (r ∷ rows) row h t = by (p r) h (λ none. find_push p rows row none t)
  where
    by : (b : Bool) → cond b (Some r) (find p rows) ≡ None → (find p rows ≡ None → find p (rows ++ row ∷ []) ≡ Some row) → cond b (Some r) (find p (rows ++ row ∷ [])) ≡ Some row
    by true h rest = absurd (some_is_not_none h)
    by false h rest = rest h

-- a row that was put in its place is found
found_put : (p : ClientRow → Bool) (rows : List ClientRow) (row : ClientRow) → p row ≡ true → find p (put_at (position_or_len p rows) row rows) ≡ Some row
found_put p rows row t = by (nat_lt (position_or_len p rows) (length rows)) refl
  where
    by : (b : Bool) → nat_lt (position_or_len p rows) (length rows) ≡ b → find p (cond b (slice_set rows (position_or_len p rows) row) (rows ++ row ∷ [])) ≡ Some row
    by true e = let less : position_or_len p rows < length rows = grind (arith) in find-set p rows (position_or_len p rows) row refl less t
    by false e = let past : length rows ≤ position_or_len p rows = grind (arith) in find_push p rows row (find_at p rows ∙ slice_get_past rows (position_or_len p rows) past) t

-- a client is found by its name once its row is kept
pub found_kept : (client : Client) (reply : CommandReply) (rows : List ClientRow) → client_named client.name (kept client reply rows) ≡ Some (client_row client reply)
found_kept client reply rows = found_put (is_client client.name) rows (client_row client reply) ((bytes_eq-Decides client.name client.name).1 refl)

-- what a client's line gives, by the reply to one that doesn't act
abbrev said : Client → TableRequest → Option ℕ → Machine → Option CommandReply → TableReply × Machine
said client request drawn m away = (Command (asked_by away (Some client) request drawn m).0, (asked_by away (Some client) request drawn m).1)

-- a line with the client's last number gets the kept reply, and leaves the table
pub repeats_last : (m : Machine) (client : Client) (row : ClientRow) (request : TableRequest) (drawn : Option ℕ)
    → client_named client.name m.clients ≡ Some row → client.number ≡ row.number → step (Ask (Some client) request drawn) m ≡ (Command row.reply, m)
repeats_last m client row request drawn found same =
    let old : Option CommandReply = cond (nat_lt client.number row.number) (Some (Refused (OldNumber row.number))) None in
    let away : turned_away client m.clients ≡ Some row.reply =
    ap (λ o. by_row client.number o m.clients) found ∙ ap (λ b. cond b (Some row.reply) old) (eq-eqb client.number row.number same) in
    ap (said client request drawn m) away

-- a line that acted gets its own reply when it is sent again, and leaves the table
pub repeats_acted : (m : Machine) (client : Client) (request again : TableRequest) (drawn redrawn : Option ℕ)
    → turned_away client m.clients ≡ None
    → step (Ask (Some client) again redrawn) (step (Ask (Some client) request drawn) m).1 ≡ ((step (Ask (Some client) request drawn) m).0, (step (Ask (Some client) request drawn) m).1)
repeats_acted m client request again drawn redrawn away =
    let reply = answer request drawn m in
    let n = kept_for (Some client) reply (done request reply m) in
    subst
    (λ o. step (Ask (Some client) again redrawn) (said client request drawn m o).1 ≡ ((said client request drawn m o).0, (said client request drawn m o).1))
    (sym away)
    (repeats_last n client (client_row client reply) again redrawn (found_kept client reply (done request reply m).clients) refl)
