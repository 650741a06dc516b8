-- What each step keeps: soundness, identifiers that are gone, and all other sessions.
use Rattle.std.proofs.Common.{◌≡◌, ◌∙◌, ℕ, Bool, true, false, cond, ◌&&◌, ◌++◌, List, [], ◌∷◌, Option, Some, None, nat_eq, nat_le, length, refl, sym, ap, true≢false}
use Rattle.std.proofs.lemmas.Bool.{eqb-true}
use Rattle.std.proofs.lemmas.Slice.Eq.{bytes_eq-Decides}
use Rattle.std.specs.Map.{lookup}
use Rattle.std.specs.Option.{unwrap_or}
use Rattle.command_words.specs.declared.client.Client.{Client}
use Rattle.command_words.specs.declared.session_kind.SessionKind.{SessionKind}
use Rattle.command_words.specs.declared.session_kind.SessionKind.TheVariants as kinds
use Rattle.session_table.specs.Answers.{answer, create_reply, holder_of, unless_given, unless_named}
use Rattle.session_table.specs.Creates.{has_same_roots, kind_of, name_of}
use Rattle.session_table.specs.Distinct.{IsNamedAlone}
use Rattle.session_table.specs.Finding.{has_name, id_named, id_of_kind, if_of_kind, same_kind}
use Rattle.session_table.specs.Laws.{IsFoundById, IsGone, IsSound, after_all, done_to, is_id, touched}
use Rattle.session_table.specs.Machine.{altered_by, asked_by, changed, created, created_by, done, kept_for, step, terminated, terminated_by, turned_away_for}
use Rattle.session_table.specs.Standings.{change_by, new_session, with_report, with_standing}
use Rattle.session_table.specs.States.{IsCovered, Machine}
use Rattle.session_table.specs.declared.change.Change.{Change}
use Rattle.session_table.specs.declared.change.Change.TheVariants as changes
use Rattle.session_table.specs.declared.create.Create.{Create}
use Rattle.session_table.specs.declared.op.TableOp.{TableOp}
use Rattle.session_table.specs.declared.op.TableOp.TheVariants.{Ask, Query, Wait, Look, Begin, Ended}
use Rattle.session_table.specs.declared.refusal.TableRefusal.TheVariants.{SameRoot, TableFull}
use Rattle.session_table.specs.declared.reply.CommandReply.{CommandReply}
use Rattle.session_table.specs.declared.reply.CommandReply.TheVariants.{Created, Awaits, Ordered, Refused}
use Rattle.session_table.specs.declared.request.TableRequest.{TableRequest}
use Rattle.session_table.specs.declared.request.TableRequest.TheVariants.{Create as CreateSession, Flush, Pause, Resume, Reset, Terminate}
use Rattle.session_table.specs.declared.session.Session.{Session}
use Rattle.session_table.specs.declared.session.TheConstants.{MAX_SESSIONS}
use Rattle.session_table.proofs.Distinct.{distinct_changed, distinct_push, distinct_removed}
use Rattle.session_table.proofs.Lookups.{some_is_not_none, none_beside, turned, lookup_changed, lookup_changed_none, lookup_past, lookup_push, lookup_removed, lookup_removed_none, lookup_stays}

-- What is kept by a new session whose name and identifier are new, by a change of one session, and by its end, is kept by each step.
module _ (Keeps : Machine → Type 0)
    (on_create : (m : Machine) (c : Create) (id : ℕ) → Keeps m → holder_of (kind_of c) (name_of c) m.live ≡ None → lookup (nat_eq id) m.given ≡ None
    → Keeps (created c (record { kind = kind_of c; id = id }) m))
    (on_change : (m : Machine) (id : ℕ) (f : Session → Session) → ((s : Session) → (f s).row ≡ s.row) → Keeps m
    → Keeps (record { live = changed id f m.live; given = m.given; clients = m.clients; run = m.run }))
    (on_end : (m : Machine) (id : ℕ) → Keeps m → Keeps (terminated id m))
    (on_keep : (m : Machine) (client : Option Client) (reply : CommandReply) → Keeps m → Keeps (kept_for client reply m)) where
  kept_created : (m : Machine) (c : Create) (id : ℕ) → Keeps m → Keeps (created_by c (create_reply c id m) m)
  kept_created m c id keeps = by (has_same_roots c) (nat_le MAX_SESSIONS (length m.live)) (holder_of (kind_of c) (name_of c) m.live) refl (lookup (nat_eq id) m.given) refl
    where
      by : (same full : Bool) (holder : Option ℕ) → holder_of (kind_of c) (name_of c) m.live ≡ holder → (given : Option SessionKind) → lookup (nat_eq id) m.given ≡ given
          → Keeps (created_by c (cond same (Refused SameRoot) (cond full (Refused TableFull) (unless_named (kind_of c) holder (unless_given id given (Created (record { kind = kind_of c; id = id })))))) m)
      by true full holder h given g = keeps
      by false true holder h given g = keeps
      by false false (Some other) h given g = keeps
      by false false None h (Some kind) g = keeps
      by false false None h None g = on_create m c id keeps h g

  kept_altered : (m : Machine) (change : Change) (reply : CommandReply) → Keeps m → Keeps (altered_by change reply m)
  kept_altered m change (Created i) keeps = keeps
  kept_altered m change (Awaits id run cycle) keeps = on_change m id (with_standing (change_by change)) (λ s. refl) keeps
  kept_altered m change (Ordered order i) keeps = on_change m i.id (with_standing (change_by change)) (λ s. refl) keeps
  kept_altered m change (Refused refusal) keeps = keeps

  kept_terminated : (m : Machine) (reply : CommandReply) → Keeps m → Keeps (terminated_by reply m)
  kept_terminated m (Created i) keeps = keeps
  kept_terminated m (Awaits id run cycle) keeps = keeps
  kept_terminated m (Ordered order i) keeps = on_end m i.id keeps
  kept_terminated m (Refused refusal) keeps = keeps

  kept_done : (m : Machine) (request : TableRequest) (drawn : Option ℕ) → Keeps m → Keeps (done request (answer request drawn m) m)
  kept_done m (CreateSession c) drawn keeps = kept_created m c (unwrap_or drawn 0) keeps
  kept_done m (Flush word) drawn keeps = kept_altered m changes.Flush _ keeps
  kept_done m (Pause kind word) drawn keeps = kept_altered m changes.Pause _ keeps
  kept_done m (Resume kind word) drawn keeps = kept_altered m changes.Resume _ keeps
  kept_done m (Reset word) drawn keeps = kept_altered m changes.Reset _ keeps
  kept_done m (Terminate kind word) drawn keeps = kept_terminated m _ keeps

  kept_asked : (m : Machine) (away : Option CommandReply) (client : Option Client) (request : TableRequest) (drawn : Option ℕ) → Keeps m → Keeps (asked_by away client request drawn m).1
  kept_asked m (Some reply) client request drawn keeps = keeps
  kept_asked m None client request drawn keeps = on_keep (done request (answer request drawn m) m) client (answer request drawn m) (kept_done m request drawn keeps)

  pub kept_by_step : (op : TableOp) (m : Machine) → Keeps m → Keeps (step op m).1
  kept_by_step (Ask client request drawn) m keeps = kept_asked m (turned_away_for client m) client request drawn keeps
  kept_by_step (Query query) m keeps = keeps
  kept_by_step (Wait id run cycle) m keeps = keeps
  kept_by_step (Look id) m keeps = keeps
  kept_by_step (Begin id) m keeps = on_change m id (with_standing (change_by changes.Begin)) (λ s. refl) keeps
  kept_by_step (Ended id report) m keeps = on_change m id (with_report report) (λ s. refl) keeps

  pub kept_by_all : (ops : List TableOp) (m : Machine) → Keeps m → Keeps (after_all ops m)
  kept_by_all [] m keeps = keeps
  kept_by_all (op ∷ ops) m keeps = kept_by_all ops (step op m).1 (kept_by_step op m keeps)

-- the kinds that are tested as the same are one
same_kinds : (kind other : SessionKind) → same_kind kind other ≡ true → kind ≡ other
same_kinds kinds.Sync kinds.Sync h = refl
same_kinds kinds.Sync kinds.Forward h = absurd (true≢false (sym h))
same_kinds kinds.Forward kinds.Sync h = absurd (true≢false (sym h))
same_kinds kinds.Forward kinds.Forward h = refl

-- the name of a new session is new where no session of its kind has it
pub new_name : (c : Create) (es : List (ℕ × Session)) (id : ℕ) → holder_of (kind_of c) (name_of c) es ≡ None → IsNamedAlone (new_session id c) es
new_name c es id none kind name named = by (same_kind kind (kind_of c)) refl (name_of c) refl named
  where
    by : (b : Bool) → same_kind kind (kind_of c) ≡ b → (o : Option (List ℕ)) → name_of c ≡ o → b && has_name name o ≡ true → id_named kind name es ≡ None
    by false k o n h = absurd (true≢false (sym h))
    by true k None n h = absurd (true≢false (sym h))
    by true k (Some other) n h =
        ap (λ x. id_named x name es) (same_kinds kind (kind_of c) k)
        ∙ ap (λ x. id_named (kind_of c) x es) ((bytes_eq-Decides name other).0 h)
        ∙ ap (λ x. holder_of (kind_of c) x es) (sym n)
        ∙ none

-- where a list with a new last entry has none, neither has the list, and the entry isn't it
pub covered_push : (given : List (ℕ × SessionKind)) (live : List (ℕ × Session)) (id : ℕ) (kind : SessionKind) (s : Session) → IsCovered given live → IsCovered (given ++ (id, kind) ∷ []) (live ++ (id, s) ∷ [])
covered_push given live id kind s covered q h = by (lookup (nat_eq q) given) refl
  where
    by : (o : Option SessionKind) → lookup (nat_eq q) given ≡ o → lookup (nat_eq q) (live ++ (id, s) ∷ []) ≡ None
    by (Some was) e = absurd (some_is_not_none (sym (lookup_stays (nat_eq q) given (id, kind) was e) ∙ h))
    by None e =
        lookup_push (nat_eq q) live (id, s) (covered q e)
        ∙ none_beside (nat_eq q id) kind s None None (sym (lookup_push (nat_eq q) given (id, kind) e) ∙ h) (λ none. refl)

sound_created : (m : Machine) (c : Create) (id : ℕ) → IsSound m → holder_of (kind_of c) (name_of c) m.live ≡ None → lookup (nat_eq id) m.given ≡ None
    → IsSound (created c (record { kind = kind_of c; id = id }) m)
sound_created m c id sound h g = (
  covered_push m.given m.live id (kind_of c) (new_session id c) sound.0,
  distinct_push m.live (id, new_session id c) sound.1 (sound.0 id g) (new_name c m.live id h),
)

sound_changed : (m : Machine) (id : ℕ) (f : Session → Session) → ((s : Session) → (f s).row ≡ s.row) → IsSound m
    → IsSound (record { live = changed id f m.live; given = m.given; clients = m.clients; run = m.run })
sound_changed m id f keeps sound = ((λ q none. lookup_changed_none (nat_eq q) id f m.live (sound.0 q none)), distinct_changed f keeps id m.live sound.1)

sound_ended : (m : Machine) (id : ℕ) → IsSound m → IsSound (terminated id m)
sound_ended m id sound = ((λ q none. lookup_removed_none (nat_eq q) (nat_eq id) m.live (sound.0 q none)), distinct_removed (nat_eq id) m.live sound.1)

sound_kept : (m : Machine) (client : Option Client) (reply : CommandReply) → IsSound m → IsSound (kept_for client reply m)
sound_kept m None reply sound = sound
sound_kept m (Some client) reply sound = sound

-- each step keeps a table sound
pub sound_step : (op : TableOp) (m : Machine) → IsSound m → IsSound (step op m).1
sound_step = kept_by_step IsSound sound_created sound_changed sound_ended sound_kept

module _ (id : ℕ) where
  gone_created : (m : Machine) (c : Create) (new : ℕ) → IsGone id m → holder_of (kind_of c) (name_of c) m.live ≡ None → lookup (nat_eq new) m.given ≡ None
      → IsGone id (created c (record { kind = kind_of c; id = new }) m)
  gone_created m c new gone h g = (
    (gone.0.0, lookup_stays (nat_eq id) m.given (new, kind_of c) gone.0.0 gone.0.1),
    lookup_past (nat_eq id) m.live (new, new_session new c) (by (nat_eq id new) refl) ∙ gone.1,
  )
    where
      by : (b : Bool) → nat_eq id new ≡ b → b ≡ false
      by true e = absurd (some_is_not_none (sym gone.0.1 ∙ ap (λ n. lookup (nat_eq n) m.given) (eqb-true id new e) ∙ g))
      by false e = refl

  gone_changed : (m : Machine) (at : ℕ) (f : Session → Session) → ((s : Session) → (f s).row ≡ s.row) → IsGone id m
      → IsGone id (record { live = changed at f m.live; given = m.given; clients = m.clients; run = m.run })
  gone_changed m at f keeps gone = (gone.0, lookup_changed_none (nat_eq id) at f m.live gone.1)

  gone_ended : (m : Machine) (at : ℕ) → IsGone id m → IsGone id (terminated at m)
  gone_ended m at gone = (gone.0, lookup_removed_none (nat_eq id) (nat_eq at) m.live gone.1)

  gone_kept : (m : Machine) (client : Option Client) (reply : CommandReply) → IsGone id m → IsGone id (kept_for client reply m)
  gone_kept m None reply gone = gone
  gone_kept m (Some client) reply gone = gone

  -- an identifier that is gone stays gone
  pub stays_gone : (ops : List TableOp) (m : Machine) → IsGone id m → IsGone id (after_all ops m)
  stays_gone = kept_by_all (IsGone id) gone_created gone_changed gone_ended gone_kept

module _ (id : ℕ) (m : Machine) where
  others_altered : (change : Change) (reply : CommandReply) → is_id id (done_to reply) ≡ false → lookup (nat_eq id) (altered_by change reply m).live ≡ lookup (nat_eq id) m.live
  others_altered change (Created i) h = refl
  others_altered change (Awaits at run cycle) h = lookup_changed at id (with_standing (change_by change)) m.live h
  others_altered change (Ordered order i) h = lookup_changed i.id id (with_standing (change_by change)) m.live h
  others_altered change (Refused refusal) h = refl

  others_created : (c : Create) (reply : CommandReply) → is_id id (done_to reply) ≡ false → lookup (nat_eq id) (created_by c reply m).live ≡ lookup (nat_eq id) m.live
  others_created c (Created i) h = lookup_past (nat_eq id) m.live (i.id, new_session i.id c) (turned i.id id h)
  others_created c (Awaits at run cycle) h = refl
  others_created c (Ordered order i) h = refl
  others_created c (Refused refusal) h = refl

  others_terminated : (reply : CommandReply) → is_id id (done_to reply) ≡ false → lookup (nat_eq id) (terminated_by reply m).live ≡ lookup (nat_eq id) m.live
  others_terminated (Created i) h = refl
  others_terminated (Awaits at run cycle) h = refl
  others_terminated (Ordered order i) h = lookup_removed i.id id m.live h
  others_terminated (Refused refusal) h = refl

  others_done : (request : TableRequest) (reply : CommandReply) → is_id id (done_to reply) ≡ false → lookup (nat_eq id) (done request reply m).live ≡ lookup (nat_eq id) m.live
  others_done (CreateSession c) reply h = others_created c reply h
  others_done (Flush word) reply h = others_altered changes.Flush reply h
  others_done (Pause kind word) reply h = others_altered changes.Pause reply h
  others_done (Resume kind word) reply h = others_altered changes.Resume reply h
  others_done (Reset word) reply h = others_altered changes.Reset reply h
  others_done (Terminate kind word) reply h = others_terminated reply h

  others_kept : (n : Machine) (client : Option Client) (reply : CommandReply) → (kept_for client reply n).live ≡ n.live
  others_kept n None reply = refl
  others_kept n (Some client) reply = refl

  others_asked : (away : Option CommandReply) (client : Option Client) (request : TableRequest) (drawn : Option ℕ)
      → is_id id (done_to (asked_by away client request drawn m).0) ≡ false → lookup (nat_eq id) (asked_by away client request drawn m).1.live ≡ lookup (nat_eq id) m.live
  others_asked (Some reply) client request drawn h = refl
  others_asked None client request drawn h =
      ap (lookup (nat_eq id)) (others_kept (done request (answer request drawn m) m) client (answer request drawn m)) ∙ others_done request (answer request drawn m) h

-- all sessions stay as they are but for the one that a step is about
pub others_stay : (op : TableOp) (m : Machine) (id : ℕ) → is_id id (touched op (step op m).0) ≡ false → lookup (nat_eq id) (step op m).1.live ≡ lookup (nat_eq id) m.live
others_stay (Ask client request drawn) m id h = others_asked id m (turned_away_for client m) client request drawn h
others_stay (Query query) m id h = refl
others_stay (Wait at run cycle) m id h = refl
others_stay (Look at) m id h = refl
others_stay (Begin at) m id h = lookup_changed at id (with_standing (change_by changes.Begin)) m.live h
others_stay (Ended at report) m id h = lookup_changed at id (with_report report) m.live h

pub same_kind_itself : (kind : SessionKind) → same_kind kind kind ≡ true
same_kind_itself kinds.Sync = refl
same_kind_itself kinds.Forward = refl

-- a live session is found by its identifier
pub found_by_id : (m : Machine) → IsFoundById m
found_by_id m id s found =
    let kind = kind_of s.row.create in
    ap (λ b. cond b (id_of_kind kind id m.live) None) (same_kind_itself kind)
    ∙ ap (if_of_kind kind id) found
    ∙ ap (λ b. cond b (Some id) None) (same_kind_itself kind)
