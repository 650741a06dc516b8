-- The content ledger only grows, and stamps name what is in it.
use Rattle.std.proofs.Common.{◌≡◌, ℕ, ◌<◌, Bool, true, false, cond, not, ◌||◌, List, [], ◌∷◌, ◌++◌, length, refl, sym, ap, subst, ◌∙◌, Option, Some, None, append_assoc, arith, length-append}
use Rattle.std.proofs.lemmas.List.{append-nil}
use Rattle.std.specs.FinMap as map
use Rattle.std.specs.Option.{option_map_or}
use Rattle.std.specs.Ordering.{eq_by_cmp}
use Rattle.sync_path.specs.Path.{path_cmp, is_under}
use Rattle.sync_path.specs.PathOrder.{path_cmp_total}
use Rattle.entry_tree.specs.Entry.{is_dir}
use Rattle.entry_tree.specs.Tree.{Names, ByPath, is_below, set_at, without_under}
use Rattle.entry_tree.specs.declared.entry.Entry.{Entry}
use Rattle.entry_tree.specs.declared.entry.Entry.TheVariants.{Dir as DirEntry, File as FileEntry, Link as LinkEntry, Other as OtherEntry}
use Rattle.entry_tree.specs.declared.entry.Stamp.{Stamp}
use Rattle.entry_tree.proofs.Trees.{get-set, get-retain}
use Rattle.roots_api.specs.Answers.{is_done, is_dropped}
use Rattle.roots_api.specs.Edits.{edited}
use Rattle.roots_api.specs.Logs.{after_deed, after_event, after_events}
use Rattle.roots_api.specs.States.{RootState, new_root, staged_by, with_staged, with_file, with_bit, with_exec, next_stamp, kept_by}
use Rattle.roots_api.specs.Steps.{done, after, drop_file}
use Rattle.roots_api.specs.declared.answer.Answer.{Answer}
use Rattle.roots_api.specs.declared.edit.Edit.{Edit}
use Rattle.roots_api.specs.declared.edit.Edit.TheVariants.{Put, Link, Dir, Other, SetExec, Del}
use Rattle.roots_api.specs.declared.event.Deed.{Deed}
use Rattle.roots_api.specs.declared.event.Deed.TheVariants.{Asked, Edited}
use Rattle.roots_api.specs.declared.event.Event.{Event}
use Rattle.roots_api.specs.declared.event.Span.{Span}
use Rattle.roots_api.specs.declared.op.Op.{Op}
use Rattle.roots_api.specs.declared.op.Op.TheVariants.{List as OpList, Fetch, StageClear, StageOpen, StageAppend, StageKeep, Place, MakeDir, MakeLink, Remove, SetExec}
use Rattle.roots_api.specs.declared.who.Who.{Who}
use Rattle.roots_api.specs.declared.who.Who.TheVariants.{Editor, Session}

-- the ledger of the first state is a front of that of the second
abbrev pub Grows : RootState → RootState → Type 0
Grows old new = (added : List (List ℕ)) × (new.ledger ≡ old.ledger ++ added)

stays : (old new : RootState) → new.ledger ≡ old.ledger → Grows old new
stays old new e = ([], e ∙ sym (append-nil old.ledger))

then_grows : (a b c : RootState) → Grows a b → Grows b c → Grows a c
then_grows a b c g h = (g.0 ++ h.0, h.1 ∙ ap (λ l. l ++ h.0) g.1 ∙ append_assoc a.ledger g.0 h.0)

done_grows : (s : RootState) (id : ℕ) (op : Op) → Grows s (done s id op)
done_grows s id (OpList path) = stays s s refl
done_grows s id (Fetch path stamp offset) = stays s s refl
done_grows s id StageClear = stays s (done s id StageClear) refl
done_grows s id StageOpen = stays s (done s id StageOpen) refl
done_grows s id (StageAppend bytes) = stays s (done s id (StageAppend bytes)) refl
done_grows s id (StageKeep digest) = stays s (done s id (StageKeep digest)) refl
done_grows s id (Place path digest exec expected) = (Rattle.std.specs.Prelude.unwrap_or (kept_by s id digest) [] ∷ [], refl)
done_grows s id (MakeDir path) = stays s (done s id (MakeDir path)) refl
done_grows s id (MakeLink path text expected) = stays s (done s id (MakeLink path text expected)) refl
done_grows s id (Remove path expected) = stays s (done s id (Remove path expected)) refl
done_grows s id (SetExec path expected on) = stays s (done s id (SetExec path expected on)) refl

pub after_grows : {B : Type 0} (s : RootState) (id : ℕ) (op : Op) (answer : Answer B) → Grows s (after s id op answer)
after_grows s id op answer =
    let dropped = with_staged s id (drop_file (staged_by s id)) in
    elim (is_done answer) as (λ b. Grows s (cond b (done s id op) (cond (is_dropped answer) dropped s))) [
      | true ↦ done_grows s id op
      | false ↦ elim (is_dropped answer) as (λ b. Grows s (cond b dropped s)) [ true ↦ stays s dropped refl | false ↦ stays s s refl ]
    ]

pub edited_grows : (s : RootState) (edit : Edit) → Grows s (edited s edit)
edited_grows s (Put path bytes) = (bytes ∷ [], refl)
edited_grows s (Link path text) = stays s (edited s (Link path text)) refl
edited_grows s (Dir path) = stays s (edited s (Dir path)) refl
edited_grows s (Other path) = stays s (edited s (Other path)) refl
edited_grows s (SetExec path on) = stays s (edited s (SetExec path on)) refl
edited_grows s (Del path) = stays s (edited s (Del path)) refl

deed_grows : (s : RootState) (who : Who) (deed : Deed) (answer : Answer Span) → Grows s (after_deed s who deed answer)
deed_grows s (Session id run cycle) (Asked op) answer = after_grows s id op answer
deed_grows s Editor (Asked op) answer = stays s s refl
deed_grows s Editor (Edited edit) answer = edited_grows s edit
deed_grows s (Session id run cycle) (Edited edit) answer = edited_grows s edit

pub events_grow : (s : RootState) (log : List Event) → Grows s (after_events s log)
events_grow s [] = stays s s refl
events_grow s (e ∷ log) =
    then_grows s (after_event s e) (after_events (after_event s e) log) (deed_grows s e.who e.deed e.answer) (events_grow (after_event s e) log)

-- the stamps in a tree are below a number
abbrev pub AreBelow : ByPath Entry → ℕ → Type 0
AreBelow tree n = (path : Names) (stamp : Stamp) (exec : Bool) → map.get tree path ≡ Some (FileEntry stamp exec) → stamp.0 < n

abbrev pub AreNamed : RootState → Type 0
AreNamed s = AreBelow s.tree (length s.ledger)

module _ (tree : ByPath Entry) (n : ℕ) (named : AreBelow tree n) where
  set_below : (path : Names) (x : Entry) → ((stamp : Stamp) (exec : Bool) → ◌≡◌ {A = Option Entry} (Some x) (Some (FileEntry stamp exec)) → stamp.0 < n) → AreBelow (set_at is_dir tree path x) n
  set_below path x own q stamp exec h =
      elim (eq_by_cmp path_cmp q path) as (λ b. cond b (Some x) (cond (is_dir x || not (is_below q path)) (map.get tree q) None) ≡ Some (FileEntry stamp exec) → stamp.0 < n) [
        | true ↦ λ e. own stamp exec e
        | false ↦ elim (is_dir x || not (is_below q path)) as (λ b. cond b (map.get tree q) None ≡ Some (FileEntry stamp exec) → stamp.0 < n) [
          | true ↦ λ e. named q stamp exec e
          | false ↦ λ e. absurd (cc)
        ]
      ] (sym (get-set is_dir tree path x q) ∙ h)

  without_below_n : (path : Names) → AreBelow (without_under tree path) n
  without_below_n path q stamp exec h =
      elim (not (is_under q path)) as (λ b. cond b (map.get tree q) None ≡ Some (FileEntry stamp exec) → stamp.0 < n) [
        | true ↦ λ e. named q stamp exec e
        | false ↦ λ e. absurd (cc)
      ] (sym (get-retain is_dir tree (λ r. not (is_under r path)) q) ∙ h)

stamp_in : Entry → Stamp → Stamp
stamp_in (FileEntry stamp exec) t = stamp
stamp_in DirEntry t = t
stamp_in (LinkEntry text) t = t
stamp_in OtherEntry t = t

entry_in : Option Entry → Entry → Entry
entry_in None y = y
entry_in (Some x) y = x

file_is : (a b : Stamp) (x y : Bool) → ◌≡◌ {A = Option Entry} (Some (FileEntry a x)) (Some (FileEntry b y)) → a ≡ b
unfolding stamp_in entry_in
file_is a b x y h = ap (λ (o : Option Entry). stamp_in (entry_in o DirEntry) b) h

file_named : (s : RootState) (path : Names) (bytes : List ℕ) (exec : Bool) → AreNamed s → AreNamed (with_file s path bytes exec)
file_named s path bytes exec named =
    let n = length (s.ledger ++ bytes ∷ []) in
    let longer : length s.ledger < n = omega (arith, length-append s.ledger (bytes ∷ [])) in
    let more : AreBelow s.tree n = λ q stamp x h. let below = named q stamp x h in omega arith in
    set_below s.tree n more path (FileEntry (next_stamp s) exec) (λ stamp x h. subst (λ (t : Stamp). t.0 < n) (file_is (next_stamp s) stamp exec x h) longer)

-- a bit that is set leaves the stamp
bit_named : (tree : ByPath Entry) (n : ℕ) → AreBelow tree n → (path : Names) (on : Bool) (o : Option Entry) → map.get tree path ≡ o
    → AreBelow (option_map_or (λ found. set_at is_dir tree path (with_bit on found)) o tree) n
bit_named tree n named path on None at = named
bit_named tree n named path on (Some DirEntry) at = set_below tree n named path DirEntry (λ stamp exec h. absurd (cc))
bit_named tree n named path on (Some (FileEntry held x)) at =
    set_below tree n named path (FileEntry held on) (λ stamp exec h. subst (λ (t : Stamp). t.0 < n) (file_is held stamp on exec h) (named path held x at))
bit_named tree n named path on (Some (LinkEntry text)) at = set_below tree n named path (LinkEntry text) (λ stamp exec h. absurd (cc))
bit_named tree n named path on (Some OtherEntry) at = set_below tree n named path OtherEntry (λ stamp exec h. absurd (cc))

exec_named : (s : RootState) (path : Names) (on : Bool) → AreNamed s → AreNamed (with_exec s path on)
exec_named s path on named = bit_named s.tree (length s.ledger) named path on (map.get s.tree path) refl

done_named : (s : RootState) (id : ℕ) (op : Op) → AreNamed s → AreNamed (done s id op)
done_named s id (OpList path) named = named
done_named s id (Fetch path stamp offset) named = named
done_named s id StageClear named = named
done_named s id StageOpen named = named
done_named s id (StageAppend bytes) named = named
done_named s id (StageKeep digest) named = named
done_named s id (Place path digest exec expected) named = file_named s path (Rattle.std.specs.Prelude.unwrap_or (kept_by s id digest) []) exec named
done_named s id (MakeDir path) named = set_below s.tree (length s.ledger) named path DirEntry (λ stamp exec h. absurd (cc))
done_named s id (MakeLink path text expected) named = set_below s.tree (length s.ledger) named path (LinkEntry text) (λ stamp exec h. absurd (cc))
done_named s id (Remove path expected) named = without_below_n s.tree (length s.ledger) named path
done_named s id (SetExec path expected on) named = exec_named s path on named

after_named : {B : Type 0} (s : RootState) (id : ℕ) (op : Op) (answer : Answer B) → AreNamed s → AreNamed (after s id op answer)
after_named s id op answer named =
    let dropped = with_staged s id (drop_file (staged_by s id)) in
    elim (is_done answer) as (λ b. AreNamed (cond b (done s id op) (cond (is_dropped answer) dropped s))) [
      | true ↦ done_named s id op named
      | false ↦ elim (is_dropped answer) as (λ b. AreNamed (cond b dropped s)) [ true ↦ named | false ↦ named ]
    ]

edited_named : (s : RootState) (edit : Edit) → AreNamed s → AreNamed (edited s edit)
edited_named s (Put path bytes) named = file_named s path bytes false named
edited_named s (Link path text) named = set_below s.tree (length s.ledger) named path (LinkEntry text) (λ stamp exec h. absurd (cc))
edited_named s (Dir path) named = set_below s.tree (length s.ledger) named path DirEntry (λ stamp exec h. absurd (cc))
edited_named s (Other path) named = set_below s.tree (length s.ledger) named path OtherEntry (λ stamp exec h. absurd (cc))
edited_named s (SetExec path on) named = exec_named s path on named
edited_named s (Del path) named = without_below_n s.tree (length s.ledger) named path

deed_named : (s : RootState) (who : Who) (deed : Deed) (answer : Answer Span) → AreNamed s → AreNamed (after_deed s who deed answer)
deed_named s (Session id run cycle) (Asked op) answer named = after_named s id op answer named
deed_named s Editor (Asked op) answer named = named
deed_named s Editor (Edited edit) answer named = edited_named s edit named
deed_named s (Session id run cycle) (Edited edit) answer named = edited_named s edit named

pub event_named : (s : RootState) (e : Event) → AreNamed s → AreNamed (after_event s e)
event_named s e named = deed_named s e.who e.deed e.answer named

pub new_named : AreNamed new_root
new_named path stamp exec h =
    elim (eq_by_cmp path_cmp path []) as (λ b. cond b (Some DirEntry) None ≡ Some (FileEntry stamp exec) → stamp.0 < 0) [
      | true ↦ λ e. absurd (cc)
      | false ↦ λ e. absurd (cc)
    ] (ap (cond (eq_by_cmp path_cmp path []) (Some DirEntry)) (sym (map.get-empty path_cmp path)) ∙ sym (map.get-insert path_cmp_total map.empty [] DirEntry path) ∙ h)
