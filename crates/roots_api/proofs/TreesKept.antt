-- The tree of a legal log is closed under parents.
use Rattle.std.proofs.Common.{◌≡◌, ◌⊎◌, inl, inr, ℕ, Bool, true, false, cond, not, List, [], ◌∷◌, ◌++◌, refl, sym, ap, ◌∙◌, Option, Some, None}
use Rattle.std.specs.FinMap as map
use Rattle.std.specs.Prelude.{is_some}
use Rattle.std.specs.Option.{option_map, option_map_or, option_and_then}
use Rattle.std.specs.Ordering.{eq_by_cmp}
use Rattle.sync_path.specs.Path.{path_cmp, is_under, parent_of}
use Rattle.sync_path.specs.PathOrder.{path_cmp_total}
use Rattle.entry_tree.specs.Entry.{is_dir}
use Rattle.entry_tree.specs.Tree.{Names, ByPath, IsClosed, holds_folder, set_at, without_under, at_parent, refusal}
use Rattle.entry_tree.specs.declared.entry.Entry.{Entry}
use Rattle.entry_tree.specs.declared.entry.Entry.TheVariants.{Dir as DirEntry, File as FileEntry, Link as LinkEntry, Other as OtherEntry}
use Rattle.entry_tree.specs.declared.tree_error.TreeError.{TreeError}
use Rattle.entry_tree.specs.declared.tree_error.TreeError.TheVariants.{NotDir}
use Rattle.entry_tree.proofs.Trees.{closed_set, closed_retain, not_under_up, stands_allowed, tie_is}
use Rattle.roots_api.specs.Answers.{is_done, is_dropped}
use Rattle.roots_api.specs.Edits.{edited, refused_at, first_of}
use Rattle.roots_api.specs.Logs.{after_deed, after_event, IsLegalDeed, IsLegalEvent, logged, spanned, offset_of}
use Rattle.roots_api.specs.States.{RootState, new_root, staged_by, kept_by, with_staged, next_stamp, missing_parent, with_bit}
use Rattle.roots_api.specs.Steps.{done, after, answer_of, drop_file, in_folder, where_expected}
use Rattle.roots_api.specs.declared.answer.Answer.{Answer}
use Rattle.roots_api.specs.declared.answer.Answer.TheVariants.{Listed, Held, Piece, Changed, TooLarge, Cleared, Opened, Kept, NotStaged, DigestDiffers, Done, NoParent, Differs, NoLink, NoExec, NotEmpty, Full, Failed}
use Rattle.roots_api.specs.declared.edit.Edit.{Edit}
use Rattle.roots_api.specs.declared.edit.Edit.TheVariants.{Put, Link, Dir, Other, SetExec, Del}
use Rattle.roots_api.specs.declared.event.Deed.{Deed}
use Rattle.roots_api.specs.declared.event.Deed.TheVariants.{Asked, Edited}
use Rattle.roots_api.specs.declared.event.Event.{Event}
use Rattle.roots_api.specs.declared.event.Span.{Span}
use Rattle.roots_api.specs.declared.op.Op.{Op}
use Rattle.roots_api.specs.declared.op.Op.TheVariants.{List as OpList, Fetch, StageClear, StageOpen, StageAppend, StageKeep, Place, MakeDir, MakeLink, Remove, SetExec}
use Rattle.roots_api.specs.declared.who.Who.{Who}
use Rattle.roots_api.specs.declared.who.Who.TheVariants.{Editor, Session}

abbrev pub IsShut : ByPath Entry → Type 0
IsShut tree = IsClosed is_dir tree

allowed_at : (tree : ByPath Entry) (o : Option Names)
    → option_and_then {U = Names × Option Entry} (λ (parent : Names). cond (holds_folder is_dir (map.get tree parent)) None (Some (parent, map.get tree parent))) o ≡ None
    → refusal is_dir (option_map (map.get tree) o) ≡ None
allowed_at tree None h = refl
allowed_at tree (Some p) h =
    let from : (x : Option Entry) → ◌≡◌ {A = Option (Names × Option Entry)} (cond (holds_folder is_dir x) None (Some (p, x))) None → refusal is_dir (Some x) ≡ None =
    elim [
      | None ↦ λ g. absurd (cc)
      | Some x ↦ elim (is_dir x) as (λ b. ◌≡◌ {A = Option (Names × Option Entry)} (cond b None (Some (p, Some x))) None → ◌≡◌ {A = Option TreeError} (cond b None (Some NotDir)) None) [ true ↦ λ _. refl | false ↦ λ g. absurd (cc) ]
    ] in
    from (map.get tree p) h

-- where no parent is missing, a tree takes an entry
pub allowed : (tree : ByPath Entry) (path : Names) → missing_parent tree path ≡ None → refusal is_dir (at_parent tree path) ≡ None
allowed tree path h = allowed_at tree (parent_of path) h

set_shut : (tree : ByPath Entry) (path : Names) (x : Entry) → IsShut tree → missing_parent tree path ≡ None → IsShut (set_at is_dir tree path x)
set_shut tree path x closed h = closed_set is_dir tree path x closed (allowed tree path h)

without_shut : (tree : ByPath Entry) (path : Names) → IsShut tree → IsShut (without_under tree path)
without_shut tree path closed = closed_retain is_dir tree closed (λ q. not (is_under q path)) (λ q n h. not_under_up path q n h)

exec_shut : (tree : ByPath Entry) (path : Names) (on : Bool) → IsShut tree → (o : Option Entry) → map.get tree path ≡ o → IsShut (option_map_or (λ found. set_at is_dir tree path (with_bit on found)) o tree)
exec_shut tree path on closed None at = closed
exec_shut tree path on closed (Some found) at = closed_set is_dir tree path (with_bit on found) closed (stands_allowed is_dir tree path closed (ap (λ (o : Option Entry). is_some o) at))

-- what a log keeps of an answer tells as much
pub done_spanned : (offset : ℕ) (answer : Answer (List ℕ)) → is_done (spanned offset answer) ≡ is_done answer
done_spanned offset (Listed rows) = refl
done_spanned offset (Held found) = refl
done_spanned offset (Piece bytes last) = refl
done_spanned offset (Changed found) = refl
done_spanned offset (TooLarge bytes) = refl
done_spanned offset Cleared = refl
done_spanned offset Opened = refl
done_spanned offset Kept = refl
done_spanned offset NotStaged = refl
done_spanned offset (DigestDiffers wanted got) = refl
done_spanned offset (Done stamp) = refl
done_spanned offset (NoParent found) = refl
done_spanned offset (Differs found) = refl
done_spanned offset NoLink = refl
done_spanned offset NoExec = refl
done_spanned offset NotEmpty = refl
done_spanned offset (Full room) = refl
done_spanned offset Failed = refl

pub done_legal : (s : RootState) (id : ℕ) (op : Op) (answer : Answer Span) → (answer ≡ Failed) ⊎ (answer ≡ logged op (answer_of s id op)) → is_done answer ≡ true → is_done (answer_of s id op) ≡ true
done_legal s id op answer (inl e) h = absurd (let n : true ≡ false = sym h ∙ ap is_done e in cc)
done_legal s id op answer (inr e) h = sym (done_spanned (offset_of op) (answer_of s id op)) ∙ sym (ap is_done e) ∙ h

pub in_folder_done : (tree : ByPath Entry) (path : Names) (answer : Answer (List ℕ)) → is_done (in_folder tree path answer) ≡ true → missing_parent tree path ≡ None
in_folder_done tree path answer h =
    elim (missing_parent tree path) as (λ m. is_done (option_map_or (λ missing. NoParent missing.1) m answer) ≡ true → m ≡ None) [ None ↦ λ _. refl | Some m ↦ λ g. absurd (cc) ] h

module _ (s : RootState) (id : ℕ) (closed : IsShut s.tree) where
  done_shut : (op : Op) → is_done (answer_of s id op) ≡ true → IsShut (done s id op).tree
  done_shut (OpList path) h = closed
  done_shut (Fetch path stamp offset) h = closed
  done_shut StageClear h = closed
  done_shut StageOpen h = closed
  done_shut (StageAppend bytes) h = closed
  done_shut (StageKeep digest) h = closed
  done_shut (Place path digest exec expected) h =
      set_shut s.tree path (FileEntry (next_stamp s) exec) closed
      (in_folder_done s.tree path (where_expected s.tree path expected (cond (is_some (kept_by s id digest)) (Done (Some (next_stamp s))) NotStaged)) h)
  done_shut (MakeDir path) h = set_shut s.tree path DirEntry closed (in_folder_done s.tree path (where_expected s.tree path None (Done None)) h)
  done_shut (MakeLink path text expected) h = set_shut s.tree path (LinkEntry text) closed (in_folder_done s.tree path (where_expected s.tree path expected (Done None)) h)
  done_shut (Remove path expected) h = without_shut s.tree path closed
  done_shut (SetExec path expected on) h = exec_shut s.tree path on closed (map.get s.tree path) refl

  after_shut : (op : Op) (answer : Answer Span) → (answer ≡ Failed) ⊎ (answer ≡ logged op (answer_of s id op)) → IsShut (after s id op answer).tree
  after_shut op answer l =
      let dropped = with_staged s id (drop_file (staged_by s id)) in
      elim (is_done answer) as (λ b. is_done answer ≡ b → IsShut (cond b (done s id op) (cond (is_dropped answer) dropped s)).tree) [
        | true ↦ λ e. done_shut op (done_legal s id op answer l e)
        | false ↦ λ e. elim (is_dropped answer) as (λ b. IsShut (cond b dropped s).tree) [ true ↦ closed | false ↦ closed ]
      ] refl

first_none : (a b : Option (Names × Option Entry)) → first_of a b ≡ None → a ≡ None
first_none None b h = refl
first_none (Some x) b h = absurd (cc)

edited_shut : (s : RootState) (edit : Edit) → IsShut s.tree → refused_at s.tree edit ≡ None → IsShut (edited s edit).tree
edited_shut s (Put path bytes) closed h = set_shut s.tree path (FileEntry (next_stamp s) false) closed (first_none (missing_parent s.tree path) _ h)
edited_shut s (Link path text) closed h = set_shut s.tree path (LinkEntry text) closed (first_none (missing_parent s.tree path) _ h)
edited_shut s (Dir path) closed h = set_shut s.tree path DirEntry closed (first_none (missing_parent s.tree path) _ h)
edited_shut s (Other path) closed h = set_shut s.tree path OtherEntry closed (first_none (missing_parent s.tree path) _ h)
edited_shut s (SetExec path on) closed h = exec_shut s.tree path on closed (map.get s.tree path) refl
edited_shut s (Del path) closed h = without_shut s.tree path closed

deed_shut : (s : RootState) (who : Who) (deed : Deed) (answer : Answer Span) → IsLegalDeed s who deed answer → IsShut s.tree → IsShut (after_deed s who deed answer).tree
deed_shut s (Session id run cycle) (Asked op) answer l closed = after_shut s id closed op answer l.row
deed_shut s Editor (Asked op) answer l closed = absurd l
deed_shut s Editor (Edited edit) answer l closed = edited_shut s edit closed l.allowed
deed_shut s (Session id run cycle) (Edited edit) answer l closed = absurd l

pub event_shut : (s : RootState) (e : Event) → IsLegalEvent s e → IsShut s.tree → IsShut (after_event s e).tree
event_shut s e l closed = deed_shut s e.who e.deed e.answer l closed

root_apart : (path : Names) (name : List ℕ) → eq_by_cmp path_cmp (path ++ name ∷ []) [] ≡ true → path ++ name ∷ [] ≡ []
root_apart path name h = tie_is (path ++ name ∷ []) [] h

not_empty : (path : Names) (name : List ℕ) → path ++ name ∷ [] ≡ [] → ⊥
not_empty [] name h = cc
not_empty (x ∷ path) name h = cc

pub new_shut : IsShut new_root.tree
new_shut path name h =
    let child : Names = path ++ name ∷ [] in
    elim (eq_by_cmp path_cmp child []) as (λ b. eq_by_cmp path_cmp child [] ≡ b → is_some (cond b (Some DirEntry) (map.get (map.empty {X = Entry} {R = path_cmp}) child)) ≡ true → holds_folder is_dir (map.get new_root.tree path) ≡ true) [
      | true ↦ λ e g. absurd (not_empty path name (root_apart path name e))
      | false ↦ λ e g. absurd (let n : false ≡ true = ap (λ (o : Option Entry). is_some o) (sym (map.get-empty path_cmp child)) ∙ g in cc)
    ] refl (ap (λ (o : Option Entry). is_some o) (sym (map.get-insert path_cmp_total map.empty [] DirEntry child)) ∙ h)
