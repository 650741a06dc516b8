-- A changing operation that is done changes its path alone.
use Rattle.std.proofs.Common.{◌≡◌, ◌≢◌, ℕ, Bool, true, false, cond, not, ◌||◌, ◌&&◌, List, [], refl, sym, ap, subst, ◌∙◌, Option, Some, None}
use Rattle.std.specs.FinMap as map
use Rattle.std.specs.Prelude.{is_some, unwrap_or}
use Rattle.std.specs.Option.{option_map_or}
use Rattle.std.specs.Ordering.{eq_by_cmp, is_eq}
use Rattle.std.specs.Cmp.{tied_itself}
use Rattle.std.proofs.Math.Seq.{get_or-append_seam}
use Rattle.sha2.specs.Sha256.{sha256}
use Rattle.sync_path.specs.Path.{path_cmp, is_under, is_below}
use Rattle.sync_path.specs.PathOrder.{path_cmp_total}
use Rattle.entry_tree.specs.Entry.{is_dir}
use Rattle.entry_tree.specs.Tree.{Names, ByPath, holds_folder, has_below, set_at, without_under}
use Rattle.entry_tree.specs.declared.atom.Atom.TheVariants as atom
use Rattle.entry_tree.specs.declared.entry.Entry.{Entry}
use Rattle.entry_tree.specs.declared.entry.Entry.TheVariants.{Dir as DirEntry, File as FileEntry, Link as LinkEntry, Other as OtherEntry}
use Rattle.entry_tree.proofs.Paths.{under_itself}
use Rattle.entry_tree.proofs.Trees.{get-set, get-retain, tie_is}
use Rattle.roots_api.specs.Answers.{is_done, is_dropped}
use Rattle.roots_api.specs.Asked.{IsAsked, IsReplaced}
use Rattle.root_laws.specs.Changing.{changes_at, leaves_there, found_there, ChangesOne}
use Rattle.roots_api.specs.Expected.{is_file}
use Rattle.roots_api.specs.Logs.{IsLegal, IsLegalCall, state_of}
use Rattle.roots_api.specs.States.{RootState, new_root, staged_by, kept_by, next_stamp, is_expected, missing_parent, with_staged, with_bit}
use Rattle.roots_api.specs.Steps.{done, after, answer_of, drop_file, in_folder, where_expected}
use Rattle.roots_api.specs.Views.{atom_of}
use Rattle.roots_api.specs.declared.answer.Answer.{Answer}
use Rattle.roots_api.specs.declared.answer.Answer.TheVariants.{Done, NoParent, Differs, NotStaged, NotEmpty}
use Rattle.roots_api.specs.declared.event.Event.{Event}
use Rattle.roots_api.specs.declared.event.Span.{Span}
use Rattle.roots_api.specs.declared.op.Op.{Op}
use Rattle.roots_api.specs.declared.op.Op.TheVariants.{List as OpList, Fetch, StageClear, StageOpen, StageAppend, StageKeep, Place, MakeDir, MakeLink, Remove, SetExec}
use Rattle.root_laws.proofs.Below.{none_below, none_where_empty, under_is_below}
use Rattle.roots_api.proofs.Expecting.{expected_is}
use Rattle.roots_api.proofs.Folds.{while_legal}
use Rattle.roots_api.proofs.Stagings.{AllAreTrue, deed_true, new_true}
use Rattle.roots_api.proofs.TreesKept.{IsShut, done_legal, event_shut, new_shut}

-- what a test that is done had found, and what was answered behind it
where_was : (tree : ByPath Entry) (path : Names) (expected : Option Entry) (answer : Answer (List ℕ)) → is_done (where_expected tree path expected answer) ≡ true
    → (map.get tree path ≡ expected) × (is_done answer ≡ true)
where_was tree path expected answer h =
    elim (is_expected (map.get tree path) expected) as (λ b. is_expected (map.get tree path) expected ≡ b → is_done (cond b answer (Differs (map.get tree path))) ≡ true → (map.get tree path ≡ expected) × (is_done answer ≡ true)) [
      | true ↦ λ e g. (expected_is (map.get tree path) expected e, g)
      | false ↦ λ e g. absurd (cc)
    ] refl h

folder_was : (tree : ByPath Entry) (path : Names) (answer : Answer (List ℕ)) → is_done (in_folder tree path answer) ≡ true → is_done answer ≡ true
folder_was tree path answer h =
    elim (missing_parent tree path) as (λ m. is_done (option_map_or (λ missing. NoParent missing.1) m answer) ≡ true → is_done answer ≡ true) [ None ↦ λ g. g | Some m ↦ λ g. absurd (cc) ] h

-- what is replaced is no folder
replaced_leaf : (expected : Option Entry) → IsReplaced expected → holds_folder is_dir expected ≡ false
replaced_leaf None h = refl
replaced_leaf (Some DirEntry) h = absurd (let n = h.0 in cc)
replaced_leaf (Some (FileEntry stamp exec)) h = refl
replaced_leaf (Some (LinkEntry text)) h = refl
replaced_leaf (Some OtherEntry) h = refl

itself : (path : Names) → eq_by_cmp path_cmp path path ≡ true
itself path = ap is_eq (tied_itself path_cmp_total path)

apart_eq : (q path : Names) → q ≢ path → eq_by_cmp path_cmp q path ≡ false
apart_eq q path apart =
    elim (eq_by_cmp path_cmp q path) as (λ b. eq_by_cmp path_cmp q path ≡ b → b ≡ false) [ true ↦ λ e. absurd (apart (tie_is q path e)) | false ↦ λ _. refl ] refl

nothing : (o : Option Entry) → is_some o ≡ false → None ≡ o
nothing None h = refl
nothing (Some x) h = absurd (cc)

module _ (tree : ByPath Entry) (path : Names) where
  set_there : (x : Entry) → map.get (set_at is_dir tree path x) path ≡ Some x
  set_there x = get-set is_dir tree path x path ∙ ap (λ b. cond b (Some x) (cond (is_dir x || not (is_below path path)) (map.get tree path) None)) (itself path)

  -- where no folder was, what is set leaves all else
  set_others : (x : Entry) → IsShut tree → holds_folder is_dir (map.get tree path) ≡ false → (q : Names) → q ≢ path → map.get (set_at is_dir tree path x) q ≡ map.get tree q
  set_others x closed no_folder q apart =
      get-set is_dir tree path x q
      ∙ ap (λ b. cond b (Some x) (cond (is_dir x || not (is_below q path)) (map.get tree q) None)) (apart_eq q path apart)
      ∙ (elim (is_dir x) as (λ b. cond (b || not (is_below q path)) (map.get tree q) None ≡ map.get tree q) [
        | true ↦ refl
        | false ↦ elim (is_below q path) as (λ b. is_below q path ≡ b → cond (not b) (map.get tree q) None ≡ map.get tree q) [
          | true ↦ λ below. nothing (map.get tree q) (none_below is_dir tree closed path no_folder q below)
          | false ↦ λ _. refl
        ] refl
      ])

  gone_there : map.get (without_under tree path) path ≡ None
  gone_there = get-retain is_dir tree (λ r. not (is_under r path)) path ∙ ap (λ b. cond (not b) (map.get tree path) None) (under_itself path)

  -- where nothing stands below, what is taken away leaves all else
  gone_others : ((q : Names) → is_below q path ≡ true → is_some (map.get tree q) ≡ false) → (q : Names) → q ≢ path → map.get (without_under tree path) q ≡ map.get tree q
  gone_others empty q apart =
      get-retain is_dir tree (λ r. not (is_under r path)) q
      ∙ (elim (is_under q path) as (λ b. is_under q path ≡ b → cond (not b) (map.get tree q) None ≡ map.get tree q) [
        | true ↦ λ under. nothing (map.get tree q) (empty q (under_is_below q path under apart))
        | false ↦ λ _. refl
      ] refl)

  -- nothing stands below what is taken away: it is no folder, or one without names
  removed_empty : (expected : Entry) → IsShut tree → map.get tree path ≡ Some expected → is_done {B = List ℕ} (cond (is_dir expected && has_below tree path) NotEmpty (Done None)) ≡ true
      → (q : Names) → is_below q path ≡ true → is_some (map.get tree q) ≡ false
  removed_empty expected closed at h q below =
      elim (is_dir expected) as (λ b. is_dir expected ≡ b → is_done {B = List ℕ} (cond (b && has_below tree path) NotEmpty (Done None)) ≡ true → is_some (map.get tree q) ≡ false) [
        | true ↦ λ _. elim (has_below tree path) as (λ c. has_below tree path ≡ c → is_done {B = List ℕ} (cond c NotEmpty (Done None)) ≡ true → is_some (map.get tree q) ≡ false) [
          | true ↦ λ _ g. absurd (cc)
          | false ↦ λ empty _. none_where_empty tree path q empty below
        ] refl
        | false ↦ λ leaf _. none_below is_dir tree closed path (ap (λ (o : Option Entry). holds_folder is_dir o) at ∙ leaf) q below
      ] refl h

file_stays : (on : Bool) (e : Entry) → is_file e ≡ true → is_dir (with_bit on e) ≡ is_dir e
file_stays on DirEntry h = refl
file_stays on (FileEntry stamp exec) h = refl
file_stays on (LinkEntry text) h = refl
file_stays on OtherEntry h = refl

file_leaf : (e : Entry) → is_file e ≡ true → is_dir e ≡ false
file_leaf DirEntry h = absurd (cc)
file_leaf (FileEntry stamp exec) h = refl
file_leaf (LinkEntry text) h = refl
file_leaf OtherEntry h = refl

none_leaf : (o : Option Entry) → o ≡ None → holds_folder is_dir o ≡ false
none_leaf o e = ap (λ (x : Option Entry). holds_folder is_dir x) e

same_path : (a b : Names) → ◌≡◌ {A = Option Names} (Some a) (Some b) → a ≡ b
same_path a b h = ap (λ (o : Option Names). unwrap_or o a) h

module _ (s : RootState) (id : ℕ) (closed : IsShut s.tree) where
  -- at the operation's own path
  one_path : (op : Op) → IsAsked op → is_done (answer_of s id op) ≡ true → (path : Names) → changes_at op ≡ Some path
      → ChangesOne path (found_there op) (leaves_there s op) s (done s id op)
  one_path (OpList p) can d path at = absurd (cc)
  one_path (Fetch p stamp offset) can d path at = absurd (cc)
  one_path StageClear can d path at = absurd (cc)
  one_path StageOpen can d path at = absurd (cc)
  one_path (StageAppend bytes) can d path at = absurd (cc)
  one_path (StageKeep digest) can d path at = absurd (cc)
  one_path (Place p digest exec expected) can d path at =
      let placed : Answer (List ℕ) = cond (is_some (kept_by s id digest)) (Done (Some (next_stamp s))) NotStaged in
      let was = (where_was s.tree p expected placed (folder_was s.tree p (where_expected s.tree p expected placed) d)).0 in
      let leaf = ap (λ (o : Option Entry). holds_folder is_dir o) was ∙ replaced_leaf expected can.2 in
      subst (λ (q : Names). ChangesOne q expected (Some (FileEntry (next_stamp s) exec)) s (done s id (Place p digest exec expected))) (same_path p path at)
      (record { before = was; behind = set_there s.tree p (FileEntry (next_stamp s) exec); others = set_others s.tree p (FileEntry (next_stamp s) exec) closed leaf })
  one_path (MakeDir p) can d path at =
      let was = (where_was s.tree p None (Done None) (folder_was s.tree p (where_expected s.tree p None (Done None)) d)).0 in
      subst (λ (q : Names). ChangesOne q None (Some DirEntry) s (done s id (MakeDir p))) (same_path p path at)
      (record { before = was; behind = set_there s.tree p DirEntry; others = set_others s.tree p DirEntry closed (none_leaf (map.get s.tree p) was) })
  one_path (MakeLink p text expected) can d path at =
      let was = (where_was s.tree p expected (Done None) (folder_was s.tree p (where_expected s.tree p expected (Done None)) d)).0 in
      let leaf = ap (λ (o : Option Entry). holds_folder is_dir o) was ∙ replaced_leaf expected can.2 in
      subst (λ (q : Names). ChangesOne q expected (Some (LinkEntry text)) s (done s id (MakeLink p text expected))) (same_path p path at)
      (record { before = was; behind = set_there s.tree p (LinkEntry text); others = set_others s.tree p (LinkEntry text) closed leaf })
  one_path (Remove p expected) can d path at =
      let removed : Answer (List ℕ) = cond (is_dir expected && has_below s.tree p) NotEmpty (Done None) in
      let was = where_was s.tree p (Some expected) removed d in
      subst (λ (q : Names). ChangesOne q (Some expected) None s (done s id (Remove p expected))) (same_path p path at)
      (record { before = was.0; behind = gone_there s.tree p; others = gone_others s.tree p (removed_empty s.tree p expected closed was.0 was.1) })
  one_path (SetExec p expected on) can d path at =
      let was = (where_was s.tree p (Some expected) (Done None) d).0 in
      let leaf : holds_folder is_dir (map.get s.tree p) ≡ false = ap (λ (o : Option Entry). holds_folder is_dir o) was ∙ file_leaf expected can.1 in
      let tree_is : (done s id (SetExec p expected on)).tree ≡ set_at is_dir s.tree p (with_bit on expected) =
      ap (λ (o : Option Entry). option_map_or (λ found. set_at is_dir s.tree p (with_bit on found)) o s.tree) was in
      subst (λ (q : Names). ChangesOne q (Some expected) (Some (with_bit on expected)) s (done s id (SetExec p expected on))) (same_path p path at)
      (record {
        before = was;
        behind = ap (λ (t : ByPath Entry). map.get t p) tree_is ∙ set_there s.tree p (with_bit on expected);
        others = λ q apart. ap (λ (t : ByPath Entry). map.get t q) tree_is ∙ set_others s.tree p (with_bit on expected) closed leaf q apart;
      })

  after_done : {B : Type 0} (op : Op) (answer : Answer B) → is_done answer ≡ true → done s id op ≡ after s id op answer
  after_done op answer d = sym (ap (λ b. cond b (done s id op) (cond (is_dropped answer) (with_staged s id (drop_file (staged_by s id))) s)) d)

closed_of : (log : List Event) → IsLegal log → IsShut (state_of log).tree
closed_of log legal = while_legal (λ s. IsShut s.tree) event_shut new_root log legal new_shut

pub changes_one : (log : List Event) → IsLegal log → (id : ℕ) (op : Op) (answer : Answer Span) → IsLegalCall (state_of log) id op answer → is_done answer ≡ true
    → (path : Names) → changes_at op ≡ Some path → ChangesOne path (found_there op) (leaves_there (state_of log) op) (state_of log) (after (state_of log) id op answer)
changes_one log legal id op answer call d path at =
    subst (ChangesOne path (found_there op) (leaves_there (state_of log) op) (state_of log)) (after_done (state_of log) id (closed_of log legal) op answer d)
    (one_path (state_of log) id (closed_of log legal) op call.asked (done_legal (state_of log) id op answer call.row d) path at)

kept_bytes : (o : Option (List ℕ)) (digest : List ℕ) → is_some o ≡ true → ((bytes : List ℕ) → o ≡ Some bytes → sha256 bytes ≡ digest) → sha256 (unwrap_or o []) ≡ digest
kept_bytes None digest h f = absurd (cc)
kept_bytes (Some bytes) digest h f = f bytes refl

kept_done : (b : Bool) (stamp : Option Rattle.entry_tree.specs.declared.entry.Stamp.Stamp) → is_done {B = List ℕ} (cond b (Done stamp) NotStaged) ≡ true → b ≡ true
kept_done true stamp h = refl
kept_done false stamp h = absurd (cc)

pub places_digest : (log : List Event) → IsLegal log → (id : ℕ) (path : Names) (digest : List ℕ) (exec : Bool) (expected : Option Entry) (answer : Answer Span)
    → IsLegalCall (state_of log) id (Place path digest exec expected) answer → is_done answer ≡ true
    → atom_of (after (state_of log) id (Place path digest exec expected) answer).ledger (FileEntry (next_stamp (state_of log)) exec) ≡ atom.File digest exec
places_digest log legal id path digest exec expected answer call d =
    let s = state_of log in
    let op = Place path digest exec expected in
    let placed : Answer (List ℕ) = cond (is_some (kept_by s id digest)) (Done (Some (next_stamp s))) NotStaged in
    let row = done_legal s id op answer call.row d in
    let kept = kept_done (is_some (kept_by s id digest)) (Some (next_stamp s)) (where_was s.tree path expected placed (folder_was s.tree path (where_expected s.tree path expected placed) row)).1 in
    let all = while_legal (λ t. AllAreTrue t.staging) (λ t e l a. deed_true t e.who e.deed e.answer l a) new_root log legal new_true in
    let bytes = unwrap_or (kept_by s id digest) [] in
    ap (λ (t : RootState). atom_of t.ledger (FileEntry (next_stamp s) exec)) (sym (after_done s id (closed_of log legal) op answer d))
    ∙ ap (λ (b : List ℕ). atom.File (sha256 b) exec) (get_or-append_seam s.ledger bytes [] [])
    ∙ ap (λ (h : List ℕ). atom.File h exec) (kept_bytes (kept_by s id digest) digest kept (all id digest))
