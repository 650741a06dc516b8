-- What is so where an operation is done.
use Rattle.std.proofs.Common.{◌≡◌, ℕ, Bool, true, false, cond, ◌&&◌, List, refl, sym, ap, Option, Some, None}
use Rattle.std.specs.FinMap as map
use Rattle.std.specs.Prelude.{is_some, ◌==◌}
use Rattle.std.specs.Option.{option_map_or}
use Rattle.std.proofs.lemmas.Bool.{eqb-true}
use Rattle.entry_tree.specs.Atom.{same_bit}
use Rattle.entry_tree.specs.Entry.{is_dir}
use Rattle.entry_tree.specs.Tree.{Names, ByPath, has_below}
use Rattle.entry_tree.specs.declared.entry.Entry.{Entry}
use Rattle.entry_tree.specs.declared.entry.Entry.TheVariants.{Dir, File, Link, Other}
use Rattle.entry_tree.specs.declared.entry.Stamp.{Stamp}
use Rattle.entry_tree.proofs.Paths.{name_is, both_true}
use Rattle.roots_api.specs.Answers.{is_done, is_dropped}
use Rattle.roots_api.specs.Laws.{MayPlace, MayMake, MayRemove}
use Rattle.roots_api.specs.States.{RootState, staged_by, kept_by, content_of, next_stamp, same_entry, is_expected, missing_parent}
use Rattle.roots_api.specs.Steps.{answer_of, is_changing, after, in_folder, where_expected, keep_answer}
use Rattle.roots_api.specs.declared.answer.Answer.{Answer}
use Rattle.roots_api.specs.declared.answer.Answer.TheVariants.{Done, Differs, NoParent, NotStaged, NotEmpty}
use Rattle.roots_api.specs.declared.op.Op.{Op}
use Rattle.roots_api.specs.declared.op.Op.TheVariants.{List as OpList, Fetch, StageClear, StageOpen, StageAppend, StageKeep, Place, MakeDir, MakeLink, Remove, SetExec}

bit_is : (x y : Bool) → same_bit x y ≡ true → x ≡ y
bit_is true true h = refl
bit_is false false h = refl
bit_is true false h = absurd (cc)
bit_is false true h = absurd (cc)

same_is : (a b : Entry) → same_entry a b ≡ true → a ≡ b
same_is Dir Dir h = refl
same_is (File a x) (File b y) h =
    let both = both_true (a.0 == b.0) (same_bit x y) h in
    λ i. File (record { 0 = eqb-true a.0 b.0 both.0 i }) (bit_is x y both.1 i)
same_is (Link a) (Link b) h = ap Link (name_is a b h)
same_is Other Other h = refl
same_is a b h = absurd (cc)

pub expected_is : (found expected : Option Entry) → is_expected found expected ≡ true → found ≡ expected
expected_is None None h = refl
expected_is (Some a) (Some b) h = ap Some (same_is a b h)
expected_is None (Some b) h = absurd (cc)
expected_is (Some a) None h = absurd (cc)

module _ (tree : ByPath Entry) (path : Names) (stamp : Option Stamp) where
  where_done : (expected : Option Entry) (answer : Answer (List ℕ)) → where_expected tree path expected answer ≡ Done stamp
      → (map.get tree path ≡ expected) × (answer ≡ Done stamp)
  where_done expected answer h =
      elim (is_expected (map.get tree path) expected) as (λ b. is_expected (map.get tree path) expected ≡ b → cond b answer (Differs (map.get tree path)) ≡ Done stamp → (map.get tree path ≡ expected) × (answer ≡ Done stamp)) [
        | true ↦ λ e g. (expected_is (map.get tree path) expected e, g)
        | false ↦ λ e g. absurd (cc)
      ] refl h

  folder_done : (answer : Answer (List ℕ)) → in_folder tree path answer ≡ Done stamp → (missing_parent tree path ≡ None) × (answer ≡ Done stamp)
  folder_done answer h =
      elim (missing_parent tree path) as (λ m. missing_parent tree path ≡ m → option_map_or (λ missing. NoParent missing.1) m answer ≡ Done stamp → (missing_parent tree path ≡ None) × (answer ≡ Done stamp)) [
        | None ↦ λ e g. (e, g)
        | Some m ↦ λ e g. absurd (cc)
      ] refl h

pub may_make : (s : RootState) (path : Names) (expected : Option Entry) (stamp : Option Stamp)
    → in_folder s.tree path (where_expected s.tree path expected (Done None)) ≡ Done stamp → MayMake s path expected
may_make s path expected stamp h =
    let folder = folder_done s.tree path stamp (where_expected s.tree path expected (Done None)) h in
    record { parent = folder.0; there = (where_done s.tree path stamp expected (Done None) folder.1).0 }

done_stamp : {B : Type 0} → Answer B → Option Stamp
done_stamp (Done stamp) = stamp
done_stamp answer = None

pub may_place : (s : RootState) (id : ℕ) (path : Names) (digest : List ℕ) (exec : Bool) (expected : Option Entry) (stamp : Option Stamp)
    → answer_of s id (Place path digest exec expected) ≡ Done stamp → MayPlace s id path digest expected × (stamp ≡ Some (next_stamp s))
unfolding done_stamp
may_place s id path digest exec expected stamp h =
    let kept = is_some (kept_by s id digest) in
    let answer : Answer (List ℕ) = cond kept (Done (Some (next_stamp s))) NotStaged in
    let folder = folder_done s.tree path stamp (where_expected s.tree path expected answer) h in
    let there = where_done s.tree path stamp expected answer folder.1 in
    let both : (kept ≡ true) × (stamp ≡ Some (next_stamp s)) =
    elim kept as (λ b. is_some (kept_by s id digest) ≡ b → ◌≡◌ {A = Answer (List ℕ)} (cond b (Done (Some (next_stamp s))) NotStaged) (Done stamp) → (is_some (kept_by s id digest) ≡ true) × (stamp ≡ Some (next_stamp s))) [
      | true ↦ λ e g. (e, sym (ap done_stamp g))
      | false ↦ λ e g. absurd (cc)
    ] refl there.1 in
    (record { parent = folder.0; there = there.0; kept = both.0 }, both.1)

empty_done : (dir below : Bool) (stamp : Option Stamp) → ◌≡◌ {A = Answer (List ℕ)} (cond (dir && below) NotEmpty (Done None)) (Done stamp) → dir ≡ true → below ≡ false
empty_done true true stamp h e = absurd (cc)
empty_done true false stamp h e = refl
empty_done false below stamp h e = absurd (cc)

pub may_remove : (s : RootState) (id : ℕ) (path : Names) (expected : Entry) (stamp : Option Stamp)
    → answer_of s id (Remove path expected) ≡ Done stamp → MayRemove s path expected
may_remove s id path expected stamp h =
    let there = where_done s.tree path stamp (Some expected) (cond (is_dir expected && has_below s.tree path) NotEmpty (Done None)) h in
    record { there = there.0; empty = empty_done (is_dir expected) (has_below s.tree path) stamp there.1 }

pub may_set_exec : (s : RootState) (id : ℕ) (path : Names) (expected : Entry) (on : Bool) (stamp : Option Stamp)
    → answer_of s id (SetExec path expected on) ≡ Done stamp → map.get s.tree path ≡ Some expected
may_set_exec s id path expected on stamp h = (where_done s.tree path stamp (Some expected) (Done None) h).0

-- an answer that isn't done leaves tree and ledger
pub undone : (s : RootState) (id : ℕ) (op : Op) (answer : Answer (List ℕ)) → is_done answer ≡ false
    → ((after s id op answer).tree ≡ s.tree) × ((after s id op answer).ledger ≡ s.ledger)
undone s id op answer h =
    let staged = Rattle.roots_api.specs.States.with_staged s id (Rattle.roots_api.specs.Steps.drop_file (staged_by s id)) in
    let P : RootState → Type 0 = λ n. (n.tree ≡ s.tree) × (n.ledger ≡ s.ledger) in
    elim (is_done answer) as (λ b. b ≡ false → P (cond b (Rattle.roots_api.specs.Steps.done s id op) (cond (is_dropped answer) staged s))) [
      | true ↦ λ e. absurd (cc)
      | false ↦ λ e. elim (is_dropped answer) as (λ d. P (cond d staged s)) [ true ↦ (refl, refl) | false ↦ (refl, refl) ]
    ] h

-- an operation that leaves tree and ledger where it is done leaves them whatever it answers
leaves : (s : RootState) (id : ℕ) (op : Op) (answer : Answer (List ℕ)) → (Rattle.roots_api.specs.Steps.done s id op).tree ≡ s.tree → (Rattle.roots_api.specs.Steps.done s id op).ledger ≡ s.ledger
    → ((after s id op answer).tree ≡ s.tree) × ((after s id op answer).ledger ≡ s.ledger)
leaves s id op answer tree ledger =
    let staged = Rattle.roots_api.specs.States.with_staged s id (Rattle.roots_api.specs.Steps.drop_file (staged_by s id)) in
    let P : RootState → Type 0 = λ n. (n.tree ≡ s.tree) × (n.ledger ≡ s.ledger) in
    elim (is_done answer) as (λ b. P (cond b (Rattle.roots_api.specs.Steps.done s id op) (cond (is_dropped answer) staged s))) [
      | true ↦ (tree, ledger)
      | false ↦ elim (is_dropped answer) as (λ d. P (cond d staged s)) [ true ↦ (refl, refl) | false ↦ (refl, refl) ]
    ]

-- so do all but the five that change a tree
pub others_leave : (s : RootState) (id : ℕ) (op : Op) (answer : Answer (List ℕ)) → is_changing op ≡ false
    → ((after s id op answer).tree ≡ s.tree) × ((after s id op answer).ledger ≡ s.ledger)
others_leave s id (OpList path) answer h = leaves s id (OpList path) answer refl refl
others_leave s id (Fetch path stamp offset) answer h = leaves s id (Fetch path stamp offset) answer refl refl
others_leave s id StageClear answer h = leaves s id StageClear answer refl refl
others_leave s id StageOpen answer h = leaves s id StageOpen answer refl refl
others_leave s id (StageAppend bytes) answer h = leaves s id (StageAppend bytes) answer refl refl
others_leave s id (StageKeep digest) answer h = leaves s id (StageKeep digest) answer refl refl
others_leave s id (Place path digest exec expected) answer h = absurd (cc)
others_leave s id (MakeDir path) answer h = absurd (cc)
others_leave s id (MakeLink path text expected) answer h = absurd (cc)
others_leave s id (Remove path expected) answer h = absurd (cc)
others_leave s id (SetExec path expected on) answer h = absurd (cc)
