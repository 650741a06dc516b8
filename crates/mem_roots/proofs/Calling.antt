-- What the answer of a root in memory makes of its log and its counts.
use Rattle.std.proofs.Common.{◌≡◌, ◌⊎◌, inl, inr, ℕ, ◌+◌, ◌-◌, ◌^◌, ◌≤◌, Bool, true, false, cond, ◌&&◌, List, [], ◌∷◌, ◌++◌, refl, sym, ap, subst, ◌∙◌, Option, Some, None, Result, Ok, Err, MatchBool, min, nat_lt, arith, bytes_eq}
use Rattle.std.specs.Prelude.{IfOk, OnErr, IsTrue, IsFalse, length, is_some}
use Rattle.std.specs.FinMap as map
use Rattle.std.specs.Option.{option_map_or}
use Rattle.std.specs.declared.alloc.AllocError.{AllocError}
use Rattle.std.proofs.lemmas.Bool.{ltb-true, ltb-false}
use Rattle.fault_count.specs.Rose.{Rose}
use Rattle.sha2.specs.Sha256.{sha256}
use Rattle.entry_tree.specs.Entry.{is_dir}
use Rattle.entry_tree.specs.Tree.{Names, ByPath, holds_folder, has_below}
use Rattle.entry_tree.specs.declared.entry.Entry.{Entry}
use Rattle.roots_api.specs.Answers.{is_full, is_failed, is_no_link, is_no_exec}
use Rattle.roots_api.specs.Logs.{state_of, failed_in, offset_of}
use Rattle.roots_api.specs.States.{RootState, staged_by, kept_by, content_of, is_expected, has_stamp, missing_parent}
use Rattle.roots_api.specs.Steps.{answer_of, keep_answer, in_folder, where_expected}
use Rattle.roots_api.specs.Told.{IsSession, CallsOn, AnswersOn, call_event, edit_event, edit_error, EditsBy, EditsOn}
use Rattle.roots_api.specs.declared.edit.Edit.{Edit}
use Rattle.roots_api.specs.declared.edit_error.EditError.{EditError}
use Rattle.roots_api.specs.declared.edit_error.EditError.TheVariants.{Memory}
use Rattle.roots_api.specs.declared.answer.Answer.{Answer}
use Rattle.roots_api.specs.declared.answer.Answer.TheVariants.{NoParent, Differs, NoLink, NoExec, Full, Failed}
use Rattle.roots_api.specs.declared.event.Event.{Event}
use Rattle.roots_api.specs.declared.limits.TheConstants.{MAX_FETCH}
use Rattle.roots_api.specs.declared.op.Op.{Op}
use Rattle.roots_api.specs.declared.op.Op.TheVariants.{List as OpList, Fetch, StageClear, StageOpen, StageAppend, StageKeep, Place, MakeDir, MakeLink, Remove, SetExec}
use Rattle.roots_api.specs.declared.who.Who.{Who}
use Rattle.roots_api.specs.declared.who.Who.TheVariants.{Editor, Session}
use Rattle.mem_roots.specs.MemRoot.{MemState, id_of, decided, has_no_room, is_to_fail, places_too_much, room_of, mem_answer, mem_after, with_event, with_full, Leads, Decides, Edits}
use Rattle.mem_roots.proofs.Recording.{alike, count-push}

-- whether an answer tells that the root keeps no links or no executable bits
lacks : Answer (List ℕ) → Bool
lacks NoLink = true
lacks NoExec = true
lacks answer = false

no_row : (b : Bool) (x y : Answer (List ℕ)) → lacks x ≡ false → lacks y ≡ false → lacks (cond b x y) ≡ false
no_row true x y h g = h
no_row false x y h g = g

in_folder_no : (tree : ByPath Entry) (path : Names) (answer : Answer (List ℕ)) → lacks answer ≡ false → lacks (in_folder tree path answer) ≡ false
unfolding lacks
in_folder_no tree path answer h =
    elim (missing_parent tree path) as (λ m. lacks (option_map_or (λ missing. NoParent missing.1) m answer) ≡ false) [ None ↦ h | Some m ↦ refl ]

where_no : (tree : ByPath Entry) (path : Names) (expected : Option Entry) (answer : Answer (List ℕ)) → lacks answer ≡ false → lacks (where_expected tree path expected answer) ≡ false
unfolding lacks
where_no tree path expected answer h = no_row (is_expected (map.get tree path) expected) answer (Differs (map.get tree path)) h refl

-- no row's answer tells so
row_lacks : (s : RootState) (id : ℕ) (op : Op) → lacks (answer_of s id op) ≡ false
unfolding lacks
row_lacks s id (OpList path) = no_row (holds_folder is_dir (map.get s.tree path)) _ _ refl refl
row_lacks s id (Fetch path stamp offset) =
    no_row (has_stamp (map.get s.tree path) stamp) _ _ (no_row (nat_lt MAX_FETCH (length (content_of s.ledger stamp))) _ _ refl refl) refl
row_lacks s id StageClear = refl
row_lacks s id StageOpen = refl
row_lacks s id (StageAppend bytes) = no_row (is_some (staged_by s id).begun) _ _ refl refl
row_lacks s id (StageKeep digest) =
    elim ((staged_by s id).begun) as (λ o. lacks (keep_answer digest o) ≡ false) [
      | None ↦ refl
      | Some bytes ↦ no_row (bytes_eq (sha256 bytes) digest) _ _ refl refl
    ]
row_lacks s id (Place path digest exec expected) = in_folder_no s.tree path _ (where_no s.tree path expected _ (no_row (is_some (kept_by s id digest)) _ _ refl refl))
row_lacks s id (MakeDir path) = in_folder_no s.tree path _ (where_no s.tree path None _ refl)
row_lacks s id (MakeLink path text expected) = in_folder_no s.tree path _ (where_no s.tree path expected _ refl)
row_lacks s id (Remove path expected) = where_no s.tree path (Some expected) _ (no_row (is_dir expected && has_below s.tree path) _ _ refl refl)
row_lacks s id (SetExec path expected on) = where_no s.tree path (Some expected) _ refl

decided_no : (m : MemState) (id : ℕ) (op : Op) (row : Answer (List ℕ)) → lacks row ≡ false → lacks (decided m id op row) ≡ false
unfolding lacks
decided_no m id op row h =
    no_row (has_no_room m.log op row) (Full (room_of m.log)) _ refl
    (no_row (is_to_fail m) Failed _ refl (no_row (places_too_much m.log id op row) (Full (room_of m.log)) row refl h))

no_link_of : (answer : Answer (List ℕ)) → lacks answer ≡ false → is_no_link answer ≡ true → ⊥
unfolding lacks
no_link_of NoLink h g = cc
no_link_of answer h g = cc

no_exec_of : (answer : Answer (List ℕ)) → lacks answer ≡ false → is_no_exec answer ≡ true → ⊥
unfolding lacks
no_exec_of NoExec h g = cc
no_exec_of answer h g = cc

-- an answer that isn't Full is Failed or the row's
pub decided_row : (m : MemState) (id : ℕ) (op : Op) (row answer : Answer (List ℕ)) → answer ≡ decided m id op row → is_full answer ≡ false → (answer ≡ Failed) ⊎ (answer ≡ row)
decided_row m id op row answer is full =
    elim (has_no_room m.log op row) as (λ b. answer ≡ cond b (Full (room_of m.log)) (cond (is_to_fail m) Failed (cond (places_too_much m.log id op row) (Full (room_of m.log)) row)) → (answer ≡ Failed) ⊎ (answer ≡ row)) [
      | true ↦ λ e. absurd (let f : true ≡ false = sym (ap is_full e) ∙ full in cc)
      | false ↦ elim (is_to_fail m) as (λ b. answer ≡ cond b Failed (cond (places_too_much m.log id op row) (Full (room_of m.log)) row) → (answer ≡ Failed) ⊎ (answer ≡ row)) [
        | true ↦ λ e. inl e
        | false ↦ elim (places_too_much m.log id op row) as (λ b. answer ≡ cond b (Full (room_of m.log)) row → (answer ≡ Failed) ⊎ (answer ≡ row)) [
          | true ↦ λ e. absurd (let f : true ≡ false = sym (ap is_full e) ∙ full in cc)
          | false ↦ λ e. inr e
        ]
      ]
    ] is

rose : (f : ℕ) → Rose f (min (f + 1) (2 ^ 64 - 1))
rose f =
    elim (nat_lt f (2 ^ 64 - 1)) as (λ b. nat_lt f (2 ^ 64 - 1) ≡ b → Rose f (min (f + 1) (2 ^ 64 - 1))) [
      | true ↦ λ e. inl (let l = ltb-true f (2 ^ 64 - 1) e in omega arith)
      | false ↦ λ e. inr (let l = ltb-false f (2 ^ 64 - 1) e in omega arith)
    ] refl

full_not_failed : (answer : Answer (List ℕ)) → is_full answer ≡ true → is_failed answer ≡ true → ⊥
full_not_failed (Full room) h g = cc
full_not_failed answer h g = cc

-- what a call is told of
pub record Called (who : Who) (op : Op) (r : Result (Answer (List ℕ)) AllocError) (old new : MemState) : Type 0 where
  pub log : CallsOn who op r old.log new.log
  pub counts : failed_in old.log ≤ failed_in new.log
  pub failed : IfOk r (λ answer. IsTrue (is_failed answer) → Rose (failed_in old.log) (failed_in new.log))
  pub full : IfOk r (λ answer. IsTrue (is_full answer) → IsTrue true × Rose old.full_answers new.full_answers)
  pub no_link : IfOk r (λ answer. IsTrue (is_no_link answer) → IsFalse true)
  pub no_exec : IfOk r (λ answer. IsTrue (is_no_exec answer) → IsFalse true)
  pub memory : OnErr r ((failed_in new.log ≡ failed_in old.log) × (new.full_answers ≡ old.full_answers))

answers_on : (m : MemState) (who : Who) (op : Op) (answer : Answer (List ℕ)) → IsSession who → answer ≡ mem_answer m who op → is_full answer ≡ false → AnswersOn (state_of m.log) who op answer
answers_on m Editor op answer session is full = session
answers_on m (Session id run cycle) op answer session is full = decided_row m id op (answer_of (state_of m.log) id op) answer is full

failed_grow : (m : MemState) (who : Who) (op : Op) (answer : Answer (List ℕ)) → failed_in (m.log ++ call_event who op answer ∷ []) ≡ failed_in m.log + cond (is_failed answer) 1 0
failed_grow m who op answer =
    count-push (λ (e : Event). is_failed e.answer) m.log (call_event who op answer)
    ∙ ap (λ b. failed_in m.log + cond b 1 0) (alike (offset_of op) answer).failed

answered : (m : MemState) (who : Who) (op : Op) (answer : Answer (List ℕ)) → IsSession who → answer ≡ mem_answer m who op → Called who op (Ok answer) m (mem_after m who op answer)
answered m who op answer session is =
    let row : lacks answer ≡ false = ap lacks is ∙ decided_no m (id_of who) op (answer_of (state_of m.log) (id_of who) op) (row_lacks (state_of m.log) (id_of who) op) in
    let link : IsTrue (is_no_link answer) → IsFalse true = λ h. absurd (no_link_of answer row h) in
    let exec : IsTrue (is_no_exec answer) → IsFalse true = λ h. absurd (no_exec_of answer row h) in
    elim (is_full answer) as (λ b. is_full answer ≡ b → Called who op (Ok answer) m (cond b (with_full m) (with_event m (call_event who op answer)))) [
      | true ↦ λ e. record {
        log = subst (λ b. MatchBool b (m.log ≡ m.log) (AnswersOn (state_of m.log) who op answer × (m.log ≡ m.log ++ call_event who op answer ∷ []))) (sym e) refl;
        counts = omega arith;
        failed = λ h. absurd (full_not_failed answer e h);
        full = λ _. (refl, rose m.full_answers);
        no_link = link;
        no_exec = exec;
        memory = tt;
      }
      | false ↦ λ e. record {
        log = subst (λ b. MatchBool b (m.log ++ call_event who op answer ∷ [] ≡ m.log) (AnswersOn (state_of m.log) who op answer × (m.log ++ call_event who op answer ∷ [] ≡ m.log ++ call_event who op answer ∷ []))) (sym e) (answers_on m who op answer session is e, refl);
        counts = let g = failed_grow m who op answer in omega arith;
        failed = λ h. inl (let g = failed_grow m who op answer ∙ ap (λ b. failed_in m.log + cond b 1 0) h in omega arith);
        full = λ h. absurd (let f : true ≡ false = sym h ∙ e in cc);
        no_link = link;
        no_exec = exec;
        memory = tt;
      }
    ] refl

pub called : (old new : MemState) (who : Who) (op : Op) (r : Result (Answer (List ℕ)) AllocError) → IsSession who → Leads old who op r new → Called who op r old new
called old new who op (Ok answer) session h = subst (Called who op (Ok answer) old) (sym h.1) (answered old who op answer session h.0)
called old new who op (Err error) session h =
    record { log = ap (λ (m : MemState). m.log) h; counts = let e = ap (λ (m : MemState). failed_in m.log) h in omega arith; failed = tt; full = tt; no_link = tt; no_exec = tt; memory = (ap (λ (m : MemState). failed_in m.log) h, ap (λ (m : MemState). m.full_answers) h) }

-- what a change is told of
pub record Edited (edit : Edit) (r : Result Unit EditError) (old new : MemState) : Type 0 where
  pub log : EditsOn edit r old.log new.log
  pub faults : failed_in new.log ≡ failed_in old.log
  pub fulls : new.full_answers ≡ old.full_answers

event_no_fault : (log : List Event) (edit : Edit) → failed_in (log ++ edit_event edit ∷ []) ≡ failed_in log
event_no_fault log edit = let g = count-push (λ (e : Event). is_failed e.answer) log (edit_event edit) in omega arith

on_no_memory : (why : Option EditError) (edit : Edit) (log : List Event) → EditsBy why edit (Err Memory) log log
on_no_memory None edit log = (refl, refl)
on_no_memory (Some why) edit log = (inr refl, refl)

decided_edit : (old new : MemState) (edit : Edit) (r : Result Unit EditError) → Decides old edit r new → Edited edit r old new
decided_edit old new edit (Ok done) h =
    subst (Edited edit (Ok done) old) (sym h.1)
    (record { log = subst (λ (why : Option EditError). EditsBy why edit (Ok done) old.log (old.log ++ edit_event edit ∷ [])) (sym h.0) refl; faults = event_no_fault old.log edit; fulls = refl })
decided_edit old new edit (Err error) h =
    subst (Edited edit (Err error) old) (sym h.1)
    (record { log = subst (λ (why : Option EditError). EditsBy why edit (Err error) old.log old.log) (sym h.0) (inl refl, refl); faults = refl; fulls = refl })

pub edited_by : (old new : MemState) (edit : Edit) (r : Result Unit EditError) → Edits old edit r new → Edited edit r old new
edited_by old new edit r (inl h) = decided_edit old new edit r h
edited_by old new edit r (inr h) =
    subst (λ (r : Result Unit EditError). Edited edit r old new) (sym h.0)
    (subst (Edited edit (Err Memory) old) (sym h.1) (record { log = on_no_memory (edit_error old.log edit) edit old.log; faults = refl; fulls = refl }))
