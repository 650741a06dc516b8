-- What is staged, by session and by digest.
use Rattle.std.proofs.Common.{◌≡◌, ◌≢◌, ◌⊎◌, inl, inr, ℕ, Bool, true, false, cond, List, [], refl, sym, ap, subst, ◌∙◌, Option, Some, None, bytes_eq}
use Rattle.std.specs.Prelude.{◌==◌, unwrap_or}
use Rattle.std.specs.FinMap as map
use Rattle.std.specs.FinMap.{FinMap}
use Rattle.std.specs.Cmp.{unsigned_tied}
use Rattle.std.specs.Cmp.Lexicographic.{slice_cmp, nat_list_cmp_total}
use Rattle.std.specs.Ordering.{nat_cmp, eq_by_cmp}
use Rattle.std.proofs.lemmas.Bool.{eqb-true, eq-eqb}
use Rattle.std.proofs.lemmas.Cmp.{nat_cmp_total}
use Rattle.std.proofs.lemmas.Map.Text.{is_eq-slice_cmp}
use Rattle.sha2.specs.Sha256.{sha256}
use Rattle.entry_tree.proofs.Paths.{name_is}
use Rattle.roots_api.specs.Answers.{is_done, is_dropped}
use Rattle.roots_api.specs.Edits.{edited}
use Rattle.roots_api.specs.Logs.{after_deed, logged, IsLegalDeed}
use Rattle.roots_api.specs.States.{RootState, Staged, nothing_staged, staged_by, with_staged}
use Rattle.roots_api.specs.Steps.{answer_of, keep_answer, begin_file, append_bytes, keep_file, drop_file, done, after}
use Rattle.roots_api.specs.declared.answer.Answer.{Answer}
use Rattle.roots_api.specs.declared.answer.Answer.TheVariants.{Failed, Kept, DigestDiffers}
use Rattle.roots_api.specs.declared.edit.Edit.{Edit}
use Rattle.roots_api.specs.declared.edit.Edit.TheVariants.{Put, Link, Dir, Other, SetExec, Del}
use Rattle.roots_api.specs.declared.event.Deed.{Deed}
use Rattle.roots_api.specs.declared.event.Deed.TheVariants.{Asked, Edited}
use Rattle.roots_api.specs.declared.event.Span.{Span}
use Rattle.roots_api.specs.declared.op.Op.{Op}
use Rattle.roots_api.specs.declared.op.Op.TheVariants.{List as OpList, Fetch, StageClear, StageOpen, StageAppend, StageKeep, Place, MakeDir, MakeLink, Remove, SetExec}
use Rattle.roots_api.specs.declared.who.Who.{Who}
use Rattle.roots_api.specs.declared.who.Who.TheVariants.{Editor, Session}

not_so : (b : Bool) → (b ≡ true → ⊥) → b ≡ false
not_so true h = absurd (h refl)
not_so false h = refl

-- two numbers that differ don't tie
pub apart_id : (a b : ℕ) → a ≢ b → eq_by_cmp nat_cmp b a ≡ false
apart_id a b h = unsigned_tied b a ∙ not_so (b == a) (λ e. h (sym (eqb-true b a e)))

pub same_id : (a : ℕ) → eq_by_cmp nat_cmp a a ≡ true
same_id a = unsigned_tied a a ∙ eq-eqb a a refl

or_nothing : Option Staged → Staged
or_nothing o = unwrap_or o nothing_staged

module _ (s : RootState) (id : ℕ) where
  pub stage_at : (staged : Staged) (q : ℕ) → staged_by (with_staged s id staged) q ≡ unwrap_or (cond (eq_by_cmp nat_cmp q id) (Some staged) (map.get s.staging q)) nothing_staged
  stage_at staged q = ap (λ (o : Option Staged). unwrap_or o nothing_staged) (map.get-insert nat_cmp_total s.staging id staged q)

  pub stage_other : (staged : Staged) (other : ℕ) → id ≢ other → staged_by (with_staged s id staged) other ≡ staged_by s other
  stage_other staged other h = stage_at staged other ∙ ap (λ b. unwrap_or (cond b (Some staged) (map.get s.staging other)) nothing_staged) (apart_id id other h)

  pub clear_at : (q : ℕ) → staged_by (done s id StageClear) q ≡ unwrap_or (cond (eq_by_cmp nat_cmp q id) None (map.get s.staging q)) nothing_staged
  clear_at q = ap (λ (o : Option Staged). unwrap_or o nothing_staged) (map.get-remove nat_cmp_total s.staging id q)

  pub clear_here : staged_by (done s id StageClear) id ≡ nothing_staged
  clear_here = clear_at id ∙ ap (λ b. unwrap_or (cond b None (map.get s.staging id)) nothing_staged) (same_id id)

  clear_other : (other : ℕ) → id ≢ other → staged_by (done s id StageClear) other ≡ staged_by s other
  clear_other other h = clear_at other ∙ ap (λ b. unwrap_or (cond b None (map.get s.staging other)) nothing_staged) (apart_id id other h)

  done_other : (other : ℕ) (op : Op) → id ≢ other → staged_by (done s id op) other ≡ staged_by s other
  done_other other (OpList path) h = refl
  done_other other (Fetch path stamp offset) h = refl
  done_other other StageClear h = clear_other other h
  done_other other StageOpen h = stage_other (begin_file (staged_by s id)) other h
  done_other other (StageAppend bytes) h = stage_other (append_bytes bytes (staged_by s id)) other h
  done_other other (StageKeep digest) h = stage_other (keep_file digest (staged_by s id)) other h
  done_other other (Place path digest exec expected) h = refl
  done_other other (MakeDir path) h = refl
  done_other other (MakeLink path text expected) h = refl
  done_other other (Remove path expected) h = refl
  done_other other (SetExec path expected on) h = refl

  pub after_other : {B : Type 0} (other : ℕ) (op : Op) (answer : Answer B) → id ≢ other → staged_by (after s id op answer) other ≡ staged_by s other
  after_other other op answer h =
      elim (is_done answer) as (λ b. staged_by (cond b (done s id op) (cond (is_dropped answer) (with_staged s id (drop_file (staged_by s id))) s)) other ≡ staged_by s other) [
        | true ↦ done_other other op h
        | false ↦ elim (is_dropped answer) as (λ b. staged_by (cond b (with_staged s id (drop_file (staged_by s id))) s) other ≡ staged_by s other) [
          | true ↦ stage_other (drop_file (staged_by s id)) other h
          | false ↦ refl
        ]
      ]

pub edits_leave : (s : RootState) (edit : Edit) → (edited s edit).staging ≡ s.staging
edits_leave s (Put path bytes) = refl
edits_leave s (Link path text) = refl
edits_leave s (Dir path) = refl
edits_leave s (Other path) = refl
edits_leave s (SetExec path on) = refl
edits_leave s (Del path) = refl

-- bytes are kept under their own digest alone
abbrev pub AreTrue : FinMap (slice_cmp nat_cmp) (List ℕ) → Type 0
AreTrue kept = (digest bytes : List ℕ) → map.get kept digest ≡ Some bytes → sha256 bytes ≡ digest

abbrev pub AllAreTrue : FinMap nat_cmp Staged → Type 0
AllAreTrue staging = (id : ℕ) → AreTrue (unwrap_or (map.get staging id) nothing_staged).kept

some_is : (a b : List ℕ) → ◌≡◌ {A = Option (List ℕ)} (Some a) (Some b) → a ≡ b
some_is a b h = cc

keep_true : (staged : Staged) (digest : List ℕ) → AreTrue staged.kept → sha256 (unwrap_or staged.begun []) ≡ digest → AreTrue (keep_file digest staged).kept
keep_true staged digest k d q bytes h =
    let kept = unwrap_or staged.begun [] in
    elim (eq_by_cmp (slice_cmp nat_cmp) q digest) as (λ b. eq_by_cmp (slice_cmp nat_cmp) q digest ≡ b → cond b (Some kept) (map.get staged.kept q) ≡ Some bytes → sha256 bytes ≡ q) [
      | true ↦ λ e g. ap sha256 (sym (some_is kept bytes g)) ∙ d ∙ sym (name_is q digest (sym (is_eq-slice_cmp q digest) ∙ e))
      | false ↦ λ e g. k q bytes g
    ] refl (sym (map.get-insert nat_list_cmp_total staged.kept digest kept q) ∙ h)

nothing_true : AreTrue map.empty
nothing_true digest bytes h = absurd (let n : None ≡ Some bytes = sym (map.get-empty (slice_cmp nat_cmp) digest) ∙ h in cc)

module _ (s : RootState) (id : ℕ) (all : AllAreTrue s.staging) where
  stage_true : (staged : Staged) → AreTrue staged.kept → AllAreTrue (with_staged s id staged).staging
  stage_true staged k q =
      subst (λ (t : Staged). AreTrue t.kept) (sym (stage_at s id staged q))
      (elim (eq_by_cmp nat_cmp q id) as (λ b. AreTrue (unwrap_or (cond b (Some staged) (map.get s.staging q)) nothing_staged).kept) [ true ↦ k | false ↦ all q ])

  clear_true : AllAreTrue (done s id StageClear).staging
  clear_true q =
      subst (λ (t : Staged). AreTrue t.kept) (sym (clear_at s id q))
      (elim (eq_by_cmp nat_cmp q id) as (λ b. AreTrue (unwrap_or (cond b None (map.get s.staging q)) nothing_staged).kept) [ true ↦ nothing_true | false ↦ all q ])

  -- what is said of a legal answer that tells that the operation is done
  keep_legal : (digest : List ℕ) (answer : Answer Span) → (answer ≡ Failed) ⊎ (answer ≡ logged (StageKeep digest) (answer_of s id (StageKeep digest)))
      → is_done answer ≡ true → sha256 (unwrap_or (staged_by s id).begun []) ≡ digest
  keep_legal digest answer (inl e) h = absurd (let n : true ≡ false = sym h ∙ ap is_done e in cc)
  keep_legal digest answer (inr e) h =
      let from : (o : Option (List ℕ)) → is_done (logged (StageKeep digest) (keep_answer digest o)) ≡ true → sha256 (unwrap_or o []) ≡ digest =
      elim [
        | None ↦ λ g. absurd (cc)
        | Some bytes ↦ λ g. name_is (sha256 bytes) digest (elim (bytes_eq (sha256 bytes) digest) as (λ b. is_done (logged (StageKeep digest) (cond b Kept (DigestDiffers digest (sha256 bytes)))) ≡ true → b ≡ true) [ true ↦ λ _. refl | false ↦ λ e. absurd (cc) ] g)
      ] in
      from (staged_by s id).begun (sym (ap is_done e) ∙ h)

  done_true : (op : Op) (answer : Answer Span) → (answer ≡ Failed) ⊎ (answer ≡ logged op (answer_of s id op)) → is_done answer ≡ true → AllAreTrue (done s id op).staging
  done_true (OpList path) answer l h = all
  done_true (Fetch path stamp offset) answer l h = all
  done_true StageClear answer l h = clear_true
  done_true StageOpen answer l h = stage_true (begin_file (staged_by s id)) (all id)
  done_true (StageAppend bytes) answer l h = stage_true (append_bytes bytes (staged_by s id)) (all id)
  done_true (StageKeep digest) answer l h = stage_true (keep_file digest (staged_by s id)) (keep_true (staged_by s id) digest (all id) (keep_legal digest answer l h))
  done_true (Place path digest exec expected) answer l h = all
  done_true (MakeDir path) answer l h = all
  done_true (MakeLink path text expected) answer l h = all
  done_true (Remove path expected) answer l h = all
  done_true (SetExec path expected on) answer l h = all

  after_true : (op : Op) (answer : Answer Span) → (answer ≡ Failed) ⊎ (answer ≡ logged op (answer_of s id op)) → AllAreTrue (after s id op answer).staging
  after_true op answer l =
      elim (is_done answer) as (λ b. is_done answer ≡ b → AllAreTrue (cond b (done s id op) (cond (is_dropped answer) (with_staged s id (drop_file (staged_by s id))) s)).staging) [
        | true ↦ λ e. done_true op answer l e
        | false ↦ λ e. elim (is_dropped answer) as (λ b. AllAreTrue (cond b (with_staged s id (drop_file (staged_by s id))) s).staging) [
          | true ↦ stage_true (drop_file (staged_by s id)) (all id)
          | false ↦ all
        ]
      ] refl

pub deed_true : (s : RootState) (who : Who) (deed : Deed) (answer : Answer Span) → IsLegalDeed s who deed answer → AllAreTrue s.staging → AllAreTrue (after_deed s who deed answer).staging
deed_true s (Session id run cycle) (Asked op) answer l all = after_true s id all op answer l.row
deed_true s Editor (Asked op) answer l all = all
deed_true s Editor (Edited edit) answer l all = subst AllAreTrue (sym (edits_leave s edit)) all
deed_true s (Session id run cycle) (Edited edit) answer l all = absurd l

pub new_true : AllAreTrue map.empty
new_true id = subst (λ (o : Option Staged). AreTrue (unwrap_or o nothing_staged).kept) (sym (map.get-empty nat_cmp id)) nothing_true
