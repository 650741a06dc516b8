-- What a session keeps stays kept until it clears.
use Rattle.std.proofs.Common.{◌≡◌, ◌≢◌, ℕ, Bool, true, false, cond, List, [], ◌∷◌, ◌++◌, ◌||◌, ◌&&◌, refl, sym, ap, subst, ◌∙◌, Option, Some}
use Rattle.std.specs.FinMap as map
use Rattle.std.specs.Prelude.{◌==◌, is_some, unwrap_or}
use Rattle.std.specs.List.{list_any}
use Rattle.std.specs.Cmp.Lexicographic.{slice_cmp, nat_list_cmp_total}
use Rattle.std.specs.Ordering.{nat_cmp, eq_by_cmp}
use Rattle.std.proofs.lemmas.Bool.{eqb-true, false≢true}
use Rattle.roots_api.specs.Answers.{is_done, is_dropped}
use Rattle.roots_api.specs.Edits.{edited}
use Rattle.root_laws.specs.LogLaws.{is_by, is_clearing, clears}
use Rattle.roots_api.specs.Logs.{after_deed, after_event, after_events, state_of}
use Rattle.roots_api.specs.States.{RootState, Staged, new_root, nothing_staged, staged_by, kept_by, with_staged}
use Rattle.roots_api.specs.Steps.{begin_file, append_bytes, keep_file, drop_file, done, after}
use Rattle.roots_api.specs.declared.answer.Answer.{Answer}
use Rattle.roots_api.specs.declared.edit.Edit.{Edit}
use Rattle.roots_api.specs.declared.event.Deed.{Deed}
use Rattle.roots_api.specs.declared.event.Deed.TheVariants.{Asked, Edited}
use Rattle.roots_api.specs.declared.event.Event.{Event}
use Rattle.roots_api.specs.declared.event.Span.{Span}
use Rattle.roots_api.specs.declared.op.Op.{Op}
use Rattle.roots_api.specs.declared.op.Op.TheVariants.{List as OpList, Fetch, StageClear, StageOpen, StageAppend, StageKeep, Place, MakeDir, MakeLink, Remove, SetExec}
use Rattle.roots_api.specs.declared.who.Who.{Who}
use Rattle.roots_api.specs.declared.who.Who.TheVariants.{Editor, Session}
use Rattle.roots_api.proofs.Folds.{after_events-append}
use Rattle.roots_api.proofs.Stagings.{stage_at, same_id, after_other, edits_leave}

module _ (digest : List ℕ) where
  abbrev Keeps : Staged → Type 0
  Keeps staged = is_some (map.get staged.kept digest) ≡ true

  abbrev KeepsFor : ℕ → RootState → Type 0
  KeepsFor id s = is_some (kept_by s id digest) ≡ true

  keep_keeps : (other : List ℕ) (staged : Staged) → Keeps staged → Keeps (keep_file other staged)
  keep_keeps other staged h =
      let bytes = unwrap_or staged.begun [] in
      ap (λ (o : Option (List ℕ)). is_some o) (map.get-insert nat_list_cmp_total staged.kept other bytes digest)
      ∙ (elim (eq_by_cmp (slice_cmp nat_cmp) digest other) as (λ b. is_some (cond b (Some bytes) (map.get staged.kept digest)) ≡ true) [ true ↦ refl | false ↦ h ])

  module _ (s : RootState) (id : ℕ) (h : KeepsFor id s) where
    staged_keeps : (staged : Staged) → Keeps staged → KeepsFor id (with_staged s id staged)
    staged_keeps staged k =
        ap (λ (t : Staged). is_some (map.get t.kept digest)) (stage_at s id staged id ∙ ap (λ b. unwrap_or (cond b (Some staged) (map.get s.staging id)) nothing_staged) (same_id id)) ∙ k

    done_keeps : (op : Op) → is_clearing (Asked op) true ≡ false → KeepsFor id (done s id op)
    done_keeps (OpList path) c = h
    done_keeps (Fetch path stamp offset) c = h
    done_keeps StageClear c = absurd (cc)
    done_keeps StageOpen c = staged_keeps (begin_file (staged_by s id)) h
    done_keeps (StageAppend bytes) c = staged_keeps (append_bytes bytes (staged_by s id)) h
    done_keeps (StageKeep other) c = staged_keeps (keep_file other (staged_by s id)) (keep_keeps other (staged_by s id) h)
    done_keeps (Place path other exec expected) c = h
    done_keeps (MakeDir path) c = h
    done_keeps (MakeLink path text expected) c = h
    done_keeps (Remove path expected) c = h
    done_keeps (SetExec path expected on) c = h

    after_keeps : {B : Type 0} (op : Op) (answer : Answer B) → is_clearing (Asked op) (is_done answer) ≡ false → KeepsFor id (after s id op answer)
    after_keeps op answer c =
        let dropped = with_staged s id (drop_file (staged_by s id)) in
        elim (is_done answer) as (λ b. is_clearing (Asked op) b ≡ false → KeepsFor id (cond b (done s id op) (cond (is_dropped answer) dropped s))) [
          | true ↦ λ g. done_keeps op g
          | false ↦ λ _. elim (is_dropped answer) as (λ b. KeepsFor id (cond b dropped s)) [ true ↦ staged_keeps (drop_file (staged_by s id)) h | false ↦ h ]
        ] c

  edit_keeps : (s : RootState) (id : ℕ) (edit : Edit) → KeepsFor id s → KeepsFor id (edited s edit)
  edit_keeps s id edit h = ap (λ staging. is_some (map.get (unwrap_or (map.get staging id) nothing_staged).kept digest)) (edits_leave s edit) ∙ h

  apart_by : (id other : ℕ) → (other == id) ≡ false → other ≢ id
  apart_by id other h e = false≢true (sym h ∙ ap (λ (n : ℕ). n == id) e ∙ same_number id)
    where
      same_number : (n : ℕ) → (n == n) ≡ true
      same_number n = Rattle.std.proofs.lemmas.Bool.eq-eqb n n refl

  deed_keeps : (s : RootState) (id : ℕ) (who : Who) (deed : Deed) (answer : Answer Span) → KeepsFor id s → (is_by id who && is_clearing deed (is_done answer)) ≡ false → KeepsFor id (after_deed s who deed answer)
  deed_keeps s id (Session other run cycle) (Asked op) answer h c =
      elim (other == id) as (λ b. (other == id) ≡ b → (b && is_clearing (Asked op) (is_done answer)) ≡ false → KeepsFor id (after s other op answer)) [
        | true ↦ λ e g. subst (λ (n : ℕ). KeepsFor id (after s n op answer)) (sym (eqb-true other id e)) (after_keeps s id h op answer g)
        | false ↦ λ e _. ap (λ (t : Staged). is_some (map.get t.kept digest)) (after_other s other id op answer (apart_by id other e)) ∙ h
      ] refl c
  deed_keeps s id Editor (Asked op) answer h c = h
  deed_keeps s id Editor (Edited edit) answer h c = edit_keeps s id edit h
  deed_keeps s id (Session other run cycle) (Edited edit) answer h c = edit_keeps s id edit h

  no_or : (a b : Bool) → (a || b) ≡ false → (a ≡ false) × (b ≡ false)
  no_or true b h = absurd (cc)
  no_or false b h = (refl, h)

  events_keep : (s : RootState) (id : ℕ) (log : List Event) → KeepsFor id s → list_any (clears id) log ≡ false → KeepsFor id (after_events s log)
  events_keep s id [] h c = h
  events_keep s id (e ∷ log) h c =
      let both = no_or (clears id e) (list_any (clears id) log) c in
      events_keep (after_event s e) id log (deed_keeps s id e.who e.deed e.answer h both.0) both.1

pub kept_stays : (log more : List Event) (id : ℕ) (digest : List ℕ) → is_some (kept_by (state_of log) id digest) ≡ true → list_any (clears id) more ≡ false
    → is_some (kept_by (state_of (log ++ more)) id digest) ≡ true
kept_stays log more id digest h c =
    ap (λ (s : RootState). is_some (kept_by s id digest)) (after_events-append new_root log more) ∙ events_keep digest (state_of log) id more h c
