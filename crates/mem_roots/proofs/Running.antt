-- What each use keeps, every run keeps.
use Rattle.std.proofs.Common.{◌≡◌, ℕ, ◌+◌, ◌-◌, ◌^◌, ◌≤◌, true, false, cond, List, [], ◌∷◌, length, refl, sym, ap, subst, ◌∙◌, Some, None, min, arith}
use Rattle.std.specs.List.{AllByRecursion}
use Rattle.roots_api.specs.Answers.{is_full}
use Rattle.roots_api.specs.Asked.{IsAsked, IsMade}
use Rattle.roots_api.specs.Edits.{edited}
use Rattle.roots_api.specs.Logs.{state_of, rows_in, appended_by}
use Rattle.roots_api.specs.Steps.{after}
use Rattle.roots_api.specs.States.{RootState}
use Rattle.roots_api.specs.Told.{IsSession, call_event, edit_event, edit_error, put_by}
use Rattle.roots_api.specs.declared.answer.Answer.{Answer}
use Rattle.roots_api.specs.declared.edit.Edit.{Edit}
use Rattle.roots_api.specs.declared.op.Op.{Op}
use Rattle.roots_api.specs.declared.who.Who.{Who}
use Rattle.mem_roots.specs.MemRoot.{MemState, new_mem, id_of, mem_answer, mem_after, with_event, with_full, placed_by}
use Rattle.mem_roots.specs.Runs.{Use, Calls, Edits, Fails, mem_changed, mem_step, mem_run, IsUse, IsSound, is_answered_full, fulls_in}
use Rattle.mem_roots.specs.Sizes.{IsOfLog, sizes_of, sizes_with, sizes_edited}
use Rattle.mem_roots.specs.declared.sizes.Sizes.{Sizes}
use Rattle.mem_roots.proofs.Recording.{mem_fits, may_edit, recorded, recorded_edit, none_recorded}

of_sound : (m : MemState) → IsSound m → IsOfLog m.log (state_of m.log) (sizes_of m.log)
of_sound m s = record { state_is = refl; sizes_are = refl; legal = s.legal; log_fits = s.log_fits; bytes_fit = s.bytes_fit }

sound_of : (m : MemState) (state : RootState) (sizes : Sizes) → IsOfLog m.log state sizes → IsSound m
sound_of m state sizes h = record { legal = h.legal; log_fits = h.log_fits; bytes_fit = h.bytes_fit }

new_sound : IsSound new_mem
new_sound = sound_of new_mem _ _ none_recorded

asked_sound : (m : MemState) (who : Who) (op : Op) → IsSession who → IsAsked op → IsSound m → IsSound (mem_after m who op (mem_answer m who op))
asked_sound m who op session can s =
    let answer : Answer (List ℕ) = mem_answer m who op in
    elim (is_full answer) as (λ b. is_full answer ≡ b → IsSound (cond b (with_full m) (with_event m (call_event who op answer)))) [
      | true ↦ λ _. record { legal = s.legal; log_fits = s.log_fits; bytes_fit = s.bytes_fit }
      | false ↦ λ e.
          sound_of (with_event m (call_event who op answer)) (after (state_of m.log) (id_of who) op answer)
          (sizes_with (sizes_of m.log) (rows_in answer) (length (appended_by op)) (length (placed_by (state_of m.log) (id_of who) op answer)))
          (recorded m.log (state_of m.log) (sizes_of m.log) who op answer session can (of_sound m s) (mem_fits m who op answer s.bytes_fit refl e))
    ] refl

changed_sound : (m : MemState) (edit : Edit) → IsMade edit → IsSound m → IsSound (mem_changed m edit (edit_error m.log edit))
changed_sound m edit made s =
    elim (edit_error m.log edit) as (λ o. edit_error m.log edit ≡ o → IsSound (mem_changed m edit o)) [
      | None ↦ λ e.
          sound_of (with_event m (edit_event edit)) (edited (state_of m.log) edit) (sizes_edited (sizes_of m.log) (length (put_by edit)))
          (recorded_edit m.log (state_of m.log) (sizes_of m.log) edit made (of_sound m s) (may_edit m.log edit e))
      | Some why ↦ λ _. s
    ] refl

step_sound : (m : MemState) (u : Use) → IsUse u → IsSound m → IsSound (mem_step m u)
step_sound m (Calls who op) is s = asked_sound m who op is.0 is.1 s
step_sound m (Edits edit) is s = changed_sound m edit is s
step_sound m (Fails fails) is s = record { legal = s.legal; log_fits = s.log_fits; bytes_fit = s.bytes_fit }

run_sound : (m : MemState) (uses : List Use) → AllByRecursion IsUse uses → IsSound m → IsSound (mem_run m uses)
run_sound m [] sessions s = s
run_sound m (u ∷ uses) sessions s = run_sound (mem_step m u) uses sessions.1 (step_sound m u sessions.0 s)

pub runs_are_sound : (uses : List Use) → AllByRecursion IsUse uses → IsSound (mem_run new_mem uses)
runs_are_sound uses sessions = run_sound new_mem uses sessions new_sound

-- what one use adds to the count of Full answers
counted : (m : MemState) (u : Use) → m.full_answers ≤ 2 ^ 64 - 1 → (mem_step m u).full_answers ≡ min (m.full_answers + cond (is_answered_full m u) 1 0) (2 ^ 64 - 1)
counted m (Calls who op) held =
    elim (is_full (mem_answer m who op)) as (λ b. (cond b (with_full m) (with_event m (call_event who op (mem_answer m who op)))).full_answers ≡ min (m.full_answers + cond b 1 0) (2 ^ 64 - 1)) [
      | true ↦ refl
      | false ↦ omega arith
    ]
counted m (Edits edit) held =
    elim (edit_error m.log edit) as (λ o. (mem_changed m edit o).full_answers ≡ min (m.full_answers + 0) (2 ^ 64 - 1)) [ None ↦ omega arith | Some why ↦ omega arith ]
counted m (Fails fails) held = omega arith

both_counts : (f one rest most : ℕ) → min (min (f + one) most + rest) most ≡ min (f + (one + rest)) most
both_counts f one rest most = omega arith

at_most : (f most : ℕ) → min f most ≤ most
at_most f most = omega arith

run_counts : (m : MemState) (uses : List Use) → m.full_answers ≤ 2 ^ 64 - 1 → (mem_run m uses).full_answers ≡ min (m.full_answers + fulls_in m uses) (2 ^ 64 - 1)
run_counts m [] held = omega arith
run_counts m (u ∷ uses) held =
    let one = cond (is_answered_full m u) 1 0 in
    let step = counted m u held in
    run_counts (mem_step m u) uses (subst (λ (n : ℕ). n ≤ 2 ^ 64 - 1) (sym step) (at_most (m.full_answers + one) (2 ^ 64 - 1)))
    ∙ ap (λ (n : ℕ). min (n + fulls_in (mem_step m u) uses) (2 ^ 64 - 1)) step
    ∙ both_counts m.full_answers one (fulls_in (mem_step m u) uses) (2 ^ 64 - 1)

pub counts_are_exact : (uses : List Use) → (mem_run new_mem uses).full_answers ≡ min (fulls_in new_mem uses) (2 ^ 64 - 1)
counts_are_exact uses = run_counts new_mem uses (omega arith) ∙ ap (λ (n : ℕ). min n (2 ^ 64 - 1)) (zero_add (fulls_in new_mem uses))
  where
    zero_add : (n : ℕ) → 0 + n ≡ n
    zero_add n = omega arith
