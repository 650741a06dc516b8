-- Whatever a shared root is asked, its log only grows, and stays legal.
use Rattle.std.proofs.Common.{◌≡◌, inl, inr, ℕ, true, false, cond, List, [], ◌∷◌, ◌++◌, refl, sym, ap, subst, ◌∙◌, Result, Ok, Err, append_assoc}
use Rattle.std.proofs.lemmas.List.{append-nil}
use Rattle.history_cell.specs.History as history
use Rattle.history_cell.specs.declared.entry.Entry.{Entry}
use Rattle.roots_api.specs.Answers.{is_full}
use Rattle.roots_api.specs.Asked.{IsAsked, IsMade}
use Rattle.roots_api.specs.Logs.{IsLegal, IsLegalEvent, state_of, logged}
use Rattle.roots_api.specs.States.{new_root}
use Rattle.roots_api.specs.Steps.{answer_of}
use Rattle.roots_api.specs.Told.{call_event, edit_event}
use Rattle.roots_api.specs.declared.answer.Answer.{Answer}
use Rattle.roots_api.specs.declared.edit.Edit.{Edit}
use Rattle.roots_api.specs.declared.edit_error.EditError.{EditError}
use Rattle.roots_api.specs.declared.event.Event.{Event}
use Rattle.roots_api.specs.declared.op.Op.{Op}
use Rattle.roots_api.specs.declared.who.Who.TheVariants.{Session}
use Rattle.roots_api.proofs.Folds.{legal_push}
use Rattle.mem_roots.specs.MemRoot.{MemState, mem_answer, mem_after, with_event, with_full, Decides}
use Rattle.mem_roots.specs.Sharing.{Acts, LogGrew}
use Rattle.mem_roots.specs.declared.root_ask.RootAsk.{RootAsk}
use Rattle.mem_roots.specs.declared.root_ask.RootAsk.TheVariants.{Call, Change}
use Rattle.mem_roots.specs.declared.root_ask.RootTold.{RootTold}
use Rattle.mem_roots.specs.declared.root_ask.RootTold.TheVariants.{Answered, Changed, NoMemory}
use Rattle.mem_roots.proofs.Calling.{decided_row}
use Rattle.mem_roots.proofs.Recording.{may_edit}

same_log : (old new : List Event) → new ≡ old → LogGrew old new
same_log old new e = record { grew = ([], e ∙ sym (append-nil old)); legal = λ l. subst IsLegal (sym e) l }

one_more : (old : List Event) (e : Event) → IsLegalEvent (state_of old) e → LogGrew old (old ++ e ∷ [])
one_more old e h = record { grew = (e ∷ [], refl); legal = λ l. legal_push new_root old e l h }

call_grew : (old : MemState) (id run cycle : ℕ) (op : Op) (answer : Answer (List ℕ)) → IsAsked op → answer ≡ mem_answer old (Session id run cycle) op
    → LogGrew old.log (mem_after old (Session id run cycle) op answer).log
call_grew old id run cycle op answer can is =
    elim (is_full answer) as (λ b. is_full answer ≡ b → LogGrew old.log (cond b (with_full old) (with_event old (call_event (Session id run cycle) op answer))).log) [
      | true ↦ λ _. same_log old.log old.log refl
      | false ↦ λ full. one_more old.log (call_event (Session id run cycle) op answer) (record {
        asked = can;
        row = elim (decided_row old id op (answer_of (state_of old.log) id op) answer is full) [ inl e ↦ inl (ap (logged op) e) | inr e ↦ inr (ap (logged op) e) ];
      })
    ] refl

change_grew : (old new : MemState) (edit : Edit) (r : Result Unit EditError) → IsMade edit → Decides old edit r new → LogGrew old.log new.log
change_grew old new edit (Ok done) made h =
    subst (λ (m : MemState). LogGrew old.log m.log) (sym h.1)
    (one_more old.log (edit_event edit) (record { made = made; allowed = (may_edit old.log edit h.0).allowed; done = refl }))
change_grew old new edit (Err error) made h = same_log old.log new.log (ap (λ (m : MemState). m.log) h.1)

step_grew : (old : MemState) (ask : RootAsk) (told : RootTold) (new : MemState) → Acts old ask told new → LogGrew old.log new.log
step_grew old (Call id run cycle op) (Answered answer) new h =
    subst (λ (m : MemState). LogGrew old.log m.log) (sym h.1.1) (call_grew old id run cycle op answer h.0 h.1.0)
step_grew old (Call id run cycle op) (Changed r) new h = absurd h
step_grew old (Call id run cycle op) NoMemory new h = same_log old.log new.log (ap (λ (m : MemState). m.log) h)
step_grew old (Change edit) (Answered answer) new h = absurd h
step_grew old (Change edit) (Changed r) new h = change_grew old new edit r h.0 h.1
step_grew old (Change edit) NoMemory new h = same_log old.log new.log (ap (λ (m : MemState). m.log) h)

then_grew : (a b c : List Event) → LogGrew a b → LogGrew b c → LogGrew a c
then_grew a b c g h = record {
  grew = (g.grew.0 ++ h.grew.0, h.grew.1 ∙ ap (λ (l : List Event). l ++ h.grew.0) g.grew.1 ∙ append_assoc a g.grew.0 h.grew.0);
  legal = λ l. h.legal (g.legal l);
}

pub history_grew : (opening after : MemState) (calls : List (Entry RootAsk RootTold)) → history.Leads Acts opening calls after → LogGrew opening.log after.log
history_grew opening after [] h = same_log opening.log after.log (sym (ap (λ (m : MemState). m.log) h))
history_grew opening after (e ∷ calls) h =
    then_grew opening.log h.0.log after.log (step_grew opening e.op e.reply h.0 h.1) (history_grew h.0 after calls h.2)
