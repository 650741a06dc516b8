-- Each answer of a root in memory is one of its operation's row.
use Rattle.std.proofs.Common.{◌≡◌, ℕ, Bool, true, false, cond, List, sym, subst, Result, Ok, Err}
use Rattle.std.specs.Prelude.{IfOk}
use Rattle.std.specs.declared.alloc.AllocError.{AllocError}
use Rattle.roots_api.specs.Answers.{IsAnswerTo}
use Rattle.roots_api.specs.States.{RootState}
use Rattle.roots_api.specs.Steps.{answer_of}
use Rattle.roots_api.specs.declared.answer.Answer.{Answer}
use Rattle.roots_api.specs.declared.answer.Answer.TheVariants.{Full, Failed}
use Rattle.roots_api.specs.declared.answer.Room.{Room}
use Rattle.roots_api.specs.declared.event.Event.{Event}
use Rattle.roots_api.specs.declared.op.Op.{Op}
use Rattle.roots_api.specs.declared.op.Op.TheVariants.{List as OpList, Fetch, StageClear, StageOpen, StageAppend, StageKeep, Place, MakeDir, MakeLink, Remove, SetExec}
use Rattle.roots_api.proofs.Answering.{answers_in_row}
use Rattle.roots_api.proofs.PathsKept.{tree_holds}
use Rattle.mem_roots.specs.MemRoot.{MemState, decided, has_no_room, is_to_fail, places_too_much, room_of}
use Rattle.mem_roots.specs.Sizes.{IsOfLog}
use Rattle.mem_roots.specs.declared.sizes.Sizes.{Sizes}

full_row : (op : Op) (room : Room) → IsAnswerTo op (Full room)
full_row (OpList path) room = tt
full_row (Fetch path stamp offset) room = tt
full_row StageClear room = tt
full_row StageOpen room = tt
full_row (StageAppend bytes) room = tt
full_row (StageKeep digest) room = tt
full_row (Place path digest exec expected) room = tt
full_row (MakeDir path) room = tt
full_row (MakeLink path text expected) room = tt
full_row (Remove path expected) room = tt
full_row (SetExec path expected on) room = tt

failed_row : (op : Op) → IsAnswerTo op Failed
failed_row (OpList path) = tt
failed_row (Fetch path stamp offset) = tt
failed_row StageClear = tt
failed_row StageOpen = tt
failed_row (StageAppend bytes) = tt
failed_row (StageKeep digest) = tt
failed_row (Place path digest exec expected) = tt
failed_row (MakeDir path) = tt
failed_row (MakeLink path text expected) = tt
failed_row (Remove path expected) = tt
failed_row (SetExec path expected on) = tt

by_test : (op : Op) (b : Bool) (x y : Answer (List ℕ)) → IsAnswerTo op x → IsAnswerTo op y → IsAnswerTo op (cond b x y)
by_test op true x y p q = p
by_test op false x y p q = q

pub answers_to : (m : MemState) (id : ℕ) (op : Op) (row : Answer (List ℕ)) → IsAnswerTo op row → IsAnswerTo op (decided m id op row)
answers_to m id op row fits =
    let much : Answer (List ℕ) = cond (places_too_much m.log id op row) (Full (room_of m.log)) row in
    let failing : Answer (List ℕ) = cond (is_to_fail m) Failed much in
    by_test op (has_no_room m.log op row) (Full (room_of m.log)) failing (full_row op (room_of m.log))
    (by_test op (is_to_fail m) Failed much (failed_row op) (by_test op (places_too_much m.log id op row) (Full (room_of m.log)) row (full_row op (room_of m.log)) fits))

pub row_result : (log : List Event) (state : RootState) (sizes : Sizes) (id : ℕ) (op : Op) (r : Result (Answer (List ℕ)) AllocError) → IsOfLog log state sizes → IfOk r (λ a. a ≡ answer_of state id op) → IfOk r (IsAnswerTo op)
row_result log state sizes id op (Ok a) is h =
    subst (IsAnswerTo op) (sym h) (subst (λ (s : RootState). IsAnswerTo op (answer_of s id op)) (sym is.state_is) (answers_in_row _ id op (tree_holds log is.legal)))
row_result log state sizes id op (Err e) is h = tt
