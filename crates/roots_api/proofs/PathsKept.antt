-- The tree of a legal log holds something only at paths.
use Rattle.std.proofs.Common.{ℕ, Bool, true, false, cond, List, Option, Some, None}
use Rattle.std.specs.FinMap as map
use Rattle.std.specs.Option.{option_map_or}
use Rattle.sync_path.specs.Path.{IsPath}
use Rattle.entry_tree.specs.Entry.{is_dir}
use Rattle.entry_tree.specs.Tree.{Names, ByPath, set_at}
use Rattle.entry_tree.specs.declared.entry.Entry.{Entry}
use Rattle.entry_tree.specs.declared.entry.Entry.TheVariants.{Dir as DirEntry, File as FileEntry, Link as LinkEntry, Other as OtherEntry}
use Rattle.roots_api.specs.Answers.{is_done, is_dropped}
use Rattle.roots_api.specs.Asked.{IsAsked, IsMade}
use Rattle.roots_api.specs.Edits.{edited}
use Rattle.roots_api.specs.Laws.{HoldsPaths}
use Rattle.roots_api.specs.Logs.{after_deed, after_event, IsLegal, IsLegalDeed, IsLegalEvent, state_of}
use Rattle.roots_api.specs.States.{RootState, new_root, staged_by, with_staged, with_bit, next_stamp}
use Rattle.roots_api.specs.Steps.{done, after, drop_file}
use Rattle.roots_api.specs.declared.answer.Answer.{Answer}
use Rattle.roots_api.specs.declared.edit.Edit.{Edit}
use Rattle.roots_api.specs.declared.edit.Edit.TheVariants.{Put, Link, Dir, Other, SetExec as SetBit, Del}
use Rattle.roots_api.specs.declared.event.Deed.{Deed}
use Rattle.roots_api.specs.declared.event.Deed.TheVariants.{Asked, Edited}
use Rattle.roots_api.specs.declared.event.Event.{Event}
use Rattle.roots_api.specs.declared.event.Span.{Span}
use Rattle.roots_api.specs.declared.op.Op.{Op}
use Rattle.roots_api.specs.declared.op.Op.TheVariants.{List as OpList, Fetch, StageClear, StageOpen, StageAppend, StageKeep, Place, MakeDir, MakeLink, Remove, SetExec}
use Rattle.roots_api.specs.declared.who.Who.{Who}
use Rattle.roots_api.specs.declared.who.Who.TheVariants.{Editor, Session}
use Rattle.roots_api.proofs.Folds.{while_legal}
use Rattle.roots_api.proofs.ListedRows.{holds_new, holds_set, holds_without}

holds_bit : (tree : ByPath Entry) (path : Names) (on : Bool) (o : Option Entry) → HoldsPaths tree → IsPath path → HoldsPaths (option_map_or (λ found. set_at is_dir tree path (with_bit on found)) o tree)
holds_bit tree path on None holds is = holds
holds_bit tree path on (Some found) holds is = holds_set tree path (with_bit on found) holds is

module _ (s : RootState) (id : ℕ) (holds : HoldsPaths s.tree) where
  done_holds : (op : Op) → IsAsked op → HoldsPaths (done s id op).tree
  done_holds (OpList path) a = holds
  done_holds (Fetch path stamp offset) a = holds
  done_holds StageClear a = holds
  done_holds StageOpen a = holds
  done_holds (StageAppend bytes) a = holds
  done_holds (StageKeep digest) a = holds
  done_holds (Place path digest exec expected) a = holds_set s.tree path (FileEntry (next_stamp s) exec) holds a.0
  done_holds (MakeDir path) a = holds_set s.tree path DirEntry holds a
  done_holds (MakeLink path text expected) a = holds_set s.tree path (LinkEntry text) holds a.0
  done_holds (Remove path expected) a = holds_without s.tree path holds
  done_holds (SetExec path expected on) a = holds_bit s.tree path on (map.get s.tree path) holds a.0

  after_holds : {B : Type 0} (op : Op) (answer : Answer B) → IsAsked op → HoldsPaths (after s id op answer).tree
  after_holds op answer a =
      let dropped = with_staged s id (drop_file (staged_by s id)) in
      elim (is_done answer) as (λ b. HoldsPaths (cond b (done s id op) (cond (is_dropped answer) dropped s)).tree) [
        | true ↦ done_holds op a
        | false ↦ elim (is_dropped answer) as (λ b. HoldsPaths (cond b dropped s).tree) [ true ↦ holds | false ↦ holds ]
      ]

edited_holds : (s : RootState) (edit : Edit) → HoldsPaths s.tree → IsMade edit → HoldsPaths (edited s edit).tree
edited_holds s (Put path bytes) holds m = holds_set s.tree path (FileEntry (next_stamp s) false) holds m
edited_holds s (Link path text) holds m = holds_set s.tree path (LinkEntry text) holds m.0
edited_holds s (Dir path) holds m = holds_set s.tree path DirEntry holds m
edited_holds s (Other path) holds m = holds_set s.tree path OtherEntry holds m
edited_holds s (SetBit path on) holds m = holds_bit s.tree path on (map.get s.tree path) holds m
edited_holds s (Del path) holds m = holds_without s.tree path holds

deed_holds : (s : RootState) (who : Who) (deed : Deed) (answer : Answer Span) → IsLegalDeed s who deed answer → HoldsPaths s.tree → HoldsPaths (after_deed s who deed answer).tree
deed_holds s (Session id run cycle) (Asked op) answer l holds = after_holds s id holds op answer l.asked
deed_holds s Editor (Asked op) answer l holds = absurd l
deed_holds s Editor (Edited edit) answer l holds = edited_holds s edit holds l.made
deed_holds s (Session id run cycle) (Edited edit) answer l holds = absurd l

pub event_holds : (s : RootState) (e : Event) → IsLegalEvent s e → HoldsPaths s.tree → HoldsPaths (after_event s e).tree
event_holds s e l holds = deed_holds s e.who e.deed e.answer l holds

pub tree_holds : (log : List Event) → IsLegal log → HoldsPaths (state_of log).tree
tree_holds log legal = while_legal (λ s. HoldsPaths s.tree) event_holds new_root log legal holds_new
