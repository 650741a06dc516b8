-- A small session whose first cycle nobody disturbs, as an example of which cycles are settled.
use Rattle.std.specs.Prelude.{◌≡◌, Bool, true, false, List, [], ◌∷◌, codes, None}
use Rattle.entry_tree.specs.declared.atom.Atom.TheVariants as atom
use Rattle.entry_tree.specs.declared.entry.Entry.TheVariants as entry
use Rattle.frame_text.specs.declared.payload.Payload.{Payload}
use Rattle.mode_rules.specs.declared.ancestor_line.AncestorLine.TheVariants.{Set}
use Rattle.mode_rules.specs.declared.report.Outcome.TheVariants as outcome
use Rattle.roots_api.specs.declared.answer.Answer.TheVariants.{Listed, Done}
use Rattle.roots_api.specs.declared.edit.Edit.TheVariants as edit
use Rattle.roots_api.specs.declared.event.Deed.TheVariants.{Edited}
use Rattle.roots_api.specs.declared.event.Event.{Event}
use Rattle.roots_api.specs.declared.op.Op.TheVariants.{List as OpList, MakeDir}
use Rattle.roots_api.specs.declared.who.Who.TheVariants.{Editor}
use Rattle.cycle_law.specs.Settled.{is_settled}
use Rattle.cycle_law.specs.Untouched.{WholeLogs, is_untouched}
use Rattle.cycle_law.specs.Worked.{by_cycle, cycle, first_frame, lists, safe}
use Rattle.cycle_law.specs.WorkedReports.{d, report, with_rise}

-- An editor makes the folder `d` on alpha, and the cycle makes it on beta.
abbrev pub made_there : Event
made_there = record { who = Editor; deed = Edited (edit.Dir d); answer = Done None }

abbrev pub made_here : Event
made_here = by_cycle 1 (MakeDir d) (Done None)

abbrev pub both_folders : Payload
both_folders = first_frame (Set [] atom.Dir ∷ Set d atom.Dir ∷ [])

-- the logs, with what stands in beta's behind the scan
abbrev pub with_beta : List Event → List Payload → WholeLogs
with_beta events frames = record {
  alpha = made_there ∷ lists 1 ((codes "d", entry.Dir) ∷ []) ∷ by_cycle 1 (OpList d) (Listed []) ∷ [];
  beta = lists 1 [] ∷ events;
  frames = frames;
}

abbrev pub settled : List Event → List Payload → Bool
settled events frames = is_settled safe 1 (with_beta events frames) (cycle 1 0 0 0) (report 1 outcome.Done [])

abbrev pub untouched : List Event → Bool
untouched events = is_untouched 1 (cycle 1 0 0 0) (with_beta events (both_folders ∷ [])) (with_rise false)

-- Nobody disturbed it, and it is settled. It isn't where the folder isn't made, or has no line, or the frame isn't kept. An edit before its last event
-- disturbs it, and one behind that doesn't.
abbrev pub Settles : Type 0
Settles =
    (untouched (made_here ∷ []) ≡ true)
    × (settled (made_here ∷ []) (both_folders ∷ []) ≡ true)
    × (settled [] (both_folders ∷ []) ≡ false)
    × (settled (made_here ∷ []) (first_frame (Set [] atom.Dir ∷ []) ∷ []) ≡ false)
    × (settled (made_here ∷ []) [] ≡ false)
    × (untouched (made_there ∷ made_here ∷ []) ≡ false)
    × (untouched (made_here ∷ made_there ∷ []) ≡ true)
