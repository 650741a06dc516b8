-- Small sessions, as examples of what conserves. Each stamp's content has one byte for its digest.
use Rattle.std.specs.Prelude.{◌≡◌, ℕ, ◌+◌, Bool, true, false, List, [], ◌∷◌, ◌++◌, codes, Some, None}
use Rattle.entry_tree.specs.Tree.{Names}
use Rattle.entry_tree.specs.declared.atom.Atom.TheVariants as atom
use Rattle.entry_tree.specs.declared.entry.Entry.{Entry}
use Rattle.entry_tree.specs.declared.entry.Entry.TheVariants as entry
use Rattle.entry_tree.specs.declared.entry.Stamp.{Stamp}
use Rattle.frame_text.specs.declared.payload.Payload.{Payload}
use Rattle.frame_text.specs.declared.payload.Payload.TheVariants.{Agree}
use Rattle.frame_text.specs.declared.version.Version.TheVariants.{V2}
use Rattle.mode_rules.specs.declared.ancestor_line.AncestorLine.{AncestorLine}
use Rattle.mode_rules.specs.declared.ancestor_line.AncestorLine.TheVariants.{Set, Drop}
use Rattle.mode_rules.specs.declared.mode.Mode.TheVariants.{TwoWaySafe}
use Rattle.roots_api.specs.declared.answer.Answer.{Answer}
use Rattle.roots_api.specs.declared.answer.Answer.TheVariants.{Listed, Held, Piece, Cleared, Opened, Kept, Done, Differs}
use Rattle.roots_api.specs.declared.event.Deed.TheVariants.{Asked}
use Rattle.roots_api.specs.declared.event.Event.{Event}
use Rattle.roots_api.specs.declared.event.Span.{Span}
use Rattle.roots_api.specs.declared.op.Op.{Op}
use Rattle.roots_api.specs.declared.op.Op.TheVariants.{List as OpList, Fetch, StageClear, StageOpen, StageAppend, StageKeep, Place, Remove}
use Rattle.roots_api.specs.declared.who.Who.TheVariants.{Session as OfSession}
use Rattle.cycle_law.specs.Conserving.{conserves}
use Rattle.cycle_law.specs.Cycles.{Session, Cycle, SideLog}

abbrev pub stamp : ℕ → Stamp
stamp n = record { 0 = n }

-- the digest of a stamp's content, in place of the true one
abbrev pub digest : Stamp → List ℕ
digest s = (100 + s.0) ∷ []

abbrev pub a : Names
a = codes "a" ∷ []

abbrev pub safe : Session
safe = record { mode = TwoWaySafe; rules = []; entries = 9; size = 9 }

abbrev pub by_cycle : ℕ → Op → Answer Span → Event
by_cycle cycle op answer = record { who = OfSession 1 1 cycle; deed = Asked op; answer = answer }

abbrev pub piece : ℕ → Answer Span
piece length = Piece (record { offset = 0; length = length }) true

abbrev pub log : List Event → SideLog
log events = record { events = events; digest = digest }

abbrev pub cycle : ℕ → ℕ → ℕ → ℕ → Cycle
cycle number base alpha beta = record { run = 1; number = number; base = base; alpha_scans = alpha; beta_scans = beta }

-- A file of three bytes stands on alpha; it is staged on beta and placed there; then it is deleted on alpha, and so on beta.
abbrev pub file_row : List (List ℕ × Entry)
file_row = (codes "a", entry.File (stamp 0) false) ∷ []

abbrev pub fetched : ℕ → Event
fetched number = by_cycle number (Fetch a (stamp 0) 0) (piece 3)

abbrev pub lists : ℕ → List (List ℕ × Entry) → Event
lists number rows = by_cycle number (OpList []) (Listed rows)

-- on alpha, with what its root answers in the second cycle
abbrev pub alpha_with : Event → SideLog
alpha_with second = log (lists 1 file_row ∷ fetched 1 ∷ fetched 1 ∷ second ∷ [])

abbrev pub stages : List ℕ → List Event
stages content = by_cycle 1 StageClear Cleared ∷ by_cycle 1 StageOpen Opened ∷ by_cycle 1 (StageAppend (codes "abc")) Opened ∷ by_cycle 1 (StageKeep content) Kept ∷ []

abbrev pub places : List ℕ → Answer Span → Event
places content answer = by_cycle 1 (Place a content false None) answer

abbrev pub placed : Answer Span
placed = Done (Some (stamp 0))

abbrev pub removes : Event
removes = by_cycle 2 (Remove a (entry.File (stamp 0) false)) (Done None)

-- on beta, with the first cycle's staging and changes
abbrev pub beta_with : List Event → SideLog
beta_with changes = log ((lists 1 [] ∷ changes) ++ (by_cycle 1 StageClear Cleared ∷ lists 2 file_row ∷ fetched 2 ∷ removes ∷ []))

abbrev pub first_frame : List AncestorLine → Payload
first_frame lines = Agree V2 1 1 lines

abbrev pub both_lines : List AncestorLine
both_lines = Set [] atom.Dir ∷ Set a (atom.File (100 ∷ []) false) ∷ []

abbrev pub dropped : Payload
dropped = Agree V2 1 2 (Drop a ∷ [])

-- whether the two cycles conserve, with these logs and frames
abbrev pub tried : SideLog → SideLog → List Payload → Bool
tried alpha beta frames = conserves safe (cycle 1 0 1 0 ∷ cycle 2 1 0 1 ∷ []) (record { alpha = alpha; beta = beta; frames = frames })

abbrev pub good_alpha : SideLog
good_alpha = alpha_with (lists 2 [])

abbrev pub good_beta : SideLog
good_beta = beta_with (stages (100 ∷ []) ++ places (100 ∷ []) placed ∷ [])

abbrev pub good_frames : List Payload
good_frames = first_frame both_lines ∷ dropped ∷ []

abbrev pub DeletionTravels : Type 0
DeletionTravels = tried good_alpha good_beta good_frames ≡ true

-- alpha still shows the file that is removed on beta
abbrev pub ShownIsRemoved : Type 0
ShownIsRemoved = tried (alpha_with (lists 2 file_row)) good_beta good_frames ≡ false

-- the first frame lacks a line on which both sides agree; it names one that neither cycle wrote; or the file isn't there
abbrev pub FrameIsUnsound : Type 0
FrameIsUnsound =
    (tried good_alpha good_beta (first_frame (Set a (atom.File (100 ∷ []) false) ∷ []) ∷ dropped ∷ []) ≡ false)
    × (tried good_alpha good_beta (first_frame (Set [] atom.Dir ∷ Set a (atom.File (101 ∷ []) false) ∷ []) ∷ dropped ∷ []) ≡ false)
    × (tried good_alpha (beta_with (stages (100 ∷ []) ++ places (100 ∷ []) (Differs (Some entry.Dir)) ∷ [])) good_frames ≡ false)

-- another content is placed than alpha shows, or the file is placed before it is kept
abbrev pub PlaceIsWrong : Type 0
PlaceIsWrong =
    (tried good_alpha (beta_with (stages (101 ∷ []) ++ places (101 ∷ []) placed ∷ [])) good_frames ≡ false)
    × (tried good_alpha (beta_with (places (100 ∷ []) placed ∷ stages (100 ∷ []))) good_frames ≡ false)

-- alpha's root was deleted, so that the second cycle is halted, and beta is changed all the same
abbrev pub HaltedChanges : Type 0
HaltedChanges = tried (alpha_with (by_cycle 2 (OpList []) (Held None))) good_beta good_frames ≡ false

-- The same without the changes of the second cycle, and without its frame, conserves.
abbrev pub HaltedRests : Type 0
HaltedRests =
    tried (alpha_with (by_cycle 2 (OpList []) (Held None)))
    (log ((lists 1 [] ∷ (stages (100 ∷ []) ++ places (100 ∷ []) placed ∷ [])) ++ (by_cycle 1 StageClear Cleared ∷ lists 2 file_row ∷ fetched 2 ∷ [])))
    (first_frame both_lines ∷ []) ≡ true
