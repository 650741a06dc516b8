-- A disk has what it had before, and maybe more; one that tells nothing goes on so.
use Rattle.std.proofs.Common.{◌≡◌, inl, inr, ℕ, List, [], ◌∷◌, ◌++◌, Result, Ok, Err, OnOk, OnErr, ◌∙◌}
use Rattle.disk_model.specs.Content.{Content, Change}
use Rattle.disk_model.specs.Disk.{Writes, Syncs, Cuts, FailsInPart}
use Rattle.disk_model.proofs.Moments.{goes_nowhere, go_on}
use Rattle.frame_journal.specs.Steps.{TellsOn}

from_now : (later : List Content) (now : Content) (past new : List Content) → new ≡ later ++ now ∷ past → TellsOn (now ∷ past) new
from_now later now past new is = record { goes_on = record { later = later; is = is }; silent = λ none. absurd cc }

from_none : (new : List Content) → new ≡ [] → TellsOn [] new
from_none new is = record { goes_on = goes_nowhere [] new is; silent = λ _. is }

pub tells_same : (old new : List Content) → new ≡ old → TellsOn old new
tells_same old new is = record { goes_on = goes_nowhere old new is; silent = λ none. is ∙ none }

pub tells_then : (old mid new : List Content) → TellsOn old mid → TellsOn mid new → TellsOn old new
tells_then old mid new a b = record { goes_on = go_on old mid new a.goes_on b.goes_on; silent = λ none. b.silent (a.silent none) }

pub tells_write : (place : ℕ) (bytes : List ℕ) (old new : List Content) → Writes place bytes old new → TellsOn old new
tells_write place bytes [] new is = from_none new is
tells_write place bytes (now ∷ past) new is = from_now (_ ∷ []) now past new is

pub tells_cut : (n : ℕ) (old new : List Content) → Cuts n old new → TellsOn old new
tells_cut n [] new is = from_none new is
tells_cut n (now ∷ past) new is = from_now (_ ∷ []) now past new is

pub tells_sync : (old new : List Content) → Syncs old new → TellsOn old new
tells_sync [] new is = from_none new is
tells_sync (now ∷ past) new is = from_now (_ ∷ []) now past new is

pub tells_failed : (change : Content → Change) (old new : List Content) → FailsInPart change old new → TellsOn old new
tells_failed change [] new is = from_none new is
tells_failed change (now ∷ past) new (inl is) = from_now [] now past new is
tells_failed change (now ∷ past) new (inr made) = from_now (_ ∷ []) now past new made.2

-- a sync, made or not
pub tells_syncing : {T E : Type 0} (r : Result T E) (old new : List Content) → OnOk r (Syncs old new) → OnErr r (new ≡ old) → TellsOn old new
tells_syncing (Ok x) old new made failed = tells_sync old new made
tells_syncing (Err e) old new made failed = tells_same old new failed

-- a sync, and calls that change nothing
pub tells_synced : (old s l : List Content) → Syncs old s → l ≡ s → TellsOn old l
tells_synced old s l made same = tells_then old s l (tells_sync old s made) (tells_same s l same)
