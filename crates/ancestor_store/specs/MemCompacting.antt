-- Compaction of a keeper in memory.
use Rattle.std.specs.Prelude.{◌≡◌, ◌⊎◌, ℕ, ◌+◌, Bool, true, false, ◌||◌, List, [], ◌∷◌, ◌++◌}
use Rattle.frame_text.specs.declared.frame.KeepKey.{KeepKey}
use Rattle.frame_text.specs.declared.frame.KeepKey.TheVariants.{Table, Session}
use Rattle.ancestor_store.specs.Compacting.{Compacts}
use Rattle.ancestor_store.specs.MemKept.{frames_of, same_key}
use Rattle.ancestor_store.specs.declared.mem_keeper.Kept.{Kept}

-- whether a frame of the key is among these
abbrev pub has_key : KeepKey → List Kept → Bool
has_key key [] = false
has_key key (k ∷ kept) = same_key k.key key || has_key key kept

-- these bytes as frames of a key
abbrev pub kept_as : KeepKey → List (List ℕ) → List Kept
kept_as key [] = []
kept_as key (bytes ∷ frames) = record { key = key; bytes = bytes } ∷ kept_as key frames

-- what is kept anew once a key was come to: nothing more for the table or where the session's frames are there, else what compaction makes of these
abbrev pub AfterKey : ℕ → KeepKey → List Kept → List Kept → List Kept → Type 0
AfterKey run Table kept old new = new ≡ old
AfterKey run (Session id) kept old new =
    ((has_key (Session id) old ≡ true) × (new ≡ old))
    ⊎ ((has_key (Session id) old ≡ false) × ((frames : List (List ℕ)) × Compacts run (frames_of (Session id) kept) frames × (new ≡ old ++ kept_as (Session id) frames)))

-- so far the table's frames are there, and of each session what compaction makes of its frames, or none, and then all of them are still to come
pub record InCourse (run : ℕ) (kept new rest : List Kept) : Type 0 where
  pub table : frames_of Table new ≡ frames_of Table kept
  pub sessions : (id : ℕ) → Compacts run (frames_of (Session id) kept) (frames_of (Session id) new)
      ⊎ ((frames_of (Session id) new ≡ []) × (frames_of (Session id) kept ≡ frames_of (Session id) rest))

-- how many frames of sessions there are
abbrev pub sessions_in : KeepKey → ℕ
sessions_in Table = 0
sessions_in (Session id) = 1

abbrev pub sessions_of : List Kept → ℕ
sessions_of [] = 0
sessions_of (k ∷ kept) = sessions_in k.key + sessions_of kept
