-- A keeper in memory.
use Rattle.std.specs.Prelude.{ℕ, Bool, true, false, ◌+◌, ◌-◌, ◌^◌, ◌==◌, cond, min, List, [], ◌∷◌, ◌++◌}
use Rattle.std.specs.List.{list_any}
use Rattle.frame_text.specs.declared.frame.KeepKey.{KeepKey}
use Rattle.frame_text.specs.declared.frame.KeepKey.TheVariants.{Table, Session}
use Rattle.ancestor_store.specs.declared.mem_keeper.Kept.{Kept}

-- the frames that are kept, the numbers of the appends that are to fail, how many appends were made, and how many faults there were
pub record MemKept : Type 0 where
  pub kept : List Kept
  pub failing : List ℕ
  pub made : ℕ
  pub faults : ℕ

-- whether two keys are the same
abbrev pub same_key : KeepKey → KeepKey → Bool
same_key Table Table = true
same_key Table (Session id) = false
same_key (Session id) Table = false
same_key (Session id) (Session other) = id == other

-- the bytes of a key's frames, in order
abbrev pub frames_of : KeepKey → List Kept → List (List ℕ)
frames_of key [] = []
frames_of key (k ∷ kept) = cond (same_key k.key key) (k.bytes ∷ frames_of key kept) (frames_of key kept)

-- whether the next append is to fail
abbrev pub is_to_fail : MemKept → Bool
is_to_fail m = list_any (λ n. n == m.made) m.failing

-- after one append more; their number stays at 2^64 - 1
abbrev pub after_call : MemKept → MemKept
after_call m = record { kept = m.kept; failing = m.failing; made = min (m.made + 1) (2 ^ 64 - 1); faults = m.faults }

-- with a frame more behind all others
abbrev pub with_kept : MemKept → KeepKey → List ℕ → MemKept
with_kept m key bytes = record { kept = m.kept ++ record { key = key; bytes = bytes } ∷ []; failing = m.failing; made = m.made; faults = m.faults }
