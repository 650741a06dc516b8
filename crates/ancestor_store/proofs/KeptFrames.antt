-- The frames of a key in a keeper in memory.
use Rattle.std.proofs.Common.{◌≡◌, ℕ, Bool, true, false, cond, List, [], ◌∷◌, ◌++◌, refl, sym, ap, ◌∙◌, append_assoc, arith}
use Rattle.std.specs.Prelude.{◌≢◌, ◌==◌, Result, Ok, Err, OnOk, OnErr}
use Rattle.std.proofs.lemmas.Bool.Decides.{nat_tests}
use Rattle.std.proofs.lemmas.List.{append-nil}
use Rattle.frame_text.specs.declared.frame.KeepKey.{KeepKey}
use Rattle.frame_text.specs.declared.frame.KeepKey.TheVariants.{Table, Session}
use Rattle.frame_text.specs.Frames.{frame_bytes}
use Rattle.frame_text.specs.declared.frame.Frame.{Frame}
use Rattle.ancestor_store.specs.Keeping.{Appends}
use Rattle.ancestor_store.specs.MemKept.{MemKept, after_call, frames_of, same_key, with_kept}
use Rattle.ancestor_store.specs.declared.keeper.KeepError.{KeepError}
use Rattle.ancestor_store.specs.declared.mem_keeper.Kept.{Kept}

frames_behind : (key : KeepKey) (kept : List Kept) (k : Kept) → frames_of key (kept ++ k ∷ []) ≡ frames_of key kept ++ frames_of key (k ∷ [])
frames_behind key [] k = refl
frames_behind key (x ∷ kept) k = by (same_key x.key key) (frames_behind key kept k)
  where
    by : (b : Bool) → frames_of key (kept ++ k ∷ []) ≡ frames_of key kept ++ frames_of key (k ∷ [])
        → cond b (x.bytes ∷ frames_of key (kept ++ k ∷ [])) (frames_of key (kept ++ k ∷ [])) ≡ cond b (x.bytes ∷ frames_of key kept) (frames_of key kept) ++ frames_of key (k ∷ [])
    by true e = ap (λ fs. x.bytes ∷ fs) e
    by false e = e

number_itself : (n : ℕ) → (n == n) ≡ true
number_itself n = grind (arith, nat_tests)

pub same_itself : (key : KeepKey) → same_key key key ≡ true
same_itself Table = refl
same_itself (Session id) = number_itself id

number_is : (m n : ℕ) → (m == n) ≡ true → m ≡ n
number_is m n h = grind (arith, nat_tests)

pub same_is : (key other : KeepKey) → same_key key other ≡ true → other ≡ key
same_is Table Table h = refl
same_is Table (Session id) h = absurd (cc)
same_is (Session id) Table h = absurd (cc)
same_is (Session id) (Session other) h = ap Session (sym (number_is id other h))

other_is : (key other : KeepKey) → other ≢ key → same_key key other ≡ false
other_is key other h = by (same_key key other) refl
  where
    by : (b : Bool) → same_key key other ≡ b → b ≡ false
    by true e = absurd (h (same_is key other e))
    by false e = refl

-- an append adds its bytes to the frames of its key
pub appended : (key : KeepKey) (kept : List Kept) (bytes : List ℕ) → frames_of key (kept ++ record { key = key; bytes = bytes } ∷ []) ≡ frames_of key kept ++ bytes ∷ []
appended key kept bytes =
    frames_behind key kept _ ∙ ap (λ b. frames_of key kept ++ cond b (bytes ∷ []) []) (same_itself key)

-- and none to those of another
pub others_stay : (key other : KeepKey) (kept : List Kept) (bytes : List ℕ) → other ≢ key → frames_of other (kept ++ record { key = key; bytes = bytes } ∷ []) ≡ frames_of other kept
others_stay key other kept bytes h =
    frames_behind other kept _ ∙ ap (λ b. frames_of other kept ++ cond b (bytes ∷ []) []) (other_is key other h) ∙ append-nil (frames_of other kept)

-- one more of them was gone over
pub frames_left : (key : KeepKey) (one : Kept) (left : List Kept) (done : List (List ℕ)) → same_key one.key key ≡ true → done ++ frames_of key (one ∷ left) ≡ (done ++ one.bytes ∷ []) ++ frames_of key left
frames_left key one left done e =
    ap (λ b. done ++ cond b (one.bytes ∷ frames_of key left) (frames_of key left)) e ∙ sym (append_assoc done (one.bytes ∷ []) (frames_of key left))

pub frames_passed : (key : KeepKey) (one : Kept) (left : List Kept) (done : List (List ℕ)) → same_key one.key key ≡ false → done ++ frames_of key (one ∷ left) ≡ done ++ frames_of key left
frames_passed key one left done e = ap (λ b. done ++ cond b (one.bytes ∷ frames_of key left) (frames_of key left)) e

-- an append that went through, or that found no memory
pub kept_frames : (result : Result Unit KeepError) (old mid new : MemKept) (key : KeepKey) (frame : Frame) (bytes : List ℕ) → mid ≡ after_call old → bytes ≡ frame_bytes frame
    → OnOk result (new ≡ with_kept mid key bytes) → OnErr result (new ≡ mid) → Appends frame result (frames_of key old.kept) (frames_of key new.kept)
kept_frames (Ok done) old mid new key frame bytes m b h k =
    ap (λ (x : MemKept). frames_of key x.kept) h ∙ appended key mid.kept bytes
    ∙ ap (λ (x : MemKept). frames_of key x.kept ++ bytes ∷ []) m ∙ ap (λ bs. frames_of key old.kept ++ bs ∷ []) b
kept_frames (Err error) old mid new key frame bytes m b h k =
    ap (λ (x : MemKept). frames_of key x.kept) k ∙ ap (λ (x : MemKept). frames_of key x.kept) m

pub kept_others : (result : Result Unit KeepError) (old mid new : MemKept) (key : KeepKey) (bytes : List ℕ) → mid ≡ after_call old
    → OnOk result (new ≡ with_kept mid key bytes) → OnErr result (new ≡ mid) → (other : KeepKey) → other ≢ key → frames_of other new.kept ≡ frames_of other old.kept
kept_others (Ok done) old mid new key bytes m h k other apart =
    ap (λ (x : MemKept). frames_of other x.kept) h ∙ others_stay key other mid.kept bytes apart ∙ ap (λ (x : MemKept). frames_of other x.kept) m
kept_others (Err error) old mid new key bytes m h k other apart =
    ap (λ (x : MemKept). frames_of other x.kept) k ∙ ap (λ (x : MemKept). frames_of other x.kept) m
