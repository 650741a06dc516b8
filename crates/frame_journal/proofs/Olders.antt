-- What a spare disk's file opens with, and what writes and cuts leave of it.
use Rattle.std.proofs.Common.{◌≡◌, ◌≢◌, ◌⊎◌, inl, inr, ℕ, ◌+◌, ◌≤◌, min, List, [], ◌∷◌, ◌++◌, length, take, drop, get_or, refl, ap, sym, subst, ◌∙◌, arith}
use Rattle.std.proofs.lemmas.Bool.{cases_eq}
use Rattle.std.proofs.lemmas.List.{length-take, append-nil, drop_all, drop_more}
use Rattle.disk_model.specs.Content.{TornWrite, TornCut, written_over}
use Rattle.frame_journal.specs.Layout.{frames, ArePayloads, OpensWith, IsAtRest}
use Rattle.frame_journal.specs.Reading.{BeginsShut}
use Rattle.frame_journal.specs.Older.{StandsBehind, OpensLesser, IsOlder, behind_first}
use Rattle.frame_journal.proofs.Gates.{no_gap, byte_written}

heads : (x y : ℕ) (xs ys : List ℕ) → x ∷ xs ≡ y ∷ ys → x ≡ y
heads x y xs ys e = cc

-- behind a shut gate nothing counts
pub shut_opens : (loses : ℕ → Type 0) → loses 0 → (file : List ℕ) → BeginsShut file → OpensLesser loses file
shut_opens loses least [] shut = absurd shut
shut_opens loses least (gate ∷ rest) shut = ([], inr (record { gate = gate; rest = rest; split = refl; shut = shut; fit = tt }), least)

-- an older file opens with frames of a lesser generation, whatever its first gate
pub older_opens : (loses : ℕ → Type 0) → loses 0 → (file : List ℕ) → IsOlder loses file → OpensLesser loses file
older_opens loses least file (inl short) = ([], inl (refl, short), least)
older_opens loses least file (inr older) = elim (cases_eq older.1.gate 1) [
  | inl open_gate ↦ (older.2.0, subst (λ f. OpensWith older.2.0 f) (sym (older.1.split ∙ ap (λ k. k ∷ older.0) open_gate)) older.2.1, older.2.2)
  | inr shut ↦ ([], inr (record { gate = older.1.gate; rest = older.0; split = older.1.split; shut = shut; fit = tt }), least)
]

-- its first gate, torn anyhow
pub older_torn : (loses : ℕ → Type 0) (from : ℕ) (file image : List ℕ) → IsOlder loses file → TornWrite from 1 file image → IsOlder loses image
older_torn loses from file image (inl short) torn = inl (omega (arith, torn.no_longer, short))
older_torn loses from file image (inr older) torn =
    let size : 1 ≤ length file = omega (arith, ap length older.1.split) in
    let rest : drop 1 file ≡ older.0 = ap (drop 1) older.1.split in
    inr (
      older.0,
      record {
        gate = get_or image 0 0;
        split = drop_more image 0 0 (omega (arith, torn.no_shorter, size)) ∙ ap (λ l. get_or image 0 0 ∷ l) (torn.behind ∙ rest);
      },
      older.2,
    )

-- its first gate, shut
pub first_shut : (file : List ℕ) → BeginsShut (written_over file 0 (0 ∷ []))
first_shut file =
    let is : written_over file 0 (0 ∷ []) ≡ 0 ∷ drop 1 file = no_gap file 0 (0 ∷ []) (omega arith) (omega arith) in
    let shut : 0 ≢ 1 = omega arith in
    subst BeginsShut (sym is) shut

-- a file whose first byte stays, stays shut
shut_front : (file image : List ℕ) → take 1 image ≡ take 1 file → BeginsShut file → BeginsShut image
shut_front [] image same shut = absurd shut
shut_front (g ∷ file) [] same shut = absurd cc
shut_front (g ∷ file) (h ∷ image) same shut = subst (λ k. k ≢ 1) (sym (heads h g [] [] same)) shut

pub shut_long : (file : List ℕ) → BeginsShut file → 1 ≤ length file
shut_long [] shut = absurd shut
shut_long (g ∷ file) shut = omega arith

-- a write behind the gate, torn anyhow
pub behind_torn : (now file image : List ℕ) (upto : ℕ) → BeginsShut now → BeginsShut file → TornWrite (min 1 (length now)) upto file image → BeginsShut image
behind_torn now file image upto now_shut shut torn =
    let one : min 1 (length now) ≡ 1 = omega (arith, shut_long now now_shut) in
    shut_front file image (subst (λ k. take k image ≡ take k file) one torn.before) shut

-- a cut behind the gate, torn anyhow
pub cut_torn : (file image : List ℕ) → BeginsShut file → TornCut 1 file image → BeginsShut image
cut_torn [] image shut torn = absurd shut
cut_torn (g ∷ file) [] shut torn = absurd (omega (arith, torn.no_shorter))
cut_torn (g ∷ file) (h ∷ image) shut torn = subst (λ k. k ≢ 1) (heads g h (take (length image) file) image torn.front) shut

-- the same cut, made
pub cut_shut : (file : List ℕ) → BeginsShut file → BeginsShut (take 1 file)
cut_shut [] shut = shut
cut_shut (g ∷ file) shut = shut

pub cut_older : (loses : ℕ → Type 0) (file : List ℕ) → IsOlder loses (take 1 file)
cut_older loses file = inl (omega (arith, length-take 1 file))

-- and bytes written behind the gate
pub cut_written : (file bytes : List ℕ) → BeginsShut file → StandsBehind [] bytes (written_over (take 1 file) 1 bytes)
cut_written [] bytes shut = absurd shut
cut_written (g ∷ file) [] shut = record { gate = g; split = refl }
cut_written (g ∷ file) (b ∷ bytes) shut = record {
  gate = g;
  split = no_gap (g ∷ []) 1 (b ∷ bytes) (omega arith) (omega arith)
      ∙ ap (λ l. (g ∷ []) ++ (b ∷ bytes) ++ l) (drop_all (1 + length (b ∷ bytes)) (g ∷ []) (omega arith))
      ∙ append-nil (g ∷ b ∷ bytes);
}

module _ (p : List ℕ) (ps : List (List ℕ)) (fit : ArePayloads (p ∷ ps)) where
  whole : 1 ∷ behind_first (p ∷ ps) ≡ frames (p ∷ ps) ++ 0 ∷ []
  whole = refl

  -- a checkpoint's frames count or they don't
  pub checkpoint_opens : (loses : ℕ → Type 0) → loses 0 → (file : List ℕ) → StandsBehind [] (behind_first (p ∷ ps)) file → OpensLesser loses file ⊎ OpensWith (p ∷ ps) file
  checkpoint_opens loses least file stands = elim (cases_eq stands.gate 1) [
    | inl open_gate ↦ inr (inr (record {
      gate = 0;
      rest = [];
      split = stands.split ∙ ap (λ k. k ∷ behind_first (p ∷ ps)) open_gate ∙ whole;
      shut = omega arith;
      fit = fit;
    }))
    | inr shut ↦ inl ([], inr (record { gate = stands.gate; rest = behind_first (p ∷ ps); split = stands.split; shut = shut; fit = tt }), least)
  ]

  -- their first gate, opened
  pub checkpoint_rests : (file : List ℕ) → StandsBehind [] (behind_first (p ∷ ps)) file → IsAtRest (p ∷ ps) (length (frames (p ∷ ps))) (written_over file 0 (1 ∷ []))
  checkpoint_rests file stands = record {
    gate = 0;
    split = byte_written [] (behind_first (p ∷ ps)) 0 refl file 1 stands ∙ whole;
    shut = omega arith;
    fit = fit;
    at = refl;
  }
