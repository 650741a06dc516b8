-- How many turns there are at most for the files.
use Rattle.std.proofs.Common.{◌≡◌, ℕ, ◌+◌, ◌-◌, ◌*◌, ◌<◌, ◌≤◌, true, false, List, [], ◌∷◌, ◌++◌, length, length-append, arith, refl}
use Rattle.entry_tree.specs.declared.side.Side.{Side}
use Rattle.mode_rules.specs.declared.problem.Problem.{Problem}
use Rattle.roots_api.specs.declared.answer.Answer.{Answer}
use Rattle.roots_api.specs.declared.answer.Answer.TheVariants.{Piece, Changed, TooLarge, Cleared, Opened, Kept, NotStaged, DigestDiffers, Full, Failed}
use Rattle.roots_api.specs.declared.op.Op.{Op}
use Rattle.stage_core.proofs.Pending.{pending_shorter}
use Rattle.stage_core.proofs.Runs.{along}
use Rattle.stage_core.specs.Laws.{FewForFiles}
use Rattle.stage_core.specs.Staging.{Digests, Stand, asked, after, first_begun, new_stand, passed, pending}
use Rattle.stage_core.specs.Turns.{Turn, IsTurn}
use Rattle.stage_core.specs.declared.doing.Doing.{Doing}
use Rattle.stage_core.specs.declared.doing.Doing.TheVariants.{Clearing, Opening, Fetching, Appending, Keeping, Resting}
use Rattle.stage_core.specs.declared.need.Need.{Need}

-- a number of whole pieces, less than a file can have
record IsWhole (end : ℕ) : Type 0 where
  count : ℕ
  is : end ≡ 65536 * count
  below : end < 16777216

-- what is fetched before the last piece is whole
abbrev AreWhole : Doing → Type 0
AreWhole (Fetching offset) = IsWhole offset
AreWhole (Appending bytes end false) = IsWhole end
AreWhole doing = Unit {0}

-- 65,536 times the turns that there can still be for the file in hand
abbrev weight_in_hand : Doing → ℕ
weight_in_hand Clearing = 33685504 + 65536
weight_in_hand Opening = 33685504
weight_in_hand (Fetching offset) = 2 * (16777216 - offset) + 65536
weight_in_hand (Appending bytes end true) = 131072
weight_in_hand (Appending bytes end false) = 2 * (16777216 - end) + 131072
weight_in_hand Keeping = 65536
weight_in_hand Resting = 0

-- and for all
abbrev weight : Doing → List Need → ℕ
weight doing [] = 0
weight doing (need ∷ behind) = weight_in_hand doing + 33685504 * length behind

-- what is begun weighs no more than its files
begun_light : (left : List Need) (n : ℕ) → length left ≤ n → weight (first_begun left) left ≤ 33685504 * n
begun_light [] n h = omega arith
begun_light (need ∷ behind) n h = omega arith

begun_whole : (left : List Need) → AreWhole (first_begun left)
begun_whole [] = tt
begun_whole (need ∷ behind) = tt

module _ (side : Side) (kept : Digests) (missing : List Problem) where
  abbrev at : Doing → List Need → Stand
  at doing left = record { doing = doing; left = left; kept = kept; missing = missing }

  abbrev Lighter : ℕ → Stand → Type 0
  Lighter before s = (weight s.doing s.left + 65536 ≤ before) × AreWhole s.doing

  goes_on : (kept' : Digests) (missing' : List Problem) (left : List Need) (before : ℕ) → 33685504 * length left + 65536 ≤ before → Lighter before (passed kept' missing' left)
  goes_on kept' missing' left before h =
      let light : weight (first_begun (pending kept' left)) (pending kept' left) ≤ 33685504 * length left = begun_light (pending kept' left) (length left) (pending_shorter kept' left) in
      (omega (arith, light, h), begun_whole (pending kept' left))

  lighter : (doing : Doing) (left : List Need) (on : Side) (op : Op) (answer : Answer (List ℕ)) → AreWhole doing
      → IsTurn (asked side (at doing left)) (record { side = on; op = op; answer = answer }) → Lighter (weight doing left) (after side (at doing left) answer)
  lighter doing [] on op answer w h = absurd h
  lighter Clearing (need ∷ behind) on op Cleared w h = goes_on kept missing (need ∷ behind) (33685504 + 65536 + 33685504 * length behind) (omega arith)
  lighter Clearing (need ∷ behind) on op (Full room) w h = (omega arith, tt)
  lighter Clearing (need ∷ behind) on op Failed w h = (omega arith, tt)
  lighter Clearing (need ∷ behind) on op answer w h = absurd h.2
  lighter Opening (need ∷ behind) on op Opened w h = (omega arith, record { count = 0; is = refl; below = omega arith })
  lighter Opening (need ∷ behind) on op (Full room) w h = (omega arith, tt)
  lighter Opening (need ∷ behind) on op Failed w h = (omega arith, tt)
  lighter Opening (need ∷ behind) on op answer w h = absurd h.2
  lighter (Fetching offset) (need ∷ behind) on op (Piece [] true) w h = let is = w.is in let below = w.below in (omega arith, tt)
  lighter (Fetching offset) (need ∷ behind) on op (Piece [] false) w h = absurd (omega (arith, h.2.full))
  lighter (Fetching offset) (need ∷ behind) on op (Piece (byte ∷ bytes) true) w h = let is = w.is in let below = w.below in (omega arith, tt)
  lighter (Fetching offset) (need ∷ behind) on op (Piece (byte ∷ bytes) false) w h =
      let is : offset ≡ 65536 * w.count = w.is in
      let full : length (byte ∷ bytes) ≡ 65536 = h.2.full in
      let ends : offset + 65536 < 16777216 = h.2.ends in
      (omega arith, record { count = w.count + 1; is = omega arith; below = omega arith })
  lighter (Fetching offset) (need ∷ behind) on op (Changed found) w h = let below = w.below in goes_on kept missing behind (2 * (16777216 - offset) + 65536 + 33685504 * length behind) (omega arith)
  lighter (Fetching offset) (need ∷ behind) on op (TooLarge bytes) w h = let below = w.below in goes_on kept missing behind (2 * (16777216 - offset) + 65536 + 33685504 * length behind) (omega arith)
  lighter (Fetching offset) (need ∷ behind) on op (Full room) w h = (omega arith, tt)
  lighter (Fetching offset) (need ∷ behind) on op Failed w h = let below = w.below in goes_on kept missing behind (2 * (16777216 - offset) + 65536 + 33685504 * length behind) (omega arith)
  lighter (Fetching offset) (need ∷ behind) on op answer w h = absurd h.2
  lighter (Appending bytes end true) (need ∷ behind) on op Opened w h = (omega arith, tt)
  lighter (Appending bytes end true) (need ∷ behind) on op NotStaged w h = (omega arith, tt)
  lighter (Appending bytes end true) (need ∷ behind) on op (Full room) w h = (omega arith, tt)
  lighter (Appending bytes end true) (need ∷ behind) on op Failed w h = (omega arith, tt)
  lighter (Appending bytes end true) (need ∷ behind) on op answer w h = absurd h.2
  lighter (Appending bytes end false) (need ∷ behind) on op Opened w h = (omega arith, w)
  lighter (Appending bytes end false) (need ∷ behind) on op NotStaged w h = (omega arith, w)
  lighter (Appending bytes end false) (need ∷ behind) on op (Full room) w h = (omega arith, tt)
  lighter (Appending bytes end false) (need ∷ behind) on op Failed w h = (omega arith, tt)
  lighter (Appending bytes end false) (need ∷ behind) on op answer w h = absurd h.2
  lighter Keeping (need ∷ behind) on op Kept w h = goes_on _ missing behind (65536 + 33685504 * length behind) (omega arith)
  lighter Keeping (need ∷ behind) on op NotStaged w h = goes_on kept missing behind (65536 + 33685504 * length behind) (omega arith)
  lighter Keeping (need ∷ behind) on op (DigestDiffers wanted got) w h = goes_on kept missing behind (65536 + 33685504 * length behind) (omega arith)
  lighter Keeping (need ∷ behind) on op (Full room) w h = (omega arith, tt)
  lighter Keeping (need ∷ behind) on op Failed w h = (omega arith, tt)
  lighter Keeping (need ∷ behind) on op answer w h = absurd h.2
  lighter Resting (need ∷ behind) on op answer w h = absurd h

-- the turns so far and those that there can still be
record IsFew (total : ℕ) (turns : List Turn) (s : Stand) : Type 0 where
  sum : 65536 * length turns + weight s.doing s.left ≤ total
  whole : AreWhole s.doing

few_more : (side : Side) (total : ℕ) (before : List Turn) (s : Stand) (t : Turn) → IsFew total before s → IsTurn (asked side s) t → IsFew total (before ++ t ∷ []) (after side s t.answer)
few_more side total before s t few h =
    let next = lighter side s.kept s.missing s.doing s.left t.side t.op t.answer few.whole h in
    let drop : weight (after side s t.answer).doing (after side s t.answer).left + 65536 ≤ weight s.doing s.left = next.0 in
    let sum = few.sum in
    let longer : length (before ++ t ∷ []) ≡ length before + 1 = length-append before (t ∷ []) in
    record { sum = omega (arith, drop, sum, longer); whole = next.1 }

few_first : (needs : List Need) → IsFew (65536 * (514 * length needs + 1)) [] (new_stand needs)
few_first [] = record { sum = omega arith; whole = tt }
few_first (need ∷ needs) = record { sum = omega arith; whole = tt }

pub few_for_files : FewForFiles
few_for_files side needs turns c =
    let few = along side (IsFew (65536 * (514 * length needs + 1))) (few_more side (65536 * (514 * length needs + 1))) [] (new_stand needs) turns (few_first needs) c in
    let sum = few.sum in
    omega (arith, sum)
