-- How many turns there are at most for the pieces that are asked for.
use Rattle.std.proofs.Common.{◌≡◌, ℕ, ◌+◌, ◌*◌, ◌≤◌, Bool, true, false, List, [], ◌∷◌, ◌++◌, length, length-append, arith, refl, sym, subst}
use Rattle.std.specs.Prelude.{if◌then◌else◌}
use Rattle.entry_tree.specs.declared.side.Side.{Side}
use Rattle.mode_rules.specs.declared.problem.Problem.{Problem}
use Rattle.roots_api.specs.declared.answer.Answer.{Answer}
use Rattle.roots_api.specs.declared.answer.Answer.TheVariants.{Piece, Changed, TooLarge, Cleared, Opened, Kept, NotStaged, DigestDiffers, Full, Failed}
use Rattle.roots_api.specs.declared.op.Op.{Op}
use Rattle.stage_core.proofs.Runs.{along}
use Rattle.stage_core.specs.Laws.{FewForPieces}
use Rattle.stage_core.specs.Staging.{Digests, Stand, asked, after, first_begun, new_stand, passed, pending}
use Rattle.stage_core.specs.Turns.{Turn, IsTurn, fetches, is_fetch}
use Rattle.stage_core.specs.declared.doing.Doing.{Doing}
use Rattle.stage_core.specs.declared.doing.Doing.TheVariants.{Clearing, Opening, Fetching, Appending, Keeping, Resting}
use Rattle.stage_core.specs.declared.need.Need.{Need}

-- how many turns were spared so far
abbrev spared : Doing → ℕ
spared Clearing = 2
spared Opening = 1
spared (Fetching offset) = 0
spared (Appending bytes end last) = 3
spared Keeping = 2
spared Resting = 0

-- a piece that is asked for gives four turns, and each takes one
abbrev pays : Bool → ℕ
pays true = 4
pays false = 0

begun_spares : (left : List Need) → spared (first_begun left) ≤ 1
begun_spares [] = omega arith
begun_spares (need ∷ behind) = omega arith

module _ (side : Side) (kept : Digests) (missing : List Problem) where
  abbrev at : Doing → List Need → Stand
  at doing left = record { doing = doing; left = left; kept = kept; missing = missing }

  passes : (kept' : Digests) (missing' : List Problem) (left : List Need) (sum : ℕ) → 2 ≤ sum → spared (passed kept' missing' left).doing + 1 ≤ sum
  passes kept' missing' left sum h = let few = begun_spares (pending kept' left) in omega (arith, few)

  pays_for : (op op' : Op) (n m : ℕ) → op ≡ op' → n ≤ m + pays (is_fetch op') → n ≤ m + pays (is_fetch op)
  pays_for op op' n m e h = subst (λ (o : Op). n ≤ m + pays (is_fetch o)) (sym e) h

  paid : (doing : Doing) (left : List Need) (on : Side) (op : Op) (answer : Answer (List ℕ))
      → IsTurn (asked side (at doing left)) (record { side = on; op = op; answer = answer }) → spared (after side (at doing left) answer).doing + 1 ≤ spared doing + pays (is_fetch op)
  paid doing [] on op answer h = absurd h
  paid Clearing (need ∷ behind) on op Cleared h = pays_for op _ _ 2 h.1 (passes kept missing (need ∷ behind) (2 + 0) (omega arith))
  paid Clearing (need ∷ behind) on op (Full room) h = pays_for op _ _ 2 h.1 (omega arith)
  paid Clearing (need ∷ behind) on op Failed h = pays_for op _ _ 2 h.1 (omega arith)
  paid Clearing (need ∷ behind) on op answer h = absurd h.2
  paid Opening (need ∷ behind) on op Opened h = pays_for op _ _ 1 h.1 (omega arith)
  paid Opening (need ∷ behind) on op (Full room) h = pays_for op _ _ 1 h.1 (omega arith)
  paid Opening (need ∷ behind) on op Failed h = pays_for op _ _ 1 h.1 (omega arith)
  paid Opening (need ∷ behind) on op answer h = absurd h.2
  paid (Fetching offset) (need ∷ behind) on op (Piece [] true) h = pays_for op _ _ 0 h.1 (omega arith)
  paid (Fetching offset) (need ∷ behind) on op (Piece [] false) h = absurd (omega (arith, h.2.full))
  paid (Fetching offset) (need ∷ behind) on op (Piece (byte ∷ bytes) last) h = pays_for op _ _ 0 h.1 (omega arith)
  paid (Fetching offset) (need ∷ behind) on op (Changed found) h = pays_for op _ _ 0 h.1 (passes kept missing behind (0 + 4) (omega arith))
  paid (Fetching offset) (need ∷ behind) on op (TooLarge bytes) h = pays_for op _ _ 0 h.1 (passes kept missing behind (0 + 4) (omega arith))
  paid (Fetching offset) (need ∷ behind) on op (Full room) h = pays_for op _ _ 0 h.1 (omega arith)
  paid (Fetching offset) (need ∷ behind) on op Failed h = pays_for op _ _ 0 h.1 (passes kept missing behind (0 + 4) (omega arith))
  paid (Fetching offset) (need ∷ behind) on op answer h = absurd h.2
  paid (Appending bytes end true) (need ∷ behind) on op Opened h = pays_for op _ _ 3 h.1 (omega arith)
  paid (Appending bytes end true) (need ∷ behind) on op NotStaged h = pays_for op _ _ 3 h.1 (omega arith)
  paid (Appending bytes end false) (need ∷ behind) on op Opened h = pays_for op _ _ 3 h.1 (omega arith)
  paid (Appending bytes end false) (need ∷ behind) on op NotStaged h = pays_for op _ _ 3 h.1 (omega arith)
  paid (Appending bytes end last) (need ∷ behind) on op (Full room) h = pays_for op _ _ 3 h.1 (omega arith)
  paid (Appending bytes end last) (need ∷ behind) on op Failed h = pays_for op _ _ 3 h.1 (omega arith)
  paid (Appending bytes end last) (need ∷ behind) on op answer h = absurd h.2
  paid Keeping (need ∷ behind) on op Kept h = pays_for op _ _ 2 h.1 (passes _ missing behind (2 + 0) (omega arith))
  paid Keeping (need ∷ behind) on op NotStaged h = pays_for op _ _ 2 h.1 (passes kept missing behind (2 + 0) (omega arith))
  paid Keeping (need ∷ behind) on op (DigestDiffers wanted got) h = pays_for op _ _ 2 h.1 (passes kept missing behind (2 + 0) (omega arith))
  paid Keeping (need ∷ behind) on op (Full room) h = pays_for op _ _ 2 h.1 (omega arith)
  paid Keeping (need ∷ behind) on op Failed h = pays_for op _ _ 2 h.1 (omega arith)
  paid Keeping (need ∷ behind) on op answer h = absurd h.2
  paid Resting (need ∷ behind) on op answer h = absurd h

fetches_more : (before : List Turn) (t : Turn) → 4 * fetches (before ++ t ∷ []) ≡ 4 * fetches before + pays (is_fetch t.op)
fetches_more [] t = elim (is_fetch t.op) as (λ b. 4 * (if b then 0 + 1 else 0) ≡ 4 * 0 + pays b) [ true ↦ refl | false ↦ refl ]
fetches_more (u ∷ before) t =
    let rest : 4 * fetches (before ++ t ∷ []) ≡ 4 * fetches before + pays (is_fetch t.op) = fetches_more before t in
    elim (is_fetch u.op) as (λ b. 4 * (if b then fetches (before ++ t ∷ []) + 1 else fetches (before ++ t ∷ [])) ≡ 4 * (if b then fetches before + 1 else fetches before) + pays (is_fetch t.op)) [
      | true ↦ omega (arith, rest)
      | false ↦ rest
    ]

-- four turns for each piece that was asked for, and two more, less those that were spared
abbrev IsPaid : List Turn → Stand → Type 0
IsPaid turns s = length turns + spared s.doing ≤ 4 * fetches turns + 2

paid_more : (side : Side) (before : List Turn) (s : Stand) (t : Turn) → IsPaid before s → IsTurn (asked side s) t → IsPaid (before ++ t ∷ []) (after side s t.answer)
paid_more side before s t few h =
    let turn : spared (after side s t.answer).doing + 1 ≤ spared s.doing + pays (is_fetch t.op) = paid side s.kept s.missing s.doing s.left t.side t.op t.answer h in
    let longer : length (before ++ t ∷ []) ≡ length before + 1 = length-append before (t ∷ []) in
    let more = fetches_more before t in
    let so : length before + spared s.doing ≤ 4 * fetches before + 2 = few in
    omega (arith, turn, longer, more, so)

paid_first : (needs : List Need) → IsPaid [] (new_stand needs)
paid_first [] = omega arith
paid_first (need ∷ needs) = omega arith

pub few_for_pieces : FewForPieces
few_for_pieces side needs turns c =
    let so : length turns + _ ≤ 4 * fetches turns + 2 = along side IsPaid (paid_more side) [] (new_stand needs) turns (paid_first needs) c in
    omega (arith, so)
