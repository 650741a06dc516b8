-- At its end each file of a staging is kept or missing.
use Rattle.std.proofs.Common.{◌≡◌, ℕ, ◌+◌, Bool, true, false, ◌||◌, List, [], ◌∷◌, ◌++◌, None, append-nil, refl, sym, subst, ap, ◌∙◌}
use Rattle.std.proofs.lemmas.List.Folds.{list_any-append}
use Rattle.std.specs.FinMap as map
use Rattle.std.specs.Cmp.Lexicographic.{slice_cmp}
use Rattle.std.specs.List.{list_any, list_all}
use Rattle.std.specs.Ordering.{nat_cmp}
use Rattle.std.specs.Prelude.{is_some}
use Rattle.entry_tree.specs.declared.side.Side.{Side}
use Rattle.mode_rules.specs.declared.problem.Cause.{Cause}
use Rattle.mode_rules.specs.declared.problem.Cause.TheVariants as cause
use Rattle.mode_rules.specs.declared.problem.Problem.{Problem}
use Rattle.roots_api.specs.declared.answer.Answer.{Answer}
use Rattle.roots_api.specs.declared.answer.Answer.TheVariants.{Piece, Changed, TooLarge, Cleared, Opened, Kept, NotStaged, DigestDiffers, Full, Failed}
use Rattle.roots_api.specs.declared.op.Op.{Op}
use Rattle.stage_core.proofs.Accounts.{Accounts, AreDone, one_turn, one_kept, one_missing, passed_accounts}
use Rattle.stage_core.proofs.Runs.{along}
use Rattle.stage_core.specs.Laws.{EachKeptOrMissing}
use Rattle.stage_core.specs.Staging.{Digests, Stand, asked, after, new_stand, passed, with_piece, behind_piece}
use Rattle.stage_core.specs.Turns.{Turn, IsTurn, is_kept_or_missing, stops, stops_by, stand_of}
use Rattle.stage_core.specs.declared.doing.Doing.{Doing}
use Rattle.stage_core.specs.declared.doing.Doing.TheVariants.{Clearing, Opening, Fetching, Appending, Keeping, Resting}
use Rattle.stage_core.specs.declared.need.Need.{Need}

none_left : (a b : Bool) → (a || b) ≡ false → (a ≡ false) × (b ≡ false)
none_left true b h = absurd (cc)
none_left false b h = (refl, h)

module _ (side : Side) (needs : List Need) (before : List Turn) (kept : Digests) (missing : List Problem) where
  abbrev at : Doing → List Need → Stand
  at doing left = record { doing = doing; left = left; kept = kept; missing = missing }

  abbrev Goes : Doing → List Need → Side → Op → Answer (List ℕ) → Type 0
  Goes doing left on op answer = Accounts needs (before ++ (record { side = on; op = op; answer = answer }) ∷ []) (after side (at doing left) answer)

  stays : (doing : Doing) (left : List Need) (t : Turn) → (doing ≡ Resting → ⊥) → AreDone needs before kept missing left → Accounts needs (before ++ t ∷ []) (at doing left)
  stays doing left t awake d = record { done = one_turn needs before t kept missing left d; whole = λ e. absurd (awake e) }

  leaves : (t : Turn) (need : Need) (behind : List Need) (why : Cause) → AreDone needs before kept missing (need ∷ behind)
      → Accounts needs (before ++ t ∷ []) (passed kept (missing ++ (record { side = side; path = need.path; cause = why }) ∷ []) behind)
  leaves t need behind why d =
      passed_accounts needs (before ++ t ∷ []) kept (missing ++ (record { side = side; path = need.path; cause = why }) ∷ []) behind
      (one_missing needs before t kept missing need behind (record { side = side; path = need.path; cause = why }) refl d)

  awake_behind : (end : ℕ) (last : Bool) → behind_piece end last ≡ Resting → ⊥
  awake_behind end true e = cc
  awake_behind end false e = cc

  goes : (doing : Doing) (left : List Need) (on : Side) (op : Op) (answer : Answer (List ℕ)) → AreDone needs before kept missing left
      → IsTurn (asked side (at doing left)) (record { side = on; op = op; answer = answer }) → stops_by op answer ≡ false → Goes doing left on op answer
  goes doing [] on op answer d h go = absurd h
  goes doing (need ∷ behind) on op (Full room) d h go = absurd (cc)
  goes Clearing (need ∷ behind) on op Cleared d h go = passed_accounts needs _ kept missing (need ∷ behind) (one_turn needs before _ kept missing (need ∷ behind) d)
  goes Clearing (need ∷ behind) on op Failed d h go = absurd (cc (ap (λ (o : Op). stops_by o Failed) h.1))
  goes Clearing (need ∷ behind) on op answer d h go = absurd h.2
  goes Opening (need ∷ behind) on op Opened d h go = stays (Fetching 0) (need ∷ behind) _ (λ e. cc) d
  goes Opening (need ∷ behind) on op Failed d h go = absurd (cc (ap (λ (o : Op). stops_by o Failed) h.1))
  goes Opening (need ∷ behind) on op answer d h go = absurd h.2
  goes (Fetching offset) (need ∷ behind) on op (Piece [] last) d h go = stays (behind_piece (offset + 0) last) (need ∷ behind) _ (awake_behind (offset + 0) last) d
  goes (Fetching offset) (need ∷ behind) on op (Piece (byte ∷ bytes) last) d h go = stays (with_piece (byte ∷ bytes) _ last) (need ∷ behind) _ (λ e. cc) d
  goes (Fetching offset) (need ∷ behind) on op (Changed found) d h go = leaves _ need behind cause.Changed d
  goes (Fetching offset) (need ∷ behind) on op (TooLarge bytes) d h go = leaves _ need behind cause.TooLarge d
  goes (Fetching offset) (need ∷ behind) on op Failed d h go = leaves _ need behind cause.Failed d
  goes (Fetching offset) (need ∷ behind) on op answer d h go = absurd h.2
  goes (Appending bytes end last) (need ∷ behind) on op Opened d h go = stays (behind_piece end last) (need ∷ behind) _ (awake_behind end last) d
  goes (Appending bytes end last) (need ∷ behind) on op NotStaged d h go = stays (behind_piece end last) (need ∷ behind) _ (awake_behind end last) d
  goes (Appending bytes end last) (need ∷ behind) on op Failed d h go = absurd (cc (ap (λ (o : Op). stops_by o Failed) h.1))
  goes (Appending bytes end last) (need ∷ behind) on op answer d h go = absurd h.2
  goes Keeping (need ∷ behind) on op Kept d h go =
      passed_accounts needs _ (map.insert kept need.digest tt) missing behind (one_kept needs before _ kept missing need behind h.1 refl d)
  goes Keeping (need ∷ behind) on op NotStaged d h go = leaves _ need behind cause.NotStaged d
  goes Keeping (need ∷ behind) on op (DigestDiffers wanted got) d h go = leaves _ need behind (cause.DigestDiffers wanted got) d
  goes Keeping (need ∷ behind) on op Failed d h go = absurd (cc (ap (λ (o : Op). stops_by o Failed) h.1))
  goes Keeping (need ∷ behind) on op answer d h go = absurd h.2
  goes Resting (need ∷ behind) on op answer d h go = absurd h

-- what is accounted for, where no turn ended it
abbrev Keeps : List Need → List Turn → Stand → Type 0
Keeps needs turns s = list_any stops turns ≡ false → Accounts needs turns s

keeps_more : (side : Side) (needs : List Need) (before : List Turn) (s : Stand) (t : Turn) → Keeps needs before s → IsTurn (asked side s) t → Keeps needs (before ++ t ∷ []) (after side s t.answer)
keeps_more side needs before s t old h go =
    let parts = none_left (list_any stops before) (stops t || false) (sym (list_any-append stops before (t ∷ [])) ∙ go) in
    let here = none_left (stops t) false parts.1 in
    goes side needs before s.kept s.missing s.doing s.left t.side t.op t.answer (old parts.0).done h here.0

first_whole : (needs : List Need) → (new_stand needs).doing ≡ Resting → needs ≡ []
first_whole [] e = refl
first_whole (need ∷ needs) e = absurd (cc)

keeps_first : (needs : List Need) → Keeps needs [] (new_stand needs)
keeps_first needs go = record {
  done = record { done = []; joined = refl; fine = refl; said = λ q h. let bad : false ≡ true = sym (ap is_some (map.get-empty {X = Unit {0}} (slice_cmp nat_cmp) q)) ∙ h in absurd (cc) };
  whole = first_whole needs;
}

rests : (side : Side) (doing : Doing) (left : List Need) (kept : Digests) (missing : List Problem)
    → asked side (record { doing = doing; left = left; kept = kept; missing = missing }) ≡ None → (doing ≡ Resting → left ≡ []) → left ≡ []
rests side doing [] kept missing e whole = refl
rests side Clearing (need ∷ left) kept missing e whole = absurd (cc)
rests side Opening (need ∷ left) kept missing e whole = absurd (cc)
rests side (Fetching offset) (need ∷ left) kept missing e whole = absurd (cc)
rests side (Appending bytes end last) (need ∷ left) kept missing e whole = absurd (cc)
rests side Keeping (need ∷ left) kept missing e whole = absurd (cc)
rests side Resting (need ∷ left) kept missing e whole = whole refl

pub each_kept_or_missing : EachKeptOrMissing
each_kept_or_missing side needs turns c whole go =
    let s : Stand = stand_of side needs turns in
    let all : Accounts needs turns s = along side (Keeps needs) (keeps_more side needs) [] (new_stand needs) turns (keeps_first needs) c go in
    let none : s.left ≡ [] = rests side s.doing s.left s.kept s.missing whole all.whole in
    let joined : needs ≡ all.done.done = all.done.joined ∙ (ap (λ (l : List Need). all.done.done ++ l) none ∙ append-nil all.done.done) in
    subst (λ (l : List Need). list_all (is_kept_or_missing turns s.missing) l ≡ true) (sym joined) all.done.fine
