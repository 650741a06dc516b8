-- A turn that ends a staging.
use Rattle.std.proofs.Common.{◌≡◌, ℕ, true, List, [], ◌∷◌, None, refl, sym, subst, ap}
use Rattle.entry_tree.specs.declared.side.Side.{Side}
use Rattle.roots_api.specs.declared.answer.Answer.{Answer}
use Rattle.roots_api.specs.declared.answer.Answer.TheVariants.{Full, Failed}
use Rattle.roots_api.specs.declared.op.Op.{Op}
use Rattle.stage_core.proofs.Runs.{last_turn, told_by, told_more}
use Rattle.stage_core.specs.Laws.{StopsAtOnce}
use Rattle.stage_core.specs.Staging.{Stand, asked, after, after_all, ended, new_stand}
use Rattle.stage_core.specs.Turns.{IsTurn, stops_by}
use Rattle.stage_core.specs.declared.doing.Doing.{Doing}
use Rattle.stage_core.specs.declared.doing.Doing.TheVariants.{Clearing, Opening, Fetching, Appending, Keeping, Resting}
use Rattle.stage_core.specs.declared.need.Need.{Need}

module _ (side : Side) where
  rests : (s : Stand) (left : List Need) → s.left ≡ left → asked side (ended s) ≡ None
  rests s [] e = subst (λ (left : List Need). asked side (record { doing = Resting; left = left; kept = s.kept; missing = s.missing }) ≡ None) (sym e) refl
  rests s (need ∷ left) e = subst (λ (left : List Need). asked side (record { doing = Resting; left = left; kept = s.kept; missing = s.missing }) ≡ None) (sym e) refl

  -- a root that failed ends it, but for a Fetch
  failed : (s : Stand) (doing : Doing) (left : List Need) → s.doing ≡ doing → s.left ≡ left → (on : Side) (op : Op)
      → IsTurn (asked side (record { doing = doing; left = left; kept = s.kept; missing = s.missing })) (record { side = on; op = op; answer = Failed })
      → stops_by op Failed ≡ true → asked side (after side (record { doing = doing; left = left; kept = s.kept; missing = s.missing }) Failed) ≡ None
  failed s doing [] e f on op h stop = absurd h
  failed s Clearing (need ∷ left) e f on op h stop = refl
  failed s Opening (need ∷ left) e f on op h stop = refl
  failed s (Fetching offset) (need ∷ left) e f on op h stop = absurd (cc (ap (λ (o : Op). stops_by o Failed) h.1))
  failed s (Appending bytes end last) (need ∷ left) e f on op h stop = refl
  failed s Keeping (need ∷ left) e f on op h stop = refl
  failed s Resting (need ∷ left) e f on op h stop = absurd h

  at_once : (s : Stand) (on : Side) (op : Op) (answer : Answer (List ℕ)) → IsTurn (asked side s) (record { side = on; op = op; answer = answer })
      → stops_by op answer ≡ true → asked side (after side s answer) ≡ None
  at_once s on op (Full room) h stop = rests s s.left refl
  at_once s on op Failed h stop = failed s s.doing s.left refl refl on op h stop
  at_once s on op answer h stop = absurd (cc)

pub stops_at_once : StopsAtOnce
stops_at_once side needs turns t c stop =
    subst (λ (s : Stand). asked side s ≡ None) (sym (told_more side (new_stand needs) turns t))
    (at_once side (after_all side (new_stand needs) (told_by turns)) t.side t.op t.answer (last_turn side (new_stand needs) turns t c) stop)
