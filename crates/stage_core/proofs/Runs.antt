-- What each turn keeps holds of every list of turns.
use Rattle.std.proofs.Common.{◌≡◌, ℕ, List, [], ◌∷◌, ◌++◌, map, append-nil, append_assoc, subst, sym, refl}
use Rattle.entry_tree.specs.declared.side.Side.{Side}
use Rattle.roots_api.specs.declared.answer.Answer.{Answer}
use Rattle.stage_core.specs.Staging.{Stand, asked, after, after_all}
use Rattle.stage_core.specs.Turns.{Turn, IsTurn, IsCourse}

abbrev pub told_by : List Turn → List (Answer (List ℕ))
told_by ts = map (λ (t : Turn). t.answer) ts

module _ (side : Side) (Keeps : List Turn → Stand → Type 0)
    (step : (before : List Turn) (s : Stand) (t : Turn) → Keeps before s → IsTurn (asked side s) t → Keeps (before ++ t ∷ []) (after side s t.answer)) where
  pub along : (before : List Turn) (s : Stand) (ts : List Turn) → Keeps before s → IsCourse side s ts → Keeps (before ++ ts) (after_all side s (told_by ts))
  along before s [] h c = subst (λ (l : List Turn). Keeps l s) (sym (append-nil before)) h
  along before s (t ∷ ts) h c =
      subst (λ (l : List Turn). Keeps l (after_all side (after side s t.answer) (told_by ts))) (append_assoc before (t ∷ []) ts)
      (along (before ++ t ∷ []) (after side s t.answer) ts (step before s t h c.0) c.1)

module _ (side : Side) where
  -- the last of some turns was asked where those before it led
  pub last_turn : (s : Stand) (ts : List Turn) (t : Turn) → IsCourse side s (ts ++ t ∷ []) → IsTurn (asked side (after_all side s (told_by ts))) t
  last_turn s [] t c = c.0
  last_turn s (u ∷ ts) t c = last_turn (after side s u.answer) ts t c.1

  -- and leads on from there
  pub told_more : (s : Stand) (ts : List Turn) (t : Turn) → after_all side s (told_by (ts ++ t ∷ [])) ≡ after side (after_all side s (told_by ts)) t.answer
  told_more s [] t = refl
  told_more s (u ∷ ts) t = told_more (after side s u.answer) ts t

  -- the same of answers alone
  pub answered_more : (s : Stand) (answers : List (Answer (List ℕ))) (answer : Answer (List ℕ)) → after_all side s (answers ++ answer ∷ []) ≡ after side (after_all side s answers) answer
  answered_more s [] answer = refl
  answered_more s (a ∷ answers) answer = answered_more (after side s a) answers answer
