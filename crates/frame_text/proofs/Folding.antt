-- The fold of payloads, one more at a time.
use Rattle.std.proofs.Common.{◌≡◌, ℕ, List, [], ◌∷◌, ◌++◌, refl, sym, ap, ap₂, ◌∙◌, Option, Some, None}
use Rattle.std.specs.Option.{option_and_then}
use Rattle.finite_maps.proofs.Constructors.{none_is_not_some, some_same}
use Rattle.frame_text.specs.Folds.{AllSpell, Folded, FoldsTo, first_payload, fold_of, folded_from, unfolded, with_payload}
use Rattle.frame_text.specs.Payloads.{Spells}
use Rattle.frame_text.specs.declared.payload.Payload.{Payload}
use Rattle.frame_text.specs.declared.payload.Payload.TheVariants.{Agree, Reset, Whole}
use Rattle.frame_text.proofs.Bodies.{one_payload}

alone : (next : Option Folded) → option_and_then (λ (f : Folded). Some f) next ≡ next
alone None = refl
alone (Some f) = refl

-- a payload that can stand behind others can stand first, and comes to the same there
first_too : (payload : Payload) (next : Folded) → with_payload unfolded payload ≡ Some next → first_payload payload ≡ Some next
first_too (Agree version run cycle lines) next e = e
first_too (Reset number) next e = e
first_too (Whole run cycle served lines) next e = absurd (none_is_not_some next e)

folded_more : (folded last : Folded) (payloads : List Payload) (payload : Payload) → folded_from folded payloads ≡ Some last → folded_from folded (payloads ++ payload ∷ []) ≡ with_payload last payload
folded_more folded last [] payload e = alone (with_payload folded payload) ∙ ap (λ f. with_payload f payload) (some_same folded last e)
folded_more folded last (p ∷ payloads) payload e = by (λ f. folded_more f last payloads payload) (with_payload folded p) e
  where
    by : ((f : Folded) → folded_from f payloads ≡ Some last → folded_from f (payloads ++ payload ∷ []) ≡ with_payload last payload) → (next : Option Folded) → option_and_then (λ (f : Folded). folded_from f payloads) next ≡ Some last
        → option_and_then (λ (f : Folded). folded_from f (payloads ++ payload ∷ [])) next ≡ with_payload last payload
    by more None e = absurd (none_is_not_some last e)
    by more (Some f) e = more f e

-- behind at least one payload
pub fold_last : (p : Payload) (payloads : List Payload) (folded : Folded) (payload : Payload) → fold_of (p ∷ payloads) ≡ Some folded → fold_of ((p ∷ payloads) ++ payload ∷ []) ≡ with_payload folded payload
fold_last p payloads folded payload e = by (first_payload p) e
  where
    by : (first : Option Folded) → option_and_then (λ (f : Folded). folded_from f payloads) first ≡ Some folded
        → option_and_then (λ (f : Folded). folded_from f (payloads ++ payload ∷ [])) first ≡ with_payload folded payload
    by None e = absurd (none_is_not_some folded e)
    by (Some f) e = folded_more f folded payloads payload e

pub fold_more : (payloads : List Payload) (folded next : Folded) (payload : Payload) → fold_of payloads ≡ Some folded → with_payload folded payload ≡ Some next
    → fold_of (payloads ++ payload ∷ []) ≡ Some next
fold_more [] folded next payload e step =
    alone (first_payload payload) ∙ first_too payload next (ap (λ f. with_payload f payload) (some_same unfolded folded e) ∙ step)
fold_more (p ∷ payloads) folded next payload e step = fold_last p payloads folded payload e ∙ step

-- ---- the bytes of payloads

pub spell_more : (frames : List (List ℕ)) (payloads : List Payload) (bytes : List ℕ) (payload : Payload) → AllSpell frames payloads → Spells bytes payload
    → AllSpell (frames ++ bytes ∷ []) (payloads ++ payload ∷ [])
spell_more [] [] bytes payload h k = (k, tt)
spell_more [] (p ∷ payloads) bytes payload h k = absurd h
spell_more (f ∷ frames) [] bytes payload h k = absurd h
spell_more (f ∷ frames) (p ∷ payloads) bytes payload h k = (h.0, spell_more frames payloads bytes payload h.1 k)

pub payloads_same : (frames : List (List ℕ)) (payloads others : List Payload) → AllSpell frames payloads → AllSpell frames others → payloads ≡ others
payloads_same [] [] [] h k = refl
payloads_same [] [] (o ∷ others) h k = absurd k
payloads_same [] (p ∷ payloads) others h k = absurd h
payloads_same (f ∷ frames) [] others h k = absurd h
payloads_same (f ∷ frames) (p ∷ payloads) [] h k = absurd k
payloads_same (f ∷ frames) (p ∷ payloads) (o ∷ others) h k = ap₂ (λ x xs. x ∷ xs) (one_payload f p o h.0 k.0) (payloads_same frames payloads others h.1 k.1)

-- frames have one fold
pub one_fold : (frames : List (List ℕ)) (folded other : Folded) → FoldsTo frames folded → FoldsTo frames other → folded ≡ other
one_fold frames folded other h k =
    some_same folded other (sym h.2 ∙ ap fold_of (payloads_same frames h.0 k.0 h.1 k.1) ∙ k.2)

-- and go on by one payload more
pub folds_more : (frames : List (List ℕ)) (folded next : Folded) (bytes : List ℕ) (payload : Payload) → FoldsTo frames folded → Spells bytes payload → with_payload folded payload ≡ Some next
    → FoldsTo (frames ++ bytes ∷ []) next
folds_more frames folded next bytes payload h s step =
    (h.0 ++ payload ∷ [], spell_more frames h.0 bytes payload h.1 s, fold_more h.0 folded next payload h.2 step)

pub no_frames : FoldsTo [] unfolded
no_frames = ([], tt, refl)
