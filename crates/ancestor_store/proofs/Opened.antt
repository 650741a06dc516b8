-- A session's frames, taken up one after another.
use Rattle.std.proofs.Common.{◌≡◌, ℕ, ◌+◌, List, [], ◌∷◌, ◌++◌, refl, sym, ap, subst, ◌∙◌, append_assoc, length-append, Some, arith}
use Rattle.std.specs.Option.{option_and_then}
use Rattle.std.proofs.lemmas.List.{append-nil}
use Rattle.finite_maps.proofs.Constructors.{none_is_not_some}
use Rattle.frame_text.specs.Folds.{AllSpell, Folded, FoldsTo, IsBadFrame, fold_of, unfolded, with_payload}
use Rattle.frame_text.specs.Payloads.{Spells}
use Rattle.frame_text.specs.declared.payload.Payload.{Payload}
use Rattle.frame_text.proofs.Folding.{fold_last, folds_more, no_frames, payloads_same}
use Rattle.ancestor_store.specs.Opening.{IsFirst, IsNext, NoFirst, NoNext, Opened}

pub opened_start : (first : List ℕ) (left : List (List ℕ)) (folded : Folded) → IsFirst first folded → Opened (first ∷ left) folded 1 left
opened_start first left folded h = record {
  first = first;
  taken = [];
  all = refl;
  number_is = refl;
  folds = (h.0 ∷ [], (h.1, tt), ap (option_and_then (λ (f : Folded). Some f)) h.2);
}

pub opened_step : (frames : List (List ℕ)) (folded next : Folded) (number : ℕ) (bytes : List ℕ) (left : List (List ℕ)) → Opened frames folded number (bytes ∷ left) → IsNext folded bytes next
    → Opened frames next (number + 1) left
opened_step frames folded next number bytes left o h = record {
  first = o.first;
  taken = o.taken ++ bytes ∷ [];
  all = o.all ∙ ap (λ fs. o.first ∷ fs) (sym (append_assoc o.taken (bytes ∷ []) left));
  number_is = omega (arith, o.number_is, length-append o.taken (bytes ∷ []));
  folds = folds_more (o.first ∷ o.taken) folded next bytes h.0 o.folds h.1 h.2;
}

pub opened_end : (frames : List (List ℕ)) (folded : Folded) (number : ℕ) → Opened frames folded number [] → FoldsTo frames folded
opened_end frames folded number o =
    subst (λ fs. FoldsTo fs folded) (sym (o.all ∙ ap (λ fs. o.first ∷ fs) (append-nil o.taken))) o.folds

-- the last of the payloads that some bytes spell
record Cut (before : List (List ℕ)) (bytes : List ℕ) (payloads : List Payload) : Type 0 where
  front : List Payload
  last : Payload
  all : payloads ≡ front ++ last ∷ []
  spelt : AllSpell before front
  spells : Spells bytes last

cut : (before : List (List ℕ)) (bytes : List ℕ) (payloads : List Payload) → AllSpell (before ++ bytes ∷ []) payloads → Cut before bytes payloads
cut [] bytes [] h = absurd h
cut [] bytes (p ∷ []) h = record { front = []; last = p; all = refl; spelt = tt; spells = h.0 }
cut [] bytes (p ∷ q ∷ payloads) h = absurd h.1
cut (b ∷ before) bytes [] h = absurd h
cut (b ∷ before) bytes (p ∷ payloads) h =
    let more = cut before bytes payloads h.1 in
    record { front = p ∷ more.front; last = more.last; all = ap (λ ps. p ∷ ps) more.all; spelt = (h.0, more.spelt); spells = more.spells }

none_more : (first : List ℕ) (taken : List (List ℕ)) (bytes : List ℕ) (folded after : Folded) → FoldsTo (first ∷ taken) folded → NoNext folded bytes → FoldsTo ((first ∷ taken) ++ bytes ∷ []) after → ⊥
none_more first taken bytes folded after h none k =
    let parts = cut (first ∷ taken) bytes k.0 k.1 in
    let same = payloads_same (first ∷ taken) h.0 parts.front h.1 parts.spelt in
    let fold : fold_of parts.front ≡ Some folded = ap fold_of (sym same) ∙ h.2 in
    let last : fold_of (parts.front ++ parts.last ∷ []) ≡ with_payload folded parts.last = by parts.last parts.front parts.spelt fold in
    none_is_not_some after (sym (none parts.last parts.spells) ∙ sym last ∙ ap fold_of (sym parts.all) ∙ k.2)
  where
    by : (last : Payload) (front : List Payload) → AllSpell (first ∷ taken) front → fold_of front ≡ Some folded → fold_of (front ++ last ∷ []) ≡ with_payload folded last
    by last [] s f = absurd s
    by last (p ∷ front) s f = fold_last p front folded last f

pub opened_bad : (frames : List (List ℕ)) (folded : Folded) (number : ℕ) (bytes : List ℕ) (left : List (List ℕ)) → Opened frames folded number (bytes ∷ left) → NoNext folded bytes → IsBadFrame frames number
opened_bad frames folded number bytes left o none = record {
  before = o.first ∷ o.taken;
  bytes = bytes;
  behind = left;
  all = o.all;
  number_is = o.number_is;
  folds = (folded, o.folds);
  bad = λ after h. none_more o.first o.taken bytes folded after o.folds none h;
}

pub bad_first : (bytes : List ℕ) (left : List (List ℕ)) → NoFirst bytes → IsBadFrame (bytes ∷ left) 0
bad_first bytes left none = record {
  before = [];
  bytes = bytes;
  behind = left;
  all = refl;
  number_is = refl;
  folds = (unfolded, no_frames);
  bad = λ after h. by after h.0 h.1 h.2;
}
  where
    by : (after : Folded) (payloads : List Payload) → AllSpell (bytes ∷ []) payloads → fold_of payloads ≡ Some after → ⊥
    by after [] s e = s
    by after (p ∷ []) s e = none_is_not_some after (ap (option_and_then (λ (f : Folded). Some f)) (sym (none p s.0)) ∙ e)
    by after (p ∷ q ∷ payloads) s e = s.1
