-- Whether an operation rests on one that wasn't done, told by two of these.
use Rattle.std.proofs.Common.{◌≡◌, ℕ, ◌-◌, Bool, true, false, not, ◌&&◌, ◌||◌, List, [], ◌∷◌, ◌++◌, length, Option, Some, None, refl, sym, subst, ap, ◌∙◌, Less}
use Rattle.std.proofs.lemmas.List.Folds.{list_any-append}
use Rattle.std.specs.List.{AllByRecursion, list_any, slice_get}
use Rattle.std.specs.Prelude.{bytes_eq, if◌then◌else◌}
use Rattle.std.specs.Ordering.{is_lt, is_le}
use Rattle.sync_path.proofs.Below.{below_is}
use Rattle.sync_path.specs.Path.{path_cmp, is_below, is_under}
use Rattle.entry_tree.proofs.Paths.{both_true, name_is, under_between}
use Rattle.entry_tree.specs.Tree.{Names}
use Rattle.entry_tree.specs.declared.entry.Entry.{Entry}
use Rattle.roots_api.specs.declared.op.Op.{Op}
use Rattle.roots_api.specs.declared.op.Op.TheVariants.{List as OpList, Fetch, StageClear, StageOpen, StageAppend, StageKeep, Place, MakeDir, MakeLink, Remove, SetExec}
use Rattle.transition_plan.proofs.Places.{among, at_place, stays_at, stands_last, is_last}
use Rattle.transition_plan.specs.Courses.{is_blocked}
use Rattle.transition_plan.specs.Order.{MayStandBefore, rests_on_one, is_held, is_folder, folder_with}
use Rattle.transition_plan.specs.Resting.{rests_on, creation_rests_on}
use Rattle.transition_plan.specs.declared.undone.Undone.{Undone}

-- ---- tests

or_left : (a b : Bool) → a ≡ true → (a || b) ≡ true
or_left true b h = refl
or_left false b h = absurd (cc)

or_right : (a b : Bool) → b ≡ true → (a || b) ≡ true
or_right true b h = refl
or_right false b h = h

or_elim : (a b : Bool) (P : Type 0) → (a || b) ≡ true → (a ≡ true → P) → (b ≡ true → P) → P
or_elim true b P h f g = f refl
or_elim false b P h f g = g h

and_joins : (a b : Bool) → a ≡ true → b ≡ true → (a && b) ≡ true
and_joins true b p q = q
and_joins false b p q = p

-- ---- paths

-- what stands between a path and what lies below it lies below it too
pub between_below : (path middle low : Names) → path_cmp path middle ≡ Less → path_cmp middle low ≡ Less → is_below low path ≡ true → is_below middle path ≡ true
between_below path middle low before behind below =
    let parts = both_true (is_lt (path_cmp path low)) (is_under low path) (sym (below_is low path) ∙ below) in
    let under : is_under middle path ≡ true = under_between path middle low (ap is_le before) behind parts.1 in
    below_is middle path ∙ and_joins (is_lt (path_cmp path middle)) (is_under middle path) (ap is_lt before) under

-- what lies below something below a path lies below the path
pub below_trans : (low middle path : Names) → is_below low middle ≡ true → is_below middle path ≡ true → is_below low path ≡ true
below_trans [] [] path h k = absurd (cc)
below_trans [] (m ∷ middle) path h k = absurd (cc)
below_trans (l ∷ low) middle [] h k = refl
below_trans (l ∷ low) [] (p ∷ path) h k = absurd (cc)
below_trans (l ∷ low) (m ∷ middle) (p ∷ path) h k =
    let lows = both_true (bytes_eq m l) (is_below low middle) h in
    let highs = both_true (bytes_eq p m) (is_below middle path) k in
    let same : bytes_eq p l ≡ true = subst (λ (n : List ℕ). bytes_eq p n ≡ true) (name_is m l lows.0) highs.0 in
    and_joins (bytes_eq p l) (is_below low path) same (below_trans low middle path lows.1 highs.1)

-- ---- operations

-- a removal that rests on one rests on each removal between the two
remove_between : (path : Names) (expected : Entry) (first second : Op) → MayStandBefore first second → MayStandBefore second (Remove path expected)
    → rests_on (Remove path expected) first ≡ true → rests_on (Remove path expected) second ≡ true
remove_between path expected (Remove p e) (Remove q f) a b h = between_below path q p b a h
remove_between path expected (Remove p e) (OpList q) a b h = absurd b
remove_between path expected (Remove p e) (Fetch q stamp offset) a b h = absurd b
remove_between path expected (Remove p e) StageClear a b h = absurd b
remove_between path expected (Remove p e) StageOpen a b h = absurd b
remove_between path expected (Remove p e) (StageAppend bytes) a b h = absurd b
remove_between path expected (Remove p e) (StageKeep digest) a b h = absurd b
remove_between path expected (Remove p e) (Place q digest exec f) a b h = absurd b
remove_between path expected (Remove p e) (MakeDir q) a b h = absurd b
remove_between path expected (Remove p e) (MakeLink q text f) a b h = absurd b
remove_between path expected (Remove p e) (SetExec q f on) a b h = absurd b
remove_between path expected first second a b h = absurd (cc)

-- what is made at a path rests on what a folder above it rests on
rests_through : (low path : Names) (op : Op) → is_below low path ≡ true → creation_rests_on path op ≡ true → creation_rests_on low op ≡ true
rests_through low path (Remove p e) below h = refl
rests_through low path (MakeDir p) below h = below_trans low path p below h
rests_through low path op below h = absurd (cc)

-- a folder between what is made and the folder that it rests on rests on that folder too
rests_between : (low path : Names) (op : Op) → MayStandBefore op (MakeDir path) → path_cmp path low ≡ Less → creation_rests_on low op ≡ true → creation_rests_on path op ≡ true
rests_between low path (Remove p e) a b h = refl
rests_between low path (MakeDir p) a b h = between_below p path low a b h
rests_between low path op a b h = absurd (cc)

-- only removals stand before a removal
behind_removal : (path low : Names) (expected : Entry) (op : Op) → MayStandBefore op (Remove path expected) → creation_rests_on low op ≡ true
behind_removal path low expected (Remove p e) a = refl
behind_removal path low expected (OpList q) a = absurd a
behind_removal path low expected (Fetch q stamp offset) a = absurd a
behind_removal path low expected StageClear a = absurd a
behind_removal path low expected StageOpen a = absurd a
behind_removal path low expected (StageAppend bytes) a = absurd a
behind_removal path low expected (StageKeep digest) a = absurd a
behind_removal path low expected (Place q digest exec f) a = absurd a
behind_removal path low expected (MakeDir q) a = absurd a
behind_removal path low expected (MakeLink q text f) a = absurd a
behind_removal path low expected (SetExec q f on) a = absurd a

-- ---- those that weren't done

one_there : (op : Op) (o : Option Undone) (P : Type 0) → rests_on_one op o ≡ true → ((u : Undone) → o ≡ Some u → rests_on op u.op ≡ true → P) → P
one_there op None P h f = absurd (cc)
one_there op (Some u) P h f = f u refl h

held_at : (op : Op) (o : Option Undone) (u : Undone) → o ≡ Some u → rests_on op u.op ≡ true → rests_on_one op o ≡ true
held_at op o u e h = ap (rests_on_one op) e ∙ h

-- who rests on one of two that tell rests on one of all
blocked_at : (undone : List Undone) (i : ℕ) (op : Op) → rests_on_one op (slice_get undone i) ≡ true → is_blocked undone op ≡ true
blocked_at undone i op h = one_there op (slice_get undone i) (is_blocked undone op ≡ true) h (λ u e r. among (λ (u : Undone). rests_on op u.op) undone i u e r)

made_held : (undone : List Undone) (folder : ℕ) (op : Op) → (rests_on_one op (slice_get undone 0) || rests_on_one op (slice_get undone folder)) ≡ true → is_blocked undone op ≡ true
made_held undone folder op h =
    or_elim (rests_on_one op (slice_get undone 0)) (rests_on_one op (slice_get undone folder)) (is_blocked undone op ≡ true) h (blocked_at undone 0 op) (blocked_at undone folder op)

pub held_blocked : (undone : List Undone) (folder : ℕ) (op : Op) → is_held undone folder op ≡ true → is_blocked undone op ≡ true
held_blocked undone folder (Remove p e) h = blocked_at undone (length undone - 1) (Remove p e) h
held_blocked undone folder (OpList q) h = made_held undone folder (OpList q) h
held_blocked undone folder (Fetch q stamp offset) h = made_held undone folder (Fetch q stamp offset) h
held_blocked undone folder StageClear h = made_held undone folder StageClear h
held_blocked undone folder StageOpen h = made_held undone folder StageOpen h
held_blocked undone folder (StageAppend bytes) h = made_held undone folder (StageAppend bytes) h
held_blocked undone folder (StageKeep digest) h = made_held undone folder (StageKeep digest) h
held_blocked undone folder (Place q digest exec f) h = made_held undone folder (Place q digest exec f) h
held_blocked undone folder (MakeDir q) h = made_held undone folder (MakeDir q) h
held_blocked undone folder (MakeLink q text f) h = made_held undone folder (MakeLink q text f) h
held_blocked undone folder (SetExec q f on) h = made_held undone folder (SetExec q f on) h

-- ---- one more that isn't done

module _ (undone : List Undone) (folder : ℕ) (x : Undone) where
  -- a removal
  pub removal_told : (path : Names) (expected : Entry) → AllByRecursion (λ (u : Undone). MayStandBefore u.op x.op) undone → MayStandBefore x.op (Remove path expected)
      → (is_blocked undone (Remove path expected) ≡ true → is_held undone folder (Remove path expected) ≡ true)
      → is_blocked (undone ++ x ∷ []) (Remove path expected) ≡ true → (folder' : ℕ) → is_held (undone ++ x ∷ []) folder' (Remove path expected) ≡ true
  removal_told path expected front next old h folder' =
      let here : rests_on (Remove path expected) x.op ≡ true =
      or_elim (is_blocked undone (Remove path expected)) (rests_on (Remove path expected) x.op || false) (rests_on (Remove path expected) x.op ≡ true)
      (sym (list_any-append (λ (u : Undone). rests_on (Remove path expected) u.op) undone (x ∷ [])) ∙ h)
      (λ b. one_there (Remove path expected) (slice_get undone (length undone - 1)) (rests_on (Remove path expected) x.op ≡ true) (old b)
      (λ u e r. remove_between path expected u.op x.op (at_place (λ (u : Undone). MayStandBefore u.op x.op) undone (length undone - 1) u front e) next r))
      (λ r. or_elim (rests_on (Remove path expected) x.op) false (rests_on (Remove path expected) x.op ≡ true) r (λ h. h) (λ h. absurd (cc))) in
      held_at (Remove path expected) (slice_get (undone ++ x ∷ []) (length (undone ++ x ∷ []) - 1)) x (is_last undone x) here

-- what is made at a path
module _ (first : Undone) (others : List Undone) (folder : ℕ) (x : Undone) (path : Names) (op : Op)
    (rests : (o : Op) → rests_on op o ≡ creation_rests_on path o)
    (less : (y : Names) → x.op ≡ MakeDir y → path_cmp y path ≡ Less)
    (front : AllByRecursion (λ (u : Undone). MayStandBefore u.op x.op) (first ∷ others)) where
  abbrev undone : List Undone
  undone = first ∷ others

  abbrev Told : ℕ → Type 0
  Told folder' = (rests_on_one op (slice_get (undone ++ x ∷ []) 0) || rests_on_one op (slice_get (undone ++ x ∷ []) folder')) ≡ true

  by_first : (folder' : ℕ) → creation_rests_on path first.op ≡ true → Told folder'
  by_first folder' h = or_left (rests_on op first.op) (rests_on_one op (slice_get (undone ++ x ∷ []) folder')) (rests first.op ∙ h)

  by_folder : (folder' : ℕ) (u : Undone) → slice_get (undone ++ x ∷ []) folder' ≡ Some u → creation_rests_on path u.op ≡ true → Told folder'
  by_folder folder' u e h = or_right (rests_on op first.op) (rests_on_one op (slice_get (undone ++ x ∷ []) folder')) (held_at op (slice_get (undone ++ x ∷ []) folder') u e (rests u.op ∙ h))

  stays : (u : Undone) → slice_get undone folder ≡ Some u → creation_rests_on path u.op ≡ true → Told folder
  stays u at h = by_folder folder u (stays_at undone x folder u at) h

  from_folder : (xop : Op) → x.op ≡ xop → (held : Bool) → is_held undone folder xop ≡ held → (u : Undone) → slice_get undone folder ≡ Some u → creation_rests_on path u.op ≡ true
      → Told (if is_folder xop && not held then length undone else folder)
  from_folder (MakeDir y) e true same u at h = stays u at h
  from_folder (MakeDir y) e false same u at h =
      let before : MayStandBefore u.op (MakeDir y) = subst (λ (o : Op). MayStandBefore u.op o) e (at_place (λ (u : Undone). MayStandBefore u.op x.op) undone folder u front at) in
      let rests_too : creation_rests_on y u.op ≡ true = rests_between path y u.op before (less y e) h in
      let held_too : is_held undone folder (MakeDir y) ≡ true =
      or_right (rests_on_one (MakeDir y) (slice_get undone 0)) (rests_on_one (MakeDir y) (slice_get undone folder)) (held_at (MakeDir y) (slice_get undone folder) u at rests_too) in
      let bad : true ≡ false = sym held_too ∙ same in
      absurd (cc)
  from_folder (OpList q) e held same u at h = stays u at h
  from_folder (Fetch q stamp offset) e held same u at h = stays u at h
  from_folder StageClear e held same u at h = stays u at h
  from_folder StageOpen e held same u at h = stays u at h
  from_folder (StageAppend bytes) e held same u at h = stays u at h
  from_folder (StageKeep digest) e held same u at h = stays u at h
  from_folder (Place q digest exec f) e held same u at h = stays u at h
  from_folder (MakeLink q text f) e held same u at h = stays u at h
  from_folder (Remove q f) e held same u at h = stays u at h
  from_folder (SetExec q f on) e held same u at h = stays u at h

  -- who rested on one before
  from_before : (held : Bool) → is_held undone folder x.op ≡ held → (rests_on_one op (slice_get undone 0) || rests_on_one op (slice_get undone folder)) ≡ true
      → Told (if is_folder x.op && not held then length undone else folder)
  from_before held same old =
      or_elim (rests_on_one op (slice_get undone 0)) (rests_on_one op (slice_get undone folder)) (Told (if is_folder x.op && not held then length undone else folder)) old
      (λ r. by_first (if is_folder x.op && not held then length undone else folder) (sym (rests first.op) ∙ r))
      (λ r. one_there op (slice_get undone folder) (Told (if is_folder x.op && not held then length undone else folder)) r (λ u at h. from_folder x.op refl held same u at (sym (rests u.op) ∙ h)))

  -- who rests on the new one
  from_new : (xop : Op) → x.op ≡ xop → creation_rests_on path xop ≡ true → (held : Bool) → is_held undone folder xop ≡ held → Told (if is_folder xop && not held then length undone else folder)
  from_new (Remove q f) e h held same = by_first folder (behind_removal q path f first.op (subst (λ (o : Op). MayStandBefore first.op o) e front.0))
  from_new (MakeDir y) e h true same =
      or_elim (rests_on_one (MakeDir y) (slice_get undone 0)) (rests_on_one (MakeDir y) (slice_get undone folder)) (Told folder) same
      (λ r. by_first folder (rests_through path y first.op h r))
      (λ r. one_there (MakeDir y) (slice_get undone folder) (Told folder) r (λ u at k. by_folder folder u (stays_at undone x folder u at) (rests_through path y u.op h k)))
  from_new (MakeDir y) e h false same = by_folder (length undone) x (stands_last undone x) (ap (creation_rests_on path) e ∙ h)
  from_new xop e h held same = absurd (cc)

  pub making_told : (is_blocked undone op ≡ true → (rests_on_one op (slice_get undone 0) || rests_on_one op (slice_get undone folder)) ≡ true)
      → is_blocked (undone ++ x ∷ []) op ≡ true → Told (folder_with undone folder x.op)
  making_told old h =
      or_elim (is_blocked undone op) (rests_on op x.op || false) (Told (folder_with undone folder x.op)) (sym (list_any-append (λ (u : Undone). rests_on op u.op) undone (x ∷ [])) ∙ h)
      (λ b. from_before (is_held undone folder x.op) refl (old b))
      (λ r. or_elim (rests_on op x.op) false (Told (folder_with undone folder x.op)) r (λ k. from_new x.op refl (sym (rests x.op) ∙ k) (is_held undone folder x.op) refl) (λ k. absurd (cc)))
