-- The steps of a change are in order, and stay so.
use Rattle.std.proofs.Common.{◌≡◌, ℕ, Bool, true, false, not, ◌&&◌, ◌||◌, List, [], ◌∷◌, ◌++◌, length, reverse, Option, Some, None, refl, sym, subst, ap, ◌∙◌, Less}
use Rattle.std.proofs.lemmas.List.{reverse-append}
use Rattle.std.proofs.lemmas.Map.Keys.{sorted_head, sorted_tail}
use Rattle.std.specs.FinMap as map
use Rattle.std.specs.List.{AllByRecursion, cons_option, filter, filter_map, list_any}
use Rattle.std.specs.List.Sorted.{IsStrictlySortedBy}
use Rattle.std.specs.Map.{keys_of}
use Rattle.std.specs.Option.{option_map, option_to_list}
use Rattle.std.specs.Prelude.{cond, if◌then◌else◌}
use Rattle.finite_maps.proofs.SortedLists.{sorted-from_is_sorted}
use Rattle.sync_path.specs.Path.{path_cmp}
use Rattle.entry_tree.specs.Tree.{Names, ByPath}
use Rattle.entry_tree.specs.declared.atom.Atom.{Atom}
use Rattle.entry_tree.specs.declared.atom.Atom.TheVariants as atom
use Rattle.entry_tree.specs.declared.entry.Entry.{Entry}
use Rattle.entry_tree.specs.declared.entry.Stamp.{Stamp}
use Rattle.mode_rules.specs.Placing.{sets_bit_alone}
use Rattle.mode_rules.specs.PointLaws.{EachPair}
use Rattle.mode_rules.specs.declared.change.Change.{Change}
use Rattle.mode_rules.specs.declared.problem.Cause.{Cause}
use Rattle.roots_api.specs.declared.op.Op.{Op}
use Rattle.roots_api.specs.declared.op.Op.TheVariants.{List as OpList, Fetch, StageClear, StageOpen, StageAppend, StageKeep, Place, MakeDir, MakeLink, Remove, SetExec}
use Rattle.transition_plan.proofs.Tellers.{held_blocked, making_told, removal_told}
use Rattle.transition_plan.proofs.Places.{all_more, all_weaker}
use Rattle.transition_plan.specs.Courses.{is_blocked, is_first_blocked, not_done}
use Rattle.transition_plan.specs.Order.{AreInOrder, MayStandBefore, is_first_held, is_folder, is_held, folder_with}
use Rattle.transition_plan.specs.Resting.{rests_on}
use Rattle.transition_plan.specs.Stepping.{entry_of, removed, removal, creation, bit_change, leaf_change, replaces_leaf, whole_steps, steps_of}
use Rattle.transition_plan.specs.declared.step.Step.{Step}
use Rattle.transition_plan.specs.declared.undone.Undone.{Undone}

-- ---- lists

zip_all : {X : Type 0} (P Q R : X → Type 0) → ((x : X) → P x → Q x → R x) → (xs : List X) → AllByRecursion P xs → AllByRecursion Q xs → AllByRecursion R xs
zip_all P Q R f [] p q = tt
zip_all P Q R f (x ∷ xs) p q = (f x p.0 q.0, zip_all P Q R f xs p.1 q.1)

each : {X : Type 0} (P : X → Type 0) → ((x : X) → P x) → (xs : List X) → AllByRecursion P xs
each P f [] = tt
each P f (x ∷ xs) = (f x, each P f xs)

all_kept : {X : Type 0} (P : X → Type 0) (p : X → Bool) (xs : List X) → AllByRecursion P xs → AllByRecursion P (filter p xs)
all_kept P p [] all = tt
all_kept P p (x ∷ xs) all =
    let rest = all_kept P p xs all.1 in
    elim (p x) as (λ b. AllByRecursion P (cond b (x ∷ filter p xs) (filter p xs))) [ true ↦ (all.0, rest) | false ↦ rest ]

pairs_kept : {X : Type 0} (R : X → X → Type 0) (p : X → Bool) (xs : List X) → EachPair R xs → EachPair R (filter p xs)
pairs_kept R p [] all = tt
pairs_kept R p (x ∷ xs) all =
    let rest = pairs_kept R p xs all.1 in
    elim (p x) as (λ b. EachPair R (cond b (x ∷ filter p xs) (filter p xs))) [ true ↦ (all_kept (R x) p xs all.0, rest) | false ↦ rest ]

all_joined : {X : Type 0} (P : X → Type 0) (xs ys : List X) → AllByRecursion P xs → AllByRecursion P ys → AllByRecursion P (xs ++ ys)
all_joined P [] ys p q = q
all_joined P (x ∷ xs) ys p q = (p.0, all_joined P xs ys p.1 q)

pairs_joined : {X : Type 0} (R : X → X → Type 0) (xs ys : List X) → EachPair R xs → EachPair R ys → AllByRecursion (λ x. AllByRecursion (R x) ys) xs → EachPair R (xs ++ ys)
pairs_joined R [] ys p q cross = q
pairs_joined R (x ∷ xs) ys p q cross = (all_joined (R x) xs ys p.0 cross.0, pairs_joined R xs ys p.1 q cross.1)

all_turned : {X : Type 0} (P : X → Type 0) (xs : List X) → AllByRecursion P xs → AllByRecursion P (reverse xs)
all_turned P [] all = tt
all_turned P (x ∷ xs) all = subst (AllByRecursion P) (sym (reverse-append (x ∷ []) xs)) (all_joined P (reverse xs) (x ∷ []) (all_turned P xs all.1) (all.0, tt))

pairs_turned : {X : Type 0} (R : X → X → Type 0) (xs : List X) → EachPair (λ a b. R b a) xs → EachPair R (reverse xs)
pairs_turned R [] all = tt
pairs_turned R (x ∷ xs) all =
    subst (EachPair R) (sym (reverse-append (x ∷ []) xs))
    (pairs_joined R (reverse xs) (x ∷ []) (pairs_turned R xs all.1) (tt, tt)
    (all_weaker (λ y. R y x) (λ y. AllByRecursion (R y) (x ∷ [])) (λ y h. (h, tt)) (reverse xs) (all_turned (λ y. R y x) xs all.0)))

module _ {X Y : Type 0} (f : X → Option Y) where
  all_given : (In : X → Type 0) (P : Y → Type 0) → ((x : X) (y : Y) → In x → f x ≡ Some y → P y) → (xs : List X) → AllByRecursion In xs → AllByRecursion P (filter_map f xs)
  all_given In P g [] all = tt
  all_given In P g (x ∷ xs) all = by (f x) refl (all_given In P g xs all.1)
    where
      by : (o : Option Y) → f x ≡ o → AllByRecursion P (filter_map f xs) → AllByRecursion P (cons_option o (filter_map f xs))
      by None e rest = rest
      by (Some y) e rest = (g x y all.0 e, rest)

  pairs_given : (In : X → X → Type 0) (R : Y → Y → Type 0) → ((a b : X) (y z : Y) → In a b → f a ≡ Some y → f b ≡ Some z → R y z) → (xs : List X) → EachPair In xs → EachPair R (filter_map f xs)
  pairs_given In R g [] all = tt
  pairs_given In R g (x ∷ xs) all = by (f x) refl (pairs_given In R g xs all.1)
    where
      by : (o : Option Y) → f x ≡ o → EachPair R (filter_map f xs) → EachPair R (cons_option o (filter_map f xs))
      by None e rest = rest
      by (Some y) e rest = (all_given (In x) (R y) (λ b z h k. g x b y z h e k) xs all.0, rest)

-- ---- the steps of a change

abbrev Rises : Names × Atom → Names × Atom → Type 0
Rises a b = path_cmp a.0 b.0 ≡ Less

all_entries : (P : Names → Type 0) (es : List (Names × Atom)) → AllByRecursion P (keys_of es) → AllByRecursion (λ e. P e.0) es
all_entries P [] all = tt
all_entries P (e ∷ es) all = (all.0, all_entries P es all.1)

entries_rise : (es : List (Names × Atom)) → IsStrictlySortedBy path_cmp (keys_of es) → EachPair Rises es
entries_rise [] all = tt
entries_rise (e ∷ es) all =
    (all_entries (λ p. path_cmp e.0 p ≡ Less) es (sorted_head path_cmp e.0 (keys_of es) all), entries_rise es (sorted_tail path_cmp e.0 (keys_of es) all))

abbrev Precedes : Step → Step → Type 0
Precedes a b = MayStandBefore a.op b.op

same_step : (s t : Step) → Some s ≡ Some t → s ≡ t
same_step s t e = cc

removal_by : (path : Names) (o : Option Entry) (step : Step) → option_map (removed path) o ≡ Some step → (expected : Entry) × (step ≡ removed path expected)
removal_by path None step h = absurd (cc)
removal_by path (Some expected) step h = (expected, sym (same_step (removed path expected) step h))

removal_is : (stamps : ByPath Stamp) (e : Names × Atom) (step : Step) → removal stamps e ≡ Some step → (expected : Entry) × (step ≡ removed e.0 expected)
removal_is stamps (path, atom) step h = removal_by path (entry_of stamps path atom) step h

removals_fall : (stamps : ByPath Stamp) (a b : Names × Atom) (y z : Step) → Rises a b → removal stamps a ≡ Some y → removal stamps b ≡ Some z → Precedes z y
removals_fall stamps a b y z less p q =
    let first = removal_is stamps a y p in
    let second = removal_is stamps b z q in
    subst (λ (s : Step). Precedes s y) (sym second.1) (subst (λ (s : Step). Precedes (removed b.0 second.0) s) (sym first.1) less)

-- what a creation makes
making : (e : Names × Atom) (step : Step) → creation None e ≡ Some step → (P : Op → Type 0)
    → P (MakeDir e.0) → ((digest : List ℕ) (exec : Bool) → P (Place e.0 digest exec None)) → ((text : List ℕ) → P (MakeLink e.0 text None)) → P step.op
making (path, atom.Dir) step h P dir file link = subst P (ap (λ (s : Step). s.op) (same_step _ step h)) dir
making (path, atom.File digest exec) step h P dir file link = subst P (ap (λ (s : Step). s.op) (same_step _ step h)) (file digest exec)
making (path, atom.Link text) step h P dir file link = subst P (ap (λ (s : Step). s.op) (same_step _ step h)) (link text)
making (path, atom.Untracked) step h P dir file link = absurd (cc)
making (path, atom.Problem kind) step h P dir file link = absurd (cc)

creations_rise : (a b : Names × Atom) (y z : Step) → Rises a b → creation None a ≡ Some y → creation None b ≡ Some z → Precedes y z
creations_rise a b y z less p q =
    making a y p (λ o. MayStandBefore o z.op)
    (making b z q (λ o. MayStandBefore (MakeDir a.0) o) less (λ digest exec. less) (λ text. less))
    (λ digest exec. making b z q (λ o. MayStandBefore (Place a.0 digest exec None) o) tt (λ digest exec. tt) (λ text. tt))
    (λ text. making b z q (λ o. MayStandBefore (MakeLink a.0 text None) o) tt (λ digest exec. tt) (λ text. tt))

removal_first : (path : Names) (expected : Entry) (e : Names × Atom) (z : Step) → creation None e ≡ Some z → Precedes (removed path expected) z
removal_first path expected e z q = making e z q (λ o. MayStandBefore (Remove path expected) o) tt (λ digest exec. tt) (λ text. tt)

single : {X : Type 0} (R : X → X → Type 0) (o : Option X) → EachPair R (option_to_list o)
single R None = tt
single R (Some x) = (tt, tt)

sorted_of : (tree : ByPath Atom) → EachPair Rises (map.entries tree)
sorted_of tree = entries_rise (map.entries tree) (sorted-from_is_sorted path_cmp (map.entries tree) (map.entries_sorted tree))

module _ (stamps : ByPath Stamp) (change : Change) where
  abbrev made : List Step
  made = filter_map (creation None) (map.entries change.new)

  abbrev taken : List Step
  taken = filter_map (removal stamps) (map.entries change.old)

  made_behind : (path : Names) (expected : Entry) → AllByRecursion (Precedes (removed path expected)) made
  made_behind path expected =
      all_given (creation None) (λ e. Unit {0}) (Precedes (removed path expected)) (λ d z u k. removal_first path expected d z k) (map.entries change.new) (each (λ e. Unit {0}) (λ e. tt) (map.entries change.new))

  taken_before : AllByRecursion (λ s. AllByRecursion (Precedes s) made) taken
  taken_before =
      all_given (removal stamps) (λ e. Unit {0}) (λ s. AllByRecursion (Precedes s) made)
      (λ e s u h. let is = removal_is stamps e s h in subst (λ (s : Step). AllByRecursion (Precedes s) made) (sym is.1) (made_behind e.0 is.0))
      (map.entries change.old) (each (λ e. Unit {0}) (λ e. tt) (map.entries change.old))

  whole_in_order : EachPair Precedes (whole_steps stamps change)
  whole_in_order =
      pairs_joined Precedes (reverse taken) made
      (pairs_turned Precedes taken (pairs_given (removal stamps) Rises (λ a b. Precedes b a) (removals_fall stamps) (map.entries change.old) (sorted_of change.old)))
      (pairs_given (creation None) Rises Precedes creations_rise (map.entries change.new) (sorted_of change.new))
      (all_turned (λ s. AllByRecursion (Precedes s) made) taken taken_before)

  steps_in_order : EachPair Precedes (steps_of stamps change)
  steps_in_order =
      let old = map.get change.old change.at in
      let new = map.get change.new change.at in
      elim (sets_bit_alone change) as (λ b. EachPair Precedes (if b then option_to_list (bit_change stamps change.at old new) else (if replaces_leaf change then option_to_list (leaf_change stamps change.at old new) else whole_steps stamps change))) [
        | true ↦ single Precedes (bit_change stamps change.at old new)
        | false ↦ elim (replaces_leaf change) as (λ b. EachPair Precedes (if b then option_to_list (leaf_change stamps change.at old new) else whole_steps stamps change)) [
          | true ↦ single Precedes (leaf_change stamps change.at old new)
          | false ↦ whole_in_order
        ]
      ]

  -- at first
  pub first_in_order : AreInOrder [] 0 (steps_of stamps change)
  first_in_order = record {
    ordered = steps_in_order;
    behind = tt;
    held = each (λ (s : Step). is_blocked [] s.op ≡ true → is_held [] 0 s.op ≡ true) (λ s h. absurd (cc)) (steps_of stamps change);
  }

-- ---- one step further

none_any : (xs : List Undone) → list_any (λ (u : Undone). false) xs ≡ true → ⊥
none_any [] h = absurd (cc)
none_any (x ∷ xs) h = none_any xs h

or_false : (a : Bool) → (a || false) ≡ true → a ≡ true
or_false true h = refl
or_false false h = h

or_left : (a b : Bool) → a ≡ true → (a || b) ≡ true
or_left true b h = refl
or_left false b h = absurd (cc)

held_more : (undone : List Undone) (folder : ℕ) (x : Undone) (op : Op) → AllByRecursion (λ (u : Undone). MayStandBefore u.op x.op) undone → MayStandBefore x.op op
    → (is_blocked undone op ≡ true → is_held undone folder op ≡ true) → is_blocked (undone ++ x ∷ []) op ≡ true → is_held (undone ++ x ∷ []) (folder_with undone folder x.op) op ≡ true
held_more undone folder x (Remove p e) front next old h = removal_told undone folder x p e front next old h (folder_with undone folder x.op)
held_more [] folder x (MakeDir p) front next old h = or_left (rests_on (MakeDir p) x.op) _ (or_false (rests_on (MakeDir p) x.op) h)
held_more [] folder x (Place p digest exec e) front next old h = or_left (rests_on (Place p digest exec e) x.op) _ (or_false (rests_on (Place p digest exec e) x.op) h)
held_more [] folder x (MakeLink p text e) front next old h = or_left (rests_on (MakeLink p text e) x.op) _ (or_false (rests_on (MakeLink p text e) x.op) h)
held_more (u ∷ us) folder x (MakeDir p) front next old h =
    making_told u us folder x p (MakeDir p) (λ o. refl) (λ y e. subst (λ (o : Op). MayStandBefore o (MakeDir p)) e next) front old h
held_more (u ∷ us) folder x (Place p digest exec f) front next old h =
    making_told u us folder x p (Place p digest exec f) (λ o. refl) (λ y e. subst (λ (o : Op). MayStandBefore o (Place p digest exec f)) e next) front old h
held_more (u ∷ us) folder x (MakeLink p text f) front next old h =
    making_told u us folder x p (MakeLink p text f) (λ o. refl) (λ y e. subst (λ (o : Op). MayStandBefore o (MakeLink p text f)) e next) front old h
held_more undone folder x (OpList p) front next old h = absurd (none_any (undone ++ x ∷ []) h)
held_more undone folder x (Fetch p stamp offset) front next old h = absurd (none_any (undone ++ x ∷ []) h)
held_more undone folder x StageClear front next old h = absurd (none_any (undone ++ x ∷ []) h)
held_more undone folder x StageOpen front next old h = absurd (none_any (undone ++ x ∷ []) h)
held_more undone folder x (StageAppend bytes) front next old h = absurd (none_any (undone ++ x ∷ []) h)
held_more undone folder x (StageKeep digest) front next old h = absurd (none_any (undone ++ x ∷ []) h)
held_more undone folder x (SetExec p e on) front next old h = absurd (none_any (undone ++ x ∷ []) h)

same_test : (a b : Bool) → (a ≡ true → b ≡ true) → (b ≡ true → a ≡ true) → a ≡ b
same_test true true f g = refl
same_test true false f g = sym (f refl)
same_test false true f g = g refl
same_test false false f g = refl

module _ (undone : List Undone) (folder : ℕ) where
  -- one step that is done
  pub done_in_order : (x : Step) (rest : List Step) → AreInOrder undone folder (x ∷ rest) → AreInOrder undone folder rest
  done_in_order x rest old = record {
    ordered = old.ordered.1;
    behind = all_weaker (λ (u : Undone). AllByRecursion (λ (step : Step). MayStandBefore u.op step.op) (x ∷ rest)) (λ (u : Undone). AllByRecursion (λ (step : Step). MayStandBefore u.op step.op) rest) (λ u h. h.1) undone old.behind;
    held = old.held.1;
  }

  -- one that isn't
  pub undone_in_order : (x : Step) (rest : List Step) (why : Option Cause) → AreInOrder undone folder (x ∷ rest)
      → AreInOrder (undone ++ not_done why x ∷ []) (folder_with undone folder x.op) rest
  undone_in_order x rest why old =
      let front = all_weaker (λ (u : Undone). AllByRecursion (λ (step : Step). MayStandBefore u.op step.op) (x ∷ rest)) (λ (u : Undone). MayStandBefore u.op x.op) (λ u h. h.0) undone old.behind in
      record {
        ordered = old.ordered.1;
        behind = all_more (λ (u : Undone). AllByRecursion (λ (step : Step). MayStandBefore u.op step.op) rest) undone (not_done why x) (done_in_order x rest old).behind old.ordered.0;
        held = zip_all (λ (step : Step). MayStandBefore x.op step.op) (λ (step : Step). is_blocked undone step.op ≡ true → is_held undone folder step.op ≡ true)
            (λ (step : Step). is_blocked (undone ++ not_done why x ∷ []) step.op ≡ true → is_held (undone ++ not_done why x ∷ []) (folder_with undone folder x.op) step.op ≡ true)
            (λ step next held h. held_more undone folder (not_done why x) step.op front next held h) rest old.ordered.0 old.held.1;
      }

  -- the first step rests on one that wasn't done just where it rests on one that tells
  pub first_told : (rest : List Step) → AreInOrder undone folder rest → is_first_held undone folder rest ≡ is_first_blocked undone rest
  first_told [] old = refl
  first_told (x ∷ rest) old = same_test (is_held undone folder x.op) (is_blocked undone x.op) (held_blocked undone folder x.op) old.held.0

  stays_there : (a b : Bool) → b ≡ true → (if a && not b then length undone else folder) ≡ folder
  stays_there true true e = refl
  stays_there false true e = refl
  stays_there a false e = absurd (cc)

  -- one that is skipped
  pub skipped_in_order : (x : Step) (rest : List Step) → is_blocked undone x.op ≡ true → AreInOrder undone folder (x ∷ rest)
      → AreInOrder (undone ++ not_done None x ∷ []) folder rest
  skipped_in_order x rest blocked old =
      subst (λ (n : ℕ). AreInOrder (undone ++ not_done None x ∷ []) n rest) (stays_there (is_folder x.op) (is_held undone folder x.op) (old.held.0 blocked)) (undone_in_order x rest None old)

  -- some are left out
  pub kept_in_order : (p : Step → Bool) (rest : List Step) → AreInOrder undone folder rest → AreInOrder undone folder (filter p rest)
  kept_in_order p rest old = record {
    ordered = pairs_kept (λ (a b : Step). MayStandBefore a.op b.op) p rest old.ordered;
    behind = all_weaker (λ (u : Undone). AllByRecursion (λ (step : Step). MayStandBefore u.op step.op) rest) (λ (u : Undone). AllByRecursion (λ (step : Step). MayStandBefore u.op step.op) (filter p rest))
        (λ u h. all_kept (λ (step : Step). MayStandBefore u.op step.op) p rest h) undone old.behind;
    held = all_kept (λ (step : Step). is_blocked undone step.op ≡ true → is_held undone folder step.op ≡ true) p rest old.held;
  }

  -- nothing is left
  pub none_in_order : AreInOrder undone folder []
  none_in_order = record { ordered = tt; behind = each (λ (u : Undone). AllByRecursion (λ (step : Step). MayStandBefore u.op step.op) []) (λ u. tt) undone; held = tt }
