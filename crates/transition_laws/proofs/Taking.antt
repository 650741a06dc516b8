-- Each operation takes away only what was seen.
use Rattle.std.proofs.Common.{◌≡◌, ℕ, Bool, true, false, List, [], ◌∷◌, ◌++◌, reverse, Option, Some, None, refl, sym, subst}
use Rattle.std.proofs.lemmas.List.{reverse-append}
use Rattle.std.specs.FinMap as map
use Rattle.std.specs.List.{AllByRecursion, filter_map}
use Rattle.std.specs.Option.{option_map, option_and_then, option_to_list}
use Rattle.std.specs.Prelude.{if◌then◌else◌}
use Rattle.entry_tree.specs.Tree.{Names, ByPath}
use Rattle.entry_tree.specs.declared.atom.Atom.{Atom}
use Rattle.entry_tree.specs.declared.atom.Atom.TheVariants as atom
use Rattle.entry_tree.specs.declared.entry.Entry.{Entry}
use Rattle.entry_tree.specs.declared.entry.Stamp.{Stamp}
use Rattle.mode_rules.specs.Placing.{sets_bit_alone}
use Rattle.mode_rules.specs.declared.change.Change.{Change}
use Rattle.plan_laws.proofs.Sets.{entries_stand, maps_all}
use Rattle.transition_plan.specs.Stepping.{entry_of, leaf_of, file_at, removed, removal, creation, bit_set, bit_change, leaf_change, replaces_leaf, whole_steps, steps_of}
use Rattle.transition_plan.specs.declared.step.Step.{Step}
use Rattle.transition_laws.specs.Laws.{EachTakesOnlySeen}
use Rattle.transition_laws.specs.Taking.{IsSeen, IsSeenIfAny, TakesOnlySeen}

same_step : (s t : Step) → Some s ≡ Some t → s ≡ t
same_step s t e = cc

all_joined : {X : Type 0} (P : X → Type 0) (xs ys : List X) → AllByRecursion P xs → AllByRecursion P ys → AllByRecursion P (xs ++ ys)
all_joined P [] ys p q = q
all_joined P (x ∷ xs) ys p q = (p.0, all_joined P xs ys p.1 q)

all_turned : {X : Type 0} (P : X → Type 0) (xs : List X) → AllByRecursion P xs → AllByRecursion P (reverse xs)
all_turned P [] all = tt
all_turned P (x ∷ xs) all = subst (AllByRecursion P) (sym (reverse-append (x ∷ []) xs)) (all_joined P (reverse xs) (x ∷ []) (all_turned P xs all.1) (all.0, tt))

each : {X : Type 0} (P : X → Type 0) → ((x : X) → P x) → (xs : List X) → AllByRecursion P xs
each P f [] = tt
each P f (x ∷ xs) = (f x, each P f xs)

module _ (stamps : ByPath Stamp) (change : Change) where
  abbrev Takes : Step → Type 0
  Takes step = TakesOnlySeen stamps change step.op

  -- what is removed
  removal_takes : (path : Names) (a : Atom) (o : Option Entry) (step : Step) → entry_of stamps path a ≡ o → map.get change.old path ≡ Some a → option_map (removed path) o ≡ Some step → Takes step
  removal_takes path a None step told there is = absurd (cc)
  removal_takes path a (Some expected) step told there is = subst Takes (same_step (removed path expected) step is) (record { atom = a; there = there; told = told })

  each_removal : (e : Names × Atom) → map.get change.old e.0 ≡ Some e.1 → (step : Step) → removal stamps e ≡ Some step → Takes step
  each_removal (path, a) there step is = removal_takes path a (entry_of stamps path a) step refl there is

  -- what is made
  made_takes : (expected : Option Entry) (path : Names) (a : Atom) (step : Step) → IsSeenIfAny stamps change path expected → creation expected (path, a) ≡ Some step → Takes step
  made_takes expected path atom.Dir step seen is = subst Takes (same_step _ step is) tt
  made_takes expected path (atom.File digest exec) step seen is = subst Takes (same_step _ step is) seen
  made_takes expected path (atom.Link text) step seen is = subst Takes (same_step _ step is) seen
  made_takes expected path atom.Untracked step seen is = absurd (cc)
  made_takes expected path (atom.Problem kind) step seen is = absurd (cc)

  each_creation : (e : Names × Atom) → Unit {0} → (step : Step) → creation None e ≡ Some step → Takes step
  each_creation (path, a) u step is = made_takes None path a step tt is

  -- what replaces a file or a link
  leaf_seen : (path : Names) (a : Atom) (expected : Entry) → map.get change.old path ≡ Some a → leaf_of stamps path a ≡ Some expected → IsSeen stamps change path expected
  leaf_seen path atom.Dir expected there told = absurd (cc)
  leaf_seen path (atom.File digest exec) expected there told = record { atom = atom.File digest exec; there = there; told = told }
  leaf_seen path (atom.Link text) expected there told = record { atom = atom.Link text; there = there; told = told }
  leaf_seen path atom.Untracked expected there told = absurd (cc)
  leaf_seen path (atom.Problem kind) expected there told = absurd (cc)

  all_of_one : (o : Option Step) → ((step : Step) → o ≡ Some step → Takes step) → AllByRecursion Takes (option_to_list o)
  all_of_one None f = tt
  all_of_one (Some step) f = (f step refl, tt)

  leaf_by : (path : Names) (a new : Atom) (o : Option Entry) → map.get change.old path ≡ Some a → leaf_of stamps path a ≡ o → (step : Step) → option_and_then (λ (expected : Entry). creation (Some expected) (path, new)) o ≡ Some step → Takes step
  leaf_by path a new None there told step is = absurd (cc)
  leaf_by path a new (Some expected) there told step is = made_takes (Some expected) path new step (leaf_seen path a expected there told) is

  leaf_takes : (path : Names) (old new : Option Atom) → map.get change.old path ≡ old → AllByRecursion Takes (option_to_list (leaf_change stamps path old new))
  leaf_takes path None new there = tt
  leaf_takes path (Some a) None there = tt
  leaf_takes path (Some a) (Some b) there = all_of_one (leaf_change stamps path (Some a) (Some b)) (λ step is. leaf_by path a b (leaf_of stamps path a) there refl step is)

  -- what gets another bit
  bit_by : (path : Names) (a : Atom) (digest : List ℕ) (on : Bool) (o : Option Entry) → map.get change.old path ≡ Some a → entry_of stamps path a ≡ o → (step : Step) → option_map (bit_set path digest on) o ≡ Some step → Takes step
  bit_by path a digest on None there told step is = absurd (cc)
  bit_by path a digest on (Some expected) there told step is = subst Takes (same_step (bit_set path digest on expected) step is) (record { atom = a; there = there; told = told })

  bit_takes : (path : Names) (old new : Option Atom) → map.get change.old path ≡ old → AllByRecursion Takes (option_to_list (bit_change stamps path old new))
  bit_takes path (Some (atom.File was x)) (Some (atom.File digest on)) there =
      all_of_one (option_map (bit_set path digest on) (file_at stamps path x)) (λ step is. bit_by path (atom.File was x) digest on (file_at stamps path x) there refl step is)
  bit_takes path old new there = tt

  whole_takes : AllByRecursion Takes (whole_steps stamps change)
  whole_takes =
      all_joined Takes (reverse (filter_map (removal stamps) (map.entries change.old))) (filter_map (creation None) (map.entries change.new))
      (all_turned Takes (filter_map (removal stamps) (map.entries change.old))
      (maps_all (λ e. map.get change.old e.0 ≡ Some e.1) Takes (removal stamps) each_removal (map.entries change.old) (entries_stand change.old)))
      (maps_all (λ e. Unit {0}) Takes (creation None) each_creation (map.entries change.new) (each (λ e. Unit {0}) (λ e. tt) (map.entries change.new)))

  all_take : AllByRecursion Takes (steps_of stamps change)
  all_take =
      let old = map.get change.old change.at in
      let new = map.get change.new change.at in
      elim (sets_bit_alone change) as (λ b. AllByRecursion Takes (if b then option_to_list (bit_change stamps change.at old new) else (if replaces_leaf change then option_to_list (leaf_change stamps change.at old new) else whole_steps stamps change))) [
        | true ↦ bit_takes change.at old new refl
        | false ↦ elim (replaces_leaf change) as (λ b. AllByRecursion Takes (if b then option_to_list (leaf_change stamps change.at old new) else whole_steps stamps change)) [
          | true ↦ leaf_takes change.at old new refl
          | false ↦ whole_takes
        ]
      ]

pub each_takes_only_seen : EachTakesOnlySeen
each_takes_only_seen stamps change = all_take stamps change
