-- What the operations of a cycle make on a side was seen on the other side.
use Rattle.std.proofs.Common.{◌≡◌, Bool, true, false, cond, List, [], ◌∷◌, reverse, ℕ, refl, sym, ap, subst, ◌∙◌, Option, Some, None, bytes_eq}
use Rattle.std.specs.Prelude.{if◌then◌else◌}
use Rattle.std.specs.FinMap as map
use Rattle.std.specs.List.{AllByRecursion, filter_map}
use Rattle.std.specs.Option.{option_map, option_and_then, option_to_list}
use Rattle.std.proofs.lemmas.Bool.{and_parts}
use Rattle.std.proofs.lemmas.Slice.Eq.{bytes_eq-Decides}
use Rattle.finite_maps.proofs.Constructors.{none_is_not_some, some_same}
use Rattle.sync_path.specs.Path.{is_under, path_cmp}
use Rattle.entry_tree.specs.Side.{other_side}
use Rattle.entry_tree.specs.Subtree.{subtree}
use Rattle.entry_tree.specs.Tree.{Names, ByPath}
use Rattle.entry_tree.specs.declared.atom.Atom.{Atom}
use Rattle.entry_tree.specs.declared.atom.Atom.TheVariants as atom
use Rattle.entry_tree.specs.declared.entry.Entry.{Entry}
use Rattle.entry_tree.specs.declared.entry.Stamp.{Stamp}
use Rattle.entry_tree.specs.declared.side.Side.{Side}
use Rattle.entry_tree.specs.declared.side.Side.TheVariants.{Alpha, Beta}
use Rattle.mode_rules.proofs.Changing.{get-subtree-any}
use Rattle.mode_rules.proofs.ListLaws.{kept_in}
use Rattle.mode_rules.specs.Laws.{held, is_of}
use Rattle.mode_rules.specs.Placing.{sets_bit_alone}
use Rattle.mode_rules.specs.Plans.{change_at, change_by, plan_of}
use Rattle.mode_rules.specs.Trees.{Trees, is_point, paths_of}
use Rattle.mode_rules.specs.Verdicts.{verdict}
use Rattle.mode_rules.specs.declared.change.Change.{Change}
use Rattle.mode_rules.specs.declared.mode.Mode.{Mode}
use Rattle.mode_rules.specs.declared.verdict.Verdict.{Verdict}
use Rattle.mode_rules.specs.declared.verdict.Verdict.TheVariants as verdicts
use Rattle.plan_laws.proofs.Sets.{entries_stand, maps_all}
use Rattle.roots_api.specs.States.{is_expected}
use Rattle.roots_api.specs.declared.event.Span.{Span}
use Rattle.roots_api.specs.declared.op.Op.{Op}
use Rattle.roots_api.specs.declared.op.Op.TheVariants.{List as OpList, Fetch, StageClear, StageOpen, StageAppend, StageKeep, Place, MakeDir, MakeLink, Remove, SetExec}
use Rattle.scan_laws.specs.Seen.{Heard, same_path, paths_in}
use Rattle.transition_plan.specs.Stepping.{entry_of, leaf_of, file_at, removed, removal, creation, bit_set, bit_change, leaf_change, replaces_leaf, whole_steps, steps_of}
use Rattle.transition_plan.specs.declared.step.Step.{Step}
use Rattle.cycle_law.specs.Cycles.{Session, Cycle, Ground, scanned_on}
use Rattle.cycle_law.specs.Ordering.{changing_on, are_in_order, changes_in_order}
use Rattle.cycle_law.specs.Plans.{sight, plan, changes_of, steps_on}
use Rattle.cycle_law.specs.Sameness.{same_op}
use Rattle.cycle_law.specs.Saw.{saw_at, stamps_seen}
use Rattle.cycle_law.proofs.Lists.{all_joined, all_turned, all_each, all_flat, all_filtered, all_weaker}
use Rattle.cycle_law.proofs.Points.{get-by_points}
use Rattle.cycle_law.proofs.Tests.{same_path_is}

-- the folder or the link that an operation makes stands there
abbrev pub Makes : (Names → Option Atom) → Op → Type 0
Makes found (MakeDir p) = found p ≡ Some atom.Dir
Makes found (MakeLink p text expected) = found p ≡ Some (atom.Link text)
Makes found op = Unit {0}

abbrev Leads : (Names → Option Atom) → (Names → Option Atom) → Type 0
Leads f g = (p : Names) (a : Atom) → f p ≡ Some a → g p ≡ Some a

makes_there : (f g : Names → Option Atom) → Leads f g → (op : Op) → Makes f op → Makes g op
makes_there f g leads (MakeDir p) h = leads p atom.Dir h
makes_there f g leads (MakeLink p text expected) h = leads p (atom.Link text) h
makes_there f g leads (OpList p) h = tt
makes_there f g leads (Fetch p stamp offset) h = tt
makes_there f g leads StageClear h = tt
makes_there f g leads StageOpen h = tt
makes_there f g leads (StageAppend bytes) h = tt
makes_there f g leads (StageKeep digest) h = tt
makes_there f g leads (Place p digest exec expected) h = tt
makes_there f g leads (Remove p expected) h = tt
makes_there f g leads (SetExec p expected on) h = tt

-- ---- the steps of a change make what its new tree holds

module _ (stamps : ByPath Stamp) (change : Change) where
  abbrev Made : Step → Type 0
  Made step = Makes (map.get change.new) step.op

  removal_made : (e : Names × Atom) → Unit {0} → (step : Step) → removal stamps e ≡ Some step → Made step
  removal_made (path, a) u step is = by (entry_of stamps path a) is
    where
      by : (o : Option Entry) → option_map (removed path) o ≡ Some step → Made step
      by None is = absurd (none_is_not_some step is)
      by (Some expected) is = subst Made (some_same _ step is) tt

  creation_made : (expected : Option Entry) (path : Names) (a : Atom) → map.get change.new path ≡ Some a → (step : Step) → creation expected (path, a) ≡ Some step → Made step
  creation_made expected path atom.Dir there step is = subst Made (some_same _ step is) there
  creation_made expected path (atom.File digest exec) there step is = subst Made (some_same _ step is) tt
  creation_made expected path (atom.Link text) there step is = subst Made (some_same _ step is) there
  creation_made expected path atom.Untracked there step is = absurd (none_is_not_some step is)
  creation_made expected path (atom.Problem kind) there step is = absurd (none_is_not_some step is)

  all_of_one : (o : Option Step) → ((step : Step) → o ≡ Some step → Made step) → AllByRecursion Made (option_to_list o)
  all_of_one None f = tt
  all_of_one (Some step) f = (f step refl, tt)

  leaf_by : (path : Names) (new : Atom) (o : Option Entry) → map.get change.new path ≡ Some new → (step : Step) → option_and_then (λ (expected : Entry). creation (Some expected) (path, new)) o ≡ Some step → Made step
  leaf_by path new None there step is = absurd (none_is_not_some step is)
  leaf_by path new (Some expected) there step is = creation_made (Some expected) path new there step is

  leaf_made : (path : Names) (old new : Option Atom) → map.get change.new path ≡ new → AllByRecursion Made (option_to_list (leaf_change stamps path old new))
  leaf_made path None new there = tt
  leaf_made path (Some a) None there = tt
  leaf_made path (Some a) (Some b) there = all_of_one (leaf_change stamps path (Some a) (Some b)) (λ step is. leaf_by path b (leaf_of stamps path a) there step is)

  bit_by : (path : Names) (digest : List ℕ) (on : Bool) (o : Option Entry) (step : Step) → option_map (bit_set path digest on) o ≡ Some step → Made step
  bit_by path digest on None step is = absurd (none_is_not_some step is)
  bit_by path digest on (Some expected) step is = subst Made (some_same _ step is) tt

  bit_made : (path : Names) (old new : Option Atom) → AllByRecursion Made (option_to_list (bit_change stamps path old new))
  bit_made path (Some (atom.File was x)) (Some (atom.File digest on)) =
      all_of_one (option_map (bit_set path digest on) (file_at stamps path x)) (λ step is. bit_by path digest on (file_at stamps path x) step is)
  bit_made path old new = tt

  whole_made : AllByRecursion Made (whole_steps stamps change)
  whole_made =
      all_joined Made (reverse (filter_map (removal stamps) (map.entries change.old))) (filter_map (creation None) (map.entries change.new))
      (all_turned Made (filter_map (removal stamps) (map.entries change.old))
      (maps_all (λ e. Unit {0}) Made (removal stamps) removal_made (map.entries change.old) (all_each (λ e. Unit {0}) (λ e. tt) (map.entries change.old))))
      (maps_all (λ e. map.get change.new e.0 ≡ Some e.1) Made (creation None) (λ e there step is. creation_made None e.0 e.1 there step is) (map.entries change.new) (entries_stand change.new))

  pub all_made : AllByRecursion Made (steps_of stamps change)
  all_made =
      let old = map.get change.old change.at in
      let new = map.get change.new change.at in
      elim (sets_bit_alone change) as (λ b. AllByRecursion Made (if b then option_to_list (bit_change stamps change.at old new) else (if replaces_leaf change then option_to_list (leaf_change stamps change.at old new) else whole_steps stamps change))) [
        | true ↦ bit_made change.at old new
        | false ↦ elim (replaces_leaf change) as (λ b. AllByRecursion Made (if b then option_to_list (leaf_change stamps change.at old new) else whole_steps stamps change)) [
          | true ↦ leaf_made change.at old new refl
          | false ↦ whole_made
        ]
      ]

-- ---- what a change's new tree holds, the other side held

module _ (t : Trees) where
  abbrev Comes : Change → Type 0
  Comes change = Leads (map.get change.new) (map.get (held t (other_side change.side)))

  within : (tree : ByPath Atom) (at : Names) → Leads (map.get (subtree tree at)) (map.get tree)
  within tree at p a is = by (is_under p at) (sym (get-subtree-any tree at p) ∙ is)
    where
      by : (b : Bool) → cond b (map.get tree p) None ≡ Some a → map.get tree p ≡ Some a
      by true is = is
      by false is = absurd (none_is_not_some a is)

  nothing : (f : Names → Option Atom) → Leads (map.get (map.empty {X = Atom} {R = path_cmp})) f
  nothing f p a is = absurd (none_is_not_some a (sym (map.get-empty path_cmp p) ∙ is))

  comes_by : (p : Names) (v : Verdict) (change : Change) → change_by t p v ≡ Some change → Comes change
  comes_by p verdicts.AlphaTakes change is = subst Comes (some_same _ change is) (within t.beta p)
  comes_by p verdicts.BetaTakes change is = subst Comes (some_same _ change is) (within t.alpha p)
  comes_by p verdicts.AlphaEmptied change is = subst Comes (some_same _ change is) (nothing (map.get t.beta))
  comes_by p verdicts.BetaEmptied change is = subst Comes (some_same _ change is) (nothing (map.get t.alpha))
  comes_by p verdicts.Left change is = absurd (none_is_not_some change is)
  comes_by p verdicts.Blocked change is = absurd (none_is_not_some change is)
  comes_by p verdicts.Gone change is = absurd (none_is_not_some change is)
  comes_by p verdicts.Agreed change is = absurd (none_is_not_some change is)
  comes_by p verdicts.BetaKeeps change is = absurd (none_is_not_some change is)
  comes_by p verdicts.Both change is = absurd (none_is_not_some change is)

  comes_at : (mode : Mode) (p : Names) (change : Change) → change_at mode t p ≡ Some change → Comes change
  unfolding change_at
  comes_at mode p change is = comes_by p (verdict mode t p) change is

  pub all_come : (mode : Mode) → AllByRecursion Comes (plan_of mode t).changes
  all_come mode = kept_in (λ p. Unit {0}) (is_point t) (change_at mode t) Comes (λ p u point change is. comes_at mode p change is) (paths_of t) (all_each (λ p. Unit {0}) (λ p. tt) (paths_of t))

-- ---- and so in a cycle

of_side : (s r : Side) → is_of s r ≡ true → r ≡ s
of_side Alpha Alpha h = refl
of_side Beta Beta h = refl
of_side Alpha Beta h = absurd (cc)
of_side Beta Alpha h = absurd (cc)

-- an operation that is the same as a step's makes what the step makes
same_makes : (found : Names → Option Atom) (op step : Op) → same_op op step ≡ true → Makes found step → Makes found op
same_makes found (MakeDir p) (MakeDir q) same h = ap found (same_path_is p q same) ∙ h
same_makes found (MakeLink p a e) (MakeLink q b g) same h =
    let one = and_parts (same_path p q) _ same in
    let two = and_parts (bytes_eq a b) (is_expected e g) one.1 in
    ap found (same_path_is p q one.0) ∙ h ∙ ap (λ (x : List ℕ). Some (atom.Link x)) (sym ((bytes_eq-Decides a b).0 two.0))
same_makes found (MakeDir p) op same h = absurd (cc)
same_makes found (MakeLink p a e) op same h = absurd (cc)
same_makes found (OpList p) step same h = tt
same_makes found (Fetch p stamp offset) step same h = tt
same_makes found StageClear step same h = tt
same_makes found StageOpen step same h = tt
same_makes found (StageAppend bytes) step same h = tt
same_makes found (StageKeep digest) step same h = tt
same_makes found (Place p digest exec expected) step same h = tt
same_makes found (Remove p expected) step same h = tt
same_makes found (SetExec p expected on) step same h = tt

module _ (found : Names → Option Atom) where
  in_order_make : (hs : List (Heard Span)) (steps : List Step) → are_in_order hs steps ≡ true → AllByRecursion (λ (s : Step). Makes found s.op) steps → AllByRecursion (λ (h : Heard Span). Makes found h.op) hs
  in_order_make [] steps order all = tt
  in_order_make (h ∷ hs) [] order all = absurd (cc)
  in_order_make (h ∷ hs) (step ∷ steps) order all = by (same_op h.op step.op) refl order (λ rest. in_order_make hs steps rest all.1) (λ rest. in_order_make (h ∷ hs) steps rest all.1)
    where
      by : (b : Bool) → same_op h.op step.op ≡ b → (if b then are_in_order hs steps else are_in_order (h ∷ hs) steps) ≡ true
          → (are_in_order hs steps ≡ true → AllByRecursion (λ (h : Heard Span). Makes found h.op) hs)
          → (are_in_order (h ∷ hs) steps ≡ true → AllByRecursion (λ (h : Heard Span). Makes found h.op) (h ∷ hs)) → AllByRecursion (λ (h : Heard Span). Makes found h.op) (h ∷ hs)
      by true e order behind here = (same_makes found h.op step.op e all.0, behind order)
      by false e order behind here = here order

module _ (session : Session) (g : Ground) (c : Cycle) where
  saw_there : (side : Side) → Leads (map.get (held (sight session g c) side)) (saw_at session g c side)
  saw_there Alpha p a is = get-by_points (saw_at session g c Alpha) (paths_in (scanned_on g c Alpha)) p a is
  saw_there Beta p a is = get-by_points (saw_at session g c Beta) (paths_in (scanned_on g c Beta)) p a is

  module _ (side : Side) where
    abbrev Found : Change → Type 0
    Found change = Leads (map.get change.new) (saw_at session g c (other_side side))

    found_each : (change : Change) → is_of side change.side ≡ true → Comes (sight session g c) change → Found change
    found_each change of comes p a is =
        saw_there (other_side side) p a (subst (λ s. map.get (held (sight session g c) (other_side s)) p ≡ Some a) (of_side side change.side of) (comes p a is))

    changes_found : AllByRecursion Found (changes_of session g c side)
    changes_found = all_filtered Found (Comes (sight session g c)) (λ (change : Change). is_of side change.side) found_each (plan session g c).changes (all_come (sight session g c) session.mode)

    steps_make : AllByRecursion (λ (s : Step). Makes (saw_at session g c (other_side side)) s.op) (steps_on session g c side)
    steps_make =
        all_flat Found (λ (s : Step). Makes (saw_at session g c (other_side side)) s.op) (steps_of (stamps_seen session g c side))
        (λ change finds. all_weaker (Made (stamps_seen session g c side) change) (λ (s : Step). Makes (saw_at session g c (other_side side)) s.op)
        (λ s made. makes_there (map.get change.new) (saw_at session g c (other_side side)) finds s.op made) (steps_of (stamps_seen session g c side) change) (all_made (stamps_seen session g c side) change))
        (changes_of session g c side) changes_found

    -- each folder and each link that a cycle makes on a side was seen on the other side
    pub changing_make : changes_in_order session g c side ≡ true → AllByRecursion (λ (h : Heard Span). Makes (saw_at session g c (other_side side)) h.op) (changing_on g c side)
    changing_make order = in_order_make (saw_at session g c (other_side side)) (changing_on g c side) (steps_on session g c side) order steps_make
