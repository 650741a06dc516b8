-- The laws of undisturbed changes.
use Rattle.std.proofs.Common.{◌≡◌, ◌≢◌, ℕ, Bool, true, false, not, ◌||◌, ◌&&◌, List, [], ◌∷◌, ◌++◌, refl, sym, ap, ap₂, subst, ◌∙◌, Option, Some, None, bytes_eq, map as list_map}
use Rattle.std.specs.Prelude.{if◌then◌else◌}
use Rattle.std.proofs.lemmas.Bool.{and_parts}
use Rattle.std.specs.FinMap as map
use Rattle.std.specs.List.{cons_option, filter, filter_map, find, list_any}
use Rattle.std.specs.Option.{option_map_or, option_to_list}
use Rattle.finite_maps.proofs.Constructors.{nil_is_not_cons, none_is_not_some, some_same}
use Rattle.sync_path.specs.Path.{is_below}
use Rattle.entry_tree.specs.Atom.{is_tracked}
use Rattle.entry_tree.specs.Tree.{Names, ByPath}
use Rattle.entry_tree.specs.declared.atom.Atom.{Atom}
use Rattle.entry_tree.specs.declared.atom.Atom.TheVariants as atom
use Rattle.entry_tree.specs.declared.entry.Entry.TheVariants as entry
use Rattle.entry_tree.specs.declared.entry.Stamp.{Stamp}
use Rattle.entry_tree.specs.declared.side.Side.{Side}
use Rattle.mode_rules.specs.Placing.{is_one_content, sets_bit_alone}
use Rattle.mode_rules.specs.declared.ancestor_line.AncestorLine.TheVariants.{Set}
use Rattle.mode_rules.specs.declared.change.Change.{Change}
use Rattle.mode_rules.specs.declared.problem.Cause.{Cause}
use Rattle.mode_rules.specs.declared.problem.Cause.TheVariants as cause
use Rattle.mode_rules.specs.declared.problem.Problem.{Problem}
use Rattle.roots_api.specs.States.{RootState}
use Rattle.roots_api.specs.declared.op.Op.{Op}
use Rattle.roots_api.specs.declared.op.Op.TheVariants.{Place, MakeDir, MakeLink, Remove}
use Rattle.transition_plan.specs.Courses.{Course, cause_of, course_of, followed, not_done, problem_of, problems_of}
use Rattle.transition_plan.specs.Resting.{rests_on}
use Rattle.transition_plan.specs.Stepping.{bit_change, creation, is_leaf, leaf_change, replaces_leaf, whole_steps, steps_of}
use Rattle.transition_plan.specs.declared.step.Step.{Step}
use Rattle.transition_plan.specs.declared.undone.Undone.{Undone}
use Rattle.transition_laws.specs.Turns.{Turn, course_with}
use Rattle.transition_laws.specs.Undisturbed.{MayBegin, IsAtEnd, AreAnswered, Leaves, UndisturbedLeaves, UndisturbedProblems, has_let_be, staying, tracked_paths, problem_at, problems_left, skipped_for, why_stays}
use Rattle.transition_laws.proofs.Carrying.{Walk, ComesTo, carry, carried}
use Rattle.transition_laws.proofs.Finding.{no_true}
use Rattle.transition_laws.proofs.Leaving.{Ends, bit_ends, replaced_ends, let_be_ends, tracked_ends}
use Rattle.transition_laws.proofs.Removing.{note, map-append}

-- ---- the walk over the steps of a change

module _ (change : Change) (id : ℕ) (s : RootState) (stamps : ByPath Stamp) (m : MayBegin s id stamps change) where
  abbrev Ended : List Step → Type 0
  Ended steps = (skipped : List Step) × Ends change s (carry id s [] steps) skipped

  bit_case : (old new : Option Atom) → map.get change.old change.at ≡ old → map.get change.new change.at ≡ new → is_one_content old new ≡ true → sets_bit_alone change ≡ true
      → Ended (option_to_list (bit_change stamps change.at old new))
  bit_case (Some (atom.File d was)) (Some (atom.File e on)) old_is new_is same alone =
      ([], bit_ends change id s stamps m (ap is_leaf old_is) (ap is_leaf new_is) d was e on old_is new_is same alone)
  bit_case None new old_is new_is same alone = absurd (no_true false same refl)
  bit_case (Some atom.Dir) new old_is new_is same alone = absurd (no_true false same refl)
  bit_case (Some (atom.Link text)) new old_is new_is same alone = absurd (no_true false same refl)
  bit_case (Some atom.Untracked) new old_is new_is same alone = absurd (no_true false same refl)
  bit_case (Some (atom.Problem kind)) new old_is new_is same alone = absurd (no_true false same refl)
  bit_case (Some (atom.File d was)) None old_is new_is same alone = absurd (no_true false same refl)
  bit_case (Some (atom.File d was)) (Some atom.Dir) old_is new_is same alone = absurd (no_true false same refl)
  bit_case (Some (atom.File d was)) (Some (atom.Link text)) old_is new_is same alone = absurd (no_true false same refl)
  bit_case (Some (atom.File d was)) (Some atom.Untracked) old_is new_is same alone = absurd (no_true false same refl)
  bit_case (Some (atom.File d was)) (Some (atom.Problem kind)) old_is new_is same alone = absurd (no_true false same refl)

  whole_case : sets_bit_alone change ≡ false → (b : Bool) → has_let_be change.old ≡ b → Ended (whole_steps stamps change)
  whole_case no_bit true some = (filter_map (creation None) (map.entries change.new), let_be_ends change id s stamps m no_bit some)
  whole_case no_bit false none = ([], tracked_ends change id s stamps m no_bit none)

  leaf_case : sets_bit_alone change ≡ false → replaces_leaf change ≡ true → Ended (option_to_list (leaf_change stamps change.at (map.get change.old change.at) (map.get change.new change.at)))
  leaf_case no_bit leaves =
      let both = and_parts (is_leaf (map.get change.old change.at)) (is_leaf (map.get change.new change.at)) leaves in
      ([], replaced_ends change id s stamps m both.0 both.1 no_bit (map.get change.old change.at) (map.get change.new change.at) refl refl both.0 both.1)

  ended : Ended (steps_of stamps change)
  ended = by (sets_bit_alone change) refl
    where
      other : sets_bit_alone change ≡ false → (b : Bool) → replaces_leaf change ≡ b
          → Ended (if b then option_to_list (leaf_change stamps change.at (map.get change.old change.at) (map.get change.new change.at)) else whole_steps stamps change)
      other no_bit true leaves = leaf_case no_bit leaves
      other no_bit false none = whole_case no_bit (has_let_be change.old) refl

      by : (b : Bool) → sets_bit_alone change ≡ b
          → Ended (if b then option_to_list (bit_change stamps change.at (map.get change.old change.at) (map.get change.new change.at)) else
          (if replaces_leaf change then option_to_list (leaf_change stamps change.at (map.get change.old change.at) (map.get change.new change.at)) else whole_steps stamps change))
      by true alone = bit_case (map.get change.old change.at) (map.get change.new change.at) refl refl alone alone
      by false no_bit = other no_bit (replaces_leaf change) refl

  comes : (turns : List Turn) → IsAtEnd stamps change turns → AreAnswered id s turns → ComesTo id s change.side turns (course_of stamps change) (carry id s [] (steps_of stamps change))
  comes turns end answered = carried id change.side change.at (steps_of stamps change) s turns (course_of stamps change) refl end.0 answered end.1

pub undisturbed_leaves : UndisturbedLeaves
undisturbed_leaves stamps change id s turns m end answered =
    subst (λ (t : RootState). Leaves change s t) (sym (comes change id s stamps m turns end answered).state) (ended change id s stamps m).1.leaves

-- ---- the problems

none_found : (f : Names → Bool) (l : List Names) → find f l ≡ None → list_any f l ≡ false
none_found f [] h = refl
none_found f (p ∷ l) h = by (none_found f l) (f p) h
  where
    by : (find f l ≡ None → list_any f l ≡ false) → (b : Bool) → (if b then Some p else find f l) ≡ None → (b || list_any f l) ≡ false
    by more true h = absurd (none_is_not_some p (sym h))
    by more false h = more h

some_found : (f : Names → Bool) (l : List Names) (r : Names) → find f l ≡ Some r → list_any f l ≡ true
some_found f [] r h = absurd (none_is_not_some r h)
some_found f (p ∷ l) r h = by (some_found f l r) (f p) h
  where
    by : (find f l ≡ Some r → list_any f l ≡ true) → (b : Bool) → (if b then Some p else find f l) ≡ Some r → (b || list_any f l) ≡ true
    by more true h = refl
    by more false h = more h

module _ (side : Side) (all : List Names) where
  -- what a folder is skipped for
  note_found : (p : Names) (l : List Names) (more : List Undone) (r : Names) → find (λ k. is_below k p) l ≡ Some r
      → find (λ (u : Undone). rests_on (Remove p entry.Dir) u.op) (list_map (note all) l ++ more) ≡ Some (note all r)
  note_found p [] more r h = absurd (none_is_not_some r h)
  note_found p (k ∷ l) more r h = by (note_found p l more r) (is_below k p) h
    where
      by : (find (λ k. is_below k p) l ≡ Some r → find (λ (u : Undone). rests_on (Remove p entry.Dir) u.op) (list_map (note all) l ++ more) ≡ Some (note all r)) → (b : Bool)
          → (if b then Some k else find (λ k. is_below k p) l) ≡ Some r
          → (if b then Some (note all k) else find (λ (u : Undone). rests_on (Remove p entry.Dir) u.op) (list_map (note all) l ++ more)) ≡ Some (note all r)
      by next true h = ap (λ (q : Names). Some (note all q)) (some_same k r h)
      by next false h = next h

  one_note : (more : List Undone) (p : Names) → problem_of side (list_map (note all) all ++ more) (note all p) ≡ problem_at side p (why_stays all p)
  one_note more p = ap (problem_at side p) (by (find (λ k. is_below k p) all) refl)
    where
      cause_by : Option Cause → Cause
      cause_by why = option_map_or (λ (c : Cause). c) why (cause.Skipped (followed (list_map (note all) all ++ more) (note all p)))

      told : (b : Bool) → list_any (λ k. is_below k p) all ≡ b → cause_of (list_map (note all) all ++ more) (note all p) ≡ cause_by (if b then None else Some cause.NotEmpty)
      told b e = ap (λ (x : Bool). cause_by (if x then None else Some cause.NotEmpty)) e

      by : (o : Option Names) → find (λ k. is_below k p) all ≡ o → cause_of (list_map (note all) all ++ more) (note all p) ≡ option_map_or cause.Skipped (find (λ k. is_below k p) all) cause.NotEmpty
      by None e = told false (none_found (λ k. is_below k p) all e) ∙ ap (λ (o : Option Names). option_map_or cause.Skipped o cause.NotEmpty) (sym e)
      by (Some r) e =
          told true (some_found (λ k. is_below k p) all r e)
          ∙ ap (λ (o : Option Undone). cause.Skipped (option_map_or (λ (u : Undone). u.path) o p)) (note_found p all more r e)
          ∙ ap (λ (o : Option Names). option_map_or cause.Skipped o cause.NotEmpty) (sym e)

  notes : (more : List Undone) (l : List Names) → list_map (problem_of side (list_map (note all) all ++ more)) (list_map (note all) l) ≡ list_map (λ p. problem_at side p (why_stays all p)) l
  notes more [] = refl
  notes more (p ∷ l) = ap₂ (λ (x : Problem) (xs : List Problem). x ∷ xs) (one_note more p) (notes more l)

-- what is to be made is skipped for the first one that stays
made_skipped : (side : Side) (first : Undone) (p : Names) (e : Rattle.entry_tree.specs.declared.entry.Entry.Entry) (rest : List Undone) (es : List (Names × Atom)) → first.op ≡ Remove p e
    → list_map (problem_of side (first ∷ rest)) (list_map (not_done None) (filter_map (creation None) es))
    ≡ list_map (λ q. problem_at side q (cause.Skipped first.path)) (list_map (λ (x : Names × Atom). x.0) (filter (λ (x : Names × Atom). is_tracked x.1) es))
made_skipped side first p e rest [] is = refl
made_skipped side first p e rest (x ∷ es) is = by (made_skipped side first p e rest es is) x.1
  where
    Same : List Step → List (Names × Atom) → Type 0
    Same steps entries =
        list_map (problem_of side (first ∷ rest)) (list_map (not_done None) steps)
        ≡ list_map (λ q. problem_at side q (cause.Skipped first.path)) (list_map (λ (x : Names × Atom). x.0) entries)

    one : Same (filter_map (creation None) es) (filter (λ (x : Names × Atom). is_tracked x.1) es) → (a : Atom) (op : Op) → rests_on op (Remove p e) ≡ true
        → Same (record { op = op; line = Set x.0 a } ∷ filter_map (creation None) es) (x ∷ filter (λ (x : Names × Atom). is_tracked x.1) es)
    one more a op rests =
        ap₂ (λ (y : Problem) (ys : List Problem). y ∷ ys)
        (ap (λ b. problem_at side x.0 (cause.Skipped (option_map_or (λ (u : Undone). u.path) (if b then Some first else find (λ (u : Undone). rests_on op u.op) rest) x.0))) (ap (rests_on op) is ∙ rests))
        more

    by : Same (filter_map (creation None) es) (filter (λ (x : Names × Atom). is_tracked x.1) es) → (a : Atom)
        → Same (cons_option (creation None (x.0, a)) (filter_map (creation None) es)) (if is_tracked a then x ∷ filter (λ (x : Names × Atom). is_tracked x.1) es else filter (λ (x : Names × Atom). is_tracked x.1) es)
    by more atom.Dir = one more atom.Dir (MakeDir x.0) refl
    by more (atom.File digest exec) = one more (atom.File digest exec) (Place x.0 digest exec None) refl
    by more (atom.Link text) = one more (atom.Link text) (MakeLink x.0 text None) refl
    by more atom.Untracked = more
    by more (atom.Problem kind) = more

module _ (change : Change) (s : RootState) (w : Walk) (skipped : List Step) (e : Ends change s w skipped) where
  abbrev all : List Names
  all = staying change.old

  rest_skipped : (l : List Names) → all ≡ l
      → list_map (problem_of change.side (list_map (note all) l ++ list_map (not_done None) skipped)) (list_map (not_done None) skipped) ≡ skipped_for change.side l (tracked_paths change.new)
  rest_skipped [] is = ap (λ (steps : List Step). list_map (problem_of change.side (list_map (not_done None) skipped)) (list_map (not_done None) steps)) (e.none_skipped is)
  rest_skipped (p ∷ ps) is =
      ap (λ (steps : List Step). list_map (problem_of change.side (list_map (note all) (p ∷ ps) ++ list_map (not_done None) skipped)) (list_map (not_done None) steps))
      (e.all_skipped (λ none. nil_is_not_cons p ps (sym none ∙ is)))
      ∙ made_skipped change.side (note all p) p entry.Dir (list_map (note all) ps ++ list_map (not_done None) skipped) (map.entries change.new) refl

  problems_are : list_map (problem_of change.side w.undone) w.undone ≡ problems_left change
  problems_are =
      ap (λ (u : List Undone). list_map (problem_of change.side u) u) e.undone
      ∙ map-append (problem_of change.side (list_map (note all) all ++ list_map (not_done None) skipped)) (list_map (note all) all) (list_map (not_done None) skipped)
      ∙ ap₂ (λ (xs ys : List Problem). xs ++ ys) (notes change.side all (list_map (not_done None) skipped) all) (rest_skipped all refl)

pub undisturbed_problems : UndisturbedProblems
undisturbed_problems stamps change id s turns m end answered =
    let course = course_with (course_of stamps change) turns in
    let to = comes change id s stamps m turns end answered in
    let e = ended change id s stamps m in
    ap₂ (λ (side : Side) (u : List Undone). list_map (problem_of side u) u) to.side_is to.undone
    ∙ problems_are change s (carry id s [] (steps_of stamps change)) e.0 e.1
