-- The removals of an undisturbed change.
use Rattle.std.proofs.Common.{◌≡◌, ◌≢◌, ◌==◌, eq-eqb, ℕ, Bool, true, false, cond, not, ◌||◌, ◌&&◌, List, [], ◌∷◌, ◌++◌, reverse, refl, sym, ap, ap₂, subst, ◌∙◌, inl, inr, Option, Some, None, append_assoc, map as list_map}
use Rattle.std.specs.Prelude.{◌⊎◌, is_some, if◌then◌else◌}
use Rattle.std.proofs.lemmas.Bool.{and_parts, and_from, or_cases, or_left, or_right}
use Rattle.std.proofs.lemmas.List.{reverse-append, append-nil}
use Rattle.std.specs.FinMap as map
use Rattle.std.specs.List.{cons_option, filter, filter_map, list_any, AllByRecursion}
use Rattle.std.specs.List.Sorted.{IsStrictlySortedBy}
use Rattle.std.specs.Map.{keys_of}
use Rattle.std.specs.Option.{option_map, option_to_list}
use Rattle.std.specs.Ordering.{is_eq, eq_by_cmp}
use Rattle.std.specs.declared.cmp.Ordering.TheVariants.{Less, Equal}
use Rattle.std.proofs.lemmas.Cmp.{tied_itself}
use Rattle.std.proofs.lemmas.Map.Keys.{sorted_head, sorted_tail}
use Rattle.finite_maps.proofs.Constructors.{none_is_not_some, some_same}
use Rattle.sync_path.specs.Path.{path_cmp, is_under, is_below}
use Rattle.sync_path.specs.PathOrder.{path_cmp_total}
use Rattle.entry_tree.specs.Atom.{is_dir as is_folder, is_tracked, same_bit}
use Rattle.entry_tree.specs.Entry.{is_dir}
use Rattle.entry_tree.specs.Tree.{Names, ByPath, holds_folder, has_below, without_under}
use Rattle.entry_tree.specs.declared.atom.Atom.{Atom}
use Rattle.entry_tree.specs.declared.atom.Atom.TheVariants as atom
use Rattle.entry_tree.specs.declared.entry.Entry.{Entry}
use Rattle.entry_tree.specs.declared.entry.Entry.TheVariants as entry
use Rattle.entry_tree.specs.declared.entry.Stamp.{Stamp}
use Rattle.entry_tree.proofs.Paths.{name_itself, under_itself, not_below_itself}
use Rattle.entry_tree.proofs.Trees.{get-retain, tie_is}
use Rattle.mode_rules.specs.Trees.{holds_tracked}
use Rattle.mode_rules.proofs.Agreeing.{less_before}
use Rattle.mode_rules.proofs.Below.{below_is_under, under_both, under_through, one_is_under}
use Rattle.mode_rules.specs.declared.problem.Cause.{Cause}
use Rattle.mode_rules.specs.declared.problem.Cause.TheVariants as cause
use Rattle.roots_api.specs.Answers.{is_done, is_dropped}
use Rattle.roots_api.specs.States.{RootState, is_expected, same_entry, with_tree}
use Rattle.roots_api.specs.Steps.{answer_of, after, done, where_expected}
use Rattle.roots_api.specs.declared.answer.Answer.{Answer}
use Rattle.roots_api.specs.declared.answer.Answer.TheVariants.{Done, Differs, NotEmpty}
use Rattle.roots_api.specs.declared.op.Op.{Op}
use Rattle.roots_api.specs.declared.op.Op.TheVariants.{Remove}
use Rattle.transition_plan.specs.Courses.{fate_of, is_blocked, not_done}
use Rattle.transition_plan.specs.Resting.{rests_on}
use Rattle.transition_plan.specs.Stepping.{entry_of, removed, removal}
use Rattle.transition_plan.specs.declared.step.Step.{Step}
use Rattle.transition_plan.specs.declared.undone.Undone.{Undone}
use Rattle.transition_laws.specs.Undisturbed.{IsPartOfTree, StandsFor, Agrees, is_let_be, has_let_be_below, is_beneath_let_be, stays, goes, staying}
use Rattle.transition_laws.proofs.Carrying.{Walk, by_fate, carry}
use Rattle.transition_laws.proofs.Finding.{no_true, same_test, is_false, nothing_there, Met, any_from_there, there_from_any, are_sorted, each_stands, is_among, among_entries, not_among, before_all}

-- ---- paths

-- what lies below a path lies under it, and the path doesn't lie under that
pub below_parts : (r p : Names) → is_below r p ≡ true → (is_under r p ≡ true) × (is_under p r ≡ false)
below_parts r p h = by (is_under p r) refl (and_parts (is_under r p) (not (is_under p r)) (sym (below_is_under r p) ∙ h))
  where
    by : (b : Bool) → is_under p r ≡ b → (is_under r p ≡ true) × (not (is_under p r) ≡ true) → (is_under r p ≡ true) × (is_under p r ≡ false)
    by true e both = absurd (let no : false ≡ true = sym (ap not e) ∙ both.1 in cc)
    by false e both = (both.0, e)

pub below_from : (r p : Names) → is_under r p ≡ true → is_under p r ≡ false → is_below r p ≡ true
below_from r p under apart = below_is_under r p ∙ and_from (is_under r p) (not (is_under p r)) under (ap not apart)

pub below_through : (a b c : Names) → is_below a b ≡ true → is_below b c ≡ true → is_below a c ≡ true
below_through a b c one two =
    let ab = below_parts a b one in
    let bc = below_parts b c two in
    below_from a c (under_through a b c ab.0 bc.0)
    (is_false (is_under c a) (λ up. no_true (is_under c b) (under_through c a b up ab.0) bc.1))

pub under_below : (a b c : Names) → is_below a b ≡ true → is_under b c ≡ true → is_under a c ≡ true
under_below a b c one two = under_through a b c (below_parts a b one).0 two

pub below_is_later : (r p : Names) → is_below r p ≡ true → path_cmp p r ≡ Less
below_is_later r p h = let parts = below_parts r p h in less_before r p parts.0 parts.1

-- two paths above a third: the same, or one below the other
data Lies (a b : Names) : Type 0 where
  lies_same : a ≡ b → Lies a b
  lies_down : is_below a b ≡ true → Lies a b
  lies_up : is_below b a ≡ true → Lies a b

lies : (r a b : Names) → is_below r a ≡ true → is_below r b ≡ true → Lies a b
lies r a b one two = by (is_under a b) refl (is_under b a) refl
  where
    by : (x : Bool) → is_under a b ≡ x → (y : Bool) → is_under b a ≡ y → Lies a b
    by true e true f = lies_same (under_both a b e f)
    by true e false f = lies_down (below_from a b e f)
    by false e y f =
        let turned = one_is_under r a b (below_parts r a one).0 (below_parts r b two).0 e in
        lies_up (below_from b a turned e)

-- ---- the old tree

module _ (old : ByPath Atom) (at : Names) (part : IsPartOfTree old at) where
  there : (p : Names) (a : Atom) → map.get old p ≡ Some a → is_some (map.get old p) ≡ true
  there p a e = ap is_some e

  -- what isn't tracked has a folder above it at each path under the change's
  pub let_be_keeps : (p w : Names) (a : Atom) → is_under p at ≡ true → map.get old w ≡ Some a → is_tracked a ≡ false → is_below w p ≡ true → stays old p ≡ true
  let_be_keeps p w a under stands tracked below =
      and_from (holds_folder is_folder (map.get old p)) (has_let_be_below old p) (part.folders p w (there w a stands) below under)
      (any_from_there (λ (e : Names × Atom). is_let_be e && is_below e.0 p) old w a stands (and_from (not (is_tracked a)) (is_below w p) (ap not tracked) below))

  -- a folder that stays has something that isn't tracked below it
  pub record Reason (p : Names) : Type 0 where
    pub path : Names
    pub value : Atom
    pub there : map.get old path ≡ Some value
    pub let_be : is_tracked value ≡ false
    pub below : is_below path p ≡ true

  pub not_is : (b : Bool) → not b ≡ true → b ≡ false
  not_is true h = let no : false ≡ true = h in cc
  not_is false h = refl

  pub reason : (p : Names) → stays old p ≡ true → Reason p
  reason p h =
      let both = and_parts (holds_folder is_folder (map.get old p)) (has_let_be_below old p) h in
      let met = there_from_any (λ (e : Names × Atom). is_let_be e && is_below e.0 p) old both.1 in
      let parts = and_parts (not (is_tracked met.value)) (is_below met.path p) met.is in
      record { path = met.path; value = met.value; there = met.there; let_be = not_is (is_tracked met.value) parts.0; below = parts.1 }

  -- a folder above one that stays, stays
  pub stays_up : (p r : Names) → is_under p at ≡ true → stays old r ≡ true → is_below r p ≡ true → stays old p ≡ true
  stays_up p r under h below = let why = reason r h in let_be_keeps p why.path why.value under why.there why.let_be (below_through why.path r p why.below below)

  holds_stay : (p : Names) → stays old p ≡ true → holds_folder is_folder (map.get old p) ≡ true
  holds_stay p h = (and_parts (holds_folder is_folder (map.get old p)) (has_let_be_below old p) h).0

  pub folder_is : (o : Option Atom) → holds_folder is_folder o ≡ true → o ≡ Some atom.Dir
  folder_is None h = let no : false ≡ true = h in absurd (cc)
  folder_is (Some atom.Dir) h = refl
  folder_is (Some (atom.File digest exec)) h = let no : false ≡ true = h in absurd (cc)
  folder_is (Some (atom.Link text)) h = let no : false ≡ true = h in absurd (cc)
  folder_is (Some atom.Untracked) h = let no : false ≡ true = h in absurd (cc)
  folder_is (Some (atom.Problem kind)) h = let no : false ≡ true = h in absurd (cc)

  pub stays_folder : (p : Names) → stays old p ≡ true → map.get old p ≡ Some atom.Dir
  stays_folder p h = folder_is (map.get old p) (holds_stay p h)

  pub goes_not : (p : Names) → stays old p ≡ true → goes old p ≡ false
  goes_not p h = by (holds_tracked (map.get old p))
    where
      by : (b : Bool) → (b && not (stays old p)) ≡ false
      by true = ap not h
      by false = refl

  pub goes_is : (p : Names) (a : Atom) → map.get old p ≡ Some a → is_tracked a ≡ true → stays old p ≡ false → goes old p ≡ true
  goes_is p a e tracked apart = and_from (holds_tracked (map.get old p)) (not (stays old p)) (ap holds_tracked e ∙ tracked) (ap not apart)

  pub goes_untracked : (p : Names) (a : Atom) → map.get old p ≡ Some a → is_tracked a ≡ false → goes old p ≡ false
  goes_untracked p a e tracked = ap (λ (o : Option Atom). holds_tracked o && not (stays old p)) e ∙ ap (λ b. b && not (stays old p)) tracked

  pub goes_nothing : (p : Names) → map.get old p ≡ None → goes old p ≡ false
  goes_nothing p e = ap (λ (o : Option Atom). holds_tracked o && not (stays old p)) e

  -- ---- the entries from some place on

  -- each path of the tree is among them, or stands before all
  abbrev pub Covers : List (Names × Atom) → Type 0
  Covers es = (r : Names) (a : Atom) → map.get old r ≡ Some a → (is_among es r ≡ true) ⊎ AllByRecursion (λ k. path_cmp r k ≡ Less) (keys_of es)

  pub covers_all : Covers (map.entries old)
  covers_all r a e = inl (among_entries old r a e)

  pub covers_rest : (e : Names × Atom) (es : List (Names × Atom)) → AllByRecursion (λ k. path_cmp e.0 k ≡ Less) (keys_of es) → Covers (e ∷ es) → Covers es
  covers_rest e es later covers r a stands = by (covers r a stands)
    where
      either : (b : Bool) → eq_by_cmp path_cmp r e.0 ≡ b → (b || is_among es r) ≡ true → (is_among es r ≡ true) ⊎ AllByRecursion (λ k. path_cmp r k ≡ Less) (keys_of es)
      either true t h = inr (subst (λ (q : Names). AllByRecursion (λ k. path_cmp q k ≡ Less) (keys_of es)) (sym (tie_is r e.0 t)) later)
      either false t h = inl h

      by : (is_among (e ∷ es) r ≡ true) ⊎ AllByRecursion (λ k. path_cmp r k ≡ Less) (keys_of (e ∷ es)) → (is_among es r ≡ true) ⊎ AllByRecursion (λ k. path_cmp r k ≡ Less) (keys_of es)
      by (inl among) = either (eq_by_cmp path_cmp r e.0) refl among
      by (inr before) = inr before.1

  -- what stands below the first of them is among the others
  pub later_among : (e : Names × Atom) (es : List (Names × Atom)) → Covers (e ∷ es) → (r : Names) (a : Atom) → map.get old r ≡ Some a → is_below r e.0 ≡ true → is_among es r ≡ true
  later_among e es covers r a stands below = by (covers r a stands)
    where
      either : (b : Bool) → eq_by_cmp path_cmp r e.0 ≡ b → (b || is_among es r) ≡ true → is_among es r ≡ true
      either true t h = absurd (no_true (is_below r e.0) below (ap (λ (q : Names). is_below q e.0) (tie_is r e.0 t) ∙ not_below_itself e.0))
      either false t h = h

      by : (is_among (e ∷ es) r ≡ true) ⊎ AllByRecursion (λ k. path_cmp r k ≡ Less) (keys_of (e ∷ es)) → is_among es r ≡ true
      by (inl among) = either (eq_by_cmp path_cmp r e.0) refl among
      by (inr before) = absurd (let turned : path_cmp r r ≡ Less = path_cmp_total.trans r e.0 r before.0 (below_is_later r e.0 below) in let no : Less ≡ Equal = sym turned ∙ tied_itself path_cmp_total r in cc)

-- ---- what is written down of the folders that stay

-- what is written down of one of them: skipped, if there is one below it
abbrev pub note : List Names → Names → Undone
note all p = record { path = p; op = Remove p entry.Dir; cause = if list_any (λ r. is_below r p) all then None else Some cause.NotEmpty }

-- the folders that stay among these entries, in the order of their removals
abbrev pub staying_in : ByPath Atom → List (Names × Atom) → List Names
staying_in old [] = []
staying_in old (e ∷ es) = if stays old e.0 then staying_in old es ++ e.0 ∷ [] else staying_in old es

module _ {X : Type 0} where
  reverse-one : (x : X) (xs ys : List X) → reverse (x ∷ xs) ++ ys ≡ reverse xs ++ x ∷ ys
  reverse-one x xs ys = ap (λ l. l ++ ys) (reverse-append (x ∷ []) xs) ∙ append_assoc (reverse xs) (x ∷ []) ys

pub staying_is : (old : ByPath Atom) (es : List (Names × Atom)) → staying_in old es ≡ reverse (filter (stays old) (keys_of es))
staying_is old [] = refl
staying_is old (e ∷ es) = by (staying_is old es) (stays old e.0) refl
  where
    by : staying_in old es ≡ reverse (filter (stays old) (keys_of es)) → (b : Bool) → stays old e.0 ≡ b → (if b then staying_in old es ++ e.0 ∷ [] else staying_in old es) ≡ reverse (if b then e.0 ∷ filter (stays old) (keys_of es) else filter (stays old) (keys_of es))
    by more true s = ap (λ l. l ++ e.0 ∷ []) more ∙ sym (reverse-append (e.0 ∷ []) (filter (stays old) (keys_of es)))
    by more false s = more

module _ {X : Type 0} where
  pub any-append : (f : X → Bool) (xs ys : List X) → list_any f (xs ++ ys) ≡ (list_any f xs || list_any f ys)
  any-append f [] ys = refl
  any-append f (x ∷ xs) ys = by (any-append f xs ys) (f x)
    where
      by : list_any f (xs ++ ys) ≡ (list_any f xs || list_any f ys) → (b : Bool) → (b || list_any f (xs ++ ys)) ≡ ((b || list_any f xs) || list_any f ys)
      by more true = refl
      by more false = more

  pub any-map : {Y : Type 0} (f : Y → Bool) (g : X → Y) (xs : List X) → list_any f (list_map g xs) ≡ list_any (λ x. f (g x)) xs
  any-map f g [] = refl
  any-map f g (x ∷ xs) = ap (λ b. f (g x) || b) (any-map f g xs)

  pub map-append : {Y : Type 0} (g : X → Y) (xs ys : List X) → list_map g (xs ++ ys) ≡ list_map g xs ++ list_map g ys
  map-append g [] ys = refl
  map-append g (x ∷ xs) ys = ap (λ l. g x ∷ l) (map-append g xs ys)

module _ {X : Type 0} where
  pub any_witness : (g : X → Bool) (xs : List X) → list_any g xs ≡ true → (x : X) × (g x ≡ true)
  any_witness g [] h = absurd (no_true false h refl)
  any_witness g (x ∷ xs) h = by (any_witness g xs) (g x) refl h
    where
      by : (list_any g xs ≡ true → (y : X) × (g y ≡ true)) → (b : Bool) → g x ≡ b → (b || list_any g xs) ≡ true → (y : X) × (g y ≡ true)
      by more true t h = (x, t)
      by more false t h = more h

pub any_among : {X : Type 0} (g : Names → Bool) (es : List (Names × X)) (k : Names) → is_among es k ≡ true → g k ≡ true → list_any (λ (e : Names × X). g e.0) es ≡ true
any_among g [] k h t = absurd (no_true false h refl)
any_among g (e ∷ es) k h t = by (λ h. any_among g es k h t) (eq_by_cmp path_cmp k e.0) refl h
  where
    by : (is_among es k ≡ true → list_any (λ x. g x.0) es ≡ true) → (b : Bool) → eq_by_cmp path_cmp k e.0 ≡ b → (b || is_among es k) ≡ true → (g e.0 || list_any (λ x. g x.0) es) ≡ true
    by more true same h = or_left (g e.0) (list_any (λ x. g x.0) es) (ap g (sym (tie_is k e.0 same)) ∙ t)
    by more false same h = or_right (g e.0) (list_any (λ x. g x.0) es) (more h)

pub any_staying : (old : ByPath Atom) (f : Names → Bool) (es : List (Names × Atom)) → list_any f (staying_in old es) ≡ list_any (λ (e : Names × Atom). stays old e.0 && f e.0) es
any_staying old f [] = refl
any_staying old f (e ∷ es) = by (any_staying old f es) (stays old e.0)
  where
    turned : (a b : Bool) → (a || (b || false)) ≡ (b || a)
    turned true true = refl
    turned true false = refl
    turned false true = refl
    turned false false = refl

    by : list_any f (staying_in old es) ≡ list_any (λ (x : Names × Atom). stays old x.0 && f x.0) es → (b : Bool) → list_any f (if b then staying_in old es ++ e.0 ∷ [] else staying_in old es) ≡ ((b && f e.0) || list_any (λ (x : Names × Atom). stays old x.0 && f x.0) es)
    by more true = any-append f (staying_in old es) (e.0 ∷ []) ∙ turned (list_any f (staying_in old es)) (f e.0) ∙ ap (λ b. f e.0 || b) more
    by more false = more

-- ---- one removal

bit_itself : (b : Bool) → same_bit b b ≡ true
bit_itself true = refl
bit_itself false = refl

pub same_itself : (x : Entry) → same_entry x x ≡ true
same_itself entry.Dir = refl
same_itself (entry.File stamp exec) = and_from (stamp.0 == stamp.0) (same_bit exec exec) (eq-eqb stamp.0 stamp.0 refl) (bit_itself exec)
same_itself (entry.Link text) = name_itself text
same_itself entry.Other = refl

module _ (old : ByPath Atom) (at : Names) (part : IsPartOfTree old at) (stamps : ByPath Stamp) (id : ℕ) (s : RootState) (agrees : Agrees s stamps old at) where
  -- what stands once these entries' removals were asked
  abbrev pub left : List (Names × Atom) → Names → Option Entry
  left es p = if goes old p && is_among es p then None else map.get s.tree p

  -- what a walk has come to behind them
  pub record Removed (es : List (Names × Atom)) (w : Walk) : Type 0 where
    pub tree : (p : Names) → map.get w.state.tree p ≡ left es p
    pub ledger : w.state.ledger ≡ s.ledger
    pub staging : w.state.staging ≡ s.staging
    pub undone : w.undone ≡ list_map (note (staying old)) (staying_in old es)

  -- the first of these entries stands in the tree, and the others come later
  record First (e : Names × Atom) (es : List (Names × Atom)) : Type 0 where
    stands : map.get old e.0 ≡ Some e.1
    later : AllByRecursion (λ k. path_cmp e.0 k ≡ Less) (keys_of es)
    covers : Covers old at part (e ∷ es)

  module _ (e : Names × Atom) (es : List (Names × Atom)) (f : First e es) (w : Walk) (r : Removed es w) where
    under : is_under e.0 at ≡ true
    under = part.within e.0 (ap is_some f.stands)

    alone : is_among es e.0 ≡ false
    alone = not_among e.0 e.0 es f.later refl

    -- what is left at the entry's own path
    own_left : map.get w.state.tree e.0 ≡ map.get s.tree e.0
    own_left = r.tree e.0 ∙ ap (λ b. if b then None else map.get s.tree e.0) (ap (λ b. goes old e.0 && b) alone ∙ and_none (goes old e.0))
      where
        and_none : (b : Bool) → (b && false) ≡ false
        and_none true = refl
        and_none false = refl

    -- where the first one doesn't go, nothing is to change
    left_same : goes old e.0 ≡ false → (p : Names) → left es p ≡ left (e ∷ es) p
    left_same free p = ap (λ b. if b then None else map.get s.tree p) (by (eq_by_cmp path_cmp p e.0) refl)
      where
        by : (b : Bool) → eq_by_cmp path_cmp p e.0 ≡ b → (goes old p && is_among es p) ≡ (goes old p && (b || is_among es p))
        by true t = let none : goes old p ≡ false = ap (goes old) (tie_is p e.0 t) ∙ free in ap (λ b. b && is_among es p) none ∙ sym (ap (λ b. b && true) none)
        by false t = refl

    -- at every other path what is left stays so
    left_other : (p : Names) → eq_by_cmp path_cmp p e.0 ≡ false → left es p ≡ left (e ∷ es) p
    left_other p t = ap (λ b. if goes old p && (b || is_among es p) then None else map.get s.tree p) (sym t)

    -- nothing is left below what goes
    none_below : is_tracked e.1 ≡ true → stays old e.0 ≡ false → (q : Names) → is_below q e.0 ≡ true → map.get w.state.tree q ≡ None
    none_below tracked free q below = r.tree q ∙ by (map.get old q) refl
      where
        q_under : is_under q at ≡ true
        q_under = under_below q e.0 at below under

        gone : (b : Bool) → left es q ≡ (if b then None else map.get s.tree q) → b ≡ true → left es q ≡ None
        gone b is t = is ∙ ap (λ (x : Bool). if x then None else map.get s.tree q) t

        no_let_be : (w : Names) (a : Atom) → map.get old w ≡ Some a → is_tracked a ≡ false → is_below w e.0 ≡ true → ⊥
        no_let_be w a stands let_be down = no_true (stays old e.0) (let_be_keeps old at part e.0 w a under stands let_be down) free

        above : Met (λ (x : Names × Atom). is_let_be x && is_below q x.0) (map.get old) → ⊥
        above met =
            let both = and_parts (not (is_tracked met.value)) (is_below q met.path) met.is in
            let let_be = not_is old at part (is_tracked met.value) both.0 in
            either met.path met.value met.there let_be (lies q met.path e.0 both.1 below)
          where
            either : (w : Names) (a : Atom) → map.get old w ≡ Some a → is_tracked a ≡ false → Lies w e.0 → ⊥
            either w a stands let_be (lies_same same) =
                no_true (is_tracked a) (ap is_tracked (some_same a e.1 (sym stands ∙ ap (λ (p : Names). map.get old p) same ∙ f.stands)) ∙ tracked) let_be
            either w a stands let_be (lies_down d) = no_let_be w a stands let_be d
            either w a stands let_be (lies_up u) =
                let folder = part.folders w e.0 (ap is_some f.stands) u (part.within w (ap is_some stands)) in
                let dir = folder_is old at part (map.get old w) folder in
                no_true (is_tracked a) (ap is_tracked (some_same a atom.Dir (sym stands ∙ dir))) let_be

        none_here : map.get old q ≡ None → map.get s.tree q ≡ None
        none_here none = agrees.nothing q q_under none (is_false (is_beneath_let_be old q) (λ h. above (there_from_any (λ (x : Names × Atom). is_let_be x && is_below q x.0) old h)))

        either_none : (b : Bool) → map.get s.tree q ≡ None → (if b then None else map.get s.tree q) ≡ None
        either_none true none = refl
        either_none false none = none

        tracked_goes : (a : Atom) → map.get old q ≡ Some a → (b : Bool) → is_tracked a ≡ b → left es q ≡ None
        tracked_goes a stands true t =
            let not_stays = is_false (stays old q) (λ h. no_true (stays old e.0) (stays_up old at part e.0 q under h below) free) in
            gone (goes old q && is_among es q) refl (and_from (goes old q) (is_among es q) (goes_is old at part q a stands t not_stays) (later_among old at part e es f.covers q a stands below))
        tracked_goes a stands false t = absurd (no_let_be q a stands t below)

        by : (o : Option Atom) → map.get old q ≡ o → left es q ≡ None
        by None none = either_none (goes old q && is_among es q) (none_here none)
        by (Some a) stands = tracked_goes a stands (is_tracked a) refl

    -- whether the first one is blocked: a folder that stays below it is
    blocked_is : (expected : Entry) → is_blocked w.undone (Remove e.0 expected) ≡ list_any (λ k. is_below k e.0) (staying_in old es)
    blocked_is expected = ap (λ (u : List Undone). is_blocked u (Remove e.0 expected)) r.undone ∙ any-map (λ (u : Undone). rests_on (Remove e.0 expected) u.op) (note (staying old)) (staying_in old es)

    -- one below it stays, if any does
    stayer : list_any (λ k. is_below k e.0) (staying_in old es) ≡ true → (k : Names) × (stays old k ≡ true) × (is_below k e.0 ≡ true)
    stayer h =
        let found = any_witness (λ (x : Names × Atom). stays old x.0 && is_below x.0 e.0) es (sym (any_staying old (λ k. is_below k e.0) es) ∙ h) in
        let both = and_parts (stays old found.0.0) (is_below found.0.0 e.0) found.1 in
        (found.0.0, both.0, both.1)

    -- the state and what wasn't done, once a folder stays
    stayed : (why : Option Cause) → stays old e.0 ≡ true → (note (staying old) e.0).cause ≡ why
        → Removed (e ∷ es) (record { state = w.state; undone = w.undone ++ not_done why (removed e.0 entry.Dir) ∷ [] })
    stayed why s is = record {
      tree = λ p. r.tree p ∙ left_same (goes_not old at part e.0 s) p;
      ledger = r.ledger;
      staging = r.staging;
      undone =
          ap (λ (u : List Undone). u ++ not_done why (removed e.0 entry.Dir) ∷ []) r.undone
          ∙ ap (λ (c : Option Cause). list_map (note (staying old)) (staying_in old es) ++ (record { path = e.0; op = Remove e.0 entry.Dir; cause = c }) ∷ []) (sym is)
          ∙ sym (map-append (note (staying old)) (staying_in old es) (e.0 ∷ []))
          ∙ ap (λ (l : List Names). list_map (note (staying old)) l) (sym (ap (λ b. if b then staying_in old es ++ e.0 ∷ [] else staying_in old es) s));
    }

    -- what wasn't done stays, where the first one doesn't stay
    undone_same : stays old e.0 ≡ false → list_map (note (staying old)) (staying_in old es) ≡ list_map (note (staying old)) (staying_in old (e ∷ es))
    undone_same free = ap (λ (l : List Names). list_map (note (staying old)) l) (sym (ap (λ b. if b then staying_in old es ++ e.0 ∷ [] else staying_in old es) free))

    -- once it was removed
    gone : is_tracked e.1 ≡ true → stays old e.0 ≡ false → (expected : Entry) → Removed (e ∷ es) (record { state = done w.state id (Remove e.0 expected); undone = w.undone })
    gone tracked free expected = record {
      tree = λ p. get-retain is_dir w.state.tree (λ q. not (is_under q e.0)) p ∙ at_path p (is_under p e.0) refl (eq_by_cmp path_cmp p e.0) refl;
      ledger = r.ledger;
      staging = r.staging;
      undone = r.undone ∙ undone_same free;
    }
      where
        goes_here : goes old e.0 ≡ true
        goes_here = goes_is old at part e.0 e.1 f.stands tracked free

        at_path : (p : Names) (u : Bool) → is_under p e.0 ≡ u → (t : Bool) → eq_by_cmp path_cmp p e.0 ≡ t → (if not (is_under p e.0) then map.get w.state.tree p else None) ≡ left (e ∷ es) p
        at_path p u i true t =
            let same = tie_is p e.0 t in
            ap (λ b. if not b then map.get w.state.tree p else None) (ap (λ (q : Names). is_under q e.0) same ∙ under_itself e.0)
            ∙ sym (ap (λ b. if b && (eq_by_cmp path_cmp p e.0 || is_among es p) then None else map.get s.tree p) (ap (goes old) same ∙ goes_here) ∙ ap (λ b. if b || is_among es p then None else map.get s.tree p) t)
        at_path p false i false t = ap (λ b. if not b then map.get w.state.tree p else None) i ∙ r.tree p ∙ left_other p t
        at_path p true i false t =
            let apart : is_under e.0 p ≡ false = is_false (is_under e.0 p) (λ up. no_true (eq_by_cmp path_cmp p e.0) (ap (λ (q : Names). eq_by_cmp path_cmp q e.0) (under_both p e.0 i up) ∙ ap is_eq (tied_itself path_cmp_total e.0)) t) in
            ap (λ b. if not b then map.get w.state.tree p else None) i
            ∙ sym (none_below tracked free p (below_from p e.0 i apart)) ∙ r.tree p ∙ left_other p t

    -- what a removal answers that finds what it expects
    expected_there : (found : Entry) → map.get s.tree e.0 ≡ Some found → (answer : Answer (List ℕ)) → where_expected w.state.tree e.0 (Some found) answer ≡ answer
    expected_there found is answer =
        ap (λ (o : Option Entry). cond (is_expected o (Some found)) answer (Differs (map.get w.state.tree e.0))) (own_left ∙ is)
        ∙ ap (λ b. cond b answer (Differs (map.get w.state.tree e.0))) (same_itself found)

    -- whether anything stands below
    below_stands : (q : Names) → is_some (map.get w.state.tree q) ≡ true → is_below q e.0 ≡ true → has_below w.state.tree e.0 ≡ true
    below_stands q some below = by (map.get w.state.tree q) refl some
      where
        by : (o : Option Entry) → map.get w.state.tree q ≡ o → is_some o ≡ true → has_below w.state.tree e.0 ≡ true
        by None is h = absurd (no_true false h refl)
        by (Some x) is h = any_from_there (λ (y : Names × Entry). is_below y.0 e.0) w.state.tree q x is below

    has_none_below : ((q : Names) → is_below q e.0 ≡ true → map.get w.state.tree q ≡ None) → has_below w.state.tree e.0 ≡ false
    has_none_below none = is_false (has_below w.state.tree e.0) (λ h. let met = there_from_any (λ (y : Names × Entry). is_below y.0 e.0) w.state.tree h in none_is_not_some met.value (sym (none met.path met.is) ∙ met.there))

    -- ---- the walk over the first one's removal
    abbrev Goes : List Step → Type 0
    Goes steps = (v : Walk) × Removed (e ∷ es) v × ((rest : List Step) → carry id w.state w.undone (steps ++ rest) ≡ carry id v.state v.undone rest)

    -- what isn't tracked isn't removed
    passed : is_tracked e.1 ≡ false → Goes []
    passed free = (
      w,
      record {
        tree = λ p. r.tree p ∙ left_same (goes_untracked old at part e.0 e.1 f.stands free) p;
        ledger = r.ledger;
        staging = r.staging;
        undone = r.undone ∙ undone_same (is_false (stays old e.0) (λ h. no_true (is_tracked e.1) (ap is_tracked (some_same e.1 atom.Dir (sym f.stands ∙ stays_folder old at part e.0 h))) free));
      },
      λ rest. refl,
    )

    -- whether folders below are in the way
    in_way_is : list_any (λ k. is_below k e.0) (staying_in old es) ≡ list_any (λ k. is_below k e.0) (staying old)
    in_way_is = same_test _ _ forth back
      where
        whole_is : list_any (λ k. is_below k e.0) (staying old) ≡ list_any (λ (x : Names × Atom). stays old x.0 && is_below x.0 e.0) (map.entries old)
        whole_is = ap (λ (l : List Names). list_any (λ k. is_below k e.0) l) (sym (staying_is old (map.entries old))) ∙ any_staying old (λ k. is_below k e.0) (map.entries old)

        forth : list_any (λ k. is_below k e.0) (staying_in old es) ≡ true → list_any (λ k. is_below k e.0) (staying old) ≡ true
        forth h =
            let found = stayer h in
            whole_is ∙ any_from_there (λ (x : Names × Atom). stays old x.0 && is_below x.0 e.0) old found.0 atom.Dir (stays_folder old at part found.0 found.1) (and_from (stays old found.0) (is_below found.0 e.0) found.1 found.2)

        back : list_any (λ k. is_below k e.0) (staying old) ≡ true → list_any (λ k. is_below k e.0) (staying_in old es) ≡ true
        back h =
            let met = there_from_any (λ (x : Names × Atom). stays old x.0 && is_below x.0 e.0) old (sym whole_is ∙ h) in
            let both = and_parts (stays old met.path) (is_below met.path e.0) met.is in
            any_staying old (λ k. is_below k e.0) es
            ∙ any_among (λ k. stays old k && is_below k e.0) es met.path (later_among old at part e es f.covers met.path met.value met.there both.1) met.is

    -- a removal that is blocked is skipped
    skips : (expected : Entry) (rest : List Step) → is_blocked w.undone (Remove e.0 expected) ≡ true
        → carry id w.state w.undone (removed e.0 expected ∷ rest) ≡ carry id w.state (w.undone ++ not_done None (removed e.0 expected) ∷ []) rest
    skips expected rest h =
        ap (λ b. if b then carry id w.state (w.undone ++ not_done None (removed e.0 expected) ∷ []) rest else asked) h
      where
        asked : Walk
        asked = by_fate (carry id (after w.state id (Remove e.0 expected) (answer_of w.state id (Remove e.0 expected))) w.undone rest)
            (record { state = after w.state id (Remove e.0 expected) (answer_of w.state id (Remove e.0 expected)); undone = w.undone })
            (λ why. carry id (after w.state id (Remove e.0 expected) (answer_of w.state id (Remove e.0 expected))) (w.undone ++ not_done (Some why) (removed e.0 expected) ∷ []) rest)
            (fate_of (Some (answer_of w.state id (Remove e.0 expected))))

    -- one that isn't is asked, and answered so
    asks : (expected : Entry) (rest : List Step) (answer : Answer (List ℕ)) → is_blocked w.undone (Remove e.0 expected) ≡ false → answer_of w.state id (Remove e.0 expected) ≡ answer
        → carry id w.state w.undone (removed e.0 expected ∷ rest)
        ≡ by_fate (carry id (after w.state id (Remove e.0 expected) answer) w.undone rest) (record { state = after w.state id (Remove e.0 expected) answer; undone = w.undone })
        (λ why. carry id (after w.state id (Remove e.0 expected) answer) (w.undone ++ not_done (Some why) (removed e.0 expected) ∷ []) rest) (fate_of (Some answer))
    asks expected rest answer h is =
        ap (λ b. if b then carry id w.state (w.undone ++ not_done None (removed e.0 expected) ∷ []) rest else asked (answer_of w.state id (Remove e.0 expected))) h
        ∙ ap asked is
      where
        asked : Answer (List ℕ) → Walk
        asked answer =
            by_fate (carry id (after w.state id (Remove e.0 expected) answer) w.undone rest) (record { state = after w.state id (Remove e.0 expected) answer; undone = w.undone })
            (λ why. carry id (after w.state id (Remove e.0 expected) answer) (w.undone ++ not_done (Some why) (removed e.0 expected) ∷ []) rest) (fate_of (Some answer))

    -- a folder that stays
    stay : stays old e.0 ≡ true → map.get s.tree e.0 ≡ Some entry.Dir → Goes (removed e.0 entry.Dir ∷ [])
    stay h is = by (list_any (λ k. is_below k e.0) (staying old)) refl
      where
        blocked : is_blocked w.undone (Remove e.0 entry.Dir) ≡ list_any (λ k. is_below k e.0) (staying old)
        blocked = blocked_is entry.Dir ∙ in_way_is

        why_is : (b : Bool) → list_any (λ k. is_below k e.0) (staying old) ≡ b → (note (staying old) e.0).cause ≡ (if b then None else Some cause.NotEmpty)
        why_is b t = ap (λ (x : Bool). if x then None else Some cause.NotEmpty) t

        full : has_below w.state.tree e.0 ≡ true
        full =
            let why = reason old at part e.0 h in
            below_stands why.path
            (ap is_some (r.tree why.path ∙ ap (λ b. if b && is_among es why.path then None else map.get s.tree why.path) (goes_untracked old at part why.path why.value why.there why.let_be)) ∙ agrees.let_be why.path why.value why.there why.let_be)
            why.below

        answered : answer_of w.state id (Remove e.0 entry.Dir) ≡ NotEmpty
        answered = expected_there entry.Dir is (cond (is_dir entry.Dir && has_below w.state.tree e.0) NotEmpty (Done None)) ∙ ap (λ b. cond (true && b) NotEmpty (Done None)) full

        by : (b : Bool) → list_any (λ k. is_below k e.0) (staying old) ≡ b → Goes (removed e.0 entry.Dir ∷ [])
        by true t = (
          record { state = w.state; undone = w.undone ++ not_done None (removed e.0 entry.Dir) ∷ [] },
          stayed None h (why_is true t),
          λ rest. skips entry.Dir rest (blocked ∙ t),
        )
        by false t = (
          record { state = w.state; undone = w.undone ++ not_done (Some cause.NotEmpty) (removed e.0 entry.Dir) ∷ [] },
          stayed (Some cause.NotEmpty) h (why_is false t),
          λ rest. asks entry.Dir rest NotEmpty (blocked ∙ t) answered,
        )

    -- and what goes
    go : is_tracked e.1 ≡ true → stays old e.0 ≡ false → (found : Entry) → map.get s.tree e.0 ≡ Some found → Goes (removed e.0 found ∷ [])
    go tracked free found is = (
      record { state = done w.state id (Remove e.0 found); undone = w.undone },
      gone tracked free found,
      λ rest. asks found rest (Done None) clear answered,
    )
      where
        clear : is_blocked w.undone (Remove e.0 found) ≡ false
        clear = blocked_is found ∙ is_false _ (λ h. let below = stayer h in no_true (stays old e.0) (stays_up old at part e.0 below.0 under below.1 below.2) free)

        and_none : (b : Bool) → (b && false) ≡ false
        and_none true = refl
        and_none false = refl

        empty : (is_dir found && has_below w.state.tree e.0) ≡ false
        empty = ap (λ b. is_dir found && b) (has_none_below (none_below tracked free)) ∙ and_none (is_dir found)

        answered : answer_of w.state id (Remove e.0 found) ≡ Done None
        answered = expected_there found is (cond (is_dir found && has_below w.state.tree e.0) NotEmpty (Done None)) ∙ ap (λ b. cond b NotEmpty (Done None)) empty

    -- the first one's removal, whatever it is
    first : Goes (option_to_list (removal stamps e))
    first = by (is_tracked e.1) refl
      where
        with_found : (found : Entry) → is_tracked e.1 ≡ true → map.get s.tree e.0 ≡ Some found → entry_of stamps e.0 e.1 ≡ Some found → (b : Bool) → stays old e.0 ≡ b → Goes (option_to_list (removal stamps e))
        with_found found t is told true h =
            let dir : e.1 ≡ atom.Dir = some_same e.1 atom.Dir (sym f.stands ∙ stays_folder old at part e.0 h) in
            let found_is : found ≡ entry.Dir = sym (some_same entry.Dir found (ap (λ (a : Atom). entry_of stamps e.0 a) (sym dir) ∙ told)) in
            subst (λ (o : Option Entry). Goes (option_to_list (option_map (removed e.0) o))) (sym (told ∙ ap Some found_is)) (stay h (is ∙ ap Some found_is))
        with_found found t is told false h = subst (λ (o : Option Entry). Goes (option_to_list (option_map (removed e.0) o))) (sym told) (go t h found is)

        untracked : (a : Atom) → is_tracked a ≡ false → entry_of stamps e.0 a ≡ None
        untracked atom.Dir h = absurd (no_true true refl h)
        untracked (atom.File digest exec) h = absurd (no_true true refl h)
        untracked (atom.Link text) h = absurd (no_true true refl h)
        untracked atom.Untracked h = refl
        untracked (atom.Problem kind) h = refl

        by : (b : Bool) → is_tracked e.1 ≡ b → Goes (option_to_list (removal stamps e))
        by true t = let stands = agrees.tracked e.0 e.1 f.stands t in with_found stands.found t stands.there stands.expected (stays old e.0) refl
        by false t = subst (λ (o : Option Entry). Goes (option_to_list (option_map (removed e.0) o))) (sym (untracked e.1 t)) (passed t)

  -- ---- the walk over all removals
  pub record Over (es : List (Names × Atom)) : Type 0 where
    pub walk : Walk
    pub removed : Removed es walk
    pub goes_on : (rest : List Step) → carry id s [] (reverse (filter_map (removal stamps) es) ++ rest) ≡ carry id walk.state walk.undone rest

  none_among : (b : Bool) → (b && false) ≡ false
  none_among true = refl
  none_among false = refl

  pub over : (es : List (Names × Atom)) → IsStrictlySortedBy path_cmp (keys_of es) → AllByRecursion (λ e. map.get old e.0 ≡ Some e.1) es → Covers old at part es → Over es
  over [] sorted all covers = record {
    walk = record { state = s; undone = [] };
    removed = record { tree = λ p. sym (ap (λ b. if b then None else map.get s.tree p) (none_among (goes old p))); ledger = refl; staging = refl; undone = refl };
    goes_on = λ rest. refl;
  }
  over (e ∷ es) sorted all covers =
      let later = sorted_head path_cmp e.0 (keys_of es) sorted in
      let behind = over es (sorted_tail path_cmp e.0 (keys_of es) sorted) all.1 (covers_rest old at part e es later covers) in
      let one = first e es (record { stands = all.0; later = later; covers = covers }) behind.walk behind.removed in
      record {
        walk = one.0;
        removed = one.1;
        goes_on = λ rest. ap (λ (steps : List Step). carry id s [] steps) (in_front (removal stamps e) (filter_map (removal stamps) es) rest) ∙ behind.goes_on (option_to_list (removal stamps e) ++ rest) ∙ one.2 rest;
      }
    where
      in_front : (o : Option Step) (steps rest : List Step) → reverse (cons_option o steps) ++ rest ≡ reverse steps ++ (option_to_list o ++ rest)
      in_front None steps rest = refl
      in_front (Some step) steps rest = reverse-one step steps rest
