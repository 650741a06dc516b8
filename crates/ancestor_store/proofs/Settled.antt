-- Lines that agree with a tree lead to it, in whatever order.
use Rattle.std.proofs.Common.{◌≡◌, Bool, true, false, cond, not, ◌||◌, List, [], ◌∷◌, ◌++◌, refl, sym, ap, subst, ◌∙◌, inl, inr, Option, Some, None, append_assoc}
use Rattle.std.specs.Prelude.{◌⊎◌, Result, Ok, Err, OnOk, is_err}
use Rattle.std.specs.FinMap as map
use Rattle.std.specs.List.{AllByRecursion}
use Rattle.std.specs.Option.{is_some, option_and_then}
use Rattle.std.specs.Ordering.{eq_by_cmp}
use Rattle.std.proofs.lemmas.Bool.{and_parts, or_cases, or_left, not-true}
use Rattle.std.proofs.lemmas.List.{append-nil}
use Rattle.std.proofs.lemmas.List.Folds.{list_any-append}
use Rattle.finite_maps.proofs.Constructors.{some_same}
use Rattle.sync_path.specs.Path.{path_cmp, is_under, is_below}
use Rattle.sync_path.specs.PathOrder.{path_cmp_total}
use Rattle.entry_tree.specs.Atom.{is_dir}
use Rattle.entry_tree.specs.Tree.{Names, ByPath, IsClosed}
use Rattle.entry_tree.specs.declared.atom.Atom.{Atom}
use Rattle.entry_tree.specs.declared.atom.Atom.TheVariants.{Dir}
use Rattle.entry_tree.proofs.Paths.{path_same}
use Rattle.entry_tree.proofs.Trees.{get-retain, get-set, nothing_under, tie_is}
use Rattle.mode_rules.specs.AncestorFold.{with_line, with_lines}
use Rattle.mode_rules.specs.declared.ancestor_line.AncestorLine.{AncestorLine}
use Rattle.mode_rules.specs.declared.ancestor_line.AncestorLine.TheVariants.{Set, Drop}
use Rattle.mode_rules.proofs.Agreeing.{all_front}
use Rattle.mode_rules.proofs.Below.{below_is_under, folder_above}
use Rattle.mode_rules.proofs.Cases.{folder_there}
use Rattle.mode_rules.proofs.Folding.{touches_line, given, GivesLine, fold_given, fold_kept, with_lines-append}
use Rattle.ancestor_store.specs.Settling.{Adds, Agrees, IsFront, IsUptake, Places, Settles, touched}
use Rattle.ancestor_store.specs.declared.uptake.Uptake.{Uptake}

-- ---- below a leaf nothing stands

pub none_below : (tree : ByPath Atom) → IsClosed is_dir tree → (p : Names) (x : Atom) → map.get tree p ≡ Some x → is_dir x ≡ false → (q : Names) → is_below q p ≡ true → map.get tree q ≡ None
none_below tree closed p x is leaf q below = by (map.get tree q) refl
  where
    up : (is_under q p ≡ true) × (not (is_under p q) ≡ true)
    up = and_parts (is_under q p) (not (is_under p q)) (sym (below_is_under q p) ∙ below)

    by : (o : Option Atom) → map.get tree q ≡ o → o ≡ None
    by None e = refl
    by (Some y) e =
        let dir : Some x ≡ Some Dir = sym is ∙ folder_there (map.get tree p) (folder_above tree closed q p up.0 (not-true (is_under p q) up.1) (ap is_some e)) in
        let no : true ≡ false = sym (ap is_dir (some_same x Dir dir)) ∙ leaf in
        absurd (cc)

-- below what isn't there neither
pub none_under : (tree : ByPath Atom) → IsClosed is_dir tree → (p : Names) → map.get tree p ≡ None → (q : Names) → is_under q p ≡ true → map.get tree q ≡ None
none_under tree closed p none q under =
    ap (λ (t : ByPath Atom). map.get t q) (sym (nothing_under is_dir tree closed p none))
    ∙ get-retain is_dir tree (λ k. not (is_under k p)) q
    ∙ ap (λ b. cond (not b) (map.get tree q) None) under

leaf_parts : (b c : Bool) → not (b || not c) ≡ true → (b ≡ false) × (c ≡ true)
leaf_parts true c h = absurd (cc)
leaf_parts false true h = (refl, h)
leaf_parts false false h = absurd (cc)

-- a line that sets something decides its path, or it sets a leaf and decides what lies below
pub set_touches : (q p : Names) (x : Atom) → touches_line q (Set p x) ≡ true → (q ≡ p) ⊎ ((eq_by_cmp path_cmp q p ≡ false) × (is_dir x ≡ false) × (is_below q p ≡ true))
set_touches q p x t = by (eq_by_cmp path_cmp q p) refl
  where
    by : (b : Bool) → eq_by_cmp path_cmp q p ≡ b → (q ≡ p) ⊎ ((eq_by_cmp path_cmp q p ≡ false) × (is_dir x ≡ false) × (is_below q p ≡ true))
    by true e = inl (tie_is q p e)
    by false e =
        let leaf = leaf_parts (is_dir x) (is_below q p) (sym (ap (λ b. b || not (is_dir x || not (is_below q p))) e) ∙ t) in
        inr (e, leaf.0, leaf.1)

-- ---- one line

-- what a line gives that says what a tree holds, the tree holds
pub agree_gives : (to : ByPath Atom) → IsClosed is_dir to → (q : Names) (l : AncestorLine) → Agrees to l → GivesLine q (map.get to q) l
agree_gives to closed q (Drop p) agrees t = sym (none_under to closed p agrees q t)
agree_gives to closed q (Set p x) agrees t = by (eq_by_cmp path_cmp q p) refl
  where
    by : (b : Bool) → eq_by_cmp path_cmp q p ≡ b → cond (eq_by_cmp path_cmp q p) (Some x) None ≡ map.get to q
    by true e = ap (λ b. cond b (Some x) None) e ∙ sym agrees ∙ ap (map.get to) (sym (tie_is q p e))
    by false e =
        let leaf = leaf_parts (is_dir x) (is_below q p) (sym (ap (λ b. b || not (is_dir x || not (is_below q p))) e) ∙ t) in
        ap (λ b. cond b (Some x) None) e ∙ sym (none_below to closed p x agrees leaf.0 q leaf.1)

-- what stands where a line was taken up
abbrev pub Stands : ByPath Atom → AncestorLine → ByPath Atom → Type 0
Stands from l next = (q : Names) → map.get next q ≡ cond (touches_line q l) (given q l) (map.get from q)

placed : (from next : ByPath Atom) (l : AncestorLine) → ((p : Names) (x : Atom) → l ≡ Set p x → map.contains_key from p ≡ true) → Places l from next → Stands from l next
placed from next (Set p x) there place q =
    ap (λ (t : ByPath Atom). map.get t q) (place (there p x refl)) ∙ get-set is_dir from p x q ∙ by (eq_by_cmp path_cmp q p) (is_dir x || not (is_below q p))
  where
    by : (a b : Bool) → cond a (Some x) (cond b (map.get from q) None) ≡ cond (a || not b) (cond a (Some x) None) (map.get from q)
    by true b = refl
    by false true = refl
    by false false = refl
placed from next (Drop p) there place q =
    ap (λ (t : ByPath Atom). map.get t q) place ∙ get-retain is_dir from (λ k. not (is_under k p)) q ∙ by (is_under q p)
  where
    by : (b : Bool) → cond (not b) (map.get from q) None ≡ cond b None (map.get from q)
    by true = refl
    by false = refl

all_last : {X : Type 0} (P : X → Type 0) (xs : List X) (x : X) → AllByRecursion P (xs ++ x ∷ []) → P x
all_last P [] x h = h.0
all_last P (y ∷ xs) x h = all_last P xs x h.1

-- the last of the lines is taken up, and those before it still lead to the tree
pub settled_step : (from to next : ByPath Atom) (ls : List AncestorLine) (l : AncestorLine) → IsClosed is_dir to → Settles from to (ls ++ l ∷ []) → Places l from next → Settles next to ls
settled_step from to next ls l closed s place = record {
  agree = all_front (Agrees to) ls (l ∷ []) s.agree;
  held = λ q h. holds q h (touches_line q l) refl;
  reached = λ q. comes q (touches_line q l) refl;
}
  where
    agrees : Agrees to l
    agrees = all_last (Agrees to) ls l s.agree

    stand : Stands from l next
    stand = placed from next l (λ p x e. s.held p (ap is_some (let a : Agrees to (Set p x) = subst (Agrees to) e agrees in a))) place

    met : (q : Names) → touches_line q l ≡ true → map.get next q ≡ map.get to q
    met q t = stand q ∙ ap (λ b. cond b (given q l) (map.get from q)) t ∙ agree_gives to closed q l agrees t

    left : (q : Names) → touches_line q l ≡ false → map.get next q ≡ map.get from q
    left q t = stand q ∙ ap (λ b. cond b (given q l) (map.get from q)) t

    holds : (q : Names) → is_some (map.get to q) ≡ true → (b : Bool) → touches_line q l ≡ b → is_some (map.get next q) ≡ true
    holds q h true t = ap is_some (met q t) ∙ h
    holds q h false t = ap is_some (left q t) ∙ s.held q h

    last : (q : Names) → touches_line q l ≡ false → touched q (l ∷ []) ≡ true → ⊥
    last q t h = let no : true ≡ false = sym h ∙ ap (λ b. b || false) t in cc

    comes : (q : Names) (b : Bool) → touches_line q l ≡ b → (map.get next q ≡ map.get to q) ⊎ (touched q ls ≡ true)
    comes q true t = inl (met q t)
    comes q false t =
        elim (s.reached q) [
          | inl e ↦ inl (left q t ∙ e)
          | inr any ↦ elim (or_cases (touched q ls) (touched q (l ∷ [])) (sym (list_any-append (touches_line q) ls (l ∷ [])) ∙ any)) [
            | inl there ↦ inr there
            | inr here ↦ absurd (last q t here)
          ]
        ]

nothing : {A : Type 0} → false ≡ true → A
nothing h = absurd (cc)

pub settled_end : (from to : ByPath Atom) → Settles from to [] → from ≡ to
settled_end from to s = map.same_map path_cmp_total path_same from to (λ q. elim (s.reached q) [ inl e ↦ e | inr h ↦ nothing h ])

-- ---- what is added, and taken back

pub none_touched : (q : Names) (w : Option Atom) (ls : List AncestorLine) → touched q ls ≡ false → AllByRecursion (GivesLine q w) ls
none_touched q w [] e = tt
none_touched q w (l ∷ ls) e = (λ t. let no : true ≡ false = ap (λ b. b || touched q ls) (sym t) ∙ e in absurd (cc), none_touched q w ls (by (touches_line q l) e))
  where
    by : (b : Bool) → (b || touched q ls) ≡ false → touched q ls ≡ false
    by true e = absurd (cc)
    by false e = e

pub any_gives : (to : ByPath Atom) → IsClosed is_dir to → (q : Names) (ls : List AncestorLine) → AllByRecursion (Agrees to) ls → AllByRecursion (GivesLine q (map.get to q)) ls
any_gives to closed q [] all = tt
any_gives to closed q (l ∷ ls) all = (agree_gives to closed q l all.0, any_gives to closed q ls all.1)

pub adds_agree : (from to : ByPath Atom) (ls : List AncestorLine) → AllByRecursion (Adds from to) ls → AllByRecursion (Agrees to) ls
adds_agree from to [] all = tt
adds_agree from to (Set p x ∷ ls) all = (all.0.0, adds_agree from to ls all.1)
adds_agree from to (Drop p ∷ ls) all = absurd all.0

-- what is held stays
adds_keep : (from to : ByPath Atom) → IsClosed is_dir from → (ls : List AncestorLine) → AllByRecursion (Adds from to) ls → (q : Names) → touched q ls ≡ true → is_some (map.get from q) ≡ true → is_some (map.get to q) ≡ true
adds_keep from to closed [] all q t h = let no : false ≡ true = t in absurd (cc)
adds_keep from to closed (Drop p ∷ ls) all q t h = absurd all.0
adds_keep from to closed (Set p x ∷ ls) all q t h =
    elim (or_cases (touches_line q (Set p x)) (touched q ls) t) [
      | inl here ↦ elim (set_touches q p x here) [
        | inl same ↦ ap (λ r. is_some (map.get to r)) same ∙ ap is_some all.0.0
        | inr below ↦ absurd (apart below.1 below.2 all.0.1)
      ]
      | inr more ↦ adds_keep from to closed ls all.1 q more h
    ]
  where
    stands : map.get from q ≡ None → ⊥
    stands e = let no : false ≡ true = sym (ap is_some e) ∙ h in cc

    apart : is_dir x ≡ false → is_below q p ≡ true → (is_dir x ≡ true) ⊎ (map.get from p ≡ None) → ⊥
    apart leaf below (inl dir) = let no : true ≡ false = sym dir ∙ leaf in cc
    apart leaf below (inr none) = stands (none_under from closed p none q (and_parts (is_under q p) (not (is_under p q)) (sym (below_is_under q p) ∙ below)).0)

-- where some of the lines were taken up, a path holds what it held, or one of them decides it and it holds what it is to hold
between : (from to next : ByPath Atom) → IsClosed is_dir to → (ls behind : List AncestorLine) → AllByRecursion (Agrees to) ls → IsFront ls behind from next → (q : Names)
    → (map.get next q ≡ map.get from q) ⊎ ((touched q ls ≡ true) × (map.get next q ≡ map.get to q))
between from to next closed ls behind agree f q = by (touched q f.front) refl
  where
    fronts : AllByRecursion (Agrees to) f.front
    fronts = all_front (Agrees to) f.front behind (subst (AllByRecursion (Agrees to)) f.all agree)

    by : (b : Bool) → touched q f.front ≡ b → (map.get next q ≡ map.get from q) ⊎ ((touched q ls ≡ true) × (map.get next q ≡ map.get to q))
    by true t = inr (
      ap (touched q) f.all ∙ list_any-append (touches_line q) f.front behind ∙ or_left (touched q f.front) (touched q behind) t,
      fold_given q (map.get to q) from next f.front f.folds (any_gives to closed q f.front fronts) t,
    )
    by false t = inl (fold_kept q (map.get from q) from next f.front f.folds (none_touched q (map.get from q) f.front t) refl)

module _ (from to next : ByPath Atom) (u : Uptake) (was : IsClosed is_dir from) (closed : IsClosed is_dir to) (is : IsUptake from to u) where
  agree : AllByRecursion (Agrees to) u.adds
  agree = adds_agree from to u.adds is.adds

  -- what was added is taken back
  pub back_settles : (behind : List AncestorLine) → IsFront u.adds behind from next → Settles next from u.back
  back_settles behind f = record {
    agree = is.back;
    held = λ q h. elim (between from to next closed u.adds behind agree f q) [
      | inl e ↦ ap is_some e ∙ h
      | inr e ↦ ap is_some e.1 ∙ adds_keep from to was u.adds is.adds q e.0 h
    ];
    reached = λ q. elim (between from to next closed u.adds behind agree f q) [
      | inl e ↦ inl e
      | inr e ↦ inr (is.taken_back q e.0)
    ];
  }

  -- and where all was added the rest leads on
  pub rest_settles : with_lines from u.adds ≡ Some next → Settles next to u.rest
  rest_settles folds = record {
    agree = is.rest;
    held = λ q h. holds q h (touched q u.adds) refl;
    reached = λ q. comes q (touched q u.adds) refl;
  }
    where
      met : (q : Names) → touched q u.adds ≡ true → map.get next q ≡ map.get to q
      met q t = fold_given q (map.get to q) from next u.adds folds (any_gives to closed q u.adds agree) t

      left : (q : Names) → touched q u.adds ≡ false → map.get next q ≡ map.get from q
      left q t = fold_kept q (map.get from q) from next u.adds folds (none_touched q (map.get from q) u.adds t) refl

      not_both : (q : Names) → touched q u.adds ≡ true → touched q u.adds ≡ false → ⊥
      not_both q t e = let no : true ≡ false = sym t ∙ e in cc

      holds : (q : Names) → is_some (map.get to q) ≡ true → (b : Bool) → touched q u.adds ≡ b → is_some (map.get next q) ≡ true
      holds q h true t = ap is_some (met q t) ∙ h
      holds q h false t = elim (is.there q h) [ inl e ↦ ap is_some (left q t) ∙ e | inr a ↦ absurd (not_both q a t) ]

      comes : (q : Names) (b : Bool) → touched q u.adds ≡ b → (map.get next q ≡ map.get to q) ⊎ (touched q u.rest ≡ true)
      comes q true t = inl (met q t)
      comes q false t =
          elim (is.reached q) [
            | inl e ↦ inl (left q t ∙ e)
            | inr (inl a) ↦ absurd (not_both q a t)
            | inr (inr r) ↦ inr r
          ]

-- ---- lines that are taken up one after another

pub front_start : (ls : List AncestorLine) (from : ByPath Atom) → IsFront ls ls from from
front_start ls from = record { front = []; all = refl; folds = refl }

pub front_step : (ls behind : List AncestorLine) (l : AncestorLine) (from mid next : ByPath Atom) → IsFront ls (l ∷ behind) from mid → with_line mid l ≡ Some next → IsFront ls behind from next
front_step ls behind l from mid next f taken = record {
  front = f.front ++ l ∷ [];
  all = f.all ∙ sym (append_assoc f.front (l ∷ []) behind);
  folds = with_lines-append from mid f.front (l ∷ []) f.folds ∙ ap (option_and_then (λ (x : ByPath Atom). Some x)) taken;
}

pub front_end : (ls : List AncestorLine) (from next : ByPath Atom) → IsFront ls [] from next → with_lines from ls ≡ Some next
front_end ls from next f = ap (with_lines from) (f.all ∙ append-nil f.front) ∙ f.folds

-- what holds of an Ok holds where there was no error
pub went : {P E : Type 0} (r : Result Unit E) → is_err r ≡ false → OnOk r P → P
went (Ok done) e h = h
went (Err error) e h = absurd (cc)
