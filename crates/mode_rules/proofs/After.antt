-- What a side holds at a path after changes.
use Rattle.std.proofs.Common.{◌≡◌, Bool, true, false, cond, not, ◌||◌, List, [], ◌∷◌, refl, sym, ap, ◌∙◌, Option, Some, None, IfSome}
use Rattle.std.specs.Prelude.{◌&&◌}
use Rattle.std.specs.FinMap as trees
use Rattle.std.specs.FinMap.Entries.{is_sorted-where_key}
use Rattle.std.specs.List.{filter, filter_map, cons_option, list_any, AllByRecursion}
use Rattle.std.specs.Ordering.{eq_by_cmp}
use Rattle.std.proofs.lemmas.Bool.{and_parts, or_right}
use Rattle.sync_path.specs.Path.{path_cmp, is_under}
use Rattle.entry_tree.specs.Subtree.{subtree}
use Rattle.entry_tree.specs.Tree.{Names, ByPath, without_under, entries_under}
use Rattle.entry_tree.specs.declared.atom.Atom.{Atom}
use Rattle.entry_tree.specs.declared.side.Side.{Side}
use Rattle.entry_tree.proofs.Copies.{get-put_all, find-under, or_else}
use Rattle.entry_tree.proofs.Maps.{alike}
use Rattle.entry_tree.proofs.Paths.{path_same}
use Rattle.entry_tree.proofs.Trees.{tie_is}
use Rattle.mode_rules.specs.declared.change.Change.{Change}
use Rattle.mode_rules.specs.Laws.{is_of, with_change, after}

-- a subtree holds, at and below its path, what the tree holds
pub get-subtree : (tree : ByPath Atom) (at q : Names) → is_under q at ≡ true → trees.get (subtree tree at) q ≡ trees.get tree q
get-subtree tree at q h =
    trees.get-retain_keys tree (λ p. is_under p at) q (alike path_same (λ p. is_under p at) q)
    ∙ ap (λ b. cond b (trees.get tree q) None) h

put_over : (b : Bool) (new old : Option Atom) → or_else (cond b new None) (cond (not b) old None) ≡ cond b new old
put_over true None old = refl
put_over true (Some x) old = refl
put_over false new old = refl

get-with_change : (tree : ByPath Atom) (change : Change) (q : Names)
    → trees.get (with_change tree change) q ≡ cond (is_under q change.at) (trees.get change.new q) (trees.get tree q)
get-with_change tree change q =
    get-put_all (without_under tree change.at) (entries_under change.new change.at)
    (is_sorted-where_key path_cmp (λ k. is_under k change.at) (trees.entries change.new) (trees.entries_sorted change.new)) q
    ∙ (λ i. or_else (find-under change.new change.at q i)
    (trees.get-retain_keys tree (λ p. not (is_under p change.at)) q (alike path_same (λ p. not (is_under p change.at)) q) i))
    ∙ put_over (is_under q change.at) (trees.get change.new q) (trees.get tree q)

module _ (side : Side) (q : Names) where
  -- whether a change is one of the side, at or above the path
  abbrev pub touches : Change → Bool
  touches change = is_of side change.side && is_under q change.at

  -- if it is, it puts this at the path
  abbrev pub Gives : Option Atom → Change → Type 0
  Gives w change = touches change ≡ true → trees.get change.new q ≡ w

  kept_value : (w : Option Atom) (tree : ByPath Atom) (change : Change) → Gives w change → trees.get tree q ≡ w
      → trees.get (cond (is_of side change.side) (with_change tree change) tree) q ≡ w
  kept_value w tree change gives is = by (is_of side change.side) (is_under q change.at) refl refl
    where
      by : (a b : Bool) → is_of side change.side ≡ a → is_under q change.at ≡ b → trees.get (cond a (with_change tree change) tree) q ≡ w
      by false b e f = is
      by true true e f = get-with_change tree change q ∙ ap (λ b. cond b (trees.get change.new q) (trees.get tree q)) f ∙ gives (λ i. e i && f i)
      by true false e f = get-with_change tree change q ∙ ap (λ b. cond b (trees.get change.new q) (trees.get tree q)) f ∙ is

  -- where each change there puts what is held, that is held
  pub after_kept : (w : Option Atom) (changes : List Change) (tree : ByPath Atom) → AllByRecursion (Gives w) changes → trees.get tree q ≡ w
      → trees.get (after side tree changes) q ≡ w
  after_kept w [] tree all is = is
  after_kept w (c ∷ changes) tree all is = after_kept w changes (cond (is_of side c.side) (with_change tree c) tree) all.1 (kept_value w tree c all.0 is)

  given_value : (w : Option Atom) (tree : ByPath Atom) (change : Change) → Gives w change → touches change ≡ true
      → trees.get (cond (is_of side change.side) (with_change tree change) tree) q ≡ w
  given_value w tree change gives there =
      let both = and_parts (is_of side change.side) (is_under q change.at) there in
      ap (λ b. trees.get (cond b (with_change tree change) tree) q) both.0
      ∙ get-with_change tree change q
      ∙ ap (λ b. cond b (trees.get change.new q) (trees.get tree q)) both.1
      ∙ gives there

  -- where there is a change there, and each puts the same, that is held
  pub after_given : (w : Option Atom) (changes : List Change) (tree : ByPath Atom) → AllByRecursion (Gives w) changes → list_any touches changes ≡ true
      → trees.get (after side tree changes) q ≡ w
  after_given w [] tree all some = absurd (cc)
  after_given w (c ∷ changes) tree all some =
      by (touches c) refl (after_given w changes (cond (is_of side c.side) (with_change tree c) tree) all.1) some
    where
      by : (b : Bool) → touches c ≡ b → (list_any touches changes ≡ true → trees.get (after side (cond (is_of side c.side) (with_change tree c) tree) changes) q ≡ w)
          → (b || list_any touches changes) ≡ true → trees.get (after side (cond (is_of side c.side) (with_change tree c) tree) changes) q ≡ w
      by true e more some = after_kept w changes (cond (is_of side c.side) (with_change tree c) tree) all.1 (given_value w tree c all.0 e)
      by false e more some = more some

-- what holds of each answer at what passes a test holds of them all
pub all_kept_where : {X Y : Type 0} (P : Y → Type 0) (test : X → Bool) (f : X → Option Y) → ((x : X) → test x ≡ true → IfSome (f x) P) → (xs : List X)
    → AllByRecursion P (filter_map f (filter test xs))
all_kept_where P test f each [] = tt
all_kept_where P test f each (x ∷ xs) = by (test x) refl (all_kept_where P test f each xs)
  where
    first : (o : Option _) → IfSome o P → AllByRecursion P (filter_map f (filter test xs)) → AllByRecursion P (cons_option o (filter_map f (filter test xs)))
    first None h rest = rest
    first (Some y) h rest = (h, rest)

    by : (c : Bool) → test x ≡ c → AllByRecursion P (filter_map f (filter test xs)) → AllByRecursion P (filter_map f (cond c (x ∷ filter test xs) (filter test xs)))
    by true e rest = first (f x) (each x e) rest
    by false e rest = rest

later : {Y : Type 0} (marked : Y → Bool) (o : Option Y) (ys : List Y) → list_any marked ys ≡ true → list_any marked (cons_option o ys) ≡ true
later marked None ys h = h
later marked (Some y) ys h = or_right (marked y) (list_any marked ys) h

-- the answer at a path that passes is among those that are kept
pub any_kept : {Y : Type 0} (marked : Y → Bool) (test : Names → Bool) (f : Names → Option Y) (at : Names) (y : Y) → test at ≡ true → f at ≡ Some y → marked y ≡ true
    → (ps : List Names) → list_any (eq_by_cmp path_cmp at) ps ≡ true → list_any marked (filter_map f (filter test ps)) ≡ true
any_kept marked test f at y passes is mark [] has = absurd (cc)
any_kept {Y} marked test f at y passes is mark (p ∷ ps) has =
    by (eq_by_cmp path_cmp at p) refl (any_kept marked test f at y passes is mark ps) has
  where
    skip : (c : Bool) → list_any marked (filter_map f (filter test ps)) ≡ true → list_any marked (filter_map f (cond c (p ∷ filter test ps) (filter test ps))) ≡ true
    skip true h = later marked (f p) (filter_map f (filter test ps)) h
    skip false h = h

    first : (o : Option Y) → o ≡ Some y → list_any marked (cons_option o (filter_map f (filter test ps))) ≡ true
    first o e = ap (λ (o : Option Y). list_any marked (cons_option o (filter_map f (filter test ps)))) e ∙ ap (λ b. b || list_any marked (filter_map f (filter test ps))) mark

    by : (c : Bool) → eq_by_cmp path_cmp at p ≡ c → (list_any (eq_by_cmp path_cmp at) ps ≡ true → list_any marked (filter_map f (filter test ps)) ≡ true)
        → (c || list_any (eq_by_cmp path_cmp at) ps) ≡ true → list_any marked (filter_map f (filter test (p ∷ ps))) ≡ true
    by true e more has =
        let here : at ≡ p = tie_is at p e in
        ap (λ b. list_any marked (filter_map f (cond b (p ∷ filter test ps) (filter test ps)))) (ap test (sym here) ∙ passes)
        ∙ first (f p) (ap f (sym here) ∙ is)
    by false e more has = skip (test p) (more has)
