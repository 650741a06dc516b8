-- How two paths above a third lie to one another, and what a tree that is closed under parents holds above what it holds.
use Rattle.std.proofs.Common.{◌≡◌, ℕ, Bool, true, false, not, List, [], ◌∷◌, ◌++◌, bytes_eq, refl, sym, ap, ap₂, subst, ◌∙◌, inl, inr, Option, Some, None, append_assoc}
use Rattle.std.specs.Prelude.{◌&&◌, ◌⊎◌}
use Rattle.std.specs.FinMap as trees
use Rattle.std.specs.Option.{is_some}
use Rattle.std.proofs.lemmas.Bool.{and_parts, and_from}
use Rattle.std.proofs.lemmas.List.{append-nil}
use Rattle.sync_path.specs.Path.{is_under, is_below}
use Rattle.sync_path.proofs.Intervals.{rest_from_under, under_from_rest}
use Rattle.entry_tree.specs.Atom.{is_dir}
use Rattle.entry_tree.specs.Tree.{Names, ByPath, IsClosed}
use Rattle.entry_tree.specs.declared.atom.Atom.{Atom}
use Rattle.entry_tree.proofs.Paths.{name_is, name_itself, under_itself}
use Rattle.mode_rules.specs.Trees.{Trees, holds_folder}

turned_name : (a b : List ℕ) → bytes_eq a b ≡ true → bytes_eq b a ≡ true
turned_name a b e = ap (λ x. bytes_eq b x) (name_is a b e) ∙ name_itself b

-- two paths that lie at or below one another are one
pub under_both : (a b : Names) → is_under a b ≡ true → is_under b a ≡ true → a ≡ b
under_both [] [] h g = refl
under_both [] (y ∷ b) h g = absurd (cc)
under_both (x ∷ a) [] h g = absurd (cc)
under_both (x ∷ a) (y ∷ b) h g =
    let up = and_parts (bytes_eq y x) (is_under a b) h in
    let down = and_parts (bytes_eq x y) (is_under b a) g in
    ap₂ (λ n ns. n ∷ ns) (name_is x y down.0) (under_both a b up.1 down.1)

-- what lies below a path is under it, and isn't above it
pub below_is_under : (q p : Names) → is_below q p ≡ (is_under q p && not (is_under p q))
below_is_under [] [] = refl
below_is_under (x ∷ q) [] = refl
below_is_under [] (y ∷ p) = refl
below_is_under (x ∷ q) (y ∷ p) =
    elim (bytes_eq y x) as (λ b. bytes_eq y x ≡ b → (b && is_below q p) ≡ ((b && is_under q p) && not (bytes_eq x y && is_under p q))) [
      | true ↦ λ e. below_is_under q p ∙ ap (λ b. is_under q p && not (b && is_under p q)) (sym (turned_name y x e))
      | false ↦ λ e. refl
    ] refl

-- what lies at or below a path lies at or below all that this lies at or below
pub under_through : (a b c : Names) → is_under a b ≡ true → is_under b c ≡ true → is_under a c ≡ true
under_through a b [] h g = refl
under_through a [] (z ∷ c) h g = absurd (cc)
under_through [] (y ∷ b) (z ∷ c) h g = absurd (cc)
under_through (x ∷ a) (y ∷ b) (z ∷ c) h g =
    let up = and_parts (bytes_eq y x) (is_under a b) h in
    let on = and_parts (bytes_eq z y) (is_under b c) g in
    and_from (bytes_eq z x) (is_under a c) (ap (bytes_eq z) (sym (name_is y x up.0)) ∙ on.0) (under_through a b c up.1 on.1)

-- of two paths at or above a third, one lies at or below the other
pub one_is_under : (q a b : Names) → is_under q a ≡ true → is_under q b ≡ true → is_under a b ≡ false → is_under b a ≡ true
one_is_under q [] b h g apart = refl
one_is_under q (x ∷ a) [] h g apart = absurd (cc)
one_is_under [] (x ∷ a) (y ∷ b) h g apart = absurd (cc)
one_is_under (z ∷ q) (x ∷ a) (y ∷ b) h g apart =
    let up = and_parts (bytes_eq x z) (is_under q a) h in
    let down = and_parts (bytes_eq y z) (is_under q b) g in
    let same : x ≡ y = name_is x z up.0 ∙ sym (name_is y z down.0) in
    let yx : bytes_eq y x ≡ true = ap (bytes_eq y) same ∙ name_itself y in
    and_from (bytes_eq x y) (is_under b a) (ap (bytes_eq x) (sym same) ∙ name_itself x)
    (one_is_under q a b up.1 down.1 (ap (λ c. c && is_under a b) (sym yx) ∙ apart))

-- of a child that lies at or below a path, either its parent does, or the path lies at or below the child
pub parent_or_child : (q p : Names) (n : List ℕ) → is_under (q ++ n ∷ []) p ≡ true → is_under q p ≡ false → is_under p (q ++ n ∷ []) ≡ true
parent_or_child q [] n h apart = absurd (cc)
parent_or_child [] (m ∷ []) n h apart = and_from (bytes_eq n m) true (turned_name m n (and_parts (bytes_eq m n) true h).0) refl
parent_or_child [] (m ∷ k ∷ p) n h apart = let no : false ≡ true = (and_parts (bytes_eq m n) false h).1 in absurd (cc)
parent_or_child (x ∷ q) (m ∷ p) n h apart =
    let up = and_parts (bytes_eq m x) (is_under (q ++ n ∷ []) p) h in
    and_from (bytes_eq x m) (is_under p (q ++ n ∷ [])) (turned_name m x up.0)
    (parent_or_child q p n up.1 (ap (λ c. c && is_under q p) (sym up.0) ∙ apart))

folder_is_some : (o : Option Atom) → holds_folder o ≡ true → is_some o ≡ true
folder_is_some None h = absurd (cc)
folder_is_some (Some x) h = refl

-- above what a closed tree holds there are folders
closed_above : (tree : ByPath Atom) → IsClosed is_dir tree → (rest at : Names) (name : List ℕ) → is_some (trees.get tree (at ++ name ∷ rest)) ≡ true → holds_folder (trees.get tree at) ≡ true
closed_above tree closed [] at name h = closed at name h
closed_above tree closed (next ∷ rest) at name h =
    closed at name (folder_is_some _ (closed_above tree closed rest (at ++ name ∷ []) next
    (ap (λ p. is_some (trees.get tree p)) (append_assoc at (name ∷ []) (next ∷ rest)) ∙ h)))

pub folder_above : (tree : ByPath Atom) → IsClosed is_dir tree → (q at : Names) → is_under q at ≡ true → is_under at q ≡ false → is_some (trees.get tree q) ≡ true → holds_folder (trees.get tree at) ≡ true
folder_above tree closed q at under apart some = let rest = rest_from_under q at under in by rest.0 rest.1
  where
    by : (rest : Names) → q ≡ at ++ rest → holds_folder (trees.get tree at) ≡ true
    by [] e = let no : true ≡ false = sym (under_itself q) ∙ ap (λ p. is_under p q) (e ∙ append-nil at) ∙ apart in absurd (cc)
    by (name ∷ rest) e = closed_above tree closed rest at name (ap (λ p. is_some (trees.get tree p)) (sym e) ∙ some)

-- both sides hold a folder there
abbrev pub folders : Trees → Names → Bool
folders t p = holds_folder (trees.get t.alpha p) && holds_folder (trees.get t.beta p)

-- The point that decides a path: the path itself, or the first path above it that isn't a folder on both sides.
pub record Decider (t : Trees) (q : Names) : Type 0 where
  pub at : Names
  pub under : is_under q at ≡ true
  pub clear : (p : Names) → is_under at p ≡ true → is_under p at ≡ false → folders t p ≡ true
  pub stop : (at ≡ q) ⊎ (folders t at ≡ false)

clear_below : (t : Trees) (front : Names) (n : List ℕ) → folders t front ≡ true → ((p : Names) → is_under front p ≡ true → is_under p front ≡ false → folders t p ≡ true)
    → (p : Names) → is_under (front ++ n ∷ []) p ≡ true → is_under p (front ++ n ∷ []) ≡ false → folders t p ≡ true
clear_below t front n here clear p up down = by (is_under front p) (is_under p front) refl refl
  where
    by : (a b : Bool) → is_under front p ≡ a → is_under p front ≡ b → folders t p ≡ true
    by true true e f = ap (folders t) (under_both p front f e) ∙ here
    by true false e f = clear p e f
    by false b e f = let no : true ≡ false = sym (parent_or_child front p n up e) ∙ down in absurd (cc)

decide_from : (t : Trees) (rest front : Names) → ((p : Names) → is_under front p ≡ true → is_under p front ≡ false → folders t p ≡ true) → Decider t (front ++ rest)
decide_from t [] front clear = record { at = front; under = under_from_rest (front ++ []) front [] refl; clear = clear; stop = inl (sym (append-nil front)) }
decide_from t (n ∷ rest) front clear = by (folders t front) refl (decide_from t rest (front ++ n ∷ []))
  where
    by : (c : Bool) → folders t front ≡ c
        → (((p : Names) → is_under (front ++ n ∷ []) p ≡ true → is_under p (front ++ n ∷ []) ≡ false → folders t p ≡ true) → Decider t ((front ++ n ∷ []) ++ rest))
        → Decider t (front ++ n ∷ rest)
    by true e more = subst (Decider t) (append_assoc front (n ∷ []) rest) (more (clear_below t front n e clear))
    by false e more = record { at = front; under = under_from_rest (front ++ n ∷ rest) front (n ∷ rest) refl; clear = clear; stop = inr e }

pub decider : (t : Trees) (q : Names) → Decider t q
decider t q = decide_from t q [] (λ p up down. let no : true ≡ false = down in absurd (cc))
