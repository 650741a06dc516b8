-- A change has no more operations than entries.
use Rattle.std.proofs.Common.{◌≡◌, ℕ, suc, ◌+◌, ◌≤◌, true, false, List, [], ◌∷◌, length, length-append, reverse, arith, Option, Some, None, refl, sym, ◌∙◌}
use Rattle.std.proofs.lemmas.List.{length-reverse}
use Rattle.std.specs.FinMap as finite
use Rattle.std.specs.FinMap.{find}
use Rattle.std.specs.List.{cons_option, filter_map}
use Rattle.std.specs.Option.{option_to_list}
use Rattle.std.specs.Prelude.{if◌then◌else◌}
use Rattle.sync_path.specs.Path.{path_cmp}
use Rattle.entry_tree.specs.Tree.{Names, ByPath}
use Rattle.entry_tree.specs.declared.atom.Atom.{Atom}
use Rattle.entry_tree.specs.declared.entry.Stamp.{Stamp}
use Rattle.mode_rules.specs.Placing.{sets_bit_alone}
use Rattle.mode_rules.specs.declared.change.Change.{Change}
use Rattle.transition_plan.specs.Stepping.{removal, creation, bit_change, leaf_change, replaces_leaf, whole_steps, steps_of}
use Rattle.transition_plan.specs.declared.step.Step.{Step}
use Rattle.transition_laws.specs.Laws.{AreFew}

fewer : {X Y : Type 0} (f : X → Option Y) (xs : List X) → length (filter_map f xs) ≤ length xs
fewer f [] = omega arith
fewer f (x ∷ xs) = let rest = fewer f xs in elim (f x) as (λ o. length (cons_option o (filter_map f xs)) ≤ suc (length xs)) [ None ↦ omega (arith, rest) | Some y ↦ omega (arith, rest) ]

single : {X : Type 0} (o : Option X) → length (option_to_list o) ≤ 1
single None = omega arith
single (Some x) = omega arith

-- a tree in which something stands has an entry
there : (es : List (Names × Atom)) (q : Names) (x : Atom) → find path_cmp q es ≡ Some x → 1 ≤ length es
there [] q x e = absurd (cc)
there (y ∷ es) q x e = omega arith

one_entry : (tree : ByPath Atom) (q : Names) (o : Option Atom) → finite.get tree q ≡ o → {n : ℕ} → (o ≡ None → n ≡ 0) → n ≤ 1 → n ≤ length (finite.entries tree)
one_entry tree q None e {n} none few = let zero = none refl in omega (arith, zero)
one_entry tree q (Some x) e {n} none few = let one = there (finite.entries tree) q x (sym (finite.get-entries tree q) ∙ e) in omega (arith, one, few)

no_bit : (stamps : ByPath Stamp) (path : Names) (old new : Option Atom) → old ≡ None → length (option_to_list (bit_change stamps path old new)) ≡ 0
no_bit stamps path None new e = refl
no_bit stamps path (Some x) new e = absurd (cc)

no_leaf : (stamps : ByPath Stamp) (path : Names) (old new : Option Atom) → old ≡ None → length (option_to_list (leaf_change stamps path old new)) ≡ 0
no_leaf stamps path None new e = refl
no_leaf stamps path (Some x) new e = absurd (cc)

module _ (stamps : ByPath Stamp) (change : Change) where
  abbrev old : Option Atom
  old = finite.get change.old change.at

  abbrev new : Option Atom
  new = finite.get change.new change.at

  abbrev Few : List Step → Type 0
  Few steps = length steps ≤ length (finite.entries change.old) + length (finite.entries change.new)

  few_whole : Few (whole_steps stamps change)
  few_whole =
      let taken = filter_map (removal stamps) (finite.entries change.old) in
      let made = filter_map (creation None) (finite.entries change.new) in
      let joined = length-append (reverse taken) made in
      let turned = length-reverse taken in
      let few_taken = fewer (removal stamps) (finite.entries change.old) in
      let few_made = fewer (creation None) (finite.entries change.new) in
      omega (arith, joined, turned, few_taken, few_made)

  few_bit : Few (option_to_list (bit_change stamps change.at old new))
  few_bit = let few = one_entry change.old change.at old refl (no_bit stamps change.at old new) (single (bit_change stamps change.at old new)) in omega (arith, few)

  few_leaf : Few (option_to_list (leaf_change stamps change.at old new))
  few_leaf = let few = one_entry change.old change.at old refl (no_leaf stamps change.at old new) (single (leaf_change stamps change.at old new)) in omega (arith, few)

  few_steps : Few (steps_of stamps change)
  few_steps =
      elim (sets_bit_alone change) as (λ b. Few (if b then option_to_list (bit_change stamps change.at old new) else (if replaces_leaf change then option_to_list (leaf_change stamps change.at old new) else whole_steps stamps change))) [
        | true ↦ few_bit
        | false ↦ elim (replaces_leaf change) as (λ b. Few (if b then option_to_list (leaf_change stamps change.at old new) else whole_steps stamps change)) [ true ↦ few_leaf | false ↦ few_whole ]
      ]

pub are_few : AreFew
are_few stamps change = few_steps stamps change
