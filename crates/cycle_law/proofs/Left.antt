-- What an undisturbed change leaves is what a settled cycle is to show.
use Rattle.std.proofs.Common.{◌≡◌, ℕ, ◌==◌, Bool, true, false, not, ◌||◌, List, [], ◌∷◌, ◌++◌, refl, ap, ◌∙◌, Option, Some, None, option_map}
use Rattle.std.specs.Prelude.{if◌then◌else◌}
use Rattle.std.specs.FinMap as map
use Rattle.std.specs.List.{list_all}
use Rattle.std.specs.Option.{is_some}
use Rattle.std.proofs.lemmas.Bool.{and_from, eq-eqb}
use Rattle.sync_path.specs.Path.{is_under}
use Rattle.entry_tree.specs.Atom.{same_bit}
use Rattle.entry_tree.specs.Tree.{Names}
use Rattle.entry_tree.specs.declared.atom.Atom.{Atom}
use Rattle.entry_tree.specs.declared.atom.Atom.TheVariants as atom
use Rattle.entry_tree.specs.declared.entry.Entry.{Entry}
use Rattle.entry_tree.specs.declared.entry.Entry.TheVariants as entry
use Rattle.entry_tree.specs.declared.entry.Stamp.{Stamp}
use Rattle.entry_tree.proofs.Paths.{name_itself}
use Rattle.finite_maps.proofs.Constructors.{none_is_not_some, some_same}
use Rattle.mode_rules.specs.Placing.{sets_bit_alone}
use Rattle.mode_rules.specs.Trees.{same_there}
use Rattle.mode_rules.specs.declared.change.Change.{Change}
use Rattle.roots_api.specs.States.{RootState, is_expected}
use Rattle.roots_api.specs.Views.{atom_of}
use Rattle.transition_laws.specs.Undisturbed.{IsLeft, Leaves, goes, has_let_be, least_stamp, stamp_there}
use Rattle.cycle_law.specs.Between.{UndisturbedIsLeft, is_left_at, keeps_stamp, only_tracked, paths_in_either, stays_at}

each_holds : {X : Type 0} (f : X → Bool) → ((x : X) → f x ≡ true) → (xs : List X) → list_all f xs ≡ true
each_holds f each [] = refl
each_holds f each (x ∷ xs) = and_from (f x) (list_all f xs) (each x) (each_holds f each xs)

bit_itself : (b : Bool) → same_bit b b ≡ true
bit_itself true = refl
bit_itself false = refl

number_itself : (n : ℕ) → (n == n) ≡ true
number_itself n = eq-eqb n n refl

expected_itself : (o : Option Entry) → is_expected o o ≡ true
expected_itself None = refl
expected_itself (Some entry.Dir) = refl
expected_itself (Some (entry.File stamp exec)) = and_from (stamp.0 == stamp.0) (same_bit exec exec) (number_itself stamp.0) (bit_itself exec)
expected_itself (Some (entry.Link text)) = name_itself text
expected_itself (Some entry.Other) = refl

-- what stands there is an atom's entry, if there is one that is tracked
left_shows : (first : ℕ) (n : RootState) (a : Option Atom) (found : Option Entry) → IsLeft first n a found → same_there (only_tracked a) (option_map (atom_of n.ledger) found) ≡ true
left_shows first n None found h = ap (λ (o : Option Entry). same_there None (option_map (atom_of n.ledger) o)) h
left_shows first n (Some atom.Dir) found h = ap (λ (o : Option Entry). same_there (Some atom.Dir) (option_map (atom_of n.ledger) o)) h
left_shows first n (Some (atom.File digest exec)) found h =
    ap (λ (o : Option Entry). same_there (Some (atom.File digest exec)) (option_map (atom_of n.ledger) o)) h.there
    ∙ ap (λ (d : List ℕ). same_there (Some (atom.File digest exec)) (Some (atom.File d exec))) h.shown
    ∙ and_from _ (same_bit exec exec) (name_itself digest) (bit_itself exec)
left_shows first n (Some (atom.Link text)) found h =
    ap (λ (o : Option Entry). same_there (Some (atom.Link text)) (option_map (atom_of n.ledger) o)) h ∙ name_itself text
left_shows first n (Some atom.Untracked) found h = ap (λ (o : Option Entry). same_there None (option_map (atom_of n.ledger) o)) h
left_shows first n (Some (atom.Problem kind)) found h = ap (λ (o : Option Entry). same_there None (option_map (atom_of n.ledger) o)) h

stamp_kept : (was found : Option Entry) → stamp_there found ≡ stamp_there was → keeps_stamp was found ≡ true
stamp_kept None found h = refl
stamp_kept (Some entry.Dir) found h = refl
stamp_kept (Some (entry.Link text)) found h = refl
stamp_kept (Some entry.Other) found h = refl
stamp_kept (Some (entry.File stamp exec)) None h = absurd (none_is_not_some stamp h)
stamp_kept (Some (entry.File stamp exec)) (Some entry.Dir) h = absurd (none_is_not_some stamp h)
stamp_kept (Some (entry.File stamp exec)) (Some (entry.Link text)) h = absurd (none_is_not_some stamp h)
stamp_kept (Some (entry.File stamp exec)) (Some entry.Other) h = absurd (none_is_not_some stamp h)
stamp_kept (Some (entry.File stamp exec)) (Some (entry.File other bit)) h = ap (λ (t : Stamp). t.0 == stamp.0) (some_same other stamp h) ∙ number_itself stamp.0

module _ (change : Change) (s n : RootState) (leaves : Leaves change s n) where
  part_left : (p : Names) (b : Bool) → map.get n.tree p ≡ (if b then None else map.get s.tree p) → (if b then not (is_some (map.get n.tree p)) else stays_at s n p) ≡ true
  part_left p true is = ap (λ (o : Option Entry). not (is_some o)) is
  part_left p false is = ap (λ (o : Option Entry). is_expected o (map.get s.tree p)) is ∙ expected_itself (map.get s.tree p)

  left_by : (p : Names) → is_under p change.at ≡ true → (b : Bool) → has_let_be change.old ≡ b
      → (if b then (if goes change.old p then not (is_some (map.get n.tree p)) else stays_at s n p) else same_there (only_tracked (map.get change.new p)) (option_map (atom_of n.ledger) (map.get n.tree p))) ≡ true
  left_by p under true has = part_left p (goes change.old p) (leaves.part has p under)
  left_by p under false has = left_shows (least_stamp s change) n (map.get change.new p) (map.get n.tree p) (leaves.whole has p under)

  left_or_outside : (p : Names) (b : Bool) → is_under p change.at ≡ b → (not b || is_left_at s n change p) ≡ true
  left_or_outside p true under = left_by p under (has_let_be change.old) refl
  left_or_outside p false outside = refl

  bit_left : (b : Bool) → sets_bit_alone change ≡ b → (not b || keeps_stamp (map.get s.tree change.at) (map.get n.tree change.at)) ≡ true
  bit_left true alone = stamp_kept (map.get s.tree change.at) (map.get n.tree change.at) (leaves.bit alone)
  bit_left false other = refl

pub undisturbed_is_left : UndisturbedIsLeft
undisturbed_is_left change s n leaves = and_from _ _
    (each_holds (λ p. not (is_under p change.at) || is_left_at s n change p) (λ p. left_or_outside change s n leaves p (is_under p change.at) refl) (map.keys change.new ++ paths_in_either s n))
    (bit_left change s n leaves (sets_bit_alone change) refl)
