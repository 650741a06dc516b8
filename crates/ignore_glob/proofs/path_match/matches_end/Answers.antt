use Rattle.std.proofs.Common.{◌≡◌, ◌+◌, ◌-◌, ◌≤◌, ℕ, List, length, drop, sym, ap, subst, ◌∙◌, refl, arith, length-drop}
use Rattle.std.proofs.lemmas.Bool.{false≢true}
use Rattle.std.proofs.lemmas.List.{drop-drop}
use denote.Ref.{Bor}
use Rattle.ignore_glob.specs.declared.piece.Part.{Part}
use Rattle.ignore_glob.specs.Matching.{is_span, FitsName, Matches}
use Rattle.ignore_glob.specs.Stretch.{names_of}
use Rattle.ignore_glob.proofs.Matching.{end_on, end_back}
use Rattle.ignore_glob.proofs.Names.{length-names}
use Rattle.ignore_glob.proofs.path_match.matches_end.Goals as goal

module _ (names : List (Bor (List ℕ))) (at : ℕ) (parts : List Part) (from : ℕ) (names_in : at ≤ length names) (parts_in : from ≤ length parts) where
  items : List (List ℕ)
  items = drop at (names_of names)

  left : List Part
  left = drop from parts

  few_on : length left ≤ length items → length parts - from ≤ length names - at
  unfolding items left
  few_on h = omega (arith, h, length-drop at (names_of names), length-names names, length-drop from parts)

  -- the end of the names that has a name for each part
  end_is : length parts - from ≤ length names - at → drop (length items - length left) items ≡ drop (length names - (length parts - from)) (names_of names)
  unfolding items left
  end_is h =
      let e : at + (length items - length left) ≡ length names - (length parts - from) = omega (arith, h, names_in, length-drop at (names_of names), length-names names, length-drop from parts) in
      drop-drop (length items - length left) at (names_of names) ∙ ap (λ n. drop n (names_of names)) e

pub returns-then-names-at : goal.returns-then-names-at
unfolding items left
returns-then-names-at c = (
  λ no. absurd (false≢true no),
  λ m.
      let names = c.args.names.now in
      let few = few_on names c.args.at c.args.parts.now c.args.from c.requires.names_in c.requires.parts_in
      (end_on is_span FitsName (drop c.args.at (names_of names)) (drop c.args.from c.args.parts.now) c.requires.single m).0 in
      absurd (omega (arith, few, c.if-names-at.true)),
)

pub returns-in-Whole : goal.returns-in-Whole
unfolding items left
returns-in-Whole c =
    let names = c.args.names.now in
    let is = end_is names c.args.at c.args.parts.now c.args.from c.requires.names_in c.requires.parts_in c.if-names-at.false in (
      λ yes. end_back is_span FitsName _ (drop c.args.at (names_of names)) (drop c.args.from c.args.parts.now)
          (subst (λ (l : List (List ℕ)). Matches is_span FitsName l (drop c.args.from c.args.parts.now)) (sym is) c.in-Whole.ensures),
      λ m. refl,
    )

pub returns-in-Fails : goal.returns-in-Fails
unfolding items left
returns-in-Fails c =
    let names = c.args.names.now in
    let is = end_is names c.args.at c.args.parts.now c.args.from c.requires.names_in c.requires.parts_in c.if-names-at.false in (
      λ no. absurd (false≢true no),
      λ m. absurd (c.in-Fails.ensures (subst (λ (l : List (List ℕ)). Matches is_span FitsName l (drop c.args.from c.args.parts.now)) is
          (end_on is_span FitsName (drop c.args.at (names_of names)) (drop c.args.from c.args.parts.now) c.requires.single m).1)),
    )
