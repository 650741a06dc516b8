-- What the readers of words answer.
use Rattle.std.specs.Prelude.{◌≡◌, ℕ, ◌<◌, ◌^◌, List, ◌∷◌, ◌++◌, map, Option, Some, None}
use Rattle.std.specs.Fmt.{decimal}
use Rattle.std.specs.List.{AllByRecursion}
use Rattle.line_words.specs.Lines.{Item, HasWords}
use Rattle.sync_path.specs.Path.{IsPath}
use Rattle.entry_tree.specs.PathWord.{path_word}
use Rattle.entry_tree.specs.Tree.{Names}

-- Of values and their words: what is read of the items behind some words. Either these go on with the words of the value, or with those of none.
abbrev pub Reads : {V : Type 0} → (V → Type 0) → (V → List (List ℕ)) → List (List ℕ) → List Item → Option V → Type 0
Reads {V} Is words_in before items (Some value) = Is value × ((words : List (List ℕ)) × HasWords items words × (words_in value ≡ before ++ words))
Reads {V} Is words_in before items None = (value : V) → Is value → (words : List (List ℕ)) → HasWords items words → words_in value ≡ before ++ words → ⊥

-- each of these is a number of 64 bits
abbrev pub AreNumbers : List ℕ → Type 0
AreNumbers numbers = AllByRecursion (λ n. n < 2 ^ 64) numbers

-- the numbers that all items left write, if they do
abbrev pub ReadsNumbers : List Item → Option (List ℕ) → Type 0
ReadsNumbers items (Some numbers) = AreNumbers numbers × HasWords items (map decimal numbers)
ReadsNumbers items None = (numbers : List ℕ) → AreNumbers numbers → HasWords items (map decimal numbers) → ⊥

-- the path that the next item writes, if it writes one, and the items left then
abbrev pub TakesPath : List Item → Option Names → List Item → Type 0
TakesPath items (Some path) left = IsPath path × ((place : ℕ) × (items ≡ record { place = place; word = Some (path_word path) } ∷ left))
TakesPath items None left = (path : Names) → IsPath path → (words : List (List ℕ)) → HasWords items (path_word path ∷ words) → ⊥
