-- Lists of patterns: what their texts mean, where they go wrong, and which paths they ignore.
use Rattle.std.specs.Prelude.{◌≡◌, ℕ, Bool, false, cond, List, [], ◌∷◌, ◌++◌, length}
use Rattle.std.specs.List.{AllByRecursion}
use Rattle.ignore_glob.specs.Grammar.{Meaning, IsPattern}
use Rattle.ignore_glob.specs.Faults.{IsFault}
use Rattle.ignore_glob.specs.Matching.{IsMatch}
use Rattle.ignore_rules.specs.Vcs.{vcs_texts}

-- each text is a pattern of the meaning in its place
abbrev pub ArePatterns : List (List ℕ) → List Meaning → Type 0
ArePatterns [] [] = Unit {0}
ArePatterns [] (p ∷ ps) = ⊥
ArePatterns (text ∷ texts) [] = ⊥
ArePatterns (text ∷ texts) (p ∷ ps) = IsPattern text p × ArePatterns texts ps

-- the rules are the meanings of the texts, behind those of version control where it is ignored
abbrev pub AreRules : Bool → List (List ℕ) → List Meaning → Type 0
AreRules vcs texts rules = ArePatterns (cond vcs vcs_texts [] ++ texts) rules

-- the text of this number is the first that is no pattern, and goes wrong at this place
pub record IsRuleFault (texts : List (List ℕ)) (index place : ℕ) : Type 0 where
  pub before : List (List ℕ)
  pub wrong : List ℕ
  pub after : List (List ℕ)
  pub texts_are : texts ≡ before ++ wrong ∷ after
  pub index_is : index ≡ length before
  pub rules : List Meaning
  pub patterns : ArePatterns before rules
  pub fault : IsFault wrong place

-- this is the last of the rules that matches what lies at these names
pub record IsLastMatch (rules : List Meaning) (names : List (List ℕ)) (is_dir : Bool) (last : Meaning) : Type 0 where
  pub before : List Meaning
  pub after : List Meaning
  pub rules_are : rules ≡ before ++ last ∷ after
  pub matched : IsMatch last names is_dir
  pub later : AllByRecursion (λ p. IsMatch p names is_dir → ⊥) after

-- The rules ignore it: the last that matches isn't negated. So nothing is ignored that no rule matches.
abbrev pub Ignores : List Meaning → List (List ℕ) → Bool → Type 0
Ignores rules names is_dir = (last : Meaning) × IsLastMatch rules names is_dir last × (last.negated ≡ false)
