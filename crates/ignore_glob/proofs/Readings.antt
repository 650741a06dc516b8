-- A text has one reading: one meaning, or one place at which it goes wrong.
use Rattle.std.proofs.Common.{◌≡◌, ℕ, ◌+◌, ◌-◌, Bool, List, length, refl, sym, ap, ◌∙◌, inl, inr, ◌⊎◌, MatchResult}
use Rattle.std.specs.Prelude.{Result, Ok, Err}
use Rattle.ignore_glob.specs.declared.piece.Part.{Part}
use Rattle.ignore_glob.specs.declared.pattern_error.PatternError.{PatternError}
use Rattle.ignore_glob.specs.declared.pattern_error.PatternError.TheVariants.{Bad, Memory}
use Rattle.ignore_glob.specs.Grammar.{Meaning, IsPattern, middle, body, cut}
use Rattle.ignore_glob.specs.Faults.{IsFault, counted}
use Rattle.ignore_glob.specs.Refusals.{IsRefusal}
use Rattle.ignore_glob.proofs.Parts.{same_parts, same_middle_fault, no_middle_fault}

pub one_meaning : (text : List ℕ) (p q : Meaning) → IsPattern text p → IsPattern text q → p ≡ q
one_meaning text p q h k =
    let parts : p.parts ≡ q.parts = same_parts (cut (middle text)) p.parts q.parts h.parts k.parts in
    ap (λ (b : Bool). record p { negated = b }) (h.negated ∙ sym k.negated)
    ∙ ap (λ (b : Bool). record p { negated = q.negated; anchored = b }) (h.anchored ∙ sym k.anchored)
    ∙ ap (λ (b : Bool). record q { directories = b; parts = p.parts }) (h.directories ∙ sym k.directories)
    ∙ ap (λ (l : List Part). record q { parts = l }) parts

pub one_fault : (text : List ℕ) (i j : ℕ) → IsFault text i → IsFault text j → i ≡ j
one_fault text i j (inl e) (inl f) = e.1 ∙ sym f.1
one_fault text i j (inl e) (inr f) = absurd (f.0 e.0)
one_fault text i j (inr e) (inl f) = absurd (e.0 f.0)
one_fault text i j (inr e) (inr f) =
    e.3 ∙ ap (λ (n : ℕ). (length text - length (body text)) + n) (same_middle_fault (middle text) e.1 f.1 e.2 f.2) ∙ sym f.3

pub pattern_has_no_fault : (text : List ℕ) (p : Meaning) (place : ℕ) → IsPattern text p → IsFault text place → ⊥
pattern_has_no_fault text p place h (inl e) = h.some e.0
pattern_has_no_fault text p place h (inr e) = no_middle_fault (middle text) p.parts e.1 h.parts h.few e.2

pub accepts : (text : List ℕ) (result : Result Meaning PatternError) (p : Meaning) → MatchResult result (IsPattern text) (IsRefusal text) → IsPattern text p → MatchResult result (λ q. q ≡ p) (λ e. e ≡ Memory)
accepts text (Ok q) p h is = one_meaning text q p h is
accepts text (Err Memory) p h is = refl
accepts text (Err (Bad bad)) p h is = absurd (pattern_has_no_fault text p h.0 is h.1)

pub refuses : (text : List ℕ) (result : Result Meaning PatternError) (place : ℕ) → MatchResult result (IsPattern text) (IsRefusal text) → IsFault text place → MatchResult result (λ _. ⊥) (λ e. (e ≡ Bad (record { place = counted place })) ⊎ (e ≡ Memory))
refuses text (Ok q) place h is = pattern_has_no_fault text q place h is
refuses text (Err Memory) place h is = inr refl
refuses text (Err (Bad bad)) place h is = inl (ap Bad (h.2 ∙ ap (λ (n : ℕ). record { place = counted n }) (one_fault text h.0 place h.1 is)))
