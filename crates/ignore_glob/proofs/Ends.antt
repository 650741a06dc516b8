-- What a text begins and ends with.
use Rattle.std.proofs.Common.{◌≡◌, ◌≢◌, ℕ, Bool, true, false, cond, eqb, List, [], ◌∷◌, ◌++◌, refl, sym, ap, ◌∙◌}
use Rattle.std.proofs.lemmas.Bool.{eqb-true, eq-eqb}
use Rattle.ignore_glob.specs.Grammar.{begins_with, take_off, ends_with, take_off_end}

pub begins_yes : (c : ℕ) (text rest : List ℕ) → text ≡ c ∷ rest → (true ≡ begins_with c text) × (rest ≡ take_off c text)
begins_yes c text rest e =
    let same : eqb c c ≡ true = eq-eqb c c refl in
    (sym same ∙ ap (begins_with c) (sym e), sym (ap (λ b. cond b rest (c ∷ rest)) same) ∙ ap (take_off c) (sym e))

other : (c b : ℕ) (more : List ℕ) → ((rest : List ℕ) → b ∷ more ≢ c ∷ rest) → (t : Bool) → eqb b c ≡ t → t ≡ false
other c b more none true e = absurd (none more (ap (λ (n : ℕ). n ∷ more) (eqb-true b c e)))
other c b more none false e = refl

pub begins_no : (c : ℕ) (text : List ℕ) → ((rest : List ℕ) → text ≢ c ∷ rest) → (false ≡ begins_with c text) × (text ≡ take_off c text)
begins_no c [] none = (refl, refl)
begins_no c (b ∷ more) none =
    let no : eqb b c ≡ false = other c b more none (eqb b c) refl in
    (sym no, sym (ap (λ t. cond t more (b ∷ more)) no))

-- the same of a text and one more byte
ends_at : (c : ℕ) (front : List ℕ) → (true ≡ ends_with c (front ++ c ∷ [])) × (front ≡ take_off_end c (front ++ c ∷ []))
ends_at c [] =
    let same : eqb c c ≡ true = eq-eqb c c refl in
    (sym same, sym (ap (λ b. cond b [] (c ∷ [])) same))
ends_at c (x ∷ []) = let rest = ends_at c [] in (rest.0, ap (λ (l : List ℕ). x ∷ l) rest.1)
ends_at c (x ∷ y ∷ front) = let rest = ends_at c (y ∷ front) in (rest.0, ap (λ (l : List ℕ). x ∷ l) rest.1)

pub ends_yes : (c : ℕ) (text front : List ℕ) → text ≡ front ++ c ∷ [] → (true ≡ ends_with c text) × (front ≡ take_off_end c text)
ends_yes c text front e = let at = ends_at c front in (at.0 ∙ ap (ends_with c) (sym e), at.1 ∙ ap (take_off_end c) (sym e))

last_other : (c b : ℕ) → ((front : List ℕ) → b ∷ [] ≢ front ++ c ∷ []) → (t : Bool) → eqb b c ≡ t → t ≡ false
last_other c b none true e = absurd (none [] (ap (λ (n : ℕ). n ∷ []) (eqb-true b c e)))
last_other c b none false e = refl

pub ends_no : (c : ℕ) (text : List ℕ) → ((front : List ℕ) → text ≢ front ++ c ∷ []) → (false ≡ ends_with c text) × (text ≡ take_off_end c text)
ends_no c [] none = (refl, refl)
ends_no c (b ∷ []) none =
    let no : eqb b c ≡ false = last_other c b none (eqb b c) refl in
    (sym no, sym (ap (λ t. cond t [] (b ∷ [])) no))
ends_no c (x ∷ y ∷ more) none =
    let rest = ends_no c (y ∷ more) (λ front e. none (x ∷ front) (ap (λ (l : List ℕ). x ∷ l) e)) in
    (rest.0, ap (λ (l : List ℕ). x ∷ l) rest.1)
