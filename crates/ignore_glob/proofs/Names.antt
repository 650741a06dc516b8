-- The names of a path in a slice of texts.
use Rattle.std.proofs.Common.{◌≡◌, ℕ, zero, suc, ◌+◌, ◌<◌, ◌≤◌, List, [], ◌∷◌, ◌++◌, length, get_or, take, drop, set, refl, ap, arith, add-one}
use Rattle.std.proofs.lemmas.List.{nil_from_length, length-drop}
use denote.Ref.{Bor}
use Rattle.ignore_glob.specs.Stretch.{names_of}

pub length-names : (texts : List (Bor (List ℕ))) → length (names_of texts) ≡ length texts
length-names [] = refl
length-names (t ∷ texts) = let rest = length-names texts in omega (arith, rest)

-- the names from one on: that one, and those behind it
pub names_at : (texts : List (Bor (List ℕ))) (i : ℕ) (d : Bor (List ℕ)) → i < length texts → drop i (names_of texts) ≡ (get_or texts i d).now ∷ drop (i + 1) (names_of texts)
names_at [] i d less = absurd (omega arith)
names_at (t ∷ texts) zero d less = refl
names_at (t ∷ texts) (suc i) d less = rw add-one (rw add-one at (names_at texts i d (omega arith)))

-- one name more is kept
pub names_kept : (texts : List (Bor (List ℕ))) (i : ℕ) (text : Bor (List ℕ)) → i < length texts → names_of (take (i + 1) (set texts i text)) ≡ names_of (take i texts) ++ text.now ∷ []
names_kept [] i text less = absurd (omega arith)
names_kept (t ∷ texts) zero text less = refl
names_kept (t ∷ texts) (suc i) text less = rw add-one (ap (λ (l : List (List ℕ)). t.now ∷ l) (rw add-one at (names_kept texts i text (omega arith))))

-- behind the last name is none
pub names_end : (texts : List (Bor (List ℕ))) (i : ℕ) → length texts ≤ i → drop i (names_of texts) ≡ []
names_end texts i le = nil_from_length (drop i (names_of texts)) (omega (arith, length-drop i (names_of texts), length-names texts))
