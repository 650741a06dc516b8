-- Languages whose texts are one part behind another, the first of a fixed width.
use Rattle.std.proofs.Common.{◌≡◌, ℕ, ◌+◌, ◌-◌, ◌<◌, List, ◌∷◌, ◌++◌, length, take, drop, sym, ap, subst, ◌∙◌, append_assoc, arith, length-append}
use Rattle.std.proofs.Math.Seq.{take-append-add}
use Rattle.std.proofs.lemmas.List.{take_at, drop_at, length-take-le}
use Rattle.mux_frames.specs.Prefix.{Continues, IsFault}

-- what goes on in one language goes on in one that has its texts
pub continues_along : (L M : List ℕ → Type 0) (bytes : List ℕ) → ((text : List ℕ) → L text → M text) → Continues L bytes → Continues M bytes
continues_along L M bytes to goes = (goes.0, goes.1, to (bytes ++ goes.0 ∷ goes.1) goes.2)

pub fault_along : (L M : List ℕ → Type 0) (bytes : List ℕ) (place : ℕ) → ((text : List ℕ) → L text → M text) → ((text : List ℕ) → M text → L text) → IsFault L bytes place → IsFault M bytes place
fault_along L M bytes place to from fault = record {
  within = fault.within;
  before = continues_along L M (take place bytes) to fault.before;
  none = λ more text. fault.none more (from (take (place + 1) bytes ++ more) text);
}

-- a part of a fixed width, and one behind it that may depend on it
pub record Parts (width : ℕ) (First : List ℕ → Type 0) (Then : List ℕ → List ℕ → Type 0) (bytes : List ℕ) : Type 0 where
  pub front : First (take width bytes)
  pub back : Then (take width bytes) (drop width bytes)

pub parts_join : (width : ℕ) (First : List ℕ → Type 0) (Then : List ℕ → List ℕ → Type 0) (xs ys : List ℕ) → length xs ≡ width → First xs → Then xs ys → Parts width First Then (xs ++ ys)
parts_join width First Then xs ys len first second =
    let t : take width (xs ++ ys) ≡ xs = take_at xs ys width len in
    let d : drop width (xs ++ ys) ≡ ys = drop_at xs ys width len in
    record { front = subst First (sym t) first; back = subst (λ (b : List ℕ). Then (take width (xs ++ ys)) b) (sym d) (subst (λ (a : List ℕ). Then a ys) (sym t) second) }

-- the first part isn't whole
pub parts_continue_front : (width : ℕ) (First : List ℕ → Type 0) (Then : List ℕ → List ℕ → Type 0) (bytes : List ℕ) → ((xs : List ℕ) → First xs → length xs ≡ width) → ((xs : List ℕ) → First xs → (ys : List ℕ) × Then xs ys)
    → Continues First bytes → Continues (Parts width First Then) bytes
parts_continue_front width First Then bytes wide some goes =
    let xs = bytes ++ goes.0 ∷ goes.1 in
    let ys = some xs goes.2 in
    let whole = parts_join width First Then xs ys.0 (wide xs goes.2) goes.2 ys.1 in
    (goes.0, goes.1 ++ ys.0, subst (Parts width First Then) (append_assoc bytes (goes.0 ∷ goes.1) ys.0) whole)

pub parts_fault_front : (width : ℕ) (First : List ℕ → Type 0) (Then : List ℕ → List ℕ → Type 0) (bytes : List ℕ) (place : ℕ) → ((xs : List ℕ) → First xs → length xs ≡ width) → ((xs : List ℕ) → First xs → (ys : List ℕ) × Then xs ys)
    → place < width → IsFault First bytes place → IsFault (Parts width First Then) bytes place
parts_fault_front width First Then bytes place wide some in_width fault =
    let seen = take (place + 1) bytes in
    let len : length seen ≡ place + 1 = length-take-le (place + 1) bytes (omega (arith, fault.within)) in
    let left = width - (place + 1) in
    let all : width ≡ length seen + left = omega (arith, len) in
    record {
      within = fault.within;
      before = parts_continue_front width First Then (take place bytes) wide some fault.before;
      none = λ more text.
          let front : take width (seen ++ more) ≡ seen ++ take left more = ap (λ (n : ℕ). take n (seen ++ more)) all ∙ take-append-add seen more left in
          fault.none (take left more) (subst First front text.front);
    }

-- the first part is whole, and the second isn't
pub parts_continue_back : (width : ℕ) (First : List ℕ → Type 0) (Then : List ℕ → List ℕ → Type 0) (xs ys : List ℕ) → length xs ≡ width → First xs → Continues (Then xs) ys → Continues (Parts width First Then) (xs ++ ys)
parts_continue_back width First Then xs ys len first goes =
    let whole = parts_join width First Then xs (ys ++ goes.0 ∷ goes.1) len first goes.2 in
    (goes.0, goes.1, subst (Parts width First Then) (sym (append_assoc xs ys (goes.0 ∷ goes.1))) whole)

pub parts_fault_back : (width : ℕ) (First : List ℕ → Type 0) (Then : List ℕ → List ℕ → Type 0) (xs ys : List ℕ) (place : ℕ) → length xs ≡ width → First xs → IsFault (Then xs) ys place → IsFault (Parts width First Then) (xs ++ ys) (width + place)
parts_fault_back width First Then xs ys place len first fault =
    let before_is : take (width + place) (xs ++ ys) ≡ xs ++ take place ys = subst (λ (n : ℕ). take (n + place) (xs ++ ys) ≡ xs ++ take place ys) len (take-append-add xs ys place) in
    let count : (width + place) + 1 ≡ width + (place + 1) = omega arith in
    let seen_is : take ((width + place) + 1) (xs ++ ys) ≡ xs ++ take (place + 1) ys = ap (λ (n : ℕ). take n (xs ++ ys)) count ∙ subst (λ (n : ℕ). take (n + (place + 1)) (xs ++ ys) ≡ xs ++ take (place + 1) ys) len (take-append-add xs ys (place + 1)) in
    record {
      within = omega (arith, length-append xs ys, len, fault.within);
      before = subst (Continues (Parts width First Then)) (sym before_is) (parts_continue_back width First Then xs (take place ys) len first fault.before);
      none = λ more text.
          let whole : take ((width + place) + 1) (xs ++ ys) ++ more ≡ xs ++ (take (place + 1) ys ++ more) = ap (λ (t : List ℕ). t ++ more) seen_is ∙ append_assoc xs (take (place + 1) ys) more in
          let text' = subst (Parts width First Then) whole text in
          let t : take width (xs ++ (take (place + 1) ys ++ more)) ≡ xs = take_at xs (take (place + 1) ys ++ more) width len in
          let d : drop width (xs ++ (take (place + 1) ys ++ more)) ≡ take (place + 1) ys ++ more = drop_at xs (take (place + 1) ys ++ more) width len in
          let second = subst (Then xs) d (subst (λ (a : List ℕ). Then a (drop width (xs ++ (take (place + 1) ys ++ more)))) t text'.back) in
          fault.none more second;
    }
