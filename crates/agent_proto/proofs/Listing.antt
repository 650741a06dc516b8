-- The rows of a listing, read one by one.
use Rattle.std.proofs.Common.{◌≡◌, ℕ, suc, ◌+◌, ◌-◌, ◌<◌, List, [], ◌∷◌, ◌++◌, refl, sym, ap, ◌∙◌, arith, append_assoc, Some, None}
use Rattle.std.specs.Prelude.{Option}
use Rattle.std.specs.Option.{option_map, option_and_then}
use Rattle.std.proofs.lemmas.List.{append-nil}
use Rattle.entry_tree.specs.declared.entry.Entry.{Entry}
use Rattle.agent_proto.specs.Reading.{Took, mapped, both, name_in, entry_in, rows_by}
use Rattle.agent_proto.proofs.Codecs.{both_is}

abbrev pub Row : Type 0
Row = List ℕ × Entry

-- the rows read before, and then those that are read
abbrev pub behind : List Row → Option (List Row × List ℕ) → Option (List Row × List ℕ)
behind front read = mapped (λ (rows : List Row). front ++ rows) read

pub behind-nil : (read : Option (List Row × List ℕ)) → read ≡ behind [] read
behind-nil None = refl
behind-nil (Some p) = refl

behind-cons : (front : List Row) (row : Row) (read : Option (List Row × List ℕ)) → behind front (mapped (λ (rows : List Row). row ∷ rows) read) ≡ behind (front ++ row ∷ []) read
behind-cons front row None = refl
behind-cons front row (Some p) = ap (λ (rows : List Row). Some (rows, p.1)) (sym (append_assoc front (row ∷ []) p.0))

-- the rows, once the first has been read
abbrev rest_of : ℕ → Option (Row × List ℕ) → Option (List Row × List ℕ)
rest_of count read = mapped (λ (rows : Row × List Row). rows.0 ∷ rows.1) (option_and_then (λ (p : Row × List ℕ). option_map (λ (q : List Row × List ℕ). ((p.0, q.0), q.1)) (rows_by count p.1)) read)

rows_by-rest : (count : ℕ) (now : List ℕ) → rows_by (suc count) now ≡ rest_of count (both name_in entry_in now)
rows_by-rest count now = refl

rest_of-some : (count : ℕ) (row : Row) (after : List ℕ) → rest_of count (Some (row, after)) ≡ mapped (λ (rows : List Row). row ∷ rows) (rows_by count after)
rest_of-some count row after = twice (rows_by count after)
  where
    twice : (read : Option (List Row × List ℕ)) → mapped (λ (rows : Row × List Row). rows.0 ∷ rows.1) (option_map (λ (q : List Row × List ℕ). ((row, q.0), q.1)) read) ≡ mapped (λ (rows : List Row). row ∷ rows) read
    twice None = refl
    twice (Some p) = refl

-- the entry, once the name has been read
abbrev entry_of : Option (List ℕ × List ℕ) → Option (Row × List ℕ)
entry_of read = option_and_then (λ (p : List ℕ × List ℕ). option_map (λ (q : Entry × List ℕ). ((p.0, q.0), q.1)) (entry_in p.1)) read

rows_split : (count : ℕ) (now mid after : List ℕ) (name : List ℕ) (entry : Entry) → name_in now ≡ Some (name, mid) → entry_in mid ≡ Some (entry, after)
    → rows_by (suc count) now ≡ mapped (λ (rows : List Row). (name, entry) ∷ rows) (rows_by count after)
rows_split count now mid after name entry one two =
    rows_by-rest count now ∙ ap (rest_of count) (both_is name_in entry_in now mid after name entry one two) ∙ rest_of-some count (name, entry) after

left_one : (count i : ℕ) → i < count → count - i ≡ suc (count - (i + 1))
left_one count i less = omega (arith, less)

pub row_on : (start now mid after : List ℕ) (front : List Row) (count i : ℕ) (name : List ℕ) (entry : Entry) → i < count → rows_by count start ≡ behind front (rows_by (count - i) now)
    → Took name_in now (Some name) mid → Took entry_in mid (Some entry) after → rows_by count start ≡ behind (front ++ (name, entry) ∷ []) (rows_by (count - (i + 1)) after)
row_on start now mid after front count i name entry less so_far one two =
    let k = count - (i + 1) in
    so_far ∙ ap (λ (n : ℕ). behind front (rows_by n now)) (left_one count i less) ∙ ap (behind front) (rows_split k now mid after name entry one two)
    ∙ behind-cons front (name, entry) (rows_by k after)

pub row_no_name : (start now mid : List ℕ) (front : List Row) (count i : ℕ) → i < count → rows_by count start ≡ behind front (rows_by (count - i) now) → Took name_in now None mid → rows_by count start ≡ None
row_no_name start now mid front count i less so_far one =
    let k = count - (i + 1) in
    so_far ∙ ap (λ (n : ℕ). behind front (rows_by n now)) (left_one count i less) ∙ ap (behind front) (rows_by-rest k now)
    ∙ ap (λ (read : Option (List ℕ × List ℕ)). behind front (rest_of k (entry_of read))) one

pub row_no_entry : (start now mid after : List ℕ) (front : List Row) (count i : ℕ) (name : List ℕ) → i < count → rows_by count start ≡ behind front (rows_by (count - i) now)
    → Took name_in now (Some name) mid → Took entry_in mid None after → rows_by count start ≡ None
row_no_entry start now mid after front count i name less so_far one two =
    let k = count - (i + 1) in
    let row : both name_in entry_in now ≡ None = ap entry_of one ∙ ap (option_map (λ (q : Entry × List ℕ). ((name, q.0), q.1))) two in
    so_far ∙ ap (λ (n : ℕ). behind front (rows_by n now)) (left_one count i less) ∙ ap (behind front) (rows_by-rest k now)
    ∙ ap (λ (read : Option (Row × List ℕ)). behind front (rest_of k read)) row

pub rows_end : (start now : List ℕ) (front : List Row) (count i : ℕ) → i ≡ count → rows_by count start ≡ behind front (rows_by (count - i) now) → rows_by count start ≡ Some (front, now)
rows_end start now front count i ends so_far =
    let none : count - i ≡ 0 = omega (arith, ends) in
    so_far ∙ ap (λ (n : ℕ). behind front (rows_by n now)) none ∙ ap (λ (rows : List Row). Some (rows, now)) (append-nil front)

pub rows_begin : (start : List ℕ) (count : ℕ) → rows_by count start ≡ behind [] (rows_by (count - 0) start)
rows_begin start count =
    let same : count ≡ count - 0 = omega arith in
    behind-nil (rows_by count start) ∙ ap (λ (n : ℕ). behind [] (rows_by n start)) same
