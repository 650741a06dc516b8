-- The lines of bytes, one after another, and where the bytes are cut behind the end of a line.
use Rattle.std.proofs.Common.{inl, inr, ◌≡◌, ◌≢◌, ℕ, ◌+◌, ◌-◌, ◌<◌, ◌≤◌, Bool, true, false, cond, eqb, ◌⊎◌, List, [], ◌∷◌, ◌++◌, map, length, take, drop, get_or, refl, ap, sym, ◌∙◌, ne_eqb, append_assoc, append-nil, arith}
use Rattle.std.proofs.lemmas.List.{append_cancel_right, length-take, take-append-drop, drop_more}
use Rattle.std.proofs.lemmas.List.Elements.{All-weaker}
use Rattle.std.proofs.lemmas.List.Splits.{slice_split_none}
use Rattle.std.specs.List.{slice_split, onto_first}
use Rattle.std.specs.Str.Lines.{lines, lines_of_parts, strip_carriage_return}
use Rattle.outside_io.specs.Lines.{HasNoNewline, EndsWithNewline, IsWholeLines}

-- ---- the parts between newlines

abbrev parts : List ℕ → List (List ℕ)
parts bytes = slice_split (λ b. eqb b 10) bytes

-- the parts, where one byte more stands in front, which is a newline or isn't
abbrev parts_with : Bool → ℕ → List (List ℕ) → List (List ℕ)
parts_with t b ps = cond t ([] ∷ ps) (onto_first b ps)

parts_at : (t : Bool) (b : ℕ) (part : List ℕ) (others : List (List ℕ))
    → (first : List ℕ) × (more : List (List ℕ)) × (parts_with t b (part ∷ others) ≡ first ∷ more)
parts_at true b part others = ([], part ∷ others, refl)
parts_at false b part others = (b ∷ part, others, refl)

-- there is always a part
parts_some : (bytes : List ℕ) → (first : List ℕ) × (more : List (List ℕ)) × (parts bytes ≡ first ∷ more)
parts_some [] = ([], [], refl)
parts_some (b ∷ bytes) =
    let rest = parts_some bytes in
    let at = parts_at (eqb b 10) b rest.0 rest.1 in
    (at.0, at.1, ap (parts_with (eqb b 10) b) rest.2 ∙ at.2)

onto_parts : (t : Bool) (b : ℕ) (first : List ℕ) (more others : List (List ℕ))
    → parts_with t b ((first ∷ more) ++ others) ≡ parts_with t b (first ∷ more) ++ others
onto_parts true b first more others = refl
onto_parts false b first more others = refl

-- a newline ends a part
parts-newline : (bytes more : List ℕ) → parts (bytes ++ 10 ∷ more) ≡ parts bytes ++ parts more
parts-newline [] more = refl
parts-newline (b ∷ bytes) more =
    let some = parts_some bytes in
    ap (parts_with (eqb b 10) b) (parts-newline bytes more ∙ ap (λ (ps : List (List ℕ)). ps ++ parts more) some.2)
    ∙ onto_parts (eqb b 10) b some.0 some.1 (parts more)
    ∙ ap (λ (ps : List (List ℕ)). parts_with (eqb b 10) b ps ++ parts more) (sym some.2)

-- bytes without a newline are one part
parts-none : (bytes : List ℕ) → HasNoNewline bytes → parts bytes ≡ bytes ∷ []
parts-none bytes h =
    slice_split_none (λ b. eqb b 10) bytes
    (All-weaker (λ (b : ℕ). b ≢ 10) (λ (b : ℕ). eqb b 10 ≡ false) (λ b ne. ne_eqb b 10 ne) bytes h)

-- ---- lines

-- each part that another part follows is a line
lines_of_parts-append : (before : List (List ℕ)) (first : List ℕ) (more : List (List ℕ))
    → lines_of_parts (before ++ first ∷ more) ≡ map strip_carriage_return before ++ lines_of_parts (first ∷ more)
lines_of_parts-append [] first more = refl
lines_of_parts-append (part ∷ []) first more = refl
lines_of_parts-append (part ∷ (next ∷ before)) first more =
    ap (λ (ls : List (List ℕ)). strip_carriage_return part ∷ ls) (lines_of_parts-append (next ∷ before) first more)

-- up to a newline each part is a line, and what follows the newline has the other lines
lines-newline_more : (bytes more : List ℕ) → lines (bytes ++ 10 ∷ more) ≡ map strip_carriage_return (parts bytes) ++ lines more
lines-newline_more bytes more =
    let some = parts_some more in
    ap lines_of_parts (parts-newline bytes more ∙ ap (λ (ps : List (List ℕ)). parts bytes ++ ps) some.2)
    ∙ lines_of_parts-append (parts bytes) some.0 some.1
    ∙ ap (λ (ps : List (List ℕ)). map strip_carriage_return (parts bytes) ++ lines_of_parts ps) (sym some.2)

-- bytes up to a newline are the first line, and what follows the newline has the others
pub lines-newline : (line rest : List ℕ) → HasNoNewline line → lines (line ++ 10 ∷ rest) ≡ strip_carriage_return line ∷ lines rest
lines-newline line rest h =
    lines-newline_more line rest
    ∙ ap (λ (ps : List (List ℕ)). map strip_carriage_return ps ++ lines rest) (parts-none line h)

-- bytes without a newline are one line
pub lines-last : (line : List ℕ) → HasNoNewline line → 0 < length line → lines line ≡ line ∷ []
lines-last line h some =
    let ne : length line ≢ 0 = omega arith in
    ap lines_of_parts (parts-none line h) ∙ ap (λ b. cond b [] (line ∷ [])) (ne_eqb (length line) 0 ne)

lines-behind_newline : (front bytes more : List ℕ) → front ≡ bytes ++ 10 ∷ [] → lines (front ++ more) ≡ lines front ++ lines more
lines-behind_newline front bytes more is =
    ap (λ (f : List ℕ). lines (f ++ more)) is
    ∙ ap lines (append_assoc bytes (10 ∷ []) more)
    ∙ lines-newline_more bytes more
    ∙ ap (λ (ls : List (List ℕ)). ls ++ lines more)
    (sym (ap lines is ∙ lines-newline_more bytes [] ∙ append-nil (map strip_carriage_return (parts bytes))))

-- behind whole lines the lines of the rest follow
pub lines-append : (front more : List ℕ) → IsWholeLines front → lines (front ++ more) ≡ lines front ++ lines more
lines-append front more whole = elim whole [
  | inl none ↦ ap (λ (f : List ℕ). lines (f ++ more)) none ∙ ap (λ (f : List ℕ). lines f ++ lines more) (sym none)
  | inr ends ↦ lines-behind_newline front ends.0 more ends.1
]

-- what was taken as the first line has that line alone
pub lines-taken : (Met : Type 0) (old taken new : List ℕ) (line : List ℕ) → old ≡ taken ++ new → lines old ≡ line ∷ lines new
    → EndsWithNewline taken ⊎ ((new ≡ []) × Met) → lines taken ≡ line ∷ []
lines-taken Met old taken new line cut first ended = elim ended [
  | inl ends ↦ append_cancel_right (lines taken) (line ∷ []) (lines new)
      (sym (lines-behind_newline taken ends.0 new ends.1) ∙ sym (ap lines cut) ∙ first)
  | inr none ↦ ap lines (sym (cut ∙ ap (λ (n : List ℕ). taken ++ n) none.0 ∙ append-nil taken)) ∙ first
      ∙ ap (λ (n : List ℕ). line ∷ lines n) none.0
]

-- ---- one byte

-- where the first newline stands, the bytes part
pub at_newline : (bytes : List ℕ) (place : ℕ) → place < length bytes → get_or bytes place 0 ≡ 10 → bytes ≡ take place bytes ++ 10 ∷ drop (place + 1) bytes
at_newline bytes place within is =
    sym (take-append-drop place bytes) ∙ ap (λ xs. take place bytes ++ xs) (drop_more bytes place 0 within ∙ ap (λ (b : ℕ). b ∷ drop (place + 1) bytes) is)

length-strip_at : (t : Bool) (line : List ℕ) → length line ≤ length (cond t (take (length line - 1) line) line) + 1
length-strip_at true line = omega (arith, length-take (length line - 1) line)
length-strip_at false line = omega arith

-- dropping a carriage return takes at most one byte
pub length-strip_carriage_return : (line : List ℕ) → length line ≤ length (strip_carriage_return line) + 1
length-strip_carriage_return line = length-strip_at (eqb (get_or line (length line - 1) 0) 13) line
