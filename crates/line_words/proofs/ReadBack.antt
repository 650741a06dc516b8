-- A line that a writer wrote is read as its words, and the canonical reading takes nothing else.
use Rattle.std.proofs.Common.{◌≡◌, ℕ, ◌+◌, ◌/◌, ◌%◌, ◌<◌, ◌≤◌, ◌^◌, Bool, true, false, cond, Some, List, [], ◌∷◌, ◌++◌, length, refl, sym, ap, ap₂, ◌∙◌, arith, append_assoc, length-append, map}
use Rattle.std.specs.Prelude.{◌==◌, decimal}
use Rattle.std.specs.List.{join_with_byte, onto_first, All}
use Rattle.std.proofs.lemmas.Bool.Decides.{nat_tests}
use Rattle.std.proofs.lemmas.List.Elements.{All-nil, All-cons, All-append}
use Rattle.std.proofs.lemmas.List.Splits.{slice_split_none, slice_split_at, join_with_byte-slice_split, length-slice_split}
use Rattle.std.proofs.lemmas.Fmt.{decimal_is_IsNumeral}
use Rattle.std.proofs.lemmas.Str.Parse.{digit_from_value}
use Rattle.std.specs.Str.Parse.{AllDigits}
use Rattle.line_words.specs.declared.reading.Reading.{Reading}
use Rattle.line_words.specs.declared.reading.Reading.TheVariants.{Free, Canonical}
use Rattle.line_words.specs.Lines.{AreBytes, AreWords, HasWords, Item, is_skipped, items_of, items_at, line_items, parts_of}
use Rattle.line_words.specs.Places.{placed}
use Rattle.line_words.specs.Spelling.{unescaped, word_of, space, percent, is_plain, spelled, escaped, written, upper_digit}
use Rattle.line_words.proofs.Spellings.{read_back, only_escaped}

-- ---- no space stands in a word as it is spelt

abbrev NotSpace : ℕ → Type 0
NotSpace b = (b == space) ≡ false

plain_no_space : (b : ℕ) → is_plain b ≡ true → NotSpace b
plain_no_space b h = grind (arith, nat_tests)

digit_no_space : (d : ℕ) → d < 16 → NotSpace (upper_digit d)
digit_no_space d h = grind (arith, nat_tests)

spelled_no_space : (b : ℕ) → b < 256 → All NotSpace (spelled b)
spelled_no_space b h = by (is_plain b) refl
  where
    by : (t : Bool) → is_plain b ≡ t → All NotSpace (cond t (b ∷ []) (percent ∷ upper_digit (b / 16) ∷ upper_digit (b % 16) ∷ []))
    by true e = All-cons NotSpace b [] (plain_no_space b e) (All-nil NotSpace)
    by false e =
        let low = upper_digit (b % 16) in
        let high = upper_digit (b / 16) in
        All-cons NotSpace percent (high ∷ low ∷ []) refl
        (All-cons NotSpace high (low ∷ []) (digit_no_space (b / 16) (omega arith))
        (All-cons NotSpace low [] (digit_no_space (b % 16) (omega arith)) (All-nil NotSpace)))

escaped_no_space : (word : List ℕ) → AreBytes word → All NotSpace (escaped word)
escaped_no_space [] h = All-nil NotSpace
escaped_no_space (b ∷ bs) h = All-append NotSpace (spelled b) (escaped bs) (spelled_no_space b h.0) (escaped_no_space bs h.1)

spelled_some : (b : ℕ) → 0 < length (spelled b)
spelled_some b = by (is_plain b)
  where
    by : (t : Bool) → 0 < length (cond t (b ∷ []) (percent ∷ upper_digit (b / 16) ∷ upper_digit (b % 16) ∷ []))
    by true = omega arith
    by false = omega arith

escaped_some : (word : List ℕ) → 0 < length word → 0 < length (escaped word)
escaped_some [] h = absurd (omega arith)
escaped_some (b ∷ bs) h = omega (arith, spelled_some b, length-append (spelled b) (escaped bs))

-- ---- a written line is read as its words

parts_of_written : (word : List ℕ) (words : List (List ℕ)) → AreWords (word ∷ words) → parts_of (written (word ∷ words)) ≡ map escaped (word ∷ words)
parts_of_written word [] h = slice_split_none (λ b. b == space) (escaped word) (escaped_no_space word h.1)
parts_of_written word (next ∷ words) h =
    slice_split_at (λ b. b == space) (escaped word) space (written (next ∷ words)) (escaped_no_space word h.1) refl
    ∙ ap (λ parts. escaped word ∷ parts) (parts_of_written next words h.2)

-- a part of at least one byte
some_part : (reading : Reading) (part : List ℕ) → 0 < length part → (is_skipped reading part ≡ false) × (word_of reading part ≡ unescaped reading part)
some_part reading [] h = absurd (omega arith)
some_part Free (b ∷ bs) h = (refl, refl)
some_part Canonical (b ∷ bs) h = (refl, refl)

items_of_escaped : (reading : Reading) (at : ℕ) (words : List (List ℕ)) → AreWords words → items_of reading at (map escaped words) ≡ placed at words
items_of_escaped reading at [] h = refl
items_of_escaped reading at (word ∷ words) h =
    let some = some_part reading (escaped word) (escaped_some word h.0) in
    let next = at + length (escaped word) + 1 in
    let is : word_of reading (escaped word) ≡ Some word = some.1 ∙ read_back reading word h.1 in
    let one : Item = record { place = at; word = Some word } in
    ap (λ t. cond t (items_of reading next (map escaped words)) (record { place = at; word = word_of reading (escaped word) } ∷ items_of reading next (map escaped words))) some.0
    ∙ ap (λ w. record { place = at; word = w } ∷ items_of reading next (map escaped words)) is
    ∙ ap (λ items. one ∷ items) (items_of_escaped reading next words h.2)

whole_line : (reading : Reading) (line : List ℕ) → 0 < length line → line_items reading line ≡ items_at reading 0 line
whole_line reading [] h = absurd (omega arith)
whole_line reading (b ∷ bs) h = refl

written_some : (word : List ℕ) (words : List (List ℕ)) → AreWords (word ∷ words) → 0 < length (written (word ∷ words))
written_some word [] h = escaped_some word h.0
written_some word (next ∷ words) h = omega (arith, escaped_some word h.0, length-append (escaped word) (space ∷ written (next ∷ words)))

pub written_read : (reading : Reading) (words : List (List ℕ)) → AreWords words → line_items reading (written words) ≡ placed 0 words
written_read reading [] h = refl
written_read reading (word ∷ words) h =
    whole_line reading (written (word ∷ words)) (written_some word words h)
    ∙ ap (items_of reading 0) (parts_of_written word words h)
    ∙ items_of_escaped reading 0 (word ∷ words) h

-- ---- the canonical reading takes nothing else

word_is : (part word : List ℕ) → word_of Canonical part ≡ Some word → (0 < length word) × AreBytes word × (part ≡ escaped word)
word_is [] word h = absurd (cc)
word_is (b ∷ bs) word h =
    let told = only_escaped (b ∷ bs) word h in
    (longer word told.0, told.1, told.0)
  where
    longer : (w : List ℕ) → b ∷ bs ≡ escaped w → 0 < length w
    longer [] e = absurd (cc)
    longer (c ∷ cs) e = omega arith

canonical_parts : (at : ℕ) (parts words : List (List ℕ)) → HasWords (items_of Canonical at parts) words → (parts ≡ map escaped words) × AreWords words
canonical_parts at [] [] h = (refl, tt)
canonical_parts at [] (word ∷ words) h = absurd (cc)
canonical_parts at (part ∷ parts) [] h = absurd (cc)
canonical_parts at (part ∷ parts) (word ∷ words) h =
    let is : word_of Canonical part ≡ Some word = cc in
    let more : HasWords (items_of Canonical (at + length part + 1) parts) words = cc in
    let told = word_is part word is in
    let rest = canonical_parts (at + length part + 1) parts words more in
    (ap₂ (λ p ps. p ∷ ps) told.2 rest.0, (told.0, told.1, rest.1))

no_words : (words : List (List ℕ)) → [] ≡ map Some words → ([] ≡ written words) × AreWords words
no_words [] h = (refl, tt)
no_words (word ∷ words) h = absurd (cc)

-- a line that is read canonically as these words is the one that a writer writes of them
pub read_words : (line : List ℕ) (words : List (List ℕ)) → HasWords (line_items Canonical line) words → (line ≡ written words) × AreWords words
read_words [] words h = no_words words h
read_words (b ∷ bs) words h =
    let told = canonical_parts 0 (parts_of (b ∷ bs)) words h in
    (sym (join_with_byte-slice_split space (b ∷ bs)) ∙ ap (join_with_byte space) told.0, told.1)

-- placed words are words
pub words_placed : (at : ℕ) (words : List (List ℕ)) → HasWords (placed at words) words
words_placed at [] = refl
words_placed at (word ∷ words) = ap (λ ws. Some word ∷ ws) (words_placed (at + length (escaped word) + 1) words)

pub read_written : (line : List ℕ) (words : List (List ℕ)) → line_items Canonical line ≡ placed 0 words → (line ≡ written words) × AreWords words
read_written line words h = read_words line words (ap (map (λ i. i.word)) h ∙ words_placed 0 words)

-- ---- words behind others

onto_more : (x : ℕ) (xs ys : List (List ℕ)) → 0 < length xs → onto_first x (xs ++ ys) ≡ onto_first x xs ++ ys
onto_more x [] ys h = absurd (omega arith)
onto_more x (p ∷ xs) ys h = refl

split_some : (front : List ℕ) → 0 < length (parts_of front)
split_some front = omega (arith, length-slice_split (λ b. b == space) front)

parts_joined : (front back : List ℕ) → parts_of (front ++ space ∷ back) ≡ parts_of front ++ parts_of back
parts_joined [] back = refl
parts_joined (b ∷ bs) back = by (b == space) (parts_joined bs back)
  where
    by : (t : Bool) → parts_of (bs ++ space ∷ back) ≡ parts_of bs ++ parts_of back → cond t ([] ∷ parts_of (bs ++ space ∷ back)) (onto_first b (parts_of (bs ++ space ∷ back)))
        ≡ cond t ([] ∷ parts_of bs) (onto_first b (parts_of bs)) ++ parts_of back
    by true h = ap (λ ps. [] ∷ ps) h
    by false h = ap (onto_first b) h ∙ onto_more b (parts_of bs) (parts_of back) (split_some bs)

-- the bytes of some parts, each with a space behind it
spaced : List (List ℕ) → ℕ
spaced [] = 0
spaced (part ∷ parts) = length part + 1 + spaced parts

spaced_onto : (b : ℕ) (parts : List (List ℕ)) → 0 < length parts → spaced (onto_first b parts) ≡ 1 + spaced parts
unfolding spaced
spaced_onto b [] h = absurd (omega arith)
spaced_onto b (part ∷ parts) h = omega arith

spaced_parts : (front : List ℕ) → spaced (parts_of front) ≡ length front + 1
unfolding spaced
spaced_parts [] = refl
spaced_parts (b ∷ bs) = by (b == space) (spaced_parts bs) (spaced_onto b (parts_of bs) (split_some bs))
  where
    by : (t : Bool) → spaced (parts_of bs) ≡ length bs + 1 → spaced (onto_first b (parts_of bs)) ≡ 1 + spaced (parts_of bs)
        → spaced (cond t ([] ∷ parts_of bs) (onto_first b (parts_of bs))) ≡ length (b ∷ bs) + 1
    by true h o = omega arith
    by false h o = omega arith

items_joined : (reading : Reading) (at : ℕ) (xs ys : List (List ℕ)) → items_of reading at (xs ++ ys) ≡ items_of reading at xs ++ items_of reading (at + spaced xs) ys
unfolding spaced
items_joined reading at [] ys = let e : at ≡ at + 0 = omega arith in ap (λ i. items_of reading i ys) e
items_joined reading at (x ∷ xs) ys =
    let next = at + length x + 1 in
    let e : next + spaced xs ≡ at + (length x + 1 + spaced xs) = omega arith in
    by (is_skipped reading x) (items_joined reading next xs ys ∙ ap (λ i. items_of reading next xs ++ items_of reading i ys) e)
  where
    by : (t : Bool) → items_of reading (at + length x + 1) (xs ++ ys) ≡ items_of reading (at + length x + 1) xs ++ items_of reading (at + (length x + 1 + spaced xs)) ys
        → cond t (items_of reading (at + length x + 1) (xs ++ ys)) (record { place = at; word = word_of reading x } ∷ items_of reading (at + length x + 1) (xs ++ ys))
        ≡ cond t (items_of reading (at + length x + 1) xs) (record { place = at; word = word_of reading x } ∷ items_of reading (at + length x + 1) xs) ++ items_of reading (at + (length x + 1 + spaced xs)) ys
    by true h = h
    by false h = let item : Item = record { place = at; word = word_of reading x } in ap (λ is. item ∷ is) h

-- what stands before a space and what stands behind it are read on their own
pub items_around : (reading : Reading) (at : ℕ) (front back : List ℕ)
    → items_at reading at (front ++ space ∷ back) ≡ items_at reading at front ++ items_at reading (at + length front + 1) back
items_around reading at front back =
    let e : at + spaced (parts_of front) ≡ at + length front + 1 = omega (arith, spaced_parts front) in
    ap (items_of reading at) (parts_joined front back)
    ∙ items_joined reading at (parts_of front) (parts_of back)
    ∙ ap (λ i. items_at reading at front ++ items_of reading i (parts_of back)) e

pub written_around : (word next : List ℕ) (words more : List (List ℕ)) → written ((word ∷ words) ++ (next ∷ more)) ≡ written (word ∷ words) ++ space ∷ written (next ∷ more)
written_around word next [] more = refl
written_around word next (w ∷ words) more =
    ap (λ bs. escaped word ++ space ∷ bs) (written_around w next words more)
    ∙ sym (append_assoc (escaped word) (space ∷ written (w ∷ words)) (space ∷ written (next ∷ more)))

-- ---- numbers

plain_digits : (ds : List ℕ) → AllDigits 10 ds → escaped ds ≡ ds
plain_digits [] h = refl
plain_digits (c ∷ cs) h =
    let digit = digit_from_value c h.0 in
    let plain : is_plain c ≡ true = plain_digit c digit.0 digit.1 in
    ap (λ t. cond t (c ∷ []) (percent ∷ upper_digit (c / 16) ∷ upper_digit (c % 16) ∷ []) ++ escaped cs) plain
    ∙ ap (λ bs. c ∷ bs) (plain_digits cs h.1)
  where
    plain_digit : (d : ℕ) → 48 ≤ d → d ≤ 57 → is_plain d ≡ true
    plain_digit d low high = grind (arith, nat_tests)

pub decimal_stands : (n : ℕ) → n < 2 ^ 64 → escaped (decimal n) ≡ decimal n
decimal_stands n h = plain_digits (decimal n) (decimal_is_IsNumeral n h).0.1
