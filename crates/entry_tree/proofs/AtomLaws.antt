-- An atom's words are good or bad, and bad at one place.
use Rattle.std.proofs.Common.{◌≡◌, ℕ, ◌<◌, ◌/◌, ◌%◌, Bool, true, false, List, [], ◌∷◌, ◌++◌, length, codes, refl, sym, ap, subst, ◌∙◌, append_assoc, arith, Some, map, lit<}
use Rattle.std.specs.Prelude.{nat_lt}
use Rattle.std.specs.List.{list_all}
use Rattle.std.proofs.lemmas.Bool.{and_parts, ltb-true}
use Rattle.std.proofs.lemmas.List.{append-nil}
use Rattle.std.specs.Fmt.{decimal}
use Rattle.std.proofs.lemmas.Fmt.{decimal_digit}
use Rattle.hex.specs.Hex.{encode_lower, encode_with, lower_digits}
use Rattle.line_words.specs.Lines.{Item, HasWords, AreBytes, AreWords, line_items}
use Rattle.line_words.specs.declared.reading.Reading.TheVariants.{Canonical}
use Rattle.line_words.proofs.ReadBack.{written_read, words_placed}
use Rattle.entry_tree.specs.AtomText.{words_of, spelling_of, executable_word, IsAtom, BeginsAtom, NoneGoesOn, StopsAt, IsBadAtom}
use Rattle.entry_tree.specs.ProblemKind.{problem_number}
use Rattle.entry_tree.specs.declared.problem_kind.ProblemKind.{ProblemKind}
use Rattle.entry_tree.specs.declared.problem_kind.ProblemKind.TheVariants.{Changed, TooLarge, Failed}
use Rattle.entry_tree.proofs.Atoms.{is_bytes}
use Rattle.entry_tree.specs.declared.atom.Atom.{Atom}
use Rattle.entry_tree.specs.declared.atom.Atom.TheVariants as atoms

-- what begins an atom with more words begins one with the first of them
front_begins : (words : List (List ℕ)) (word : List ℕ) (more : List (List ℕ)) → BeginsAtom (words ++ word ∷ more) → BeginsAtom (words ++ word ∷ [])
front_begins words word more b = record {
  atom = b.atom;
  is_atom = b.is_atom;
  rest = more ++ b.rest;
  is = b.is ∙ append_assoc words (word ∷ more) b.rest ∙ sym (append_assoc words (word ∷ []) (more ++ b.rest));
}

-- a word more behind `before`
moved : (before : List (List ℕ)) (word : List ℕ) (words : List (List ℕ)) → before ++ word ∷ words ≡ (before ++ word ∷ []) ++ words
moved before word words = sym (append_assoc before (word ∷ []) words)

stops_before : (before : List (List ℕ)) (item : Item) (rest : List Item) (end place : ℕ) (word : List ℕ) (more : List (List ℕ))
    → StopsAt (before ++ []) (item ∷ rest) end place → item.word ≡ Some word → BeginsAtom (before ++ word ∷ more) → ⊥
stops_before before item rest end place word more stops e b =
    subst (NoneGoesOn (before ++ [])) e stops.1
    (subst (λ ws. BeginsAtom (ws ++ word ∷ [])) (sym (append-nil before)) (front_begins before word more b))

atom_begins : (before words : List (List ℕ)) (atom : Atom) → IsAtom atom → words_of atom ≡ before ++ words → BeginsAtom (before ++ words)
atom_begins before words atom h e = record { atom = atom; is_atom = h; rest = []; is = e ∙ sym (append-nil (before ++ words)) }

not_both_behind : (before : List (List ℕ)) (atom : Atom) → IsAtom atom → (words : List (List ℕ)) → words_of atom ≡ before ++ words
    → (items : List Item) → HasWords items words → (end place : ℕ) (front rest : List Item) (read : List (List ℕ))
    → items ≡ front ++ rest → HasWords front read → StopsAt (before ++ read) rest end place → ⊥
not_both_behind before atom h [] e items has end place [] [] [] all told stops = stops.1 atom h e
not_both_behind before atom h (w ∷ ws) e items has end place [] [] [] all told stops = let no : [] ≡ Some w ∷ map Some ws = sym (ap (map (λ i. i.word)) all) ∙ has in absurd (cc)
not_both_behind before atom h [] e items has end place [] (i ∷ rest) [] all told stops =
    let no : i.word ∷ map (λ i. i.word) rest ≡ [] = sym (ap (map (λ i. i.word)) all) ∙ has in absurd (cc)
not_both_behind before atom h (w ∷ ws) e items has end place [] (i ∷ rest) [] all told stops =
    let both : i.word ∷ map (λ i. i.word) rest ≡ Some w ∷ map Some ws = sym (ap (map (λ i. i.word)) all) ∙ has in
    let word : i.word ≡ Some w = cc in
    stops_before before i rest end place w ws stops word (atom_begins before (w ∷ ws) atom h e)
not_both_behind before atom h words e items has end place [] rest (r ∷ read) all told stops = absurd (cc)
not_both_behind before atom h words e items has end place (i ∷ front) rest [] all told stops = absurd (cc)
not_both_behind before atom h [] e items has end place (i ∷ front) rest (r ∷ read) all told stops =
    let no : i.word ∷ map (λ i. i.word) (front ++ rest) ≡ [] = sym (ap (map (λ i. i.word)) all) ∙ has in absurd (cc)
not_both_behind before atom h (w ∷ ws) e items has end place (i ∷ front) rest (r ∷ read) all told stops =
    let both : i.word ∷ map (λ i. i.word) (front ++ rest) ≡ Some w ∷ map Some ws = sym (ap (map (λ i. i.word)) all) ∙ has in
    let mine : i.word ≡ Some w = cc in
    let read_is : i.word ≡ Some r = cc in
    let same : w ≡ r = cc in
    let more : HasWords (front ++ rest) ws = cc in
    let front_read : HasWords front read = cc in
    not_both_behind (before ++ w ∷ []) atom h ws (e ∙ moved before w ws) (front ++ rest) more end place front rest read refl front_read
    (subst (λ v. StopsAt ((before ++ v ∷ []) ++ read) rest end place) (sym same) (subst (λ vs. StopsAt vs rest end place) (moved before r read) stops))

pub not_both : (items : List Item) (end place : ℕ) (atom : Atom) → IsAtom atom → HasWords items (words_of atom) → IsBadAtom items end place → ⊥
not_both items end place atom h has bad = not_both_behind [] atom h (words_of atom) refl items has end place bad.front bad.rest bad.words bad.all bad.read bad.stops

one_place_behind : (before : List (List ℕ)) (end place other : ℕ) (front rest : List Item) (read : List (List ℕ)) (front' rest' : List Item) (read' : List (List ℕ))
    → front ++ rest ≡ front' ++ rest' → HasWords front read → HasWords front' read' → BeginsAtom (before ++ read) → BeginsAtom (before ++ read')
    → StopsAt (before ++ read) rest end place → StopsAt (before ++ read') rest' end other → place ≡ other
one_place_behind before end place other [] [] [] [] [] [] e h g b d stops stops' = stops.0 ∙ sym stops'.0
one_place_behind before end place other [] (i ∷ rest) [] [] (j ∷ rest') [] e h g b d stops stops' =
    let same : i ≡ j = cc in stops.0 ∙ ap (λ k. k.place) same ∙ sym stops'.0
one_place_behind before end place other [] [] [] [] (j ∷ rest') [] e h g b d stops stops' = absurd (cc)
one_place_behind before end place other [] (i ∷ rest) [] [] [] [] e h g b d stops stops' = absurd (cc)
one_place_behind before end place other [] rest (r ∷ read) front' rest' read' e h g b d stops stops' = absurd (cc)
one_place_behind before end place other (i ∷ front) rest [] front' rest' read' e h g b d stops stops' = absurd (cc)
one_place_behind before end place other front rest read [] rest' (r ∷ read') e h g b d stops stops' = absurd (cc)
one_place_behind before end place other front rest read (j ∷ front') rest' [] e h g b d stops stops' = absurd (cc)
one_place_behind before end place other [] [] [] (j ∷ front') rest' (r ∷ read') e h g b d stops stops' = absurd (cc)
one_place_behind before end place other [] (i ∷ rest) [] (j ∷ front') rest' (r ∷ read') e h g b d stops stops' =
    let same : i ≡ j = cc in
    let word : j.word ≡ Some r = cc in
    absurd (stops_before before i rest end place r read' stops (ap (λ k. k.word) same ∙ word) d)
one_place_behind before end place other (i ∷ front) rest (r ∷ read) [] [] [] e h g b d stops stops' = absurd (cc)
one_place_behind before end place other (i ∷ front) rest (r ∷ read) [] (j ∷ rest') [] e h g b d stops stops' =
    let same : i ≡ j = cc in
    let word : i.word ≡ Some r = cc in
    absurd (stops_before before j rest' end other r read stops' (ap (λ k. k.word) (sym same) ∙ word) b)
one_place_behind before end place other (i ∷ front) rest (r ∷ read) (j ∷ front') rest' (s ∷ read') e h g b d stops stops' =
    let same : i ≡ j = cc in
    let mine : i.word ≡ Some r = cc in
    let yours : j.word ≡ Some s = cc in
    let one : s ≡ r = let o : Some s ≡ Some r = sym yours ∙ ap (λ k. k.word) (sym same) ∙ mine in cc in
    let left : front ++ rest ≡ front' ++ rest' = cc in
    let mine_read : HasWords front read = cc in
    let yours_read : HasWords front' read' = cc in
    one_place_behind (before ++ r ∷ []) end place other front rest read front' rest' read' left mine_read yours_read
    (subst BeginsAtom (moved before r read) b)
    (subst (λ v. BeginsAtom ((before ++ v ∷ []) ++ read')) one (subst BeginsAtom (moved before s read') d))
    (subst (λ ws. StopsAt ws rest end place) (moved before r read) stops)
    (subst (λ v. StopsAt ((before ++ v ∷ []) ++ read') rest' end other) one (subst (λ ws. StopsAt ws rest' end other) (moved before s read') stops'))

pub one_place : (items : List Item) (end place other : ℕ) → IsBadAtom items end place → IsBadAtom items end other → place ≡ other
one_place items end place other bad worse =
    one_place_behind [] end place other bad.front bad.rest bad.words worse.front worse.rest worse.words (sym bad.all ∙ worse.all) bad.read worse.read bad.begun worse.begun bad.stops worse.stops

-- ---- an atom's words are words

-- bytes that are written out, by a test that computes
bytes_by_test : (bs : List ℕ) → list_all (λ b. nat_lt b 256) bs ≡ true → AreBytes bs
bytes_by_test [] h = tt
bytes_by_test (b ∷ bs) h =
    let parts = and_parts (nat_lt b 256) (list_all (λ c. nat_lt c 256) bs) h in
    (ltb-true b 256 parts.0, bytes_by_test bs parts.1)

hex_is_bytes : (bytes : List ℕ) → AreBytes (encode_lower bytes)
unfolding encode_with
hex_is_bytes [] = tt
hex_is_bytes (b ∷ bytes) = (is_bytes lower_digits (bytes_by_test lower_digits refl) (b / 16), (is_bytes lower_digits (bytes_by_test lower_digits refl) (b % 16), hex_is_bytes bytes))

hex_is_some : (bytes : List ℕ) → length bytes ≡ 32 → 0 < length (encode_lower bytes)
unfolding encode_with
hex_is_some [] h = absurd (cc)
hex_is_some (b ∷ bytes) h = omega arith

bit_is_word : (executable : Bool) → AreWords (executable_word executable)
bit_is_word true = (lit< tt, (lit< tt, tt), tt)
bit_is_word false = tt

one_digit : (word : List ℕ) (d : ℕ) → d < 256 → word ≡ d ∷ [] → (0 < length word) × AreBytes word
one_digit word d h e = (subst (λ w. 0 < length w) (sym e) (lit< tt), subst AreBytes (sym e) (h, tt))

number_is_word : (kind : ProblemKind) → (0 < length (decimal (problem_number kind))) × AreBytes (decimal (problem_number kind))
number_is_word Changed = one_digit (decimal 1) 49 (lit< tt) (decimal_digit 1 (lit< tt))
number_is_word TooLarge = one_digit (decimal 2) 50 (lit< tt) (decimal_digit 2 (lit< tt))
number_is_word Failed = one_digit (decimal 3) 51 (lit< tt) (decimal_digit 3 (lit< tt))

are_words : (atom : Atom) → IsAtom atom → AreWords (words_of atom)
are_words atoms.Dir h = (lit< tt, bytes_by_test (codes "dir") refl, tt)
are_words (atoms.File digest executable) h =
    (lit< tt, bytes_by_test (codes "file") refl, (hex_is_some digest h.0, hex_is_bytes digest, bit_is_word executable))
are_words (atoms.Link text) h = (lit< tt, bytes_by_test (codes "link") refl, (omega arith, (lit< tt, h.1), tt))
are_words atoms.Untracked h = (lit< tt, bytes_by_test (codes "untracked") refl, tt)
are_words (atoms.Problem kind) h = (lit< tt, bytes_by_test (codes "problem") refl, ((number_is_word kind).0, (number_is_word kind).1, tt))

pub written_atom : (atom : Atom) → IsAtom atom → HasWords (line_items Canonical (spelling_of atom)) (words_of atom)
written_atom atom h = ap (map (λ i. i.word)) (written_read Canonical (words_of atom) (are_words atom h)) ∙ words_placed 0 (words_of atom)
