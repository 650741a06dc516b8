-- Which words begin an atom, and how a reader goes on behind some words.
use Rattle.std.proofs.Common.{◌≡◌, ℕ, ◌<◌, Bool, true, false, cond, List, [], ◌∷◌, ◌++◌, get_or, codes, bytes_eq, refl, sym, ap, subst, ◌∙◌, append_assoc, Option, Some, None, Result, Ok, Err, map, replicate, lit<, length, rules, arith, inl, inr, zero, suc}
use Rattle.std.specs.Prelude.{◌&&◌, ◌⊎◌, ◌≤◌, ◌*◌}
use Rattle.std.proofs.Math.Dec.{lit≤}
use Rattle.std.specs.Fmt.{decimal}
use Rattle.std.proofs.lemmas.Fmt.{decimal_digit}
use Rattle.std.proofs.lemmas.List.{append-nil}
use Rattle.std.specs.Str.{IsAscii}
use Rattle.std.proofs.lemmas.Str.{is_utf8-from_IsUtf8, IsUtf8-from_ascii}
use Rattle.hex.specs.Hex.{IsBytes, encode_lower}
use Rattle.hex.proofs.HexLemmas.{length-encode_with}
use Rattle.line_words.specs.Lines.{Item, AreBytes}
use Rattle.line_words.specs.Steps.{IsTooLong, ReadsInto, Skips}
use Rattle.line_words.specs.declared.error.BadWord.{BadWord}
use Rattle.entry_tree.specs.Digest.{is_digest_text}
use Rattle.entry_tree.specs.ProblemKind.{problem_number, is_problem_text}
use Rattle.entry_tree.specs.Text.{has_text_len, IsText}
use Rattle.entry_tree.specs.declared.problem_kind.ProblemKind.{ProblemKind}
use Rattle.entry_tree.specs.declared.problem_kind.ProblemKind.TheVariants.{Changed, TooLarge, Failed}
use Rattle.entry_tree.specs.AtomText.{words_of, executable_word, IsAtom, is_link_text, BeginsAtom, NoneGoesOn, StopsAt, GoesWrong}
use Rattle.entry_tree.specs.AtomReading.{kind_of_word, word_of_kind, Answers}
use Rattle.entry_tree.specs.declared.atom.Atom.{Atom}
use Rattle.entry_tree.specs.declared.atom.Atom.TheVariants as atoms
use Rattle.entry_tree.specs.declared.atom_error.AtomError.{AtomError}
use Rattle.entry_tree.specs.declared.atom_error.AtomError.TheVariants.{Bad, Memory}
use Rattle.entry_tree.specs.declared.atom_kind.AtomKind.{AtomKind}
use Rattle.entry_tree.specs.declared.atom_kind.AtomKind.TheVariants.{Dir, File, Link, Untracked, Problem}
use Rattle.entry_tree.proofs.Digests.{digest_is_read}
use Rattle.entry_tree.proofs.Paths.{name_is}

-- ---- bytes

pub are_bytes : (bs : List ℕ) → IsBytes bs → AreBytes bs
are_bytes [] h = tt
are_bytes (b ∷ bs) h = (h 0, are_bytes bs (λ i. h (suc i)))

pub is_bytes : (bs : List ℕ) → AreBytes bs → IsBytes bs
is_bytes [] h = λ i. lit< tt
is_bytes (b ∷ bs) h = by (is_bytes bs h.1)
  where
    by : IsBytes bs → (i : ℕ) → get_or (b ∷ bs) i 0 < 256
    by more zero = h.0
    by more (suc i) = more i

-- ---- the kind of an atom, and the words behind that of its kind

kind_of : Atom → AtomKind
kind_of atoms.Dir = Dir
kind_of (atoms.File digest executable) = File
kind_of (atoms.Link text) = Link
kind_of atoms.Untracked = Untracked
kind_of (atoms.Problem kind) = Problem

behind : Atom → List (List ℕ)
behind atoms.Dir = []
behind (atoms.File digest executable) = encode_lower digest ∷ executable_word executable
behind (atoms.Link text) = (61 ∷ text) ∷ []
behind atoms.Untracked = []
behind (atoms.Problem kind) = decimal (problem_number kind) ∷ []

words_are : (atom : Atom) → words_of atom ≡ word_of_kind (kind_of atom) ∷ behind atom
unfolding kind_of behind
words_are atoms.Dir = refl
words_are (atoms.File digest executable) = refl
words_are (atoms.Link text) = refl
words_are atoms.Untracked = refl
words_are (atoms.Problem kind) = refl

kind_is_read : (kind : AtomKind) → kind_of_word (word_of_kind kind) ≡ Some kind
kind_is_read Dir = refl
kind_is_read File = refl
kind_is_read Link = refl
kind_is_read Untracked = refl
kind_is_read Problem = refl

first_is : (word : List ℕ) (more : List (List ℕ)) (b : BeginsAtom (word ∷ more)) → (kind_of_word word ≡ Some (kind_of b.atom)) × (behind b.atom ≡ more ++ b.rest)
first_is word more b =
    let same : word_of_kind (kind_of b.atom) ∷ behind b.atom ≡ word ∷ (more ++ b.rest) = sym (words_are b.atom) ∙ b.is in
    let head : word_of_kind (kind_of b.atom) ≡ word = cc in
    (ap kind_of_word (sym head) ∙ kind_is_read (kind_of b.atom), cc)

-- no atom begins with a word of no kind
pub no_kind : (word : List ℕ) → kind_of_word word ≡ None → BeginsAtom (word ∷ []) → ⊥
no_kind word none b = let told = (first_is word [] b).0 in let e : None ≡ Some (kind_of b.atom) = sym none ∙ told in absurd (cc)

eq_is : (a b : List ℕ) → bytes_eq a b ≡ true → b ≡ a
eq_is a b h = sym (name_is a b h)

-- a word of a kind is the word that begins it
pub word_is : (kind : AtomKind) (word : List ℕ) → kind_of_word word ≡ Some kind → word_of_kind kind ≡ word
word_is kind word h =
    by (bytes_eq word (codes "dir")) (bytes_eq word (codes "file")) (bytes_eq word (codes "link")) (bytes_eq word (codes "untracked")) (bytes_eq word (codes "problem")) refl refl refl refl refl h
  where
    by : (d f l u p : Bool) → bytes_eq word (codes "dir") ≡ d → bytes_eq word (codes "file") ≡ f → bytes_eq word (codes "link") ≡ l → bytes_eq word (codes "untracked") ≡ u
        → bytes_eq word (codes "problem") ≡ p → cond d (Some Dir) (cond f (Some File) (cond l (Some Link) (cond u (Some Untracked) (cond p (Some Problem) None)))) ≡ Some kind → word_of_kind kind ≡ word
    by true f l u p a b c d e h = subst (λ k. word_of_kind k ≡ word) (let k : Dir ≡ kind = cc in k) (eq_is word (codes "dir") a)
    by false true l u p a b c d e h = subst (λ k. word_of_kind k ≡ word) (let k : File ≡ kind = cc in k) (eq_is word (codes "file") b)
    by false false true u p a b c d e h = subst (λ k. word_of_kind k ≡ word) (let k : Link ≡ kind = cc in k) (eq_is word (codes "link") c)
    by false false false true p a b c d e h = subst (λ k. word_of_kind k ≡ word) (let k : Untracked ≡ kind = cc in k) (eq_is word (codes "untracked") d)
    by false false false false true a b c d e h = subst (λ k. word_of_kind k ≡ word) (let k : Problem ≡ kind = cc in k) (eq_is word (codes "problem") e)
    by false false false false false a b c d e h = absurd (cc)

-- what stands behind the word of a kind
after : (kind : AtomKind) (words : List (List ℕ)) (b : BeginsAtom (word_of_kind kind ∷ words)) → (kind_of b.atom ≡ kind) × (behind b.atom ≡ words ++ b.rest)
after kind words b =
    let told = first_is (word_of_kind kind) words b in
    let e : Some kind ≡ Some (kind_of b.atom) = sym (kind_is_read kind) ∙ told.0 in
    (cc, told.1)

number_is_read : (kind : ProblemKind) → is_problem_text (decimal (problem_number kind)) ≡ true
number_is_read Changed = ap is_problem_text (decimal_digit 1 (lit< tt)) ∙ refl
number_is_read TooLarge = ap is_problem_text (decimal_digit 2 (lit< tt)) ∙ refl
number_is_read Failed = ap is_problem_text (decimal_digit 3 (lit< tt)) ∙ refl

-- which word stands behind that of a kind
good_behind : AtomKind → List ℕ → Bool
good_behind Dir word = false
good_behind File word = is_digest_text word
good_behind Link word = is_link_text word
good_behind Untracked word = false
good_behind Problem word = is_problem_text word

text_is_link : (text : List ℕ) → IsAtom (atoms.Link text) → is_link_text (61 ∷ text) ≡ true
text_is_link text h = h.0

good_at : (atom : Atom) → IsAtom atom → (kind : AtomKind) → kind_of atom ≡ kind → (word : List ℕ) (rest : List (List ℕ)) → behind atom ≡ word ∷ rest → good_behind kind word ≡ true
unfolding kind_of behind good_behind
good_at atoms.Dir h kind k word rest e = absurd (cc)
good_at (atoms.File digest executable) h kind k word rest e =
    let same : encode_lower digest ≡ word = cc in
    subst (λ k'. good_behind k' word ≡ true) k (ap is_digest_text (sym same) ∙ digest_is_read digest h.0 (is_bytes digest h.1))
good_at (atoms.Link text) h kind k word rest e =
    let same : 61 ∷ text ≡ word = cc in
    subst (λ k'. good_behind k' word ≡ true) k (ap is_link_text (sym same) ∙ text_is_link text h)
good_at atoms.Untracked h kind k word rest e = absurd (cc)
good_at (atoms.Problem p) h kind k word rest e =
    let same : decimal (problem_number p) ≡ word = cc in
    subst (λ k'. good_behind k' word ≡ true) k (ap is_problem_text (sym same) ∙ number_is_read p)

pub bad_digest : (word : List ℕ) → is_digest_text word ≡ false → BeginsAtom (codes "file" ∷ word ∷ []) → ⊥
unfolding good_behind
bad_digest word none b =
    let told = after File (word ∷ []) b in
    let good = good_at b.atom b.is_atom File told.0 word b.rest told.1 in
    let e : false ≡ true = sym none ∙ good in absurd (cc)

pub bad_text : (word : List ℕ) → is_link_text word ≡ false → BeginsAtom (codes "link" ∷ word ∷ []) → ⊥
unfolding good_behind
bad_text word none b =
    let told = after Link (word ∷ []) b in
    let good = good_at b.atom b.is_atom Link told.0 word b.rest told.1 in
    let e : false ≡ true = sym none ∙ good in absurd (cc)

pub bad_number : (word : List ℕ) → is_problem_text word ≡ false → BeginsAtom (codes "problem" ∷ word ∷ []) → ⊥
unfolding good_behind
bad_number word none b =
    let told = after Problem (word ∷ []) b in
    let good = good_at b.atom b.is_atom Problem told.0 word b.rest told.1 in
    let e : false ≡ true = sym none ∙ good in absurd (cc)

bit_word : (executable : Bool) (word : List ℕ) (rest : List (List ℕ)) → executable_word executable ≡ word ∷ rest → (word ≡ codes "x") × (rest ≡ [])
bit_word true word rest e = (cc, cc)
bit_word false word rest e = absurd (cc)

second_at : (atom : Atom) (kind : AtomKind) → kind_of atom ≡ kind → (first word : List ℕ) (rest : List (List ℕ)) → behind atom ≡ first ∷ word ∷ rest → (kind ≡ File) × (word ≡ codes "x") × (rest ≡ [])
unfolding kind_of behind
second_at atoms.Dir kind k first word rest e = absurd (cc)
second_at (atoms.File digest executable) kind k first word rest e =
    let bit : executable_word executable ≡ word ∷ rest = cc in
    let told = bit_word executable word rest bit in
    (sym k, told.0, told.1)
second_at (atoms.Link text) kind k first word rest e = absurd (cc)
second_at atoms.Untracked kind k first word rest e = absurd (cc)
second_at (atoms.Problem p) kind k first word rest e = absurd (cc)

pub bad_bit : (digits word : List ℕ) → bytes_eq word (codes "x") ≡ false → BeginsAtom (codes "file" ∷ digits ∷ word ∷ []) → ⊥
bad_bit digits word none b =
    let told = after File (digits ∷ word ∷ []) b in
    let second = second_at b.atom File told.0 digits word b.rest told.1 in
    let e : false ≡ true = sym none ∙ ap (λ w. bytes_eq w (codes "x")) second.1 in absurd (cc)

nothing_behind : (atom : Atom) (kind : AtomKind) → kind_of atom ≡ kind → (word : List ℕ) (rest : List (List ℕ)) → behind atom ≡ word ∷ rest → good_behind kind word ≡ false → IsAtom atom → ⊥
nothing_behind atom kind k word rest e none h = let o : false ≡ true = sym none ∙ good_at atom h kind k word rest e in absurd (cc)

-- ---- how long the words of an atom are

kind_len : (kind : AtomKind) → length (word_of_kind kind) ≤ 9
kind_len Dir = lit≤ tt
kind_len File = lit≤ tt
kind_len Link = lit≤ tt
kind_len Untracked = lit≤ tt
kind_len Problem = lit≤ tt

pub short_kind : (word : List ℕ) → BeginsAtom (word ∷ []) → length word ≤ 9
short_kind word b = subst (λ w. length w ≤ 9) (word_is (kind_of b.atom) word (first_is word [] b).0) (kind_len (kind_of b.atom))

-- the greatest length of the word behind that of a kind
behind_len : AtomKind → ℕ
behind_len Dir = 0
behind_len File = 64
behind_len Link = 4097
behind_len Untracked = 0
behind_len Problem = 1

number_len : (kind : ProblemKind) → length (decimal (problem_number kind)) ≤ 1
number_len Changed = subst (λ w. length w ≤ 1) (sym (decimal_digit 1 (lit< tt))) (lit≤ tt)
number_len TooLarge = subst (λ w. length w ≤ 1) (sym (decimal_digit 2 (lit< tt))) (lit≤ tt)
number_len Failed = subst (λ w. length w ≤ 1) (sym (decimal_digit 3 (lit< tt))) (lit≤ tt)

text_len : (text : List ℕ) → IsText text → length text ≤ 4096
text_len text h = let parts : (1 ≤ length text) × (length text ≤ 4096) = search rules in parts.1

len_behind : (atom : Atom) → IsAtom atom → (kind : AtomKind) → kind_of atom ≡ kind → (word : List ℕ) (rest : List (List ℕ)) → behind atom ≡ word ∷ rest → length word ≤ behind_len kind
unfolding kind_of behind behind_len
len_behind atoms.Dir h kind k word rest e = absurd (cc)
len_behind (atoms.File digest executable) h kind k word rest e =
    let same : encode_lower digest ≡ word = cc in
    let len : length (encode_lower digest) ≡ 2 * length digest = length-encode_with _ digest in
    let is = h.0 in
    subst (λ k'. length word ≤ behind_len k') k (subst (λ w. length w ≤ 64) same (omega arith))
len_behind (atoms.Link text) h kind k word rest e =
    let same : 61 ∷ text ≡ word = cc in
    let len = text_len text h.0 in
    subst (λ k'. length word ≤ behind_len k') k (subst (λ w. length w ≤ 4097) same (omega arith))
len_behind atoms.Untracked h kind k word rest e = absurd (cc)
len_behind (atoms.Problem p) h kind k word rest e =
    let same : decimal (problem_number p) ≡ word = cc in
    subst (λ k'. length word ≤ behind_len k') k (subst (λ w. length w ≤ 1) same (number_len p))

short_behind : (kind : AtomKind) (word : List ℕ) → BeginsAtom (word_of_kind kind ∷ word ∷ []) → length word ≤ behind_len kind
short_behind kind word b = let told = after kind (word ∷ []) b in len_behind b.atom b.is_atom kind told.0 word b.rest told.1

pub short_digest : (word : List ℕ) → BeginsAtom (codes "file" ∷ word ∷ []) → length word ≤ 64
unfolding behind_len
short_digest word b = short_behind File word b

pub short_link : (word : List ℕ) → BeginsAtom (codes "link" ∷ word ∷ []) → length word ≤ 4097
unfolding behind_len
short_link word b = short_behind Link word b

pub short_number : (word : List ℕ) → BeginsAtom (codes "problem" ∷ word ∷ []) → length word ≤ 1
unfolding behind_len
short_number word b = short_behind Problem word b

pub short_bit : (digits word : List ℕ) → BeginsAtom (codes "file" ∷ digits ∷ word ∷ []) → length word ≤ 1
short_bit digits word b =
    let told = after File (digits ∷ word ∷ []) b in
    let second = second_at b.atom File told.0 digits word b.rest told.1 in
    subst (λ w. length w ≤ 1) (sym second.1) (lit≤ tt)

-- with a word more no atom goes on
pub whole_dir : (word : List ℕ) → BeginsAtom (words_of atoms.Dir ++ word ∷ []) → ⊥
unfolding good_behind
whole_dir word b = let told = after Dir (word ∷ []) b in nothing_behind b.atom Dir told.0 word b.rest told.1 refl b.is_atom

pub whole_untracked : (word : List ℕ) → BeginsAtom (words_of atoms.Untracked ++ word ∷ []) → ⊥
unfolding good_behind
whole_untracked word b = let told = after Untracked (word ∷ []) b in nothing_behind b.atom Untracked told.0 word b.rest told.1 refl b.is_atom

pub whole_link : (text word : List ℕ) → BeginsAtom (words_of (atoms.Link text) ++ word ∷ []) → ⊥
whole_link text word b =
    let told = after Link ((61 ∷ text) ∷ word ∷ []) b in
    let second = second_at b.atom Link told.0 (61 ∷ text) word b.rest told.1 in
    let e : Link ≡ File = second.0 in absurd (cc)

pub whole_problem : (kind : ProblemKind) (word : List ℕ) → BeginsAtom (words_of (atoms.Problem kind) ++ word ∷ []) → ⊥
whole_problem kind word b =
    let told = after Problem (decimal (problem_number kind) ∷ word ∷ []) b in
    let second = second_at b.atom Problem told.0 (decimal (problem_number kind)) word b.rest told.1 in
    let e : Problem ≡ File = second.0 in absurd (cc)

pub whole_executable : (digest word : List ℕ) → BeginsAtom (words_of (atoms.File digest true) ++ word ∷ []) → ⊥
whole_executable digest word b =
    let told = after File (encode_lower digest ∷ codes "x" ∷ word ∷ []) b in
    let second = second_at b.atom File told.0 (encode_lower digest) (codes "x") (word ∷ b.rest) told.1 in
    let e : word ∷ b.rest ≡ [] = second.2 in absurd (cc)

-- ---- words that end early

no_word_kind : (atom : Atom) (kind : AtomKind) → kind_of atom ≡ kind → behind atom ≡ [] → (kind ≡ Dir) ⊎ (kind ≡ Untracked)
unfolding kind_of behind
no_word_kind atoms.Dir kind k e = inl (sym k)
no_word_kind (atoms.File digest executable) kind k e = absurd (cc)
no_word_kind (atoms.Link text) kind k e = absurd (cc)
no_word_kind atoms.Untracked kind k e = inr (sym k)
no_word_kind (atoms.Problem p) kind k e = absurd (cc)

-- these words are no atom
abbrev pub NoAtom : List (List ℕ) → Type 0
NoAtom words = (atom : Atom) → IsAtom atom → words_of atom ≡ words → ⊥

pub nothing_is_none : NoAtom []
nothing_is_none atom h e = let o : word_of_kind (kind_of atom) ∷ behind atom ≡ [] = sym (words_are atom) ∙ e in absurd (cc)

alone : (kind : AtomKind) → (kind ≡ Dir → ⊥) → (kind ≡ Untracked → ⊥) → NoAtom (word_of_kind kind ∷ [])
alone kind not_dir not_untracked atom h e =
    let b : BeginsAtom (word_of_kind kind ∷ []) = record { atom = atom; is_atom = h; rest = []; is = e } in
    let told = after kind [] b in
    by (no_word_kind atom kind told.0 told.1)
  where
    by : (kind ≡ Dir) ⊎ (kind ≡ Untracked) → ⊥
    by (inl d) = not_dir d
    by (inr u) = not_untracked u

pub file_is_none : NoAtom (codes "file" ∷ [])
file_is_none = alone File (λ e. cc) (λ e. cc)

pub link_is_none : NoAtom (codes "link" ∷ [])
link_is_none = alone Link (λ e. cc) (λ e. cc)

pub problem_is_none : NoAtom (codes "problem" ∷ [])
problem_is_none = alone Problem (λ e. cc) (λ e. cc)

-- ---- words with which an atom begins

begins_with : (words : List (List ℕ)) (atom : Atom) → IsAtom atom → (rest : List (List ℕ)) → words_of atom ≡ words ++ rest → BeginsAtom words
begins_with words atom h rest e = record { atom = atom; is_atom = h; rest = rest; is = e }

pub nothing_begins : BeginsAtom []
nothing_begins = begins_with [] atoms.Dir tt (words_of atoms.Dir) refl

-- an atom begins with its own words, and with the front of them
pub words_begin : (atom : Atom) → IsAtom atom → BeginsAtom (words_of atom)
words_begin atom h = begins_with (words_of atom) atom h [] (sym (append-nil (words_of atom)))

zeros_are_bytes : (n : ℕ) → AreBytes (replicate n 0)
zeros_are_bytes zero = tt
zeros_are_bytes (suc n) = (lit< tt, zeros_are_bytes n)

zeros : List ℕ
zeros = replicate 32 0

zeros_are : IsAtom (atoms.File zeros false)
unfolding zeros
zeros_are = (refl, zeros_are_bytes 32)

pub file_begins : BeginsAtom (codes "file" ∷ [])
file_begins = begins_with (codes "file" ∷ []) (atoms.File zeros false) zeros_are (encode_lower zeros ∷ []) refl

pub digest_begins : (digest : List ℕ) → IsAtom (atoms.File digest true) → BeginsAtom (codes "file" ∷ encode_lower digest ∷ [])
digest_begins digest h = begins_with (codes "file" ∷ encode_lower digest ∷ []) (atoms.File digest false) h [] refl

letter_is_ascii : IsAscii (97 ∷ [])
letter_is_ascii zero = lit< tt
letter_is_ascii (suc i) = lit< tt

letter_is_text : IsAtom (atoms.Link (97 ∷ []))
letter_is_text = (ap (λ b. b && has_text_len (97 ∷ [])) (is_utf8-from_IsUtf8 (97 ∷ []) (IsUtf8-from_ascii (97 ∷ []) letter_is_ascii)), (lit< tt, tt))

pub link_begins : BeginsAtom (codes "link" ∷ [])
link_begins = begins_with (codes "link" ∷ []) (atoms.Link (97 ∷ [])) letter_is_text ((61 ∷ 97 ∷ []) ∷ []) refl

pub untracked_begins : BeginsAtom (codes "untracked" ∷ [])
untracked_begins = words_begin atoms.Untracked tt

pub problem_begins : BeginsAtom (codes "problem" ∷ [])
problem_begins = begins_with (codes "problem" ∷ []) (atoms.Problem Changed) tt (decimal 1 ∷ []) refl

-- ---- how a reader goes on

module _ (before : List (List ℕ)) (items : List Item) (end : ℕ) where
  pub ended : items ≡ [] → BeginsAtom before → NoAtom before → GoesWrong before items end end
  ended e b none = record {
    front = [];
    rest = [];
    words = [];
    all = e;
    read = refl;
    begun = subst BeginsAtom (sym (append-nil before)) b;
    stops = (refl, λ atom h o. none atom h (o ∙ append-nil before));
  }

  pub stopped : (place : ℕ) (word : Option (List ℕ)) (left : List Item) → items ≡ record { place = place; word = word } ∷ left
      → BeginsAtom before → NoneGoesOn before word → GoesWrong before items end place
  stopped place word left e b none = record {
    front = [];
    rest = record { place = place; word = word } ∷ left;
    words = [];
    all = e;
    read = refl;
    begun = subst BeginsAtom (sym (append-nil before)) b;
    stops = (refl, subst (λ ws. NoneGoesOn ws word) (sym (append-nil before)) none);
  }

  -- what `read_into` refuses of a buffer of `most` bytes, which no word that an atom goes on with exceeds
  pub refused : (most : ℕ) (bad : BadWord) (room : List ℕ) (left : List Item) → length room ≡ most → ReadsInto items room (Err bad) left
      → BeginsAtom before → ((word : List ℕ) → BeginsAtom (before ++ word ∷ []) → length word ≤ most) → GoesWrong before items end bad.place
  refused most bad room left len h b bound = stopped bad.place h.0 left h.2 b (by h.0 h.1)
    where
      by : (word : Option (List ℕ)) → IsTooLong (length room) word → NoneGoesOn before word
      by None long = tt
      by (Some word) long = λ begins. let most_is = len in let at_most = bound word begins in absurd (omega arith)

  -- what `skip` passes over, where no atom goes on
  pub passed : (place : ℕ) (left : List Item) → Skips items (Some place) left → BeginsAtom before → ((word : List ℕ) → BeginsAtom (before ++ word ∷ []) → ⊥)
      → GoesWrong before items end place
  passed place left h b whole = stopped place h.0 left h.1 b (by h.0)
    where
      by : (word : Option (List ℕ)) → NoneGoesOn before word
      by None = tt
      by (Some word) = whole word

  pub onward : (place : ℕ) (word : List ℕ) (left : List Item) (result : Result Atom AtomError) → items ≡ record { place = place; word = Some word } ∷ left
      → Answers (before ++ word ∷ []) left end result → Answers before items end result
  onward place word left (Ok atom) e h =
      (word ∷ h.0, h.1, ap (map (λ i. i.word)) e ∙ ap (λ ws. Some word ∷ ws) h.2, h.3 ∙ append_assoc before (word ∷ []) h.0)
  onward place word left (Err (Bad bad)) e h = record {
    front = record { place = place; word = Some word } ∷ h.front;
    rest = h.rest;
    words = word ∷ h.words;
    all = e ∙ ap (λ is. record { place = place; word = Some word } ∷ is) h.all;
    read = ap (λ ws. Some word ∷ ws) h.read;
    begun = subst BeginsAtom (append_assoc before (word ∷ []) h.words) h.begun;
    stops = subst (λ ws. StopsAt ws h.rest end bad.place) (append_assoc before (word ∷ []) h.words) h.stops;
  }
  onward place word left (Err Memory) e h =
      (h.0, word ∷ h.1, h.2, ap (map (λ i. i.word)) e ∙ ap (λ ws. Some word ∷ ws) h.3, h.4 ∙ append_assoc before (word ∷ []) h.1)
