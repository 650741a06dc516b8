-- The words of a line: they are words, and tell the line.
use Rattle.std.proofs.Common.{◌≡◌, ℕ, ◌+◌, ◌/◌, ◌<◌, ◌^◌, Bool, true, false, cond, List, [], ◌∷◌, ◌++◌, length, map, codes, bytes_eq, refl, sym, ap, ap₂, subst, ◌∙◌, arith, Option, Some, None, Result, Ok, Err, lit<, inl, inr, ◌≤◌}
use Rattle.std.specs.Prelude.{◌⊎◌, nat_lt}
use Rattle.std.specs.Fmt.{decimal}
use Rattle.std.specs.List.{list_all}
use Rattle.std.specs.Str.{IsUtf8, is_utf8}
use Rattle.std.proofs.lemmas.Str.{IsUtf8-from_ascii}
use lib.Utf8.{scalar, scalars, scalar_cases, encode, encodes, next}
use Rattle.std.proofs.lemmas.Bool.{and_parts, ltb-true}
use Rattle.std.proofs.lemmas.Bool.Decides.{nat_tests}
use Rattle.std.proofs.lemmas.Fmt.{decimal_digit, decimal_nonempty, IsAscii-decimal}
use Rattle.hex.specs.Hex.{decode_sized}
use Rattle.hex.specs.declared.error.FromHexError.{FromHexError}
use Rattle.hex.proofs.HexLemmas.{decode_sized-encode_lower}
use Rattle.finite_maps.proofs.Constructors.{some_same}
use Rattle.line_words.specs.Lines.{AreBytes, AreWords}
use Rattle.line_words.proofs.ReadBack.{read_words}
use Rattle.sync_path.specs.Name.{is_name, has_name_form}
use Rattle.sync_path.specs.Path.{IsPath}
use Rattle.sync_path.proofs.Texts.{same_from_texts}
use Rattle.sync_path.proofs.TextParts.{path_text-cons}
use Rattle.entry_tree.specs.AtomText.{words_of, spelling_of, IsAtom, executable_word}
use Rattle.entry_tree.specs.PathWord.{path_word}
use Rattle.entry_tree.specs.ProblemKind.{problem_number}
use Rattle.entry_tree.specs.declared.atom.Atom.{Atom}
use Rattle.entry_tree.specs.declared.atom.Atom.TheVariants as atoms
use Rattle.entry_tree.specs.declared.problem_kind.ProblemKind.{ProblemKind}
use Rattle.entry_tree.specs.declared.problem_kind.ProblemKind.TheVariants.{Changed, TooLarge, Failed}
use Rattle.entry_tree.proofs.Atoms.{is_bytes}
use Rattle.entry_tree.proofs.AtomLaws.{written_atom}
use Rattle.entry_tree.proofs.PathWords.{path_word_is_utf8}
use Rattle.mode_rules.specs.declared.ancestor_line.AncestorLine.{AncestorLine}
use Rattle.mode_rules.specs.declared.ancestor_line.AncestorLine.TheVariants.{Set, Drop}
use Rattle.frame_text.specs.Heads.{IsHead, words_of_head, version_word, verb_word, version_of, verb_of, numbers_of}
use Rattle.frame_text.specs.LineText.{words_of_line, IsLine}
use Rattle.frame_text.specs.Reading.{AreNumbers}
use Rattle.frame_text.specs.declared.head.Head.{Head}
use Rattle.frame_text.specs.declared.head.Verb.{Verb}
use Rattle.frame_text.specs.declared.head.Verb.TheVariants as verbs
use Rattle.frame_text.specs.declared.version.Version.TheVariants.{V1, V2}
use Rattle.frame_text.proofs.HeadWords.{are_numbers}
use Rattle.frame_text.specs.declared.version.Version.{Version}

-- ---- the words of two paths

dot_is_no_name : (name : List ℕ) (rest : List ℕ) → is_name name ≡ true → name ++ rest ≡ codes "." → ⊥
dot_is_no_name [] rest h e =
    let form : has_name_form [] ≡ true = (and_parts (is_utf8 []) (has_name_form []) h).1 in absurd (cc)
dot_is_no_name (b ∷ []) rest h e =
    let first : b ≡ 46 = cc in
    let form : has_name_form (b ∷ []) ≡ true = (and_parts (is_utf8 (b ∷ [])) (has_name_form (b ∷ [])) h).1 in
    let no : false ≡ true = subst (λ c. has_name_form (c ∷ []) ≡ true) first form in absurd (cc)
dot_is_no_name (b ∷ c ∷ name) rest h e = absurd (cc)

root_has_own_word : (name : List ℕ) (names : List (List ℕ)) → IsPath (name ∷ names) → path_word (name ∷ names) ≡ codes "." → ⊥
root_has_own_word name names h e =
    dot_is_no_name name _ (and_parts (is_name name) (list_all is_name names) h.each_name).0 (sym (path_text-cons name names) ∙ e)

pub paths_same : (path other : List (List ℕ)) → IsPath path → IsPath other → path_word path ≡ path_word other → path ≡ other
paths_same [] [] h k e = refl
paths_same [] (name ∷ names) h k e = absurd (root_has_own_word name names k (sym e))
paths_same (name ∷ names) [] h k e = absurd (root_has_own_word name names h e)
paths_same (name ∷ names) (other ∷ others) h k e = same_from_texts (name ∷ names) (other ∷ others) h k e

-- ---- the words of two atoms, by what the words say

file_by : Result (List ℕ) FromHexError → List (List ℕ) → Option Atom
file_by (Ok digest) [] = Some (atoms.File digest false)
file_by (Ok digest) (x ∷ rest) = Some (atoms.File digest true)
file_by (Err error) rest = None

problem_by : List ℕ → Option Atom
problem_by word = cond (bytes_eq word (codes "1")) (Some (atoms.Problem Changed)) (cond (bytes_eq word (codes "2")) (Some (atoms.Problem TooLarge)) (Some (atoms.Problem Failed)))

link_by : List (List ℕ) → Option Atom
link_by ((b ∷ text) ∷ rest) = Some (atoms.Link text)
link_by words = None

behind_file : List (List ℕ) → Option Atom
behind_file [] = None
behind_file (digits ∷ rest) = file_by (decode_sized digits 32) rest

behind_problem : List (List ℕ) → Option Atom
behind_problem [] = None
behind_problem (digit ∷ rest) = problem_by digit

atom_by : List (List ℕ) → Option Atom
atom_by [] = None
atom_by (word ∷ words) =
    cond (bytes_eq word (codes "dir")) (Some atoms.Dir)
    (cond (bytes_eq word (codes "file")) (behind_file words)
    (cond (bytes_eq word (codes "link")) (link_by words)
    (cond (bytes_eq word (codes "untracked")) (Some atoms.Untracked) (behind_problem words))))

file_back : (digest : List ℕ) (executable : Bool) → file_by (Ok digest) (executable_word executable) ≡ Some (atoms.File digest executable)
unfolding file_by
file_back digest true = refl
file_back digest false = refl

problem_back : (kind : ProblemKind) → problem_by (decimal (problem_number kind)) ≡ Some (atoms.Problem kind)
unfolding problem_by
problem_back Changed = ap problem_by (decimal_digit 1 (lit< tt)) ∙ refl
problem_back TooLarge = ap problem_by (decimal_digit 2 (lit< tt)) ∙ refl
problem_back Failed = ap problem_by (decimal_digit 3 (lit< tt)) ∙ refl

atom_back : (atom : Atom) → IsAtom atom → atom_by (words_of atom) ≡ Some atom
unfolding atom_by behind_file link_by behind_problem
atom_back atoms.Dir h = refl
atom_back (atoms.File digest executable) h =
    ap (λ r. file_by r (executable_word executable)) (decode_sized-encode_lower digest 32 h.0 (is_bytes digest h.1)) ∙ file_back digest executable
atom_back (atoms.Link text) h = refl
atom_back atoms.Untracked h = refl
atom_back (atoms.Problem kind) h = problem_back kind

pub atoms_same : (atom other : Atom) → IsAtom atom → IsAtom other → words_of atom ≡ words_of other → atom ≡ other
atoms_same atom other h k e = some_same atom other (sym (atom_back atom h) ∙ ap atom_by e ∙ atom_back other k)

-- ---- the words of two lines

set_is_not_drop : (path other : List (List ℕ)) (atom : Atom) → words_of_line (Set path atom) ≡ words_of_line (Drop other) → ⊥
set_is_not_drop path other atom e =
    let first : codes "set" ≡ codes "drop" = cc in
    let no : length (codes "set") ≡ length (codes "drop") = ap length first in absurd (cc)

pub lines_same : (version : Version) (line other : AncestorLine) → IsLine version line → IsLine version other → words_of_line line ≡ words_of_line other → line ≡ other
lines_same version (Set path atom) (Set other another) h k e =
    let word : path_word path ≡ path_word other = cc in
    let words : words_of atom ≡ words_of another = cc in
    ap₂ Set (paths_same path other h.0 k.0 word) (atoms_same atom another h.1 k.1 words)
lines_same version (Set path atom) (Drop other) h k e = absurd (set_is_not_drop path other atom e)
lines_same version (Drop path) (Set other another) h k e = absurd (set_is_not_drop other path another (sym e))
lines_same version (Drop path) (Drop other) h k e =
    let word : path_word path ≡ path_word other = cc in ap Drop (paths_same path other h k word)

-- ---- they are words

are_bytes_append : (xs ys : List ℕ) → AreBytes xs → AreBytes ys → AreBytes (xs ++ ys)
are_bytes_append [] ys h k = k
are_bytes_append (x ∷ xs) ys h k = (h.0, are_bytes_append xs ys h.1 k)

ascii_are_bytes : (bs : List ℕ) → list_all (λ b. nat_lt b 128) bs ≡ true → AreBytes bs
ascii_are_bytes [] h = tt
ascii_are_bytes (b ∷ bs) h =
    let parts = and_parts (nat_lt b 128) (list_all (λ c. nat_lt c 128) bs) h in
    (small b parts.0, ascii_are_bytes bs parts.1)
  where
    small : (b : ℕ) → nat_lt b 128 ≡ true → b < 256
    small b h = grind (arith, nat_tests)

below_limit : (c : ℕ) → (c < 55296) ⊎ ((57344 ≤ c) × (c < 1114112)) → c < 1114112
below_limit c (inl h) = omega arith
below_limit c (inr h) = h.1

char_is_bytes : (c : ℕ) → c < 1114112 → AreBytes (encode c)
unfolding encode
char_is_bytes c h = by (nat_lt c 128) (nat_lt c 2048) (nat_lt c 65536) refl refl refl
  where
    by : (x y z : Bool) → nat_lt c 128 ≡ x → nat_lt c 2048 ≡ y → nat_lt c 65536 ≡ z
        → AreBytes (cond x (c ∷ []) (cond y ((192 + c / 64) ∷ next c ∷ []) (cond z ((224 + c / 4096) ∷ next (c / 64) ∷ next c ∷ []) ((240 + c / 262144) ∷ next (c / 4096) ∷ next (c / 64) ∷ next c ∷ []))))
    by true y z p q r = (omega (arith, ltb-true c 128 p), tt)
    by false true z p q r = (omega (arith, ltb-true c 2048 q), (omega arith, tt))
    by false false true p q r = (omega (arith, ltb-true c 65536 r), (omega arith, (omega arith, tt)))
    by false false false p q r = (omega arith, (omega arith, (omega arith, (omega arith, tt))))

chars_are_bytes : (cs : List ℕ) → scalars cs ≡ true → AreBytes (encodes cs)
chars_are_bytes [] h = tt
chars_are_bytes (c ∷ cs) h =
    let parts = and_parts (scalar c) (scalars cs) h in
    are_bytes_append (encode c) (encodes cs) (char_is_bytes c (below_limit c (scalar_cases c parts.0))) (chars_are_bytes cs parts.1)

pub utf8_is_bytes : (bs : List ℕ) → IsUtf8 bs → AreBytes bs
utf8_is_bytes bs h = subst AreBytes h.1.1 (chars_are_bytes h.0 h.1.0)

path_word_is_some : (path : List (List ℕ)) → IsPath path → 0 < length (path_word path)
path_word_is_some [] h = lit< tt
path_word_is_some (name ∷ names) h = by name (and_parts (is_name name) (list_all is_name names) h.each_name).0 _ _ (ap length (path_text-cons name names))
  where
    by : (n : List ℕ) → is_name n ≡ true → (m : ℕ) (more : List ℕ) → m ≡ length (n ++ more) → 0 < m
    by [] h m more e = let no : false ≡ true = (and_parts (is_utf8 []) (has_name_form []) h).1 in absurd (cc)
    by (b ∷ n) h m more e = omega arith

path_is_word : (path : List (List ℕ)) → IsPath path → (0 < length (path_word path)) × AreBytes (path_word path)
path_is_word path h = (path_word_is_some path h, utf8_is_bytes (path_word path) (path_word_is_utf8 path h))

pub line_is_words : (version : Version) (line : AncestorLine) → IsLine version line → AreWords (words_of_line line)
line_is_words version (Set path atom) h =
    let word = path_is_word path h.0 in
    (lit< tt, ascii_are_bytes (codes "set") refl, (word.0, word.1, (read_words (spelling_of atom) (words_of atom) (written_atom atom h.1)).1))
line_is_words version (Drop path) h =
    let word = path_is_word path h in
    (lit< tt, ascii_are_bytes (codes "drop") refl, (word.0, word.1, tt))

digits_are_word : (n : ℕ) → n < 2 ^ 64 → (0 < length (decimal n)) × AreBytes (decimal n)
digits_are_word n h = (decimal_nonempty n h, utf8_is_bytes (decimal n) (IsUtf8-from_ascii (decimal n) (IsAscii-decimal n h)))

numbers_are_words : (numbers : List ℕ) → AreNumbers numbers → AreWords (map decimal numbers)
numbers_are_words [] h = tt
numbers_are_words (n ∷ numbers) h = let word = digits_are_word n h.0 in (word.0, word.1, numbers_are_words numbers h.1)

version_is_word : (version : Version) → (0 < length (version_word version)) × AreBytes (version_word version)
version_is_word V1 = (lit< tt, ascii_are_bytes (codes "v1") refl)
version_is_word V2 = (lit< tt, ascii_are_bytes (codes "v2") refl)

verb_is_word : (verb : Verb) → (0 < length (verb_word verb)) × AreBytes (verb_word verb)
verb_is_word verbs.Agree = (lit< tt, ascii_are_bytes (codes "agree") refl)
verb_is_word verbs.Reset = (lit< tt, ascii_are_bytes (codes "reset") refl)
verb_is_word verbs.Whole = (lit< tt, ascii_are_bytes (codes "whole") refl)

pub head_is_words : (head : Head) → IsHead head → AreWords (words_of_head head)
head_is_words head h =
    let version = version_is_word (version_of head) in
    let verb = verb_is_word (verb_of head) in
    (version.0, version.1, (verb.0, verb.1, numbers_are_words (numbers_of head) (are_numbers head h)))
