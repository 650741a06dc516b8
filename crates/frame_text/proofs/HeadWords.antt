-- The words of a payload's first line.
use Rattle.std.proofs.Common.{◌≡◌, ℕ, ◌<◌, ◌≤◌, ◌^◌, Bool, true, false, cond, List, [], ◌∷◌, map, codes, bytes_eq, refl, sym, ap, ap₂, subst, ◌∙◌, Option, Some, None, arith}
use Rattle.std.specs.Prelude.{nat_le}
use Rattle.std.specs.Fmt.{decimal}
use Rattle.std.proofs.lemmas.Bool.Decides.{nat_tests}
use Rattle.std.proofs.lemmas.Fmt.{decimal_injective}
use Rattle.line_words.specs.Lines.{Item, HasWords}
use Rattle.entry_tree.proofs.Paths.{name_is}
use Rattle.frame_text.specs.Heads.{version_word, verb_word, version_by, verb_by, version_of, verb_of, numbers_of, words_of_head, IsHead, agree_by, reset_by, whole_by, head_by}
use Rattle.frame_text.specs.Reading.{Reads, AreNumbers, ReadsNumbers}
use Rattle.frame_text.specs.declared.head.TheConstants.{MAX_RUN}
use Rattle.frame_text.specs.declared.head.Head.{Head}
use Rattle.frame_text.specs.declared.head.Head.TheVariants.{Agree, Reset, Whole}
use Rattle.frame_text.specs.declared.head.Verb.{Verb}
use Rattle.frame_text.specs.declared.head.Verb.TheVariants as verbs
use Rattle.frame_text.specs.declared.version.Version.{Version}
use Rattle.frame_text.specs.declared.version.Version.TheVariants.{V1, V2}

version_read : (version : Version) → version_by (version_word version) ≡ Some version
version_read V1 = refl
version_read V2 = refl

verb_read : (verb : Verb) → verb_by (verb_word verb) ≡ Some verb
verb_read verbs.Agree = refl
verb_read verbs.Reset = refl
verb_read verbs.Whole = refl

-- the word that was read
pub version_is : (word : List ℕ) (version : Version) → version_by word ≡ Some version → version_word version ≡ word
version_is word version h = by (bytes_eq word (codes "v1")) (bytes_eq word (codes "v2")) refl refl h
  where
    by : (a b : Bool) → bytes_eq word (codes "v1") ≡ a → bytes_eq word (codes "v2") ≡ b → cond a (Some V1) (cond b (Some V2) None) ≡ Some version → version_word version ≡ word
    by true b p q h = subst (λ v. version_word v ≡ word) (let k : V1 ≡ version = cc in k) (sym (name_is word (codes "v1") p))
    by false true p q h = subst (λ v. version_word v ≡ word) (let k : V2 ≡ version = cc in k) (sym (name_is word (codes "v2") q))
    by false false p q h = absurd (cc)

pub verb_is : (word : List ℕ) (verb : Verb) → verb_by word ≡ Some verb → verb_word verb ≡ word
verb_is word verb h = by (bytes_eq word (codes "agree")) (bytes_eq word (codes "reset")) (bytes_eq word (codes "whole")) refl refl refl h
  where
    by : (a b c : Bool) → bytes_eq word (codes "agree") ≡ a → bytes_eq word (codes "reset") ≡ b → bytes_eq word (codes "whole") ≡ c
        → cond a (Some verbs.Agree) (cond b (Some verbs.Reset) (cond c (Some verbs.Whole) None)) ≡ Some verb → verb_word verb ≡ word
    by true b c p q r h = subst (λ v. verb_word v ≡ word) (let k : verbs.Agree ≡ verb = cc in k) (sym (name_is word (codes "agree") p))
    by false true c p q r h = subst (λ v. verb_word v ≡ word) (let k : verbs.Reset ≡ verb = cc in k) (sym (name_is word (codes "reset") q))
    by false false true p q r h = subst (λ v. verb_word v ≡ word) (let k : verbs.Whole ≡ verb = cc in k) (sym (name_is word (codes "whole") r))
    by false false false p q r h = absurd (cc)

-- no head begins with another word
pub no_version : (word : List ℕ) → version_by word ≡ None → (head : Head) → IsHead head → (more : List (List ℕ)) → words_of_head head ≡ word ∷ more → ⊥
no_version word none head is more e =
    let same : version_word (version_of head) ≡ word = cc in
    let k : None ≡ Some (version_of head) = sym none ∙ ap version_by (sym same) ∙ version_read (version_of head) in absurd (cc)

pub no_verb : (first word : List ℕ) → verb_by word ≡ None → (head : Head) → IsHead head → (more : List (List ℕ)) → words_of_head head ≡ first ∷ word ∷ more → ⊥
no_verb first word none head is more e =
    let same : verb_word (verb_of head) ≡ word = cc in
    let k : None ≡ Some (verb_of head) = sym none ∙ ap verb_by (sym same) ∙ verb_read (verb_of head) in absurd (cc)

-- a head has more words than these
pub none_is_no_head : (head : Head) → IsHead head → words_of_head head ≡ [] → ⊥
none_is_no_head head is e = absurd (cc)

pub version_is_no_head : (first : List ℕ) (head : Head) → IsHead head → words_of_head head ≡ first ∷ [] → ⊥
version_is_no_head first head is e = absurd (cc)

-- ---- the numbers

pub run_fits : (run : ℕ) → run ≤ MAX_RUN → run < 2 ^ 64
run_fits run h = omega arith

pub are_numbers : (head : Head) → IsHead head → AreNumbers (numbers_of head)
are_numbers (Agree version run cycle) h = (run_fits run h.0, (h.1, tt))
are_numbers (Reset number) h = (h.1, tt)
are_numbers (Whole run cycle served) h = (run_fits run h.0, (h.1, (h.2, tt)))

-- a head of a version, a verb and numbers is read as it is
head_back : (head : Head) → IsHead head → head_by (version_of head) (verb_of head) (numbers_of head) ≡ Some head
head_back (Agree version run cycle) h = ap (λ b. cond b (Some (Agree version run cycle)) None) (leb-true' run MAX_RUN h.0)
  where
    leb-true' : (m n : ℕ) → m ≤ n → nat_le m n ≡ true
    leb-true' m n h = grind (arith, nat_tests)
head_back (Reset number) h = ap (λ b. cond b (Some (Reset number)) None) (some number h.0)
  where
    some : (n : ℕ) → 0 < n → nat_le 1 n ≡ true
    some n h = grind (arith, nat_tests)
head_back (Whole run cycle served) h = ap (λ b. cond b (Some (Whole run cycle served)) None) (leb-true' run MAX_RUN h.0)
  where
    leb-true' : (m n : ℕ) → m ≤ n → nat_le m n ≡ true
    leb-true' m n h = grind (arith, nat_tests)

-- what is read of a version, a verb and numbers
abbrev pub IsOf : Version → Verb → List ℕ → Head → Type 0
IsOf version verb numbers head = IsHead head × (words_of_head head ≡ version_word version ∷ verb_word verb ∷ map decimal numbers)

le_by : (m n : ℕ) → nat_le m n ≡ true → m ≤ n
le_by m n h = grind (arith, nat_tests)

agree_is : (version : Version) (numbers : List ℕ) (head : Head) → AreNumbers numbers → agree_by version numbers ≡ Some head → IsOf version verbs.Agree numbers head
agree_is version [] head h e = absurd (cc)
agree_is version (run ∷ []) head h e = absurd (cc)
agree_is version (run ∷ cycle ∷ []) head h e = by (nat_le run MAX_RUN) refl e
  where
    by : (b : Bool) → nat_le run MAX_RUN ≡ b → cond b (Some (Agree version run cycle)) None ≡ Some head → IsOf version verbs.Agree (run ∷ cycle ∷ []) head
    by true p e = subst (IsOf version verbs.Agree (run ∷ cycle ∷ [])) (let k : Agree version run cycle ≡ head = cc in k) ((le_by run MAX_RUN p, h.1.0), refl)
    by false p e = absurd (cc)
agree_is version (run ∷ cycle ∷ more ∷ numbers) head h e = absurd (cc)

reset_is : (numbers : List ℕ) (head : Head) → AreNumbers numbers → reset_by numbers ≡ Some head → IsOf V1 verbs.Reset numbers head
reset_is [] head h e = absurd (cc)
reset_is (number ∷ []) head h e = by (nat_le 1 number) refl e
  where
    some : nat_le 1 number ≡ true → 0 < number
    some p = grind (arith, nat_tests)

    by : (b : Bool) → nat_le 1 number ≡ b → cond b (Some (Reset number)) None ≡ Some head → IsOf V1 verbs.Reset (number ∷ []) head
    by true p e = subst (IsOf V1 verbs.Reset (number ∷ [])) (let k : Reset number ≡ head = cc in k) ((some p, h.0), refl)
    by false p e = absurd (cc)
reset_is (number ∷ more ∷ numbers) head h e = absurd (cc)

whole_is : (numbers : List ℕ) (head : Head) → AreNumbers numbers → whole_by numbers ≡ Some head → IsOf V2 verbs.Whole numbers head
whole_is [] head h e = absurd (cc)
whole_is (run ∷ []) head h e = absurd (cc)
whole_is (run ∷ cycle ∷ []) head h e = absurd (cc)
whole_is (run ∷ cycle ∷ served ∷ []) head h e = by (nat_le run MAX_RUN) refl e
  where
    by : (b : Bool) → nat_le run MAX_RUN ≡ b → cond b (Some (Whole run cycle served)) None ≡ Some head → IsOf V2 verbs.Whole (run ∷ cycle ∷ served ∷ []) head
    by true p e = subst (IsOf V2 verbs.Whole (run ∷ cycle ∷ served ∷ [])) (let k : Whole run cycle served ≡ head = cc in k) ((le_by run MAX_RUN p, h.1.0, h.1.1.0), refl)
    by false p e = absurd (cc)
whole_is (run ∷ cycle ∷ served ∷ more ∷ numbers) head h e = absurd (cc)

head_is : (version : Version) (verb : Verb) (numbers : List ℕ) (head : Head) → AreNumbers numbers → head_by version verb numbers ≡ Some head → IsOf version verb numbers head
head_is version verbs.Agree numbers head h e = agree_is version numbers head h e
head_is V1 verbs.Reset numbers head h e = reset_is numbers head h e
head_is V2 verbs.Reset numbers head h e = absurd (cc)
head_is V1 verbs.Whole numbers head h e = absurd (cc)
head_is V2 verbs.Whole numbers head h e = whole_is numbers head h e

-- numbers are told by their digits
numbers_same : (ms ns : List ℕ) → AreNumbers ms → AreNumbers ns → map decimal ms ≡ map decimal ns → ms ≡ ns
numbers_same [] [] h k e = refl
numbers_same [] (n ∷ ns) h k e = absurd (cc)
numbers_same (m ∷ ms) [] h k e = absurd (cc)
numbers_same (m ∷ ms) (n ∷ ns) h k e =
    let first : decimal m ≡ decimal n = cc in
    let rest : map decimal ms ≡ map decimal ns = cc in
    ap₂ (λ x xs. x ∷ xs) (decimal_injective m n h.0 k.0 first) (numbers_same ms ns h.1 k.1 rest)

-- the head that these words write
head_by_words : (version : Version) (verb : Verb) (numbers : List ℕ) (head : Head) → AreNumbers numbers → IsHead head
    → words_of_head head ≡ version_word version ∷ verb_word verb ∷ map decimal numbers → head_by version verb numbers ≡ Some head
head_by_words version verb numbers head h is e =
    let v : version_word (version_of head) ≡ version_word version = cc in
    let w : verb_word (verb_of head) ≡ verb_word verb = cc in
    let ns : map decimal (numbers_of head) ≡ map decimal numbers = cc in
    let v_same : Some (version_of head) ≡ Some version = sym (version_read (version_of head)) ∙ ap version_by v ∙ version_read version in
    let w_same : Some (verb_of head) ≡ Some verb = sym (verb_read (verb_of head)) ∙ ap verb_by w ∙ verb_read verb in
    let v_is : version_of head ≡ version = cc in
    let w_is : verb_of head ≡ verb = cc in
    let n_is = numbers_same (numbers_of head) numbers (are_numbers head is) h ns in
    subst (λ x. head_by x verb numbers ≡ Some head) v_is
    (subst (λ x. head_by (version_of head) x numbers ≡ Some head) w_is
    (subst (λ x. head_by (version_of head) (verb_of head) x ≡ Some head) n_is (head_back head is)))

pub heads_same : (head other : Head) → IsHead head → IsHead other → words_of_head head ≡ words_of_head other → head ≡ other
heads_same head other h k e =
    let same : Some other ≡ Some head = sym (head_back other k) ∙ head_by_words (version_of other) (verb_of other) (numbers_of other) head (are_numbers other k) h e in cc

-- ---- what is read behind a version and a verb

pub behind_numbers : (version : Version) (verb : Verb) (items : List Item) (numbers : List ℕ) → ReadsNumbers items (Some numbers)
    → Reads IsHead words_of_head (version_word version ∷ verb_word verb ∷ []) items (head_by version verb numbers)
behind_numbers version verb items numbers h = by (head_by version verb numbers) refl
  where
    by : (found : Option Head) → head_by version verb numbers ≡ found → Reads IsHead words_of_head (version_word version ∷ verb_word verb ∷ []) items found
    by (Some head) e = let is = head_is version verb numbers head h.0 e in (is.0, (map decimal numbers, h.1, is.1))
    by None e = λ head is words has whole.
        let mine : map (λ (i : Item). i.word) items ≡ map Some (map decimal numbers) = h.1 in
        let same : map decimal numbers ≡ words = words_same (map decimal numbers) words (sym mine ∙ has) in
        let k : None ≡ Some head = sym e ∙ head_by_words version verb numbers head h.0 is (whole ∙ ap (λ ws. version_word version ∷ verb_word verb ∷ ws) (sym same)) in absurd (cc)
      where
        words_same : (xs ys : List (List ℕ)) → map Some xs ≡ map Some ys → xs ≡ ys
        words_same [] [] e = refl
        words_same [] (y ∷ ys) e = absurd (cc)
        words_same (x ∷ xs) [] e = absurd (cc)
        words_same (x ∷ xs) (y ∷ ys) e =
            let first : x ≡ y = cc in
            let rest : map Some xs ≡ map Some ys = cc in
            ap₂ (λ a b. a ∷ b) first (words_same xs ys rest)

pub behind_none : (version : Version) (verb : Verb) (items : List Item) → ReadsNumbers items None
    → Reads IsHead words_of_head (version_word version ∷ verb_word verb ∷ []) items None
behind_none version verb items h = λ head is words has whole.
    let same : map decimal (numbers_of head) ≡ words = cc in
    h (numbers_of head) (are_numbers head is) (subst (HasWords items) (sym same) has)
