-- What is read of all lines of a payload.
use Rattle.std.proofs.Common.{◌≡◌, ℕ, true, false, List, [], ◌∷◌, ◌++◌, map, refl, sym, ap, ap₂, subst, ◌∙◌, append_assoc, Option, Some, None, Result, Ok, Err, inl, inr}
use Rattle.std.specs.Prelude.{◌⊎◌}
use Rattle.std.specs.List.{AllByRecursion}
use Rattle.std.proofs.lemmas.List.{append-nil}
use Rattle.line_words.specs.Lines.{AreWords, HasWords, Item, line_items}
use Rattle.line_words.specs.declared.reading.Reading.TheVariants.{Canonical}
use Rattle.mode_rules.specs.declared.ancestor_line.AncestorLine.{AncestorLine}
use Rattle.frame_text.specs.Heads.{IsHead, words_of_head, version_of}
use Rattle.frame_text.specs.LineText.{IsLine, words_of_line}
use Rattle.frame_text.specs.Payloads.{Cuts, HaveWords, ReadsBody, ReadsLines, ReadsPayload, Spells, body_of, head_of, is_shaped, lines_of, parts_from, parts_of}
use Rattle.frame_text.specs.Reading.{Reads}
use Rattle.frame_text.specs.declared.head.Head.{Head}
use Rattle.frame_text.specs.declared.head.Head.TheVariants as heads
use Rattle.frame_text.specs.declared.payload.Payload.{Payload}
use Rattle.frame_text.specs.declared.payload.Payload.TheVariants.{Agree, Reset, Whole}
use Rattle.frame_text.specs.declared.payload.PayloadError.{PayloadError}
use Rattle.frame_text.specs.declared.payload.PayloadError.TheVariants.{Bad, Memory}
use Rattle.frame_text.specs.declared.version.Version.{Version}
use Rattle.frame_text.proofs.HeadWords.{heads_same}
use Rattle.frame_text.proofs.LineWords.{head_is_words, line_is_words, lines_same}
use Rattle.frame_text.proofs.Parts.{bytes_are, have_words}

-- ---- equal words

words_same : (items : List Item) (words others : List (List ℕ)) → HasWords items words → HasWords items others → words ≡ others
words_same [] [] [] h k = refl
words_same [] [] (o ∷ others) h k = absurd (cc)
words_same [] (w ∷ words) others h k = absurd (cc)
words_same (i ∷ items) [] others h k = absurd (cc)
words_same (i ∷ items) (w ∷ words) [] h k = absurd (cc)
words_same (i ∷ items) (w ∷ words) (o ∷ others) h k =
    let mine : i.word ≡ Some w = cc in
    let yours : i.word ≡ Some o = cc in
    let both : Some w ≡ Some o = sym mine ∙ yours in
    let first : w ≡ o = cc in
    let more : HasWords items words = cc in
    let rest : HasWords items others = cc in
    ap₂ (λ x xs. x ∷ xs) first (words_same items words others more rest)

have_same : (parts : List (List ℕ)) (lines others : List (List (List ℕ))) → HaveWords parts lines → HaveWords parts others → lines ≡ others
have_same [] [] [] h k = refl
have_same [] [] (o ∷ others) h k = absurd k
have_same [] (l ∷ lines) others h k = absurd h
have_same (p ∷ parts) [] others h k = absurd h
have_same (p ∷ parts) (l ∷ lines) [] h k = absurd k
have_same (p ∷ parts) (l ∷ lines) (o ∷ others) h k = ap₂ (λ x xs. x ∷ xs) (words_same (line_items Canonical p) l o h.0 k.0) (have_same parts lines others h.1 k.1)

bodies_same : (version : Version) (lines others : List AncestorLine) → AllByRecursion (IsLine version) lines → AllByRecursion (IsLine version) others
    → map words_of_line lines ≡ map words_of_line others → lines ≡ others
bodies_same version [] [] h k e = refl
bodies_same version [] (o ∷ others) h k e = absurd (cc)
bodies_same version (l ∷ lines) [] h k e = absurd (cc)
bodies_same version (l ∷ lines) (o ∷ others) h k e =
    let first : words_of_line l ≡ words_of_line o = cc in
    let rest : map words_of_line lines ≡ map words_of_line others = cc in
    ap₂ (λ x xs. x ∷ xs) (lines_same version l o h.0 k.0 first) (bodies_same version lines others h.1 k.1 rest)

-- ---- a payload is its first line and the further ones

remade : Head → List AncestorLine → Payload
remade (heads.Agree version run cycle) lines = Agree version run cycle lines
remade (heads.Reset number) lines = Reset number
remade (heads.Whole run cycle served) lines = Whole run cycle served lines

remade_is : (payload : Payload) → remade (head_of payload) (body_of payload) ≡ payload
unfolding remade
remade_is (Agree version run cycle lines) = refl
remade_is (Reset number) = refl
remade_is (Whole run cycle served lines) = refl

payloads_same : (payload other : Payload) → head_of payload ≡ head_of other → body_of payload ≡ body_of other → payload ≡ other
payloads_same payload other h b = sym (remade_is payload) ∙ ap₂ remade h b ∙ remade_is other

-- ---- the bytes of a payload are those of no other

are_words : (version : Version) (lines : List AncestorLine) → AllByRecursion (IsLine version) lines → AllByRecursion AreWords (map words_of_line lines)
are_words version [] h = tt
are_words version (line ∷ lines) h = (line_is_words version line h.0, are_words version lines h.1)

pub spelt : (bytes : List ℕ) (payload : Payload) → Spells bytes payload → HaveWords (parts_of bytes) (lines_of payload)
spelt bytes payload h =
    subst (λ bs. HaveWords (parts_of bs) (lines_of payload)) (sym h.1)
    (have_words (words_of_head (head_of payload)) (map words_of_line (body_of payload))
    (head_is_words (head_of payload) h.0.0, are_words (version_of (head_of payload)) (body_of payload) h.0.1))

pub one_payload : (bytes : List ℕ) (payload other : Payload) → Spells bytes payload → Spells bytes other → payload ≡ other
one_payload bytes payload other h k =
    let same : lines_of payload ≡ lines_of other = have_same (parts_of bytes) (lines_of payload) (lines_of other) (spelt bytes payload h) (spelt bytes other k) in
    let first : words_of_head (head_of payload) ≡ words_of_head (head_of other) = cc in
    let rest : map words_of_line (body_of payload) ≡ map words_of_line (body_of other) = cc in
    let head = heads_same (head_of payload) (head_of other) h.0.0 k.0.0 first in
    payloads_same payload other head
    (bodies_same (version_of (head_of payload)) (body_of payload) (body_of other) h.0.1
    (subst (λ x. AllByRecursion (IsLine (version_of x)) (body_of other)) (sym head) k.0.1) rest)

-- ---- the lines that are read so far

-- these lines were read of the first parts, and these parts are left
pub record Progress (version : Version) (parts : List (List ℕ)) (lines : List AncestorLine) (left : List (List ℕ)) : Type 0 where
  pub front : List (List ℕ)
  pub all : parts ≡ front ++ left
  pub sound : AllByRecursion (IsLine version) lines
  pub words : HaveWords front (map words_of_line lines)

pub progress_start : (version : Version) (parts : List (List ℕ)) → Progress version parts [] parts
progress_start version parts = record { front = []; all = refl; sound = tt; words = tt }

sound_push : (version : Version) (lines : List AncestorLine) (line : AncestorLine) → AllByRecursion (IsLine version) lines → IsLine version line → AllByRecursion (IsLine version) (lines ++ line ∷ [])
sound_push version [] line h k = (k, tt)
sound_push version (l ∷ lines) line h k = (h.0, sound_push version lines line h.1 k)

words_push : (front : List (List ℕ)) (lines : List AncestorLine) (part : List ℕ) (line : AncestorLine) → HaveWords front (map words_of_line lines)
    → HasWords (line_items Canonical part) (words_of_line line) → HaveWords (front ++ part ∷ []) (map words_of_line (lines ++ line ∷ []))
words_push [] [] part line h k = (k, tt)
words_push [] (l ∷ lines) part line h k = absurd h
words_push (p ∷ front) [] part line h k = absurd h
words_push (p ∷ front) (l ∷ lines) part line h k = (h.0, words_push front lines part line h.1 k)

pub progress_step : (version : Version) (parts : List (List ℕ)) (lines : List AncestorLine) (part : List ℕ) (left : List (List ℕ)) (line : AncestorLine)
    → Progress version parts lines (part ∷ left) → Reads (IsLine version) words_of_line [] (line_items Canonical part) (Some line) → Progress version parts (lines ++ line ∷ []) left
progress_step version parts lines part left line p h = record {
  front = p.front ++ part ∷ [];
  all = p.all ∙ sym (append_assoc p.front (part ∷ []) left);
  sound = sound_push version lines line p.sound h.0;
  words = words_push p.front lines part line p.words (subst (HasWords (line_items Canonical part)) (sym h.1.2) h.1.1);
}

-- lines of more parts end with lines of the last of them
lines_behind : (version : Version) (front left : List (List ℕ)) (lines : List AncestorLine) → AllByRecursion (IsLine version) lines → HaveWords (front ++ left) (map words_of_line lines)
    → (more : List AncestorLine) × AllByRecursion (IsLine version) more × HaveWords left (map words_of_line more)
lines_behind version [] left lines h k = (lines, h, k)
lines_behind version (p ∷ front) left [] h k = absurd k
lines_behind version (p ∷ front) left (l ∷ lines) h k = lines_behind version front left lines h.1 k.1

pub progress_bad : (version : Version) (parts : List (List ℕ)) (lines : List AncestorLine) (part : List ℕ) (left : List (List ℕ))
    → Progress version parts lines (part ∷ left) → Reads (IsLine version) words_of_line [] (line_items Canonical part) None → ReadsLines version parts None
progress_bad version parts lines part left p none = λ ls sound have.
    let behind = lines_behind version p.front (part ∷ left) ls sound (subst (λ ps. HaveWords ps (map words_of_line ls)) p.all have) in
    by behind.0 behind.1 behind.2
  where
    by : (more : List AncestorLine) → AllByRecursion (IsLine version) more → HaveWords (part ∷ left) (map words_of_line more) → ⊥
    by [] h k = k
    by (l ∷ more) h k = none l h.0 (words_of_line l) k.0 refl

pub progress_end : (version : Version) (parts : List (List ℕ)) (lines : List AncestorLine) → Progress version parts lines [] → ReadsLines version parts (Some lines)
progress_end version parts lines p = (p.sound, subst (λ ps. HaveWords ps (map words_of_line lines)) (sym (p.all ∙ append-nil p.front)) p.words)

-- ---- the first line and the others

pub body_read : (head : Head) (parts : List (List ℕ)) (lines : List AncestorLine) (payload : Payload) → IsHead head → ReadsLines (version_of head) parts (Some lines)
    → head_of payload ≡ head → body_of payload ≡ lines → is_shaped head lines ≡ true → ReadsBody head parts (Ok payload)
body_read head parts lines payload is h e b s =
    let head_is : IsHead (head_of payload) = subst IsHead (sym e) is in
    let sound : AllByRecursion (IsLine (version_of (head_of payload))) (body_of payload) =
    subst (λ x. AllByRecursion (IsLine (version_of x)) (body_of payload)) (sym e) (subst (AllByRecursion (IsLine (version_of head))) (sym b) h.0) in
    let shaped : is_shaped (head_of payload) (body_of payload) ≡ true = ap₂ is_shaped e b ∙ s in
    ((head_is, sound, shaped), e, subst (λ ls. HaveWords parts (map words_of_line ls)) (sym b) h.1)

pub body_bad : (head : Head) (parts : List (List ℕ)) → ReadsLines (version_of head) parts None → ReadsBody head parts (Err Bad)
body_bad head parts none = λ payload is e have.
    none (body_of payload) (subst (λ x. AllByRecursion (IsLine (version_of x)) (body_of payload)) e is.1) have

pub body_misshaped : (head : Head) (parts : List (List ℕ)) (lines : List AncestorLine) → ReadsLines (version_of head) parts (Some lines) → is_shaped head lines ≡ false → ReadsBody head parts (Err Bad)
body_misshaped head parts lines h s = λ payload is e have.
    let words : map words_of_line (body_of payload) ≡ map words_of_line lines = have_same parts (map words_of_line (body_of payload)) (map words_of_line lines) have h.1 in
    let same = bodies_same (version_of head) (body_of payload) lines (subst (λ x. AllByRecursion (IsLine (version_of x)) (body_of payload)) e is.1) h.0 words in
    let no : false ≡ true = sym s ∙ sym (ap₂ is_shaped e same) ∙ is.2 in absurd (cc)

pub whole_read : (bytes line : List ℕ) (next : Option ℕ) (head : Head) (result : Result Payload PayloadError) → Cuts bytes 0 line next
    → Reads IsHead words_of_head [] (line_items Canonical line) (Some head) → ReadsBody head (parts_from bytes next) result → ReadsPayload bytes result
whole_read bytes line next head (Ok payload) c h b =
    let first : HasWords (line_items Canonical line) (words_of_head (head_of payload)) = subst (λ x. HasWords (line_items Canonical line) (words_of_head x)) (sym b.1) (subst (HasWords (line_items Canonical line)) (sym h.1.2) h.1.1) in
    (b.0, bytes_are bytes (lines_of payload) (subst (λ ps. HaveWords ps (lines_of payload)) (sym c.parts) (first, b.2)))
whole_read bytes line next head (Err Bad) c h b = λ payload s.
    let have : HaveWords (line ∷ parts_from bytes next) (lines_of payload) = subst (λ ps. HaveWords ps (lines_of payload)) c.parts (spelt bytes payload s) in
    let words : words_of_head (head_of payload) ≡ words_of_head head = words_same (line_items Canonical line) (words_of_head (head_of payload)) (words_of_head head) have.0 (subst (HasWords (line_items Canonical line)) (sym h.1.2) h.1.1) in
    b payload s.0 (heads_same (head_of payload) head s.0.0 h.0 words) have.1
whole_read bytes line next head (Err Memory) c h b = tt

pub head_bad : (bytes line : List ℕ) (next : Option ℕ) → Cuts bytes 0 line next → Reads IsHead words_of_head [] (line_items Canonical line) None → ReadsPayload bytes (Err Bad)
head_bad bytes line next c none = λ payload s.
    let have : HaveWords (line ∷ parts_from bytes next) (lines_of payload) = subst (λ ps. HaveWords ps (lines_of payload)) c.parts (spelt bytes payload s) in
    none (head_of payload) s.0.0 (words_of_head (head_of payload)) have.0 refl

-- ---- the three clauses of a reader

pub known : (bytes : List ℕ) (payload : Payload) (result : Result Payload PayloadError) → ReadsPayload bytes result → Spells bytes payload → (result ≡ Ok payload) ⊎ (result ≡ Err Memory)
known bytes payload (Ok other) h s = inl (ap Ok (one_payload bytes other payload h s))
known bytes payload (Err Bad) h s = absurd (h payload s)
known bytes payload (Err Memory) h s = inr refl
