-- The words of a request are words.
use Rattle.std.proofs.Common.{◌≡◌, ◌==◌, ℕ, zero, suc, ◌+◌, ◌/◌, ◌%◌, ◌*◌, ◌<◌, ◌≤◌, ◌^◌, Bool, true, false, ◌&&◌, List, [], ◌∷◌, ◌++◌, length, length-append, codes, decimal, refl, ap, ◌∙◌, arith, Option, Some, None, IsAscii, lit<, nat_lt, slice_index, inl, inr}
use Rattle.std.specs.List.{list_all}
use Rattle.std.specs.Str.{is_utf8}
use Rattle.std.specs.Prelude.{unwrap_or}
use Rattle.std.proofs.lemmas.Bool.{and_parts, cases_lt, eqb-true, leb-true, ltb-true}
use Rattle.std.proofs.lemmas.Fmt.{decimal_nonempty, IsAscii-decimal}
use Rattle.std.proofs.lemmas.Str.{IsUtf8-from_ascii, IsUtf8-from_is_utf8}
use Rattle.hex.specs.Hex.{encode_with, lower_digits}
use Rattle.hex.proofs.HexLemmas.{IsAscii-encode_with}
use Rattle.uuid.specs.Text.{lower}
use Rattle.uuid.proofs.TextLemmas.{hyphenated_ascii}
use Rattle.line_words.specs.Numbers.{byte_value}
use Rattle.line_words.specs.Spelling.{digit_value, pair_value}
use Rattle.request_text.specs.Words.{byte_word}
use Rattle.std.specs.Int.{to_be_bytes}
use mir.Syntax.{w128}
use Rattle.line_words.specs.Lines.{AreBytes, AreWords}
use Rattle.sync_path.specs.Name.{is_name, has_name_form}
use Rattle.sync_path.specs.Path.{IsPath}
use Rattle.sync_path.proofs.TextParts.{path_text-cons}
use Rattle.entry_tree.specs.PathWord.{path_word}
use Rattle.entry_tree.specs.Text.{IsText, has_text_len}
use Rattle.entry_tree.proofs.PathWords.{path_word_is_utf8}
use Rattle.mode_rules.specs.declared.mode.Mode.{Mode}
use Rattle.mode_rules.specs.declared.mode.Mode.TheVariants.{TwoWaySafe, TwoWayResolved, OneWaySafe, OneWayReplica}
use Rattle.mode_rules.specs.declared.phase.Phase.{Phase}
use Rattle.mode_rules.specs.declared.phase.Phase.TheVariants as phases
use Rattle.frame_text.proofs.LineWords.{utf8_is_bytes}
use Rattle.command_words.specs.Ascii.{is_name_byte}
use Rattle.command_words.specs.Contents.{contents_word}
use Rattle.command_words.specs.Endpoint.{IsEndpoint}
use Rattle.command_words.specs.GivenName.{IsGivenName, begins_with_letter}
use Rattle.command_words.specs.Identifier.{kind_prefix, uuid_text}
use Rattle.command_words.specs.Keywords.{mode_word, phase_word, stream_side_word, switch_word}
use Rattle.command_words.specs.Label.{IsLabel, label_word}
use Rattle.command_words.specs.LabelText.{IsLabelText}
use Rattle.command_words.specs.RootName.{IsRootName, has_root_name_form, has_root_name_len}
use Rattle.command_words.specs.Session.{IsSession, session_word}
use Rattle.command_words.specs.declared.label.Label.{Label}
use Rattle.command_words.specs.declared.session.SessionWord.{SessionWord}
use Rattle.command_words.specs.declared.session.SessionWord.TheVariants.{Identified, Named}
use Rattle.command_words.specs.declared.session_kind.SessionKind.{SessionKind}
use Rattle.command_words.specs.declared.session_kind.SessionKind.TheVariants.{Sync, Forward}
use Rattle.command_words.specs.declared.stream_side.StreamSide.{StreamSide}
use Rattle.command_words.specs.declared.stream_side.StreamSide.TheVariants.{Near, Far}
use Rattle.command_words.proofs.Classes.{ascii, names_are_labels}
use Rattle.command_words.proofs.Endpoints.{endpoint_is_text}
use Rattle.command_words.proofs.LabelWords.{label_bytes}

-- a word has at least one byte, and all of it are bytes
abbrev pub IsWord : List ℕ → Type 0
IsWord word = (0 < length word) × AreBytes word

pub ascii_bytes : (bs : List ℕ) → IsAscii bs → AreBytes bs
ascii_bytes bs h = utf8_is_bytes bs (IsUtf8-from_ascii bs h)

pub bytes_joined : (xs ys : List ℕ) → AreBytes xs → AreBytes ys → AreBytes (xs ++ ys)
bytes_joined [] ys p q = q
bytes_joined (x ∷ xs) ys p q = (p.0, bytes_joined xs ys p.1 q)

some_joined : (xs ys : List ℕ) → 0 < length xs → 0 < length (xs ++ ys)
some_joined xs ys h = let long = length-append xs ys in omega (arith, h, long)

pub words_joined : (xs ys : List (List ℕ)) → AreWords xs → AreWords ys → AreWords (xs ++ ys)
words_joined [] ys p q = q
words_joined (x ∷ xs) ys p q = (p.0, p.1, words_joined xs ys p.2 q)

pub behind_word : (xs ys : List ℕ) → IsWord xs → AreBytes ys → IsWord (xs ++ ys)
behind_word xs ys p q = (some_joined xs ys p.0, bytes_joined xs ys p.1 q)

-- ---- the kinds of words

pub root_word : (word : List ℕ) → IsRootName word → IsWord word
root_word word h =
    let parts = and_parts (is_utf8 word) (has_root_name_form word) h in
    let len = (and_parts (has_root_name_len word) _ parts.1).0 in
    let some : 1 ≤ length word = leb-true 1 (length word) (and_parts _ _ len).0 in
    (omega (arith, some), utf8_is_bytes word (IsUtf8-from_is_utf8 word parts.0))

name_some : (word : List ℕ) → begins_with_letter word ≡ true → 0 < length word
name_some [] h = absurd (let no : false ≡ true = h in cc)
name_some (b ∷ bs) h = omega arith

pub name_word : (word : List ℕ) → IsGivenName word → IsWord word
name_word word h =
    let parts = and_parts (begins_with_letter word) _ h in
    let bytes = (and_parts (list_all is_name_byte word) _ parts.1).0 in
    (name_some word parts.0, ascii_bytes word (ascii word (names_are_labels word bytes)))

pub label_text_word : (word : List ℕ) → IsLabelText word → IsWord word
label_text_word word h =
    let some : 1 ≤ length word = leb-true 1 (length word) (and_parts _ _ h).0 in
    (omega (arith, some), ascii_bytes word (ascii word (label_bytes word h)))

pub label_is_bytes : (label : Label) → IsLabel label → AreBytes (label_word label)
label_is_bytes label h = bytes_joined label.key (61 ∷ label.value) (label_text_word label.key h.0).1 (lit< tt, (label_text_word label.value h.1).1)

-- a path's first name has a byte
path_some : (path : List (List ℕ)) → IsPath path → 0 < length (path_word path)
path_some [] h = lit< tt
path_some (name ∷ names) h = by name (and_parts (is_name name) (list_all is_name names) h.each_name).0 _ _ (ap length (path_text-cons name names))
  where
    by : (n : List ℕ) → is_name n ≡ true → (m : ℕ) (more : List ℕ) → m ≡ length (n ++ more) → 0 < m
    by [] h m more e = let no : false ≡ true = (and_parts (is_utf8 []) (has_name_form []) h).1 in absurd (cc)
    by (b ∷ n) h m more e = omega arith

pub path_is_word : (path : List (List ℕ)) → IsPath path → IsWord (path_word path)
path_is_word path h = (path_some path h, utf8_is_bytes (path_word path) (path_word_is_utf8 path h))

pub number_word : (n : ℕ) → n < 2 ^ 64 → IsWord (decimal n)
number_word n h = (decimal_nonempty n h, ascii_bytes (decimal n) (IsAscii-decimal n h))

pub contents_is_word : (bytes : List ℕ) → AreBytes bytes → IsWord (contents_word bytes)
contents_is_word bytes h = (omega arith, (lit< tt, h))

pub text_is_word : (text : List ℕ) → IsText text → IsWord (contents_word text)
text_is_word text h = contents_is_word text (utf8_is_bytes text (IsUtf8-from_is_utf8 text (and_parts (is_utf8 text) (has_text_len text) h).0))

-- ---- words that are always the same

all_small : (bs : List ℕ) → list_all (λ b. nat_lt b 256) bs ≡ true → AreBytes bs
all_small [] h = tt
all_small (b ∷ bs) h = let parts = and_parts (nat_lt b 256) (list_all (λ c. nat_lt c 256) bs) h in (ltb-true b 256 parts.0, all_small bs parts.1)

pub fixed : (bs : List ℕ) → nat_lt 0 (length bs) ≡ true → list_all (λ b. nat_lt b 256) bs ≡ true → IsWord bs
fixed bs some small = (ltb-true 0 (length bs) some, all_small bs small)

pub switch_is_word : (on : Bool) → IsWord (switch_word on)
switch_is_word true = fixed (codes "on") refl refl
switch_is_word false = fixed (codes "off") refl refl

pub side_is_word : (side : StreamSide) → IsWord (stream_side_word side)
side_is_word Near = fixed (codes "near") refl refl
side_is_word Far = fixed (codes "far") refl refl

pub phase_is_word : (phase : Phase) → IsWord (phase_word phase)
phase_is_word phases.Idle = fixed (codes "idle") refl refl
phase_is_word phases.Forget = fixed (codes "forget") refl refl
phase_is_word phases.ScanAlpha = fixed (codes "scan-alpha") refl refl
phase_is_word phases.ScanBeta = fixed (codes "scan-beta") refl refl
phase_is_word phases.Stage = fixed (codes "stage") refl refl
phase_is_word phases.Change = fixed (codes "change") refl refl
phase_is_word phases.Clear = fixed (codes "clear") refl refl
phase_is_word phases.Commit = fixed (codes "commit") refl refl

pub mode_is_word : (mode : Mode) → IsWord (mode_word mode)
mode_is_word TwoWaySafe = fixed (codes "two-way-safe") refl refl
mode_is_word TwoWayResolved = fixed (codes "two-way-resolved") refl refl
mode_is_word OneWaySafe = fixed (codes "one-way-safe") refl refl
mode_is_word OneWayReplica = fixed (codes "one-way-replica") refl refl

-- ---- sessions and endpoints

uuid_bytes : (id : ℕ) → AreBytes (uuid_text id)
uuid_bytes id = ascii_bytes (uuid_text id) (hyphenated_ascii lower (to_be_bytes w128 id) (inl refl))

pub session_is_word : (session : SessionWord) → IsSession session → IsWord (session_word session)
session_is_word (Named name) h = name_word name h
session_is_word (Identified i) h = behind_word (kind_prefix i.kind) (uuid_text i.id) (prefix i.kind) (uuid_bytes i.id)
  where
    prefix : (kind : SessionKind) → IsWord (kind_prefix kind)
    prefix Sync = fixed (codes "sync_") refl refl
    prefix Forward = fixed (codes "fwrd_") refl refl

endpoint_some : (word : List ℕ) → IsEndpoint word → 0 < length word
endpoint_some word h =
    let long : length word ≡ length (h.0 ++ 58 ∷ h.1) = ap length h.2 in
    let joined = length-append h.0 (58 ∷ h.1) in
    omega (arith, long, joined)

pub endpoint_is_word : (word : List ℕ) → IsEndpoint word → IsWord word
endpoint_is_word word h = (endpoint_some word h, utf8_is_bytes word (endpoint_is_text word h))

-- ---- the digits of a byte

reads_back : ℕ → Bool
reads_back d = unwrap_or (digit_value (slice_index lower_digits d)) 99 == d

all_read_back : ℕ → Bool
unfolding reads_back
all_read_back zero = true
all_read_back (suc n) = reads_back n && all_read_back n

read_at : (n k : ℕ) → all_read_back n ≡ true → k < n → reads_back k ≡ true
unfolding all_read_back
read_at zero k h lt = absurd (omega arith)
read_at (suc n) k h lt =
    let parts = and_parts (reads_back n) (all_read_back n) h in
    elim (cases_lt k n) [
      | inl below ↦ read_at n k parts.1 below
      | inr top ↦ let e : k ≡ n = omega arith in rw e parts.0
    ]

some_there : (o : Option ℕ) (d : ℕ) → d < 16 → unwrap_or o 99 ≡ d → o ≡ Some d
some_there (Some v) d lt e = ap Some e
some_there None d lt e = absurd (omega arith)

digit_back : (d : ℕ) → d < 16 → digit_value (slice_index lower_digits d) ≡ Some d
unfolding reads_back all_read_back
digit_back d lt = some_there (digit_value (slice_index lower_digits d)) d lt (eqb-true _ d (read_at 16 d refl lt))

pub byte_back : (b : ℕ) → b < 256 → byte_value (byte_word b) ≡ Some b
unfolding encode_with
byte_back b small =
    ap (λ o. pair_value o (digit_value (slice_index lower_digits (b % 16)))) (digit_back (b / 16) (omega arith))
    ∙ ap (λ o. pair_value (Some (b / 16)) o) (digit_back (b % 16) (omega arith))
    ∙ ap Some (let whole : 16 * (b / 16) + b % 16 ≡ b = omega arith in whole)

pub byte_is_word : (b : ℕ) → IsWord (byte_word b)
unfolding encode_with
byte_is_word b = (omega arith, ascii_bytes (byte_word b) (IsAscii-encode_with lower_digits (b ∷ []) digits_ascii))
  where
    digits_ascii : IsAscii lower_digits
    digits_ascii = ascii lower_digits refl
