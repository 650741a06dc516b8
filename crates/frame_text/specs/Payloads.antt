-- A session's payload, and the bytes that spell it.
use Rattle.std.specs.Prelude.{◌≡◌, ℕ, suc, ◌+◌, ◌-◌, ◌≤◌, Bool, true, false, not, ◌&&◌, ◌==◌, List, [], ◌∷◌, map, length, drop, Option, Some, None, Result, Ok, Err, IsTrue}
use Rattle.std.specs.List.{AllByRecursion, join_with_byte, slice_split}
use Rattle.std.specs.Ordering.{is_lt}
use Rattle.line_words.specs.Lines.{HasWords, line_items}
use Rattle.line_words.specs.Spelling.{written}
use Rattle.line_words.specs.declared.reading.Reading.TheVariants.{Canonical}
use Rattle.sync_path.specs.Path.{path_cmp}
use Rattle.entry_tree.specs.Tree.{Names}
use Rattle.mode_rules.specs.declared.ancestor_line.AncestorLine.{AncestorLine}
use Rattle.mode_rules.specs.declared.ancestor_line.AncestorLine.TheVariants.{Set, Drop}
use Rattle.frame_text.specs.Heads.{IsHead, words_of_head, version_of}
use Rattle.frame_text.specs.LineText.{IsLine, words_of_line}
use Rattle.frame_text.specs.declared.head.Head.{Head}
use Rattle.frame_text.specs.declared.head.Head.TheVariants as heads
use Rattle.frame_text.specs.declared.payload.Payload.{Payload}
use Rattle.frame_text.specs.declared.payload.Payload.TheVariants.{Agree, Reset, Whole}
use Rattle.frame_text.specs.declared.payload.PayloadError.{PayloadError}
use Rattle.frame_text.specs.declared.payload.PayloadError.TheVariants.{Bad, Memory}
use Rattle.frame_text.specs.declared.version.Version.{Version}

-- the byte between two lines: LF
abbrev pub newline : ℕ
newline = 10

-- what the first line says
abbrev pub head_of : Payload → Head
head_of (Agree version run cycle lines) = heads.Agree version run cycle
head_of (Reset number) = heads.Reset number
head_of (Whole run cycle served lines) = heads.Whole run cycle served

-- what the further lines say
abbrev pub body_of : Payload → List AncestorLine
body_of (Agree version run cycle lines) = lines
body_of (Reset number) = []
body_of (Whole run cycle served lines) = lines

-- the words of each line
abbrev pub lines_of : Payload → List (List (List ℕ))
lines_of payload = words_of_head (head_of payload) ∷ map words_of_line (body_of payload)

-- the bytes of a payload: its lines as a writer writes them, with an LF between each two, and none at the end
abbrev pub payload_bytes : Payload → List ℕ
payload_bytes payload = join_with_byte newline (map written (lines_of payload))

-- ---- which payloads there are

abbrev pub is_set : AncestorLine → Bool
is_set (Set path atom) = true
is_set (Drop path) = false

abbrev pub path_of_line : AncestorLine → Names
path_of_line (Set path atom) = path
path_of_line (Drop path) = path

-- whether a line's path stands before that of the next line, if there is one
abbrev pub stands_before : AncestorLine → List AncestorLine → Bool
stands_before line [] = true
stands_before line (next ∷ lines) = is_lt (path_cmp (path_of_line line) (path_of_line next))

-- whether each line sets something, and their paths rise
abbrev pub is_whole : List AncestorLine → Bool
is_whole [] = true
is_whole (line ∷ lines) = is_set line && (stands_before line lines && is_whole lines)

abbrev pub has_lines : List AncestorLine → Bool
has_lines [] = false
has_lines (line ∷ lines) = true

-- which lines may stand behind a first line: behind `agree` at least one, behind `reset` none, and behind `whole` those of a tree
abbrev pub is_shaped : Head → List AncestorLine → Bool
is_shaped (heads.Agree version run cycle) lines = has_lines lines
is_shaped (heads.Reset number) lines = not (has_lines lines)
is_shaped (heads.Whole run cycle served) lines = is_whole lines

-- A payload of the grammar: its numbers are in their ranges, each line fits its version, and the lines fit its verb.
abbrev pub IsPayload : Payload → Type 0
IsPayload payload = IsHead (head_of payload) × AllByRecursion (IsLine (version_of (head_of payload))) (body_of payload) × IsTrue (is_shaped (head_of payload) (body_of payload))

-- the bytes spell a payload of the grammar
abbrev pub Spells : List ℕ → Payload → Type 0
Spells bytes payload = IsPayload payload × (bytes ≡ payload_bytes payload)

-- ---- what is read

-- the lines of some bytes
abbrev pub parts_of : List ℕ → List (List ℕ)
parts_of bytes = slice_split (λ b. b == newline) bytes

-- each line has these words, read canonically
abbrev pub HaveWords : List (List ℕ) → List (List (List ℕ)) → Type 0
HaveWords [] [] = Unit {0}
HaveWords [] (words ∷ lines) = ⊥
HaveWords (part ∷ parts) [] = ⊥
HaveWords (part ∷ parts) (words ∷ lines) = HasWords (line_items Canonical part) words × HaveWords parts lines

-- what is read of lines
abbrev pub ReadsLines : Version → List (List ℕ) → Option (List AncestorLine) → Type 0
ReadsLines version parts (Some lines) = AllByRecursion (IsLine version) lines × HaveWords parts (map words_of_line lines)
ReadsLines version parts None = (lines : List AncestorLine) → AllByRecursion (IsLine version) lines → HaveWords parts (map words_of_line lines) → ⊥

-- what is read of the lines behind the first one
abbrev pub ReadsBody : Head → List (List ℕ) → Result Payload PayloadError → Type 0
ReadsBody head parts (Ok payload) = IsPayload payload × (head_of payload ≡ head) × HaveWords parts (map words_of_line (body_of payload))
ReadsBody head parts (Err Bad) = (payload : Payload) → IsPayload payload → head_of payload ≡ head → HaveWords parts (map words_of_line (body_of payload)) → ⊥
ReadsBody head parts (Err Memory) = Unit {0}

-- what is read of some bytes: the payload that they spell, or that they spell none
abbrev pub ReadsPayload : List ℕ → Result Payload PayloadError → Type 0
ReadsPayload bytes (Ok payload) = Spells bytes payload
ReadsPayload bytes (Err Bad) = (payload : Payload) → Spells bytes payload → ⊥
ReadsPayload bytes (Err Memory) = Unit {0}

-- ---- lines one after another

-- the lines from a byte on, if there are more
abbrev pub parts_from : List ℕ → Option ℕ → List (List ℕ)
parts_from text None = []
parts_from text (Some at) = parts_of (drop at text)

-- the next line begins within the text, or at its end
abbrev pub IsWithin : List ℕ → Option ℕ → Type 0
IsWithin text None = Unit {0}
IsWithin text (Some at) = at ≤ length text

-- the next line begins behind the LF that ends this one
abbrev pub IsBehind : ℕ → List ℕ → Option ℕ → Type 0
IsBehind at line None = Unit {0}
IsBehind at line (Some next) = next ≡ at + length line + 1

-- the line that begins at this byte, and where the next one begins
pub record Cuts (text : List ℕ) (at : ℕ) (line : List ℕ) (next : Option ℕ) : Type 0 where
  pub parts : parts_of (drop at text) ≡ line ∷ parts_from text next
  pub behind : IsBehind at line next
  pub within : IsWithin text next

-- how many bytes more there are at most
abbrev pub room_of : List ℕ → Option ℕ → ℕ
room_of text None = 0
room_of text (Some at) = suc (length text - at)
