-- The words of each request as a writer writes them: a row for each request line of docs/FORMATS.md.
use Rattle.std.specs.Prelude.{ℕ, List, [], ◌∷◌, ◌++◌, codes, decimal, Option, Some, None}
use Rattle.hex.specs.Hex.{encode_lower}
use Rattle.line_words.specs.Spelling.{written}
use Rattle.command_words.specs.Contents.{contents_word}
use Rattle.command_words.specs.Keywords.{phase_word, stream_side_word, switch_word}
use Rattle.command_words.specs.Session.{session_word}
use Rattle.command_words.specs.declared.client.Client.{Client}
use Rattle.command_words.specs.declared.label.Label.{Label}
use Rattle.entry_tree.specs.PathWord.{path_word}
use Rattle.request_text.specs.Orders.{forward_order_word, sync_order_word}
use Rattle.request_text.specs.Settings.{forward_settings, setting_word, setting_words, sync_settings}
use Rattle.request_text.specs.declared.asked.Asked.{Asked}
use Rattle.request_text.specs.declared.request.Request.{Request}
use Rattle.request_text.specs.declared.request.Request.TheVariants.{Put, Fill, Link, Dir, Other, Exec, Del, Show, Ancestor, Step, Until, SyncCreate, SyncList, SyncFlush, SyncFlushSkipWait, SyncOrder, SyncReport, ForwardCreate, ForwardList, ForwardOrder, Open, Write, StreamFill, Read, CloseWrite, Close, Move, Cut}
use Rattle.request_text.specs.declared.setting.Setting.TheVariants.{Labelled}
use Rattle.request_text.specs.declared.stream_end.StreamEnd.{StreamEnd}
use Rattle.request_text.specs.declared.target.Target.{Target}

-- a byte as two lower-case hexadecimal digits
abbrev pub byte_word : ℕ → List ℕ
byte_word b = encode_lower (b ∷ [])

-- the words of an edit, with what stands behind its path
abbrev pub edit_words : Target → List ℕ → List (List ℕ) → List (List ℕ)
edit_words at verb behind = codes "edit" ∷ at.root ∷ verb ∷ path_word at.path ∷ behind

-- the words of an operation on an end of a stream, with what stands behind the end
abbrev pub stream_words : StreamEnd → List ℕ → List (List ℕ) → List (List ℕ)
stream_words end verb behind = codes "conn" ∷ session_word end.session ∷ verb ∷ decimal end.stream ∷ stream_side_word end.side ∷ behind

-- the option with which a list names a label
abbrev pub label_words : Option Label → List (List ℕ)
label_words None = []
label_words (Some label) = setting_word (Labelled label) ∷ []

abbrev pub words_of : Request → List (List ℕ)
words_of (Put at bytes) = edit_words at (codes "put") (contents_word bytes ∷ [])
words_of (Fill at len byte) = edit_words at (codes "fill") (decimal len ∷ byte_word byte ∷ [])
words_of (Link at text) = edit_words at (codes "link") (contents_word text ∷ [])
words_of (Dir at) = edit_words at (codes "dir") []
words_of (Other at) = edit_words at (codes "other") []
words_of (Exec at on) = edit_words at (codes "exec") (switch_word on ∷ [])
words_of (Del at) = edit_words at (codes "del") []
words_of (Show root) = codes "show" ∷ root ∷ []
words_of (Ancestor session) = codes "ancestor" ∷ session_word session ∷ []
words_of (Step session count) = codes "step" ∷ session_word session ∷ decimal count ∷ []
words_of (Until session phase) = codes "until" ∷ session_word session ∷ phase_word phase ∷ []
words_of (SyncCreate create) = codes "sync" ∷ codes "create" ∷ (setting_words (sync_settings create) ++ (create.alpha ∷ create.beta ∷ []))
words_of (SyncList label) = codes "sync" ∷ codes "list" ∷ label_words label
words_of (SyncFlush session) = codes "sync" ∷ codes "flush" ∷ session_word session ∷ []
words_of (SyncFlushSkipWait session) = codes "sync" ∷ codes "flush" ∷ codes "--skip-wait" ∷ session_word session ∷ []
words_of (SyncOrder order session) = codes "sync" ∷ sync_order_word order ∷ session_word session ∷ []
words_of (SyncReport session) = codes "sync" ∷ codes "report" ∷ session_word session ∷ []
words_of (ForwardCreate create) = codes "forward" ∷ codes "create" ∷ (setting_words (forward_settings create) ++ (create.source ∷ create.dest ∷ []))
words_of ForwardList = codes "forward" ∷ codes "list" ∷ []
words_of (ForwardOrder order session) = codes "forward" ∷ forward_order_word order ∷ session_word session ∷ []
words_of (Open session) = codes "conn" ∷ session_word session ∷ codes "open" ∷ []
words_of (Write end bytes) = stream_words end (codes "write") (contents_word bytes ∷ [])
words_of (StreamFill end len byte) = stream_words end (codes "fill") (decimal len ∷ byte_word byte ∷ [])
words_of (Read end most) = stream_words end (codes "read") (decimal most ∷ [])
words_of (CloseWrite end) = stream_words end (codes "close-write") []
words_of (Close end) = stream_words end (codes "close") []
words_of (Move session side count) = codes "conn" ∷ session_word session ∷ codes "move" ∷ stream_side_word side ∷ decimal count ∷ []
words_of (Cut session) = codes "conn" ∷ session_word session ∷ codes "cut" ∷ []

-- the words of a client before its request: `@` (64) with its name, and the number of its line
abbrev pub client_words : Option Client → List (List ℕ)
client_words None = []
client_words (Some client) = (64 ∷ client.name) ∷ decimal client.number ∷ []

-- the words of a line
abbrev pub asked_words : Asked → List (List ℕ)
asked_words asked = client_words asked.client ++ words_of asked.request

-- the canonical line
abbrev pub asked_line : Asked → List ℕ
asked_line asked = written (asked_words asked)
