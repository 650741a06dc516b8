-- The written words of a request are words, and spell it.
use Rattle.std.proofs.Common.{ℕ, ◌-◌, ◌<◌, ◌≤◌, ◌^◌, ◌||◌, List, [], ◌∷◌, ◌++◌, codes, decimal, map, refl, ap, ◌∙◌, arith, Option, Some, None, IsTrue, IfSome, lit<}
use Rattle.std.specs.Prelude.{is_none}
use Rattle.std.proofs.lemmas.Str.{IsUtf8-from_is_utf8}
use Rattle.line_words.specs.Lines.{AreWords}
use Rattle.line_words.specs.declared.reading.Reading.TheVariants.{Free}
use Rattle.line_words.proofs.ReadBack.{words_placed, written_read}
use Rattle.entry_tree.specs.PathWord.{path_word}
use Rattle.frame_text.proofs.LineWords.{utf8_is_bytes}
use Rattle.command_words.specs.Contents.{contents_word}
use Rattle.command_words.specs.Label.{IsLabel, label_word}
use Rattle.command_words.specs.declared.client.Client.{Client}
use Rattle.command_words.specs.declared.label.Label.{Label}
use Rattle.command_words.specs.Keywords.{mode_word, phase_word, stream_side_word, switch_word}
use Rattle.command_words.specs.Session.{session_word}
use Rattle.request_text.specs.Given.{AreSettings}
use Rattle.request_text.specs.Grammar.{MayAsk, Spells, may_name_client}
use Rattle.request_text.specs.Orders.{forward_order_word, sync_order_word}
use Rattle.request_text.specs.Requests.{IsClient, IsEnd, IsRequest, IsTarget}
use Rattle.request_text.specs.Settings.{IsSetting, forward_settings, setting_word, setting_words, sync_settings}
use Rattle.request_text.specs.Words.{asked_words, byte_word, client_words, edit_words, label_words, stream_words, words_of}
use Rattle.request_text.specs.declared.limits.TheConstants.{MAX_ENTRY_LIMIT, MAX_SIZE_LIMIT}
use Rattle.request_text.specs.declared.order.ForwardOrder.{ForwardOrder}
use Rattle.request_text.specs.declared.order.ForwardOrder.TheVariants as forward
use Rattle.request_text.specs.declared.order.SyncOrder.{SyncOrder}
use Rattle.request_text.specs.declared.order.SyncOrder.TheVariants as sync
use Rattle.request_text.specs.declared.request.Request.{Request}
use Rattle.request_text.specs.declared.request.Request.TheVariants.{Put, Fill, Link, Dir, Other, Exec, Del, Show, Ancestor, Step, Until, SyncCreate, SyncList, SyncFlush, SyncFlushSkipWait, SyncOrder as OrderSync, SyncReport, ForwardCreate, ForwardList, ForwardOrder as OrderForward, Open, Write, StreamFill, Read, CloseWrite, Close, Move, Cut}
use Rattle.request_text.specs.declared.setting.Setting.{Setting}
use Rattle.request_text.specs.declared.setting.Setting.TheVariants.{Name, Labelled, InMode, IgnoreVcs, Ignore, Paused, Entries, Size}
use Rattle.request_text.specs.declared.stream_end.StreamEnd.{StreamEnd}
use Rattle.request_text.specs.declared.target.Target.{Target}
use Rattle.request_laws.specs.Kept.{IsKept}
use Rattle.request_laws.specs.Law.{WrittenIsRead}
use Rattle.request_laws.proofs.Giving.{forward_are, gives_forward, gives_sync, settings_are}
use Rattle.request_laws.proofs.Words.{IsWord, behind_word, byte_back, byte_is_word, contents_is_word, endpoint_is_word, fixed, label_is_bytes, mode_is_word, name_word, number_word, path_is_word, phase_is_word, root_word, session_is_word, side_is_word, switch_is_word, text_is_word, words_joined}

first : (w : List ℕ) (ws : List (List ℕ)) → IsWord w → AreWords ws → AreWords (w ∷ ws)
first w ws h rest = (h.0, h.1, rest)

-- a number that isn't the greatest of 64 bits
small : (n most : ℕ) → n ≤ most → most < 2 ^ 64 → n < 2 ^ 64
small n most h k = omega (arith, h, k)

-- ---- options

setting_is_word : (setting : Setting) → IsSetting setting → IsWord (setting_word setting)
setting_is_word (Name name) h = behind_word (codes "--name=") name (fixed (codes "--name=") refl refl) (name_word name h).1
setting_is_word (Labelled label) h = behind_word (codes "--label=") (label_word label) (fixed (codes "--label=") refl refl) (label_is_bytes label h)
setting_is_word (InMode mode) h = behind_word (codes "--mode=") (mode_word mode) (fixed (codes "--mode=") refl refl) (mode_is_word mode).1
setting_is_word IgnoreVcs h = fixed (codes "--ignore-vcs") refl refl
setting_is_word (Ignore pattern) h = behind_word (codes "--ignore=") pattern (fixed (codes "--ignore=") refl refl) (utf8_is_bytes pattern (IsUtf8-from_is_utf8 pattern h))
setting_is_word Paused h = fixed (codes "--paused") refl refl
setting_is_word (Entries most) h = behind_word (codes "--max-entry-count=") (decimal most) (fixed (codes "--max-entry-count=") refl refl) (number_word most (small most MAX_ENTRY_LIMIT h.1 (lit< tt))).1
setting_is_word (Size most) h = behind_word (codes "--max-staging-file-size=") (decimal most) (fixed (codes "--max-staging-file-size=") refl refl) (number_word most (small most MAX_SIZE_LIMIT h.1 (lit< tt))).1

settings_are_words : (settings : List Setting) → AreSettings settings → AreWords (setting_words settings)
settings_are_words [] all = tt
settings_are_words (s ∷ settings) all = first (setting_word s) (setting_words settings) (setting_is_word s all.0) (settings_are_words settings all.1)

-- ---- lines

edit_is_words : (at : Target) (verb : List ℕ) (behind : List (List ℕ)) → IsTarget at → IsWord verb → AreWords behind → AreWords (edit_words at verb behind)
edit_is_words at verb behind h v rest =
    first (codes "edit") (at.root ∷ verb ∷ path_word at.path ∷ behind) (fixed (codes "edit") refl refl)
    (first at.root (verb ∷ path_word at.path ∷ behind) (root_word at.root h.0)
    (first verb (path_word at.path ∷ behind) v (first (path_word at.path) behind (path_is_word at.path h.1) rest)))

stream_is_words : (end : StreamEnd) (verb : List ℕ) (behind : List (List ℕ)) → IsEnd end → IsWord verb → AreWords behind → AreWords (stream_words end verb behind)
stream_is_words end verb behind h v rest =
    first (codes "conn") (session_word end.session ∷ verb ∷ decimal end.stream ∷ stream_side_word end.side ∷ behind) (fixed (codes "conn") refl refl)
    (first (session_word end.session) (verb ∷ decimal end.stream ∷ stream_side_word end.side ∷ behind) (session_is_word end.session h.0)
    (first verb (decimal end.stream ∷ stream_side_word end.side ∷ behind) v
    (first (decimal end.stream) (stream_side_word end.side ∷ behind) (number_word end.stream (small end.stream (2 ^ 32 - 1) h.1 (lit< tt)))
    (first (stream_side_word end.side) behind (side_is_word end.side) rest))))

one : (w : List ℕ) → IsWord w → AreWords (w ∷ [])
one w h = first w [] h tt

two : (w v : List ℕ) → IsWord w → IsWord v → AreWords (w ∷ v ∷ [])
two w v h k = first w (v ∷ []) h (one v k)

three : (w v u : List ℕ) → IsWord w → IsWord v → IsWord u → AreWords (w ∷ v ∷ u ∷ [])
three w v u h k l = first w (v ∷ u ∷ []) h (two v u k l)

label_is_words : (label : Option Label) → IfSome label IsLabel → AreWords (label_words label)
label_is_words None h = tt
label_is_words (Some label) h = one (setting_word (Labelled label)) (setting_is_word (Labelled label) h)

sync_order_is_word : (order : SyncOrder) → IsWord (sync_order_word order)
sync_order_is_word sync.Pause = fixed (codes "pause") refl refl
sync_order_is_word sync.Resume = fixed (codes "resume") refl refl
sync_order_is_word sync.Reset = fixed (codes "reset") refl refl
sync_order_is_word sync.Terminate = fixed (codes "terminate") refl refl

forward_order_is_word : (order : ForwardOrder) → IsWord (forward_order_word order)
forward_order_is_word forward.Pause = fixed (codes "pause") refl refl
forward_order_is_word forward.Resume = fixed (codes "resume") refl refl
forward_order_is_word forward.Terminate = fixed (codes "terminate") refl refl

request_words : (r : Request) → IsRequest r → IsKept r → AreWords (words_of r)
request_words (Put at bytes) h k = edit_is_words at (codes "put") (contents_word bytes ∷ []) h (fixed (codes "put") refl refl) (one (contents_word bytes) (contents_is_word bytes k))
request_words (Fill at len byte) h k = edit_is_words at (codes "fill") (decimal len ∷ byte_word byte ∷ []) h.0 (fixed (codes "fill") refl refl) (two (decimal len) (byte_word byte) (number_word len (small len _ h.1.1 (lit< tt))) (byte_is_word byte))
request_words (Link at text) h k = edit_is_words at (codes "link") (contents_word text ∷ []) h.0 (fixed (codes "link") refl refl) (one (contents_word text) (text_is_word text h.1))
request_words (Dir at) h k = edit_is_words at (codes "dir") [] h (fixed (codes "dir") refl refl) tt
request_words (Other at) h k = edit_is_words at (codes "other") [] h (fixed (codes "other") refl refl) tt
request_words (Exec at on) h k = edit_is_words at (codes "exec") (switch_word on ∷ []) h (fixed (codes "exec") refl refl) (one (switch_word on) (switch_is_word on))
request_words (Del at) h k = edit_is_words at (codes "del") [] h (fixed (codes "del") refl refl) tt
request_words (Show root) h k = two (codes "show") root (fixed (codes "show") refl refl) (root_word root h)
request_words (Ancestor session) h k = two (codes "ancestor") (session_word session) (fixed (codes "ancestor") refl refl) (session_is_word session h)
request_words (Step session count) h k = three (codes "step") (session_word session) (decimal count) (fixed (codes "step") refl refl) (session_is_word session h.0) (number_word count (small count _ h.1.1 (lit< tt)))
request_words (Until session phase) h k = three (codes "until") (session_word session) (phase_word phase) (fixed (codes "until") refl refl) (session_is_word session h) (phase_is_word phase)
request_words (SyncCreate create) h k =
    first (codes "sync") (codes "create" ∷ (setting_words (sync_settings create) ++ (create.alpha ∷ create.beta ∷ []))) (fixed (codes "sync") refl refl)
    (first (codes "create") (setting_words (sync_settings create) ++ (create.alpha ∷ create.beta ∷ [])) (fixed (codes "create") refl refl)
    (words_joined (setting_words (sync_settings create)) (create.alpha ∷ create.beta ∷ []) (settings_are_words (sync_settings create) (settings_are create k)) (two create.alpha create.beta (root_word create.alpha h.0) (root_word create.beta h.1))))
request_words (SyncList label) h k = first (codes "sync") (codes "list" ∷ label_words label) (fixed (codes "sync") refl refl) (first (codes "list") (label_words label) (fixed (codes "list") refl refl) (label_is_words label h))
request_words (SyncFlush session) h k = three (codes "sync") (codes "flush") (session_word session) (fixed (codes "sync") refl refl) (fixed (codes "flush") refl refl) (session_is_word session h)
request_words (SyncFlushSkipWait session) h k =
    first (codes "sync") (codes "flush" ∷ codes "--skip-wait" ∷ session_word session ∷ []) (fixed (codes "sync") refl refl)
    (three (codes "flush") (codes "--skip-wait") (session_word session) (fixed (codes "flush") refl refl) (fixed (codes "--skip-wait") refl refl) (session_is_word session h))
request_words (OrderSync order session) h k = three (codes "sync") (sync_order_word order) (session_word session) (fixed (codes "sync") refl refl) (sync_order_is_word order) (session_is_word session h)
request_words (SyncReport session) h k = three (codes "sync") (codes "report") (session_word session) (fixed (codes "sync") refl refl) (fixed (codes "report") refl refl) (session_is_word session h)
request_words (ForwardCreate create) h k =
    first (codes "forward") (codes "create" ∷ (setting_words (forward_settings create) ++ (create.source ∷ create.dest ∷ []))) (fixed (codes "forward") refl refl)
    (first (codes "create") (setting_words (forward_settings create) ++ (create.source ∷ create.dest ∷ [])) (fixed (codes "create") refl refl)
    (words_joined (setting_words (forward_settings create)) (create.source ∷ create.dest ∷ []) (settings_are_words (forward_settings create) (forward_are create k)) (two create.source create.dest (endpoint_is_word create.source h.0) (endpoint_is_word create.dest h.1))))
request_words ForwardList h k = two (codes "forward") (codes "list") (fixed (codes "forward") refl refl) (fixed (codes "list") refl refl)
request_words (OrderForward order session) h k = three (codes "forward") (forward_order_word order) (session_word session) (fixed (codes "forward") refl refl) (forward_order_is_word order) (session_is_word session h)
request_words (Open session) h k = three (codes "conn") (session_word session) (codes "open") (fixed (codes "conn") refl refl) (session_is_word session h) (fixed (codes "open") refl refl)
request_words (Write end bytes) h k = stream_is_words end (codes "write") (contents_word bytes ∷ []) h.0 (fixed (codes "write") refl refl) (one (contents_word bytes) (contents_is_word bytes k))
request_words (StreamFill end len byte) h k = stream_is_words end (codes "fill") (decimal len ∷ byte_word byte ∷ []) h.0 (fixed (codes "fill") refl refl) (two (decimal len) (byte_word byte) (number_word len (small len _ h.1.1 (lit< tt))) (byte_is_word byte))
request_words (Read end most) h k = stream_is_words end (codes "read") (decimal most ∷ []) h.0 (fixed (codes "read") refl refl) (one (decimal most) (number_word most (small most _ h.1.1 (lit< tt))))
request_words (CloseWrite end) h k = stream_is_words end (codes "close-write") [] h (fixed (codes "close-write") refl refl) tt
request_words (Close end) h k = stream_is_words end (codes "close") [] h (fixed (codes "close") refl refl) tt
request_words (Move session side count) h k =
    first (codes "conn") (session_word session ∷ codes "move" ∷ stream_side_word side ∷ decimal count ∷ []) (fixed (codes "conn") refl refl)
    (first (session_word session) (codes "move" ∷ stream_side_word side ∷ decimal count ∷ []) (session_is_word session h.0)
    (three (codes "move") (stream_side_word side) (decimal count) (fixed (codes "move") refl refl) (side_is_word side) (number_word count (small count (2 ^ 64 - 1) h.1 (lit< tt)))))
request_words (Cut session) h k = three (codes "conn") (session_word session) (codes "cut") (fixed (codes "conn") refl refl) (session_is_word session h) (fixed (codes "cut") refl refl)

client_is_words : (client : Option Client) → IfSome client IsClient → AreWords (client_words client)
client_is_words None h = tt
client_is_words (Some client) h = two (64 ∷ client.name) (decimal client.number) (omega arith, (lit< tt, (name_word client.name h.0).1)) (number_word client.number (small client.number (2 ^ 64 - 1) h.1.1 (lit< tt)))

-- ---- what they spell

spelled : (r : Request) → IsKept r → Spells r (words_of r)
spelled (Fill at len byte) k = (byte_word byte, byte_back byte k, refl)
spelled (StreamFill end len byte) k = (byte_word byte, byte_back byte k, refl)
spelled (SyncCreate create) k = (sync_settings create, gives_sync create k, refl)
spelled (ForwardCreate create) k = (forward_settings create, gives_forward create k, refl)
spelled (Put at bytes) k = refl
spelled (Link at text) k = refl
spelled (Dir at) k = refl
spelled (Other at) k = refl
spelled (Exec at on) k = refl
spelled (Del at) k = refl
spelled (Show root) k = refl
spelled (Ancestor session) k = refl
spelled (Step session count) k = refl
spelled (Until session phase) k = refl
spelled (SyncList label) k = refl
spelled (SyncFlush session) k = refl
spelled (SyncFlushSkipWait session) k = refl
spelled (OrderSync order session) k = refl
spelled (SyncReport session) k = refl
spelled ForwardList k = refl
spelled (OrderForward order session) k = refl
spelled (Open session) k = refl
spelled (Write end bytes) k = refl
spelled (Read end most) k = refl
spelled (CloseWrite end) k = refl
spelled (Close end) k = refl
spelled (Move session side count) k = refl
spelled (Cut session) k = refl

asks : (client : Option Client) (r : Request) → IfSome client IsClient → IsTrue (is_none client || may_name_client r) → MayAsk client r
asks None r h place = tt
asks (Some client) r h place = (h, place)

pub written_is_read : WrittenIsRead
written_is_read asked h place = record {
  words = ap (map (λ item. item.word)) (written_read Free (asked_words asked) are) ∙ words_placed 0 (asked_words asked);
  spells = record {
    request = h.request;
    client = asks asked.client asked.request h.client place;
    behind = words_of asked.request;
    is = refl;
    spells = spelled asked.request h.kept;
  };
}
  where
    are : AreWords (asked_words asked)
    are = words_joined (client_words asked.client) (words_of asked.request) (client_is_words asked.client h.client) (request_words asked.request h.request h.kept)
