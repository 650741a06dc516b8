-- The reader of a line: what it has read, and with which words it goes on. `proofs/Grammar.antt` says that it reads the grammar.
use Rattle.std.specs.Prelude.{◌≡◌, ◌⊎◌, ◌↔◌, ℕ, ◌≤◌, ◌<◌, ◌^◌, ◌-◌, Bool, true, false, cond, not, ◌&&◌, List, [], ◌∷◌, ◌++◌, length, codes, decimal, bytes_eq, Option, Some, None}
use Rattle.line_words.specs.Numbers.{byte_value}
use Rattle.command_words.specs.Contents.{contents_word}
use Rattle.command_words.specs.Endpoint.{IsEndpoint}
use Rattle.command_words.specs.Keywords.{phase_by, stream_side_by, switch_by}
use Rattle.command_words.specs.Label.{IsLabel, label_word}
use Rattle.command_words.specs.RootName.{IsRootName}
use Rattle.command_words.specs.Session.{IsSession, session_word}
use Rattle.command_words.specs.declared.label.Label.{Label}
use Rattle.command_words.specs.declared.session.SessionWord.{SessionWord}
use Rattle.command_words.specs.declared.stream_side.StreamSide.{StreamSide}
use Rattle.entry_tree.specs.PathWord.{path_word}
use Rattle.entry_tree.specs.Text.{IsText}
use Rattle.sync_path.specs.Path.{IsPath}
use Rattle.request_text.specs.Given.{forward_create, no_forward_options, no_sync_options, sync_create, with_forward_setting, with_setting}
use Rattle.request_text.specs.Settings.{IsSetting, setting_word}
use Rattle.request_text.specs.declared.limits.TheConstants.{MAX_FILL_LEN, MAX_READ, MAX_STEP_COUNT, MAX_STREAM_FILL_LEN}
use Rattle.request_text.specs.declared.options.ForwardOptions.{ForwardOptions}
use Rattle.request_text.specs.declared.options.SyncOptions.{SyncOptions}
use Rattle.request_text.specs.declared.order.ForwardOrder.TheVariants as forward_orders
use Rattle.request_text.specs.declared.order.SyncOrder.TheVariants as sync_orders
use Rattle.request_text.specs.declared.place.ConnVerb.{ConnVerb}
use Rattle.request_text.specs.declared.place.ConnVerb.TheVariants as conn
use Rattle.request_text.specs.declared.place.EditVerb.{EditVerb}
use Rattle.request_text.specs.declared.place.EditVerb.TheVariants as edit
use Rattle.request_text.specs.declared.place.First.{First}
use Rattle.request_text.specs.declared.place.First.TheVariants as first
use Rattle.request_text.specs.declared.place.ForwardVerb.{ForwardVerb}
use Rattle.request_text.specs.declared.place.ForwardVerb.TheVariants as forward
use Rattle.request_text.specs.declared.place.Place.{Place}
use Rattle.request_text.specs.declared.place.Place.TheVariants as at
use Rattle.request_text.specs.declared.place.StreamVerb.{StreamVerb}
use Rattle.request_text.specs.declared.place.StreamVerb.TheVariants as stream
use Rattle.request_text.specs.declared.place.SyncVerb.{SyncVerb}
use Rattle.request_text.specs.declared.place.SyncVerb.TheVariants as sync
use Rattle.request_text.specs.declared.request.Request.{Request}
use Rattle.request_text.specs.declared.request.Request.TheVariants as requests
use Rattle.request_text.specs.declared.setting.Setting.{Setting}

-- ---- tables of words

-- what a word stands for by a table
abbrev pub by : {V : Type 0} → List (List ℕ × V) → List ℕ → Option V
by [] word = None
by (row ∷ rows) word = cond (bytes_eq word row.0) (Some row.1) (by rows word)

abbrev pub first_words : List (List ℕ × First)
first_words = (codes "edit", first.Edit) ∷ (codes "show", first.Show) ∷ (codes "ancestor", first.Ancestor) ∷ (codes "step", first.Step) ∷ (codes "until", first.Until)
    ∷ (codes "sync", first.Sync) ∷ (codes "forward", first.Forward) ∷ (codes "conn", first.Conn) ∷ []

abbrev pub edit_verbs : List (List ℕ × EditVerb)
edit_verbs = (codes "put", edit.Put) ∷ (codes "fill", edit.Fill) ∷ (codes "link", edit.Link) ∷ (codes "dir", edit.Dir) ∷ (codes "other", edit.Other)
    ∷ (codes "exec", edit.Exec) ∷ (codes "del", edit.Del) ∷ []

abbrev pub sync_verbs : List (List ℕ × SyncVerb)
sync_verbs = (codes "create", sync.Create) ∷ (codes "list", sync.List) ∷ (codes "flush", sync.Flush) ∷ (codes "pause", sync.Order sync_orders.Pause)
    ∷ (codes "resume", sync.Order sync_orders.Resume) ∷ (codes "reset", sync.Order sync_orders.Reset) ∷ (codes "terminate", sync.Order sync_orders.Terminate)
    ∷ (codes "report", sync.Report) ∷ []

abbrev pub forward_verbs : List (List ℕ × ForwardVerb)
forward_verbs = (codes "create", forward.Create) ∷ (codes "list", forward.List) ∷ (codes "pause", forward.Order forward_orders.Pause)
    ∷ (codes "resume", forward.Order forward_orders.Resume) ∷ (codes "terminate", forward.Order forward_orders.Terminate) ∷ []

abbrev pub conn_verbs : List (List ℕ × ConnVerb)
conn_verbs = (codes "open", conn.Open) ∷ (codes "write", conn.Stream stream.Write) ∷ (codes "fill", conn.Stream stream.Fill) ∷ (codes "read", conn.Stream stream.Read)
    ∷ (codes "close-write", conn.Stream stream.CloseWrite) ∷ (codes "close", conn.Stream stream.Close) ∷ (codes "move", conn.Move) ∷ (codes "cut", conn.Cut) ∷ []

-- behind a client (`numbered`) only some lines go on

abbrev pub fits : {V : Type 0} → Bool → (V → Bool) → Option V → Option V
fits numbered may None = None
fits numbered may (Some v) = cond (numbered && not (may v)) None (Some v)

abbrev pub first_may : First → Bool
first_may first.Sync = true
first_may first.Forward = true
first_may v = false

abbrev pub sync_may : SyncVerb → Bool
sync_may sync.List = false
sync_may sync.Report = false
sync_may v = true

abbrev pub forward_may : ForwardVerb → Bool
forward_may forward.List = false
forward_may v = true

-- ---- where a word leads

-- the place that a value of the word leads to
pub record Via {V : Type 0} (Is : V → Type 0) (to : V → Place) (place : Place) : Type 0 where
  pub value : V
  pub is : Is value
  pub leads : place ≡ to value

abbrev pub IsRoot : List ℕ → List ℕ → Type 0
IsRoot word root = IsRootName root × (word ≡ root)

abbrev pub IsPathOf : List ℕ → List (List ℕ) → Type 0
IsPathOf word path = IsPath path × (word ≡ path_word path)

abbrev pub IsContents : List ℕ → List ℕ → Type 0
IsContents word bytes = word ≡ contents_word bytes

abbrev pub IsLink : List ℕ → List ℕ → Type 0
IsLink word text = IsText text × (word ≡ contents_word text)

abbrev pub IsStreamBytes : List ℕ → List ℕ → Type 0
IsStreamBytes word bytes = (0 < length bytes) × (word ≡ contents_word bytes)

abbrev pub IsNumber : ℕ → ℕ → List ℕ → ℕ → Type 0
IsNumber least most word n = (least ≤ n) × (n ≤ most) × (word ≡ decimal n)

abbrev pub IsNumberTo : ℕ → List ℕ → ℕ → Type 0
IsNumberTo most word n = (n ≤ most) × (word ≡ decimal n)

abbrev pub IsSessionOf : List ℕ → SessionWord → Type 0
IsSessionOf word session = IsSession session × (word ≡ session_word session)

abbrev pub IsEndpointOf : List ℕ → List ℕ → Type 0
IsEndpointOf word endpoint = IsEndpoint endpoint × (word ≡ endpoint)

abbrev pub IsSettingOf : List ℕ → Setting → Type 0
IsSettingOf word setting = IsSetting setting × (word ≡ setting_word setting)

-- the word stands for this by a table or a test
abbrev pub Gives : {V : Type 0} → Option V → V → Type 0
Gives found v = found ≡ Some v

-- where the verb of an edit leads, behind its path
abbrev pub edit_place : List ℕ → EditVerb → List (List ℕ) → Place
edit_place root edit.Put path = at.Put (record { root = root; path = path })
edit_place root edit.Fill path = at.Fill (record { root = root; path = path })
edit_place root edit.Link path = at.Link (record { root = root; path = path })
edit_place root edit.Dir path = at.Done (requests.Dir (record { root = root; path = path }))
edit_place root edit.Other path = at.Done (requests.Other (record { root = root; path = path }))
edit_place root edit.Exec path = at.Exec (record { root = root; path = path })
edit_place root edit.Del path = at.Done (requests.Del (record { root = root; path = path }))

abbrev pub sync_place : SyncVerb → Place
sync_place sync.Create = at.SyncCreate no_sync_options
sync_place sync.List = at.SyncList
sync_place sync.Flush = at.SyncFlush
sync_place (sync.Order order) = at.SyncOrder order
sync_place sync.Report = at.SyncReport

abbrev pub forward_place : ForwardVerb → Place
forward_place forward.Create = at.ForwardCreate no_forward_options
forward_place forward.List = at.Done requests.ForwardList
forward_place (forward.Order order) = at.ForwardOrder order

abbrev pub conn_place : SessionWord → ConnVerb → Place
conn_place session conn.Open = at.Done (requests.Open session)
conn_place session (conn.Stream verb) = at.Stream session verb
conn_place session conn.Move = at.Move session
conn_place session conn.Cut = at.Done (requests.Cut session)

abbrev pub stream_place : SessionWord → StreamVerb → ℕ → StreamSide → Place
stream_place session stream.Write number side = at.Write (record { session = session; stream = number; side = side })
stream_place session stream.Fill number side = at.StreamFill (record { session = session; stream = number; side = side })
stream_place session stream.Read number side = at.Read (record { session = session; stream = number; side = side })
stream_place session stream.CloseWrite number side = at.Done (requests.CloseWrite (record { session = session; stream = number; side = side }))
stream_place session stream.Close number side = at.Done (requests.Close (record { session = session; stream = number; side = side }))

-- an option of a line that creates a session, and what is given with it
pub record IsSyncOption (given : SyncOptions) (word : List ℕ) (more : SyncOptions) : Type 0 where
  pub setting : Setting
  pub is : IsSettingOf word setting
  pub taken : with_setting given setting ≡ Some more

pub record IsForwardOption (given : ForwardOptions) (word : List ℕ) (more : ForwardOptions) : Type 0 where
  pub setting : Setting
  pub is : IsSettingOf word setting
  pub taken : with_forward_setting given setting ≡ Some more

-- the label that the option of a list names
abbrev pub IsLabelOption : List ℕ → Label → Type 0
IsLabelOption word label = IsLabel label × (word ≡ codes "--label=" ++ label_word label)

-- behind what was read, with this word, the reader goes on here
abbrev pub Goes : Bool → Place → List ℕ → Place → Type 0
Goes numbered at.Begin word = Via (Gives (fits numbered first_may (by first_words word))) at.First
Goes numbered (at.First first.Edit) word = Via (IsRoot word) at.EditRoot
Goes numbered (at.First first.Show) word = Via (IsRoot word) (λ root. at.Done (requests.Show root))
Goes numbered (at.First first.Ancestor) word = Via (IsSessionOf word) (λ session. at.Done (requests.Ancestor session))
Goes numbered (at.First first.Step) word = Via (IsSessionOf word) at.Step
Goes numbered (at.First first.Until) word = Via (IsSessionOf word) at.Until
Goes numbered (at.First first.Sync) word = Via (Gives (fits numbered sync_may (by sync_verbs word))) sync_place
Goes numbered (at.First first.Forward) word = Via (Gives (fits numbered forward_may (by forward_verbs word))) forward_place
Goes numbered (at.First first.Conn) word = Via (IsSessionOf word) at.Conn
Goes numbered (at.EditRoot root) word = Via (Gives (by edit_verbs word)) (at.EditVerb root)
Goes numbered (at.EditVerb root verb) word = Via (IsPathOf word) (edit_place root verb)
Goes numbered (at.Put target) word = Via (IsContents word) (λ bytes. at.Done (requests.Put target bytes))
Goes numbered (at.Fill target) word = Via (IsNumber 0 MAX_FILL_LEN word) (at.FillLen target)
Goes numbered (at.FillLen target len) word = Via (Gives (byte_value word)) (λ byte. at.Done (requests.Fill target len byte))
Goes numbered (at.Link target) word = Via (IsLink word) (λ text. at.Done (requests.Link target text))
Goes numbered (at.Exec target) word = Via (Gives (switch_by word)) (λ on. at.Done (requests.Exec target on))
Goes numbered (at.Step session) word = Via (IsNumber 1 MAX_STEP_COUNT word) (λ count. at.Done (requests.Step session count))
Goes numbered (at.Until session) word = Via (Gives (phase_by word)) (λ phase. at.Done (requests.Until session phase))
Goes numbered (at.SyncCreate given) word = λ place. Via (IsSyncOption given word) at.SyncCreate place ⊎ Via (IsRoot word) (at.SyncAlpha given) place
Goes numbered (at.SyncAlpha given alpha) word = Via (IsRoot word) (λ beta. at.Done (requests.SyncCreate (sync_create given alpha beta)))
Goes numbered at.SyncList word = Via (IsLabelOption word) (λ label. at.Done (requests.SyncList (Some label)))
Goes numbered at.SyncFlush word = λ place. ((word ≡ codes "--skip-wait") × (place ≡ at.SyncFlushSkipWait)) ⊎ Via (IsSessionOf word) (λ session. at.Done (requests.SyncFlush session)) place
Goes numbered at.SyncFlushSkipWait word = Via (IsSessionOf word) (λ session. at.Done (requests.SyncFlushSkipWait session))
Goes numbered (at.SyncOrder order) word = Via (IsSessionOf word) (λ session. at.Done (requests.SyncOrder order session))
Goes numbered at.SyncReport word = Via (IsSessionOf word) (λ session. at.Done (requests.SyncReport session))
Goes numbered (at.ForwardCreate given) word = λ place. Via (IsForwardOption given word) at.ForwardCreate place ⊎ Via (IsEndpointOf word) (at.ForwardSource given) place
Goes numbered (at.ForwardSource given source) word = Via (IsEndpointOf word) (λ dest. at.Done (requests.ForwardCreate (forward_create given source dest)))
Goes numbered (at.ForwardOrder order) word = Via (IsSessionOf word) (λ session. at.Done (requests.ForwardOrder order session))
Goes numbered (at.Conn session) word = Via (Gives (by conn_verbs word)) (conn_place session)
Goes numbered (at.Stream session verb) word = Via (IsNumberTo (2 ^ 32 - 1) word) (at.StreamNumber session verb)
Goes numbered (at.StreamNumber session verb number) word = Via (Gives (stream_side_by word)) (stream_place session verb number)
Goes numbered (at.Write end) word = Via (IsStreamBytes word) (λ bytes. at.Done (requests.Write end bytes))
Goes numbered (at.StreamFill end) word = Via (IsNumber 1 MAX_STREAM_FILL_LEN word) (at.StreamFillLen end)
Goes numbered (at.StreamFillLen end len) word = Via (Gives (byte_value word)) (λ byte. at.Done (requests.StreamFill end len byte))
Goes numbered (at.Read end) word = Via (IsNumber 1 MAX_READ word) (λ most. at.Done (requests.Read end most))
Goes numbered (at.Move session) word = Via (Gives (stream_side_by word)) (at.MoveSide session)
Goes numbered (at.MoveSide session side) word = Via (IsNumberTo (2 ^ 64 - 1) word) (λ count. at.Done (requests.Move session side count))
Goes numbered (at.Done request) word = λ place. ⊥

-- what a step of the reader finds of the word that stands here
abbrev pub Steps : (Place → Type 0) → Option Place → Type 0
Steps Goes found = (place : Place) → (found ≡ Some place) ↔ Goes place

-- a whole request was read
abbrev pub Ends : Place → Request → Type 0
Ends (at.Done request) asked = asked ≡ request
Ends at.SyncList asked = asked ≡ requests.SyncList None
Ends place asked = ⊥
