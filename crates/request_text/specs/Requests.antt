-- What the types of a request keep: only what a line can spell.
use Rattle.std.specs.Prelude.{ℕ, ◌<◌, ◌≤◌, ◌-◌, ◌^◌, length, IfSome}
use Rattle.command_words.specs.Endpoint.{IsEndpoint}
use Rattle.command_words.specs.GivenName.{IsGivenName}
use Rattle.command_words.specs.Label.{IsLabel}
use Rattle.command_words.specs.RootName.{IsRootName}
use Rattle.command_words.specs.Session.{IsSession}
use Rattle.command_words.specs.declared.client.Client.{Client}
use Rattle.entry_tree.specs.Text.{IsText}
use Rattle.sync_path.specs.Path.{IsPath}
use Rattle.request_text.specs.declared.limits.TheConstants.{MAX_FILL_LEN, MAX_READ, MAX_STEP_COUNT, MAX_STREAM_FILL_LEN}
use Rattle.request_text.specs.declared.request.Request.{Request}
use Rattle.request_text.specs.declared.request.Request.TheVariants.{Put, Fill, Link, Dir, Other, Exec, Del, Show, Ancestor, Step, Until, SyncCreate, SyncList, SyncFlush, SyncFlushSkipWait, SyncOrder, SyncReport, ForwardCreate, ForwardList, ForwardOrder, Open, Write, StreamFill, Read, CloseWrite, Close, Move, Cut}
use Rattle.request_text.specs.declared.stream_end.StreamEnd.{StreamEnd}
use Rattle.request_text.specs.declared.target.Target.{Target}

-- a number from `least` to `most`
abbrev pub IsWithin : ℕ → ℕ → ℕ → Type 0
IsWithin least most n = (least ≤ n) × (n ≤ most)

abbrev pub IsTarget : Target → Type 0
IsTarget at = IsRootName at.root × IsPath at.path

abbrev pub IsEnd : StreamEnd → Type 0
IsEnd end = IsSession end.session × (end.stream ≤ 2 ^ 32 - 1)

abbrev pub IsClient : Client → Type 0
IsClient client = IsGivenName client.name × IsWithin 1 (2 ^ 64 - 1) client.number

-- What the options of a new session keep is said where they are given (`specs/Given.antt`).
abbrev pub IsRequest : Request → Type 0
IsRequest (Put at bytes) = IsTarget at
IsRequest (Fill at len byte) = IsTarget at × IsWithin 0 MAX_FILL_LEN len
IsRequest (Link at text) = IsTarget at × IsText text
IsRequest (Dir at) = IsTarget at
IsRequest (Other at) = IsTarget at
IsRequest (Exec at on) = IsTarget at
IsRequest (Del at) = IsTarget at
IsRequest (Show root) = IsRootName root
IsRequest (Ancestor session) = IsSession session
IsRequest (Step session count) = IsSession session × IsWithin 1 MAX_STEP_COUNT count
IsRequest (Until session phase) = IsSession session
IsRequest (SyncCreate create) = IsRootName create.alpha × IsRootName create.beta
IsRequest (SyncList label) = IfSome label IsLabel
IsRequest (SyncFlush session) = IsSession session
IsRequest (SyncFlushSkipWait session) = IsSession session
IsRequest (SyncOrder order session) = IsSession session
IsRequest (SyncReport session) = IsSession session
IsRequest (ForwardCreate create) = IsEndpoint create.source × IsEndpoint create.dest
IsRequest ForwardList = Unit {0}
IsRequest (ForwardOrder order session) = IsSession session
IsRequest (Open session) = IsSession session
IsRequest (Write end bytes) = IsEnd end × (0 < length bytes)
IsRequest (StreamFill end len byte) = IsEnd end × IsWithin 1 MAX_STREAM_FILL_LEN len
IsRequest (Read end most) = IsEnd end × IsWithin 1 MAX_READ most
IsRequest (CloseWrite end) = IsEnd end
IsRequest (Close end) = IsEnd end
IsRequest (Move session side count) = IsSession session × (count ≤ 2 ^ 64 - 1)
IsRequest (Cut session) = IsSession session
