-- What the types of a request keep of it, beside what a line can spell.
use Rattle.std.specs.Prelude.{ℕ, ◌<◌, ◌≤◌, IsTrue, List, IfSome}
use Rattle.std.specs.List.{AllByRecursion}
use Rattle.std.specs.Str.{is_utf8}
use Rattle.line_words.specs.Lines.{AreBytes}
use Rattle.command_words.specs.GivenName.{IsGivenName}
use Rattle.command_words.specs.Label.{IsLabel}
use Rattle.command_words.specs.Labels.{AreLabels}
use Rattle.request_text.specs.Patterns.{ArePatterns}
use Rattle.request_text.specs.Requests.{IsClient, IsRequest}
use Rattle.request_text.specs.declared.asked.Asked.{Asked}
use Rattle.request_text.specs.declared.create.SyncCreate.{SyncCreate}
use Rattle.request_text.specs.declared.limits.TheConstants.{MAX_ENTRY_LIMIT, MAX_SIZE_LIMIT}
use Rattle.request_text.specs.declared.request.Request.{Request}
use Rattle.request_text.specs.declared.request.Request.TheVariants.{Put, Fill, SyncCreate as CreateSync, ForwardCreate as CreateForward, Write, StreamFill}

-- a text in UTF-8
abbrev pub IsPatternText : List ℕ → Type 0
IsPatternText text = IsTrue (is_utf8 text)

-- a new session has a name that is one, labels in order of their keys, patterns, and limits within their bounds
pub record IsCreated (create : SyncCreate) : Type 0 where
  pub name : IfSome create.name IsGivenName
  pub each_label : AllByRecursion IsLabel create.labels
  pub labels : AreLabels create.labels
  pub each_pattern : AllByRecursion IsPatternText create.ignores
  pub patterns : ArePatterns create.ignores
  pub some_entries : 1 ≤ create.entries
  pub entries : create.entries ≤ MAX_ENTRY_LIMIT
  pub some_size : 1 ≤ create.size
  pub size : create.size ≤ MAX_SIZE_LIMIT

-- bytes are bytes, and a new session is made of what it can be made of
abbrev pub IsKept : Request → Type 0
IsKept (Put at bytes) = AreBytes bytes
IsKept (Fill at len byte) = byte < 256
IsKept (CreateSync create) = IsCreated create
IsKept (CreateForward create) = IfSome create.name IsGivenName
IsKept (Write end bytes) = AreBytes bytes
IsKept (StreamFill end len byte) = byte < 256
IsKept request = Unit {0}

-- what the types keep of a request and its client
pub record IsHeld (asked : Asked) : Type 0 where
  pub request : IsRequest asked.request
  pub kept : IsKept asked.request
  pub client : IfSome asked.client IsClient
