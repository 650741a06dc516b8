-- The kinds of messages and their bytes.
use Rattle.std.specs.Prelude.{ℕ, List, [], ◌∷◌, Option, Some, None, ◌==◌, cond}
use Rattle.agent_proto.specs.declared.wire.TheConstants.{KIND_LIST, KIND_FETCH, KIND_STAGE_CLEAR, KIND_STAGE_OPEN, KIND_STAGE_APPEND, KIND_STAGE_KEEP, KIND_PLACE, KIND_MAKE_DIR, KIND_MAKE_LINK, KIND_REMOVE, KIND_SET_EXEC, KIND_LISTED, KIND_HELD, KIND_PIECE, KIND_CHANGED, KIND_TOO_LARGE, KIND_CLEARED, KIND_OPENED, KIND_NOT_STAGED, KIND_KEPT, KIND_DIGEST_DIFFERS, KIND_DONE, KIND_NO_PARENT, KIND_DIFFERS, KIND_NOT_EMPTY, KIND_NO_EXEC, KIND_FULL, KIND_FAILED, KIND_NO_MEMORY, KIND_TOO_LONG, KIND_NO_LINK}
use Rattle.agent_proto.specs.declared.kind.Request.{Request}
use Rattle.agent_proto.specs.declared.kind.Request.TheVariants as requests
use Rattle.agent_proto.specs.declared.kind.Reply.{Reply}
use Rattle.agent_proto.specs.declared.kind.Reply.TheVariants as replies

-- the kind of a byte by a table of bytes and kinds
abbrev pub kind_by : {K : Type 0} → List (ℕ × K) → ℕ → Option K
kind_by [] byte = None
kind_by (row ∷ rows) byte = cond (byte == row.0) (Some row.1) (kind_by rows byte)

-- the requests and their bytes
abbrev pub request_table : List (ℕ × Request)
request_table =
    (KIND_LIST, requests.List) ∷
    (KIND_FETCH, requests.Fetch) ∷
    (KIND_STAGE_CLEAR, requests.StageClear) ∷
    (KIND_STAGE_OPEN, requests.StageOpen) ∷
    (KIND_STAGE_APPEND, requests.StageAppend) ∷
    (KIND_STAGE_KEEP, requests.StageKeep) ∷
    (KIND_PLACE, requests.Place) ∷
    (KIND_MAKE_DIR, requests.MakeDir) ∷
    (KIND_MAKE_LINK, requests.MakeLink) ∷
    (KIND_REMOVE, requests.Remove) ∷
    (KIND_SET_EXEC, requests.SetExec) ∷
    []

-- a request of a byte
abbrev pub request_of : ℕ → Option Request
request_of byte = kind_by request_table byte

-- the byte of a request
abbrev pub request_code : Request → ℕ
request_code requests.List = KIND_LIST
request_code requests.Fetch = KIND_FETCH
request_code requests.StageClear = KIND_STAGE_CLEAR
request_code requests.StageOpen = KIND_STAGE_OPEN
request_code requests.StageAppend = KIND_STAGE_APPEND
request_code requests.StageKeep = KIND_STAGE_KEEP
request_code requests.Place = KIND_PLACE
request_code requests.MakeDir = KIND_MAKE_DIR
request_code requests.MakeLink = KIND_MAKE_LINK
request_code requests.Remove = KIND_REMOVE
request_code requests.SetExec = KIND_SET_EXEC

-- the answers and their bytes
abbrev pub reply_table : List (ℕ × Reply)
reply_table =
    (KIND_LISTED, replies.Listed) ∷
    (KIND_HELD, replies.Held) ∷
    (KIND_PIECE, replies.Piece) ∷
    (KIND_CHANGED, replies.Changed) ∷
    (KIND_TOO_LARGE, replies.TooLarge) ∷
    (KIND_CLEARED, replies.Cleared) ∷
    (KIND_OPENED, replies.Opened) ∷
    (KIND_NOT_STAGED, replies.NotStaged) ∷
    (KIND_KEPT, replies.Kept) ∷
    (KIND_DIGEST_DIFFERS, replies.DigestDiffers) ∷
    (KIND_DONE, replies.Done) ∷
    (KIND_NO_PARENT, replies.NoParent) ∷
    (KIND_DIFFERS, replies.Differs) ∷
    (KIND_NOT_EMPTY, replies.NotEmpty) ∷
    (KIND_NO_EXEC, replies.NoExec) ∷
    (KIND_FULL, replies.Full) ∷
    (KIND_FAILED, replies.Failed) ∷
    (KIND_NO_MEMORY, replies.NoMemory) ∷
    (KIND_TOO_LONG, replies.TooLong) ∷
    (KIND_NO_LINK, replies.NoLink) ∷
    []

-- an answer of a byte
abbrev pub reply_of : ℕ → Option Reply
reply_of byte = kind_by reply_table byte

-- the byte of an answer
abbrev pub reply_code : Reply → ℕ
reply_code replies.Listed = KIND_LISTED
reply_code replies.Held = KIND_HELD
reply_code replies.Piece = KIND_PIECE
reply_code replies.Changed = KIND_CHANGED
reply_code replies.TooLarge = KIND_TOO_LARGE
reply_code replies.Cleared = KIND_CLEARED
reply_code replies.Opened = KIND_OPENED
reply_code replies.NotStaged = KIND_NOT_STAGED
reply_code replies.Kept = KIND_KEPT
reply_code replies.DigestDiffers = KIND_DIGEST_DIFFERS
reply_code replies.Done = KIND_DONE
reply_code replies.NoParent = KIND_NO_PARENT
reply_code replies.Differs = KIND_DIFFERS
reply_code replies.NotEmpty = KIND_NOT_EMPTY
reply_code replies.NoExec = KIND_NO_EXEC
reply_code replies.Full = KIND_FULL
reply_code replies.Failed = KIND_FAILED
reply_code replies.NoMemory = KIND_NO_MEMORY
reply_code replies.TooLong = KIND_TOO_LONG
reply_code replies.NoLink = KIND_NO_LINK
