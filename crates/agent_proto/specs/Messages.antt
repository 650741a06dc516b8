-- The messages: the table of kinds and fields, and what a message's fields may be.
use Rattle.std.specs.Prelude.{ℕ, ◌^◌, ◌<◌, ◌≤◌, Bool, true, List, [], ◌∷◌, ◌++◌, length, Option, Some, None, IsTrue, ⊤}
use Rattle.std.specs.List.{AllByRecursion}
use Rattle.sync_path.specs.Path.{IsPath}
use Rattle.sync_path.specs.Name.{IsName}
use Rattle.entry_tree.specs.Digest.{IsDigest}
use Rattle.entry_tree.specs.Text.{IsText}
use Rattle.entry_tree.specs.Entry.{is_tracked}
use Rattle.entry_tree.specs.declared.entry.Entry.{Entry}
use Rattle.entry_tree.specs.declared.entry.Entry.TheVariants as entry
use Rattle.entry_tree.specs.declared.entry.Stamp.{Stamp}
use Rattle.roots_api.specs.Expected.{is_leaf, is_file}
use Rattle.roots_api.specs.declared.answer.Answer.{Answer}
use Rattle.roots_api.specs.declared.answer.Answer.TheVariants as answers
use Rattle.roots_api.specs.declared.limits.TheConstants.{MAX_PIECE}
use Rattle.roots_api.specs.declared.op.Op.{Op}
use Rattle.roots_api.specs.declared.op.Op.TheVariants as ops
use Rattle.roots_api.specs.declared.who.Who.{Who}
use Rattle.roots_api.specs.declared.who.Who.TheVariants.{Editor, Session}
use Rattle.agent_proto.specs.declared.limits.TheConstants.{MAX_MESSAGE}
use Rattle.agent_proto.specs.declared.message.Message.{Message}
use Rattle.agent_proto.specs.declared.message.Message.TheVariants.{Ask, Answer as Told, NoMemory, TooLong}
use Rattle.agent_proto.specs.declared.wire.TheConstants.{KIND_LIST, KIND_FETCH, KIND_STAGE_CLEAR, KIND_STAGE_OPEN, KIND_STAGE_APPEND, KIND_STAGE_KEEP, KIND_PLACE, KIND_MAKE_DIR, KIND_MAKE_LINK, KIND_REMOVE, KIND_SET_EXEC, KIND_LISTED, KIND_HELD, KIND_PIECE, KIND_CHANGED, KIND_TOO_LARGE, KIND_CLEARED, KIND_OPENED, KIND_NOT_STAGED, KIND_KEPT, KIND_DIGEST_DIFFERS, KIND_DONE, KIND_NO_PARENT, KIND_DIFFERS, KIND_NOT_EMPTY, KIND_NO_EXEC, KIND_FULL, KIND_FAILED, KIND_NO_MEMORY, KIND_TOO_LONG, KIND_NO_LINK}
use Rattle.agent_proto.specs.Fields.{number_field, bit_field, text_field, path_field, bytes_field, stamp_field, found_field, done_field, rows_field}

-- ---- the table

-- who asks: the session's identifier, the run and the cycle
abbrev pub who_field : Who → List ℕ
who_field Editor = []
who_field (Session id run cycle) = number_field 16 id ++ (number_field 4 run ++ number_field 8 cycle)

-- the kind of a request
abbrev pub op_kind : Op → ℕ
op_kind (ops.List path) = KIND_LIST
op_kind (ops.Fetch path stamp offset) = KIND_FETCH
op_kind ops.StageClear = KIND_STAGE_CLEAR
op_kind ops.StageOpen = KIND_STAGE_OPEN
op_kind (ops.StageAppend bytes) = KIND_STAGE_APPEND
op_kind (ops.StageKeep digest) = KIND_STAGE_KEEP
op_kind (ops.Place path digest exec expected) = KIND_PLACE
op_kind (ops.MakeDir path) = KIND_MAKE_DIR
op_kind (ops.MakeLink path text expected) = KIND_MAKE_LINK
op_kind (ops.Remove path expected) = KIND_REMOVE
op_kind (ops.SetExec path expected on) = KIND_SET_EXEC

-- the fields of a request, behind its kind and who asks
abbrev pub op_fields : Op → List ℕ
op_fields (ops.List path) = path_field path
op_fields (ops.Fetch path stamp offset) = path_field path ++ (stamp_field stamp ++ number_field 8 offset)
op_fields ops.StageClear = []
op_fields ops.StageOpen = []
op_fields (ops.StageAppend bytes) = bytes_field bytes
op_fields (ops.StageKeep digest) = digest
op_fields (ops.Place path digest exec expected) = path_field path ++ (digest ++ (bit_field exec ++ found_field expected))
op_fields (ops.MakeDir path) = path_field path
op_fields (ops.MakeLink path text expected) = path_field path ++ (text_field text ++ found_field expected)
op_fields (ops.Remove path expected) = path_field path ++ found_field (Some expected)
op_fields (ops.SetExec path expected on) = path_field path ++ (found_field (Some expected) ++ bit_field on)

-- the kind of an answer
abbrev pub answer_kind : Answer (List ℕ) → ℕ
answer_kind (answers.Listed rows) = KIND_LISTED
answer_kind (answers.Held found) = KIND_HELD
answer_kind (answers.Piece bytes last) = KIND_PIECE
answer_kind (answers.Changed found) = KIND_CHANGED
answer_kind (answers.TooLarge bytes) = KIND_TOO_LARGE
answer_kind answers.Cleared = KIND_CLEARED
answer_kind answers.Opened = KIND_OPENED
answer_kind answers.NotStaged = KIND_NOT_STAGED
answer_kind answers.Kept = KIND_KEPT
answer_kind (answers.DigestDiffers wanted got) = KIND_DIGEST_DIFFERS
answer_kind (answers.Done stamp) = KIND_DONE
answer_kind (answers.NoParent found) = KIND_NO_PARENT
answer_kind (answers.Differs found) = KIND_DIFFERS
answer_kind answers.NotEmpty = KIND_NOT_EMPTY
answer_kind answers.NoExec = KIND_NO_EXEC
answer_kind (answers.Full room) = KIND_FULL
answer_kind answers.Failed = KIND_FAILED
answer_kind answers.NoLink = KIND_NO_LINK

-- the fields of an answer, behind its kind
abbrev pub answer_fields : Answer (List ℕ) → List ℕ
answer_fields (answers.Listed rows) = rows_field rows
answer_fields (answers.Held found) = found_field found
answer_fields (answers.Piece bytes last) = bytes_field bytes ++ bit_field last
answer_fields (answers.Changed found) = found_field found
answer_fields (answers.TooLarge bytes) = number_field 8 bytes
answer_fields (answers.DigestDiffers wanted got) = wanted ++ got
answer_fields (answers.Done stamp) = done_field stamp
answer_fields (answers.NoParent found) = found_field found
answer_fields (answers.Differs found) = found_field found
answer_fields (answers.Full room) = number_field 8 room.log ++ number_field 8 room.bytes
answer_fields answer = []

-- what stands behind a message's length: its kind and its fields
abbrev pub body : Message → List ℕ
body (Ask who op) = op_kind op ∷ (who_field who ++ op_fields op)
body (Told answer) = answer_kind answer ∷ answer_fields answer
body NoMemory = KIND_NO_MEMORY ∷ []
body (TooLong length) = KIND_TOO_LONG ∷ number_field 8 length

-- the bytes of a message: the length of what follows in four bytes, and that
abbrev pub spelling : Message → List ℕ
spelling message = number_field 4 (length (body message)) ++ body message

-- ---- what the fields may be

abbrev pub IsStamp : Stamp → Type 0
IsStamp stamp = stamp.0 < 2 ^ 128

abbrev pub IsStampIfAny : Option Stamp → Type 0
IsStampIfAny None = ⊤
IsStampIfAny (Some stamp) = IsStamp stamp

-- an entry: the stamp of a file has sixteen bytes, and the text of a link is one
abbrev pub IsEntry : Entry → Type 0
IsEntry entry.Dir = ⊤
IsEntry (entry.File stamp exec) = IsStamp stamp
IsEntry (entry.Link text) = IsText text
IsEntry entry.Other = ⊤

abbrev pub IsFound : Option Entry → Type 0
IsFound None = ⊤
IsFound (Some found) = IsEntry found

-- whether this can be expected where a file or a link is put: nothing, a file or a link
abbrev pub may_be_replaced : Option Entry → Bool
may_be_replaced None = true
may_be_replaced (Some expected) = is_leaf expected

-- who asks is a session
abbrev pub IsAsking : Who → Type 0
IsAsking Editor = ⊥
IsAsking (Session id run cycle) = (id < 2 ^ 128) × ((run < 2 ^ 32) × (cycle < 2 ^ 64))

-- an operation that can be asked
abbrev pub IsOp : Op → Type 0
IsOp (ops.List path) = IsPath path
IsOp (ops.Fetch path stamp offset) = IsPath path × (IsStamp stamp × (offset < 2 ^ 64))
IsOp ops.StageClear = ⊤
IsOp ops.StageOpen = ⊤
IsOp (ops.StageAppend bytes) = length bytes < 2 ^ 32
IsOp (ops.StageKeep digest) = IsDigest digest
IsOp (ops.Place path digest exec expected) = IsPath path × (IsDigest digest × (IsFound expected × IsTrue (may_be_replaced expected)))
IsOp (ops.MakeDir path) = IsPath path
IsOp (ops.MakeLink path text expected) = IsPath path × (IsText text × (IsFound expected × IsTrue (may_be_replaced expected)))
IsOp (ops.Remove path expected) = IsPath path × (IsEntry expected × IsTrue (is_tracked expected))
IsOp (ops.SetExec path expected on) = IsPath path × (IsEntry expected × IsTrue (is_file expected))

-- a row: its name is one, and so is its entry
abbrev pub IsRow : List ℕ × Entry → Type 0
IsRow row = IsName row.0 × IsEntry row.1

-- a piece has at most 65,536 bytes
abbrev pub IsTellable : Answer (List ℕ) → Type 0
IsTellable (answers.Piece bytes last) = length bytes ≤ MAX_PIECE
IsTellable answer = ⊤

-- an answer that can be told
abbrev pub IsAnswer : Answer (List ℕ) → Type 0
IsAnswer (answers.Listed rows) = AllByRecursion IsRow rows × (length rows < 2 ^ 32)
IsAnswer (answers.Held found) = IsFound found
IsAnswer (answers.Piece bytes last) = length bytes ≤ MAX_PIECE
IsAnswer (answers.Changed found) = IsFound found
IsAnswer (answers.TooLarge bytes) = bytes < 2 ^ 64
IsAnswer (answers.DigestDiffers wanted got) = IsDigest wanted × IsDigest got
IsAnswer (answers.Done stamp) = IsStampIfAny stamp
IsAnswer (answers.NoParent found) = IsFound found
IsAnswer (answers.Differs found) = IsFound found
IsAnswer (answers.Full room) = (room.log < 2 ^ 64) × (room.bytes < 2 ^ 64)
IsAnswer answer = ⊤

-- a message whose fields may be so
abbrev pub HasFields : Message → Type 0
HasFields (Ask who op) = IsAsking who × IsOp op
HasFields (Told answer) = IsAnswer answer
HasFields NoMemory = ⊤
HasFields (TooLong length) = length < 2 ^ 64

-- and that isn't too long either
pub record IsMessage (message : Message) : Type 0 where
  pub fields : HasFields message
  pub fits : length (body message) ≤ MAX_MESSAGE
