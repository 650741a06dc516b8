-- What stands at the front of some bytes: a field's value and the bytes behind it, or none where no such field stands there.
use Rattle.std.specs.Prelude.{◌≡◌, ℕ, zero, suc, Bool, true, false, cond, ◌&&◌, ◌==◌, List, [], ◌∷◌, length, take, drop, nat_le, Option, Some, None}
use Rattle.std.specs.List.{list_all}
use Rattle.std.specs.Option.{option_map, option_and_then}
use Rattle.mux_frames.specs.Numbers.{value}
use Rattle.sync_path.specs.Name.{is_name}
use Rattle.sync_path.specs.Path.{path_text}
use Rattle.sync_path.specs.PathText.{parts_of}
use Rattle.sync_path.specs.declared.limits.TheConstants.{MAX_DEPTH, MAX_PATH_LEN}
use Rattle.entry_tree.specs.Text.{is_text}
use Rattle.entry_tree.specs.Entry.{is_tracked}
use Rattle.entry_tree.specs.declared.entry.Entry.{Entry}
use Rattle.entry_tree.specs.declared.entry.Entry.TheVariants.{Dir, File, Link, Other}
use Rattle.entry_tree.specs.declared.entry.Stamp.{Stamp}
use Rattle.roots_api.specs.Expected.{is_file}
use Rattle.roots_api.specs.declared.answer.Answer.TheVariants as answers
use Rattle.roots_api.specs.declared.limits.TheConstants.{MAX_PIECE}
use Rattle.roots_api.specs.declared.op.Op.{Op}
use Rattle.roots_api.specs.declared.op.Op.TheVariants as ops
use Rattle.roots_api.specs.declared.who.Who.{Who}
use Rattle.roots_api.specs.declared.who.Who.TheVariants.{Session}
use Rattle.agent_proto.specs.Messages.{may_be_replaced}
use Rattle.agent_proto.specs.Kinds.{request_of, reply_of}
use Rattle.agent_proto.specs.declared.kind.Reply.{Reply}
use Rattle.agent_proto.specs.declared.kind.Reply.TheVariants as replies
use Rattle.agent_proto.specs.declared.kind.Request.{Request}
use Rattle.agent_proto.specs.declared.kind.Request.TheVariants as requests
use Rattle.agent_proto.specs.declared.message.Message.{Message}
use Rattle.agent_proto.specs.declared.message.Message.TheVariants as messages

-- ---- putting readers together

-- the value made into another
abbrev pub mapped : {V W : Type 0} → (V → W) → Option (V × List ℕ) → Option (W × List ℕ)
mapped f read = option_map (λ p. (f p.0, p.1)) read

-- the value made into another, where that is one
abbrev pub made : {V W : Type 0} → (V → Option W) → Option (V × List ℕ) → Option (W × List ℕ)
made f read = option_and_then (λ p. option_map (λ w. (w, p.1)) (f p.0)) read

-- one field, and another behind it
abbrev pub both : {V W : Type 0} → (List ℕ → Option (V × List ℕ)) → (List ℕ → Option (W × List ℕ)) → List ℕ → Option ((V × W) × List ℕ)
both first second bytes = option_and_then (λ p. option_map (λ q. ((p.0, q.0), q.1)) (second p.1)) (first bytes)

-- what a reader that moves on has answered: the field's value, and it stands behind it, or none where there is no such field
abbrev pub Took : {V : Type 0} → (List ℕ → Option (V × List ℕ)) → List ℕ → Option V → List ℕ → Type 0
Took read old None new = read old ≡ None
Took read old (Some v) new = read old ≡ Some (v, new)

-- ---- fields

-- one byte
abbrev pub byte_in : List ℕ → Option (ℕ × List ℕ)
byte_in [] = None
byte_in (b ∷ bytes) = Some (b, bytes)

-- so many bytes
abbrev pub front_in : ℕ → List ℕ → Option (List ℕ × List ℕ)
front_in size bytes = cond (nat_le size (length bytes)) (Some (take size bytes, drop size bytes)) None

-- a number of so many bytes
abbrev pub number_in : ℕ → List ℕ → Option (ℕ × List ℕ)
number_in width bytes = mapped value (front_in width bytes)

-- as many bytes as the number before them says
abbrev pub sized_in : ℕ → List ℕ → Option (List ℕ × List ℕ)
sized_in width bytes = option_and_then (λ p. front_in p.0 p.1) (number_in width bytes)

abbrev pub bit_of : ℕ → Option Bool
bit_of b = cond (b == 0) (Some false) (cond (b == 1) (Some true) None)

abbrev pub bit_in : List ℕ → Option (Bool × List ℕ)
bit_in bytes = made bit_of (byte_in bytes)

abbrev pub stamp_of : ℕ → Stamp
stamp_of n = record { 0 = n }

abbrev pub stamp_in : List ℕ → Option (Stamp × List ℕ)
stamp_in bytes = mapped stamp_of (number_in 16 bytes)

-- whether names make a path
abbrev pub is_path : List (List ℕ) → Bool
is_path names = list_all is_name names && (nat_le (length names) MAX_DEPTH && nat_le (length (path_text names)) MAX_PATH_LEN)

abbrev pub path_by : List ℕ → Option (List (List ℕ))
path_by text = cond (is_path (parts_of text)) (Some (parts_of text)) None

abbrev pub name_by : List ℕ → Option (List ℕ)
name_by text = cond (is_name text) (Some text) None

abbrev pub text_by : List ℕ → Option (List ℕ)
text_by text = cond (is_text text) (Some text) None

abbrev pub path_in : List ℕ → Option (List (List ℕ) × List ℕ)
path_in bytes = made path_by (sized_in 2 bytes)

abbrev pub name_in : List ℕ → Option (List ℕ × List ℕ)
name_in bytes = made name_by (sized_in 2 bytes)

abbrev pub text_in : List ℕ → Option (List ℕ × List ℕ)
text_in bytes = made text_by (sized_in 2 bytes)

-- what stands at a path, behind the byte that says which it is
abbrev pub found_by : ℕ → List ℕ → Option (Option Entry × List ℕ)
found_by b bytes =
    cond (b == 0) (Some (None, bytes)) (cond (b == 1) (Some (Some Dir, bytes))
    (cond (b == 2) (mapped (λ file. Some (File file.0 file.1)) (both stamp_in bit_in bytes))
    (cond (b == 3) (mapped (λ text. Some (Link text)) (text_in bytes))
    (cond (b == 4) (Some (Some Other, bytes)) None))))

abbrev pub found_in : List ℕ → Option (Option Entry × List ℕ)
found_in bytes = option_and_then (λ p. found_by p.0 p.1) (byte_in bytes)

-- an entry that is there and passes the test
abbrev pub entry_by : (Entry → Bool) → Option Entry → Option Entry
entry_by test None = None
entry_by test (Some entry) = cond (test entry) (Some entry) None

abbrev pub replaced_by : Option Entry → Option (Option Entry)
replaced_by None = Some None
replaced_by (Some entry) = cond (may_be_replaced (Some entry)) (Some (Some entry)) None

abbrev pub entry_in : List ℕ → Option (Entry × List ℕ)
entry_in bytes = made (entry_by (λ entry. true)) (found_in bytes)

abbrev pub replaced_in : List ℕ → Option (Option Entry × List ℕ)
replaced_in bytes = made replaced_by (found_in bytes)

abbrev pub tracked_in : List ℕ → Option (Entry × List ℕ)
tracked_in bytes = made (entry_by is_tracked) (found_in bytes)

abbrev pub file_in : List ℕ → Option (Entry × List ℕ)
file_in bytes = made (entry_by is_file) (found_in bytes)

abbrev pub done_by : ℕ → List ℕ → Option (Option Stamp × List ℕ)
done_by b bytes = cond (b == 0) (Some (None, bytes)) (cond (b == 1) (mapped Some (stamp_in bytes)) None)

abbrev pub done_in : List ℕ → Option (Option Stamp × List ℕ)
done_in bytes = option_and_then (λ p. done_by p.0 p.1) (byte_in bytes)

-- so many rows
abbrev pub rows_by : ℕ → List ℕ → Option (List (List ℕ × Entry) × List ℕ)
rows_by zero bytes = Some ([], bytes)
rows_by (suc count) bytes = mapped (λ rows. rows.0 ∷ rows.1) (both (both name_in entry_in) (rows_by count) bytes)

abbrev pub rows_in : List ℕ → Option (List (List ℕ × Entry) × List ℕ)
rows_in bytes = option_and_then (λ p. rows_by p.0 p.1) (number_in 4 bytes)

-- at most 65,536 bytes
abbrev pub piece_by : List ℕ → Option (List ℕ)
piece_by bytes = cond (nat_le (length bytes) MAX_PIECE) (Some bytes) None

abbrev pub piece_in : List ℕ → Option (List ℕ × List ℕ)
piece_in bytes = made piece_by (sized_in 4 bytes)

-- ---- messages

abbrev pub who_in : List ℕ → Option (Who × List ℕ)
who_in bytes = mapped (λ who. Session who.0 who.1.0 who.1.1) (both (number_in 16) (both (number_in 4) (number_in 8)) bytes)

-- the table of requests
abbrev pub op_in : Request → List ℕ → Option (Op × List ℕ)
op_in requests.List bytes = mapped ops.List (path_in bytes)
op_in requests.Fetch bytes = mapped (λ f. ops.Fetch f.0 f.1.0 f.1.1) (both path_in (both stamp_in (number_in 8)) bytes)
op_in requests.StageClear bytes = Some (ops.StageClear, bytes)
op_in requests.StageOpen bytes = Some (ops.StageOpen, bytes)
op_in requests.StageAppend bytes = mapped ops.StageAppend (sized_in 4 bytes)
op_in requests.StageKeep bytes = mapped ops.StageKeep (front_in 32 bytes)
op_in requests.Place bytes = mapped (λ f. ops.Place f.0 f.1.0 f.1.1.0 f.1.1.1) (both path_in (both (front_in 32) (both bit_in replaced_in)) bytes)
op_in requests.MakeDir bytes = mapped ops.MakeDir (path_in bytes)
op_in requests.MakeLink bytes = mapped (λ f. ops.MakeLink f.0 f.1.0 f.1.1) (both path_in (both text_in replaced_in) bytes)
op_in requests.Remove bytes = mapped (λ f. ops.Remove f.0 f.1) (both path_in tracked_in bytes)
op_in requests.SetExec bytes = mapped (λ f. ops.SetExec f.0 f.1.0 f.1.1) (both path_in (both file_in bit_in) bytes)

-- the table of answers
abbrev pub answer_in : Reply → List ℕ → Option (Message × List ℕ)
answer_in replies.Listed bytes = mapped (λ rows. messages.Answer (answers.Listed rows)) (rows_in bytes)
answer_in replies.Held bytes = mapped (λ found. messages.Answer (answers.Held found)) (found_in bytes)
answer_in replies.Piece bytes = mapped (λ f. messages.Answer (answers.Piece f.0 f.1)) (both piece_in bit_in bytes)
answer_in replies.Changed bytes = mapped (λ found. messages.Answer (answers.Changed found)) (found_in bytes)
answer_in replies.TooLarge bytes = mapped (λ size. messages.Answer (answers.TooLarge size)) (number_in 8 bytes)
answer_in replies.Cleared bytes = Some (messages.Answer answers.Cleared, bytes)
answer_in replies.Opened bytes = Some (messages.Answer answers.Opened, bytes)
answer_in replies.NotStaged bytes = Some (messages.Answer answers.NotStaged, bytes)
answer_in replies.Kept bytes = Some (messages.Answer answers.Kept, bytes)
answer_in replies.DigestDiffers bytes = mapped (λ f. messages.Answer (answers.DigestDiffers f.0 f.1)) (both (front_in 32) (front_in 32) bytes)
answer_in replies.Done bytes = mapped (λ stamp. messages.Answer (answers.Done stamp)) (done_in bytes)
answer_in replies.NoParent bytes = mapped (λ found. messages.Answer (answers.NoParent found)) (found_in bytes)
answer_in replies.Differs bytes = mapped (λ found. messages.Answer (answers.Differs found)) (found_in bytes)
answer_in replies.NotEmpty bytes = Some (messages.Answer answers.NotEmpty, bytes)
answer_in replies.NoExec bytes = Some (messages.Answer answers.NoExec, bytes)
answer_in replies.Full bytes = mapped (λ f. messages.Answer (answers.Full (record { log = f.0; bytes = f.1 }))) (both (number_in 8) (number_in 8) bytes)
answer_in replies.Failed bytes = Some (messages.Answer answers.Failed, bytes)
answer_in replies.NoMemory bytes = Some (messages.NoMemory, bytes)
answer_in replies.TooLong bytes = mapped messages.TooLong (number_in 8 bytes)
answer_in replies.NoLink bytes = Some (messages.Answer answers.NoLink, bytes)

-- behind the kind of a request, who asks and the operation
abbrev pub ask_in : Request → List ℕ → Option (Message × List ℕ)
ask_in request bytes = mapped (λ f. messages.Ask f.0 f.1) (both who_in (op_in request) bytes)

-- behind a kind that is no request's
abbrev pub other_in : Option Reply → List ℕ → Option (Message × List ℕ)
other_in None bytes = None
other_in (Some reply) bytes = answer_in reply bytes

-- behind a kind
abbrev pub fields_in : ℕ → Option Request → List ℕ → Option (Message × List ℕ)
fields_in kind None bytes = other_in (reply_of kind) bytes
fields_in kind (Some request) bytes = ask_in request bytes

-- a kind and its fields
abbrev pub message_in : List ℕ → Option (Message × List ℕ)
message_in bytes = option_and_then (λ p. fields_in p.0 (request_of p.0) p.1) (byte_in bytes)

-- a value that the bytes are, to the last
abbrev pub whole : {V : Type 0} → Option (V × List ℕ) → Option V
whole read = option_and_then (λ p. cond (length p.1 == 0) (Some p.0) None) read
