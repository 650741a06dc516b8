-- Each message has one spelling, and what is read is what was written.
use Rattle.std.proofs.Common.{◌≡◌, ℕ, ◌<◌, ◌≤◌, List, [], ◌∷◌, ◌++◌, length, drop, Bool, true, false, refl, sym, ap, subst, ◌∙◌, arith, append_assoc, Some, None}
use Rattle.std.specs.Prelude.{Option, cond, ⊤, ◌==◌}
use Rattle.std.specs.List.{AllByRecursion}
use Rattle.std.proofs.lemmas.Bool.{eqb-true}
use Rattle.std.proofs.lemmas.List.{append-nil, nil_from_length, drop_at}
use Rattle.mux_frames.specs.Numbers.{AreBytes}
use Rattle.sync_path.specs.Path.{IsPath}
use Rattle.entry_tree.specs.Digest.{IsDigest}
use Rattle.entry_tree.specs.Text.{IsText}
use Rattle.entry_tree.specs.Entry.{is_tracked}
use Rattle.roots_api.specs.Expected.{is_file}
use Rattle.roots_api.specs.declared.answer.Answer.{Answer}
use Rattle.roots_api.specs.declared.answer.Answer.TheVariants as answers
use Rattle.roots_api.specs.declared.op.Op.{Op}
use Rattle.roots_api.specs.declared.op.Op.TheVariants as ops
use Rattle.agent_proto.specs.Bodies.{ReadsBody}
use Rattle.agent_proto.specs.Fields.{number_field, bit_field, text_field, path_field, bytes_field, stamp_field, found_field}
use Rattle.agent_proto.specs.Kinds.{kind_by, request_table, request_of, request_code, reply_table, reply_of, reply_code}
use Rattle.agent_proto.specs.Messages.{who_field, op_kind, op_fields, answer_kind, answer_fields, body, spelling, IsStamp, IsOp, IsAnswer, HasFields, IsMessage}
use Rattle.agent_proto.specs.Reading.{mapped, both, front_in, number_in, sized_in, bit_in, stamp_in, path_in, text_in, found_in, replaced_in, tracked_in, file_in, done_in, rows_in, piece_in, who_in, op_in, answer_in, ask_in, other_in, fields_in, message_in, whole}
use Rattle.agent_proto.specs.declared.kind.Reply.{Reply}
use Rattle.agent_proto.specs.declared.kind.Reply.TheVariants as replies
use Rattle.agent_proto.specs.declared.kind.Request.{Request}
use Rattle.agent_proto.specs.declared.kind.Request.TheVariants as requests
use Rattle.agent_proto.specs.declared.limits.TheConstants.{MAX_MESSAGE}
use Rattle.agent_proto.specs.declared.message.Message.{Message}
use Rattle.agent_proto.specs.declared.message.Message.TheVariants as messages
use Rattle.agent_proto.proofs.Codecs.{Codec, some_is, and_then_some, cond_some, bytes_back, mapped_back, both_law, both_is, both_parts, front_law, number_law, FitsIn}
use Rattle.agent_proto.proofs.Numbers.{length_of}
use Rattle.agent_proto.proofs.FieldLaws.{IsAny, bit_law, stamp_law, path_law, text_law, found_law, Passes, entry_law, IsExpected, replaced_law, done_law, rows_law, bytes_law, IsShort, piece_law, session_law}

-- ---- kinds

-- what holds of each row of a table holds of what is found in it
pub kind_by-each : {K : Type 0} (P : ℕ → K → Type 0) (rows : List (ℕ × K)) (byte : ℕ) (kind : K) → AllByRecursion (λ row. P row.0 row.1) rows → kind_by rows byte ≡ Some kind → P byte kind
kind_by-each P [] byte kind each e = absurd cc
kind_by-each {K} P (row ∷ rows) byte kind each e = by_test (λ found. kind_by-each P rows byte kind each.1 found) (byte == row.0) refl e
  where
    by_test : (kind_by rows byte ≡ Some kind → P byte kind) → (test : Bool) → (byte == row.0) ≡ test → cond test (Some row.1) (kind_by rows byte) ≡ Some kind → P byte kind
    by_test later true is found = subst (P byte) (some_is row.1 kind found) (subst (λ (n : ℕ). P n row.1) (sym (eqb-true byte row.0 is)) each.0)
    by_test later false is found = later found

pub request_code-of : (byte : ℕ) (request : Request) → request_of byte ≡ Some request → byte ≡ request_code request
request_code-of byte request e = kind_by-each (λ b r. b ≡ request_code r) request_table byte request (refl, (refl, (refl, (refl, (refl, (refl, (refl, (refl, (refl, (refl, (refl, tt))))))))))) e

pub reply_code-of : (byte : ℕ) (reply : Reply) → reply_of byte ≡ Some reply → byte ≡ reply_code reply
reply_code-of byte reply e = kind_by-each (λ b r. b ≡ reply_code r) reply_table byte reply (refl, (refl, (refl, (refl, (refl, (refl, (refl, (refl, (refl, (refl, (refl, (refl, (refl, (refl, (refl, (refl, (refl, (refl, (refl, (refl, tt)))))))))))))))))))) e

-- the kind of a request
abbrev pub request_from : Op → Request
request_from (ops.List path) = requests.List
request_from (ops.Fetch path stamp offset) = requests.Fetch
request_from ops.StageClear = requests.StageClear
request_from ops.StageOpen = requests.StageOpen
request_from (ops.StageAppend bytes) = requests.StageAppend
request_from (ops.StageKeep digest) = requests.StageKeep
request_from (ops.Place path digest exec expected) = requests.Place
request_from (ops.MakeDir path) = requests.MakeDir
request_from (ops.MakeLink path text expected) = requests.MakeLink
request_from (ops.Remove path expected) = requests.Remove
request_from (ops.SetExec path expected on) = requests.SetExec

pub request_of-op : (op : Op) → request_of (op_kind op) ≡ Some (request_from op)
request_of-op (ops.List path) = refl
request_of-op (ops.Fetch path stamp offset) = refl
request_of-op ops.StageClear = refl
request_of-op ops.StageOpen = refl
request_of-op (ops.StageAppend bytes) = refl
request_of-op (ops.StageKeep digest) = refl
request_of-op (ops.Place path digest exec expected) = refl
request_of-op (ops.MakeDir path) = refl
request_of-op (ops.MakeLink path text expected) = refl
request_of-op (ops.Remove path expected) = refl
request_of-op (ops.SetExec path expected on) = refl

-- ---- the fields of each request

fetch_law : Codec (λ f. IsPath f.0 × (IsStamp f.1.0 × FitsIn 8 f.1.1)) (λ f. path_field f.0 ++ (stamp_field f.1.0 ++ number_field 8 f.1.1)) (both path_in (both stamp_in (number_in 8)))
fetch_law = both_law IsPath (λ p. IsStamp p.0 × FitsIn 8 p.1) path_field (λ p. stamp_field p.0 ++ number_field 8 p.1) path_in (both stamp_in (number_in 8)) path_law
    (both_law IsStamp (FitsIn 8) stamp_field (number_field 8) stamp_in (number_in 8) stamp_law (number_law 8))

bit_and_expected : Codec (λ p. ⊤ × IsExpected p.1) (λ p. bit_field p.0 ++ found_field p.1) (both bit_in replaced_in)
bit_and_expected = both_law IsAny IsExpected bit_field found_field bit_in replaced_in bit_law replaced_law

place_law : Codec (λ f. IsPath f.0 × (IsDigest f.1.0 × (⊤ × IsExpected f.1.1.1))) (λ f. path_field f.0 ++ (f.1.0 ++ (bit_field f.1.1.0 ++ found_field f.1.1.1))) (both path_in (both (front_in 32) (both bit_in replaced_in)))
place_law = both_law IsPath (λ p. IsDigest p.0 × (⊤ × IsExpected p.1.1)) path_field (λ p. p.0 ++ (bit_field p.1.0 ++ found_field p.1.1)) path_in (both (front_in 32) (both bit_in replaced_in)) path_law
    (both_law IsDigest (λ p. ⊤ × IsExpected p.1) (λ digest. digest) (λ p. bit_field p.0 ++ found_field p.1) (front_in 32) (both bit_in replaced_in) (front_law 32) bit_and_expected)

make_link_law : Codec (λ f. IsPath f.0 × (IsText f.1.0 × IsExpected f.1.1)) (λ f. path_field f.0 ++ (text_field f.1.0 ++ found_field f.1.1)) (both path_in (both text_in replaced_in))
make_link_law = both_law IsPath (λ p. IsText p.0 × IsExpected p.1) path_field (λ p. text_field p.0 ++ found_field p.1) path_in (both text_in replaced_in) path_law
    (both_law IsText IsExpected text_field found_field text_in replaced_in text_law replaced_law)

remove_law : Codec (λ f. IsPath f.0 × Passes is_tracked f.1) (λ f. path_field f.0 ++ found_field (Some f.1)) (both path_in tracked_in)
remove_law = both_law IsPath (Passes is_tracked) path_field (λ entry. found_field (Some entry)) path_in tracked_in path_law (entry_law is_tracked)

set_exec_law : Codec (λ f. IsPath f.0 × (Passes is_file f.1.0 × ⊤)) (λ f. path_field f.0 ++ (found_field (Some f.1.0) ++ bit_field f.1.1)) (both path_in (both file_in bit_in))
set_exec_law = both_law IsPath (λ p. Passes is_file p.0 × ⊤) path_field (λ p. found_field (Some p.0) ++ bit_field p.1) path_in (both file_in bit_in) path_law
    (both_law (Passes is_file) IsAny (λ entry. found_field (Some entry)) bit_field file_in bit_in (entry_law is_file) bit_law)

op_there : (op : Op) (rest : List ℕ) → IsOp op → op_in (request_from op) (op_fields op ++ rest) ≡ Some (op, rest)
op_there (ops.List path) rest ok = ap (mapped ops.List) (path_law.there path rest ok)
op_there (ops.Fetch path stamp offset) rest ok = ap (mapped (λ f. ops.Fetch f.0 f.1.0 f.1.1)) (fetch_law.there (path, (stamp, offset)) rest ok)
op_there ops.StageClear rest ok = refl
op_there ops.StageOpen rest ok = refl
op_there (ops.StageAppend bytes) rest ok = ap (mapped ops.StageAppend) (bytes_law.there bytes rest ok)
op_there (ops.StageKeep digest) rest ok = ap (mapped ops.StageKeep) ((front_law 32).there digest rest ok)
op_there (ops.Place path digest exec expected) rest ok = ap (mapped (λ f. ops.Place f.0 f.1.0 f.1.1.0 f.1.1.1)) (place_law.there (path, (digest, (exec, expected))) rest (ok.0, (ok.1.0, (tt, ok.1.1))))
op_there (ops.MakeDir path) rest ok = ap (mapped ops.MakeDir) (path_law.there path rest ok)
op_there (ops.MakeLink path text expected) rest ok = ap (mapped (λ f. ops.MakeLink f.0 f.1.0 f.1.1)) (make_link_law.there (path, (text, expected)) rest ok)
op_there (ops.Remove path expected) rest ok = ap (mapped (λ f. ops.Remove f.0 f.1)) (remove_law.there (path, expected) rest ok)
op_there (ops.SetExec path expected on) rest ok = ap (mapped (λ f. ops.SetExec f.0 f.1.0 f.1.1)) (set_exec_law.there (path, (expected, on)) rest (ok.0, (ok.1, tt)))

-- an operation of this kind whose fields stand at the front
abbrev pub OpIs : Request → List ℕ → Op → List ℕ → Type 0
OpIs request bytes op rest = (IsOp op × (request_code request ≡ op_kind op)) × (bytes ≡ op_fields op ++ rest)

op_back : (request : Request) (bytes : List ℕ) (op : Op) (rest : List ℕ) → AreBytes bytes → op_in request bytes ≡ Some (op, rest) → OpIs request bytes op rest
op_back requests.List bytes op rest each e = mapped_back ops.List (path_in bytes) (OpIs requests.List bytes) (λ v behind r. let h = path_law.back bytes v behind each r in ((h.0, refl), h.1)) op rest e
op_back requests.Fetch bytes op rest each e = mapped_back (λ f. ops.Fetch f.0 f.1.0 f.1.1) (both path_in (both stamp_in (number_in 8)) bytes) (OpIs requests.Fetch bytes) (λ v behind r. let h = fetch_law.back bytes v behind each r in ((h.0, refl), h.1)) op rest e
op_back requests.StageClear bytes op rest each e = subst (λ p. OpIs requests.StageClear bytes p.0 p.1) (some_is (ops.StageClear, bytes) (op, rest) e) ((tt, refl), refl)
op_back requests.StageOpen bytes op rest each e = subst (λ p. OpIs requests.StageOpen bytes p.0 p.1) (some_is (ops.StageOpen, bytes) (op, rest) e) ((tt, refl), refl)
op_back requests.StageAppend bytes op rest each e = mapped_back ops.StageAppend (sized_in 4 bytes) (OpIs requests.StageAppend bytes) (λ v behind r. let h = bytes_law.back bytes v behind each r in ((h.0, refl), h.1)) op rest e
op_back requests.StageKeep bytes op rest each e = mapped_back ops.StageKeep (front_in 32 bytes) (OpIs requests.StageKeep bytes) (λ v behind r. let h = (front_law 32).back bytes v behind each r in ((h.0, refl), h.1)) op rest e
op_back requests.Place bytes op rest each e = mapped_back (λ f. ops.Place f.0 f.1.0 f.1.1.0 f.1.1.1) (both path_in (both (front_in 32) (both bit_in replaced_in)) bytes) (OpIs requests.Place bytes) (λ v behind r. let h = place_law.back bytes v behind each r in (((h.0.0, (h.0.1.0, h.0.1.1.1)), refl), h.1)) op rest e
op_back requests.MakeDir bytes op rest each e = mapped_back ops.MakeDir (path_in bytes) (OpIs requests.MakeDir bytes) (λ v behind r. let h = path_law.back bytes v behind each r in ((h.0, refl), h.1)) op rest e
op_back requests.MakeLink bytes op rest each e = mapped_back (λ f. ops.MakeLink f.0 f.1.0 f.1.1) (both path_in (both text_in replaced_in) bytes) (OpIs requests.MakeLink bytes) (λ v behind r. let h = make_link_law.back bytes v behind each r in ((h.0, refl), h.1)) op rest e
op_back requests.Remove bytes op rest each e = mapped_back (λ f. ops.Remove f.0 f.1) (both path_in tracked_in bytes) (OpIs requests.Remove bytes) (λ v behind r. let h = remove_law.back bytes v behind each r in ((h.0, refl), h.1)) op rest e
op_back requests.SetExec bytes op rest each e = mapped_back (λ f. ops.SetExec f.0 f.1.0 f.1.1) (both path_in (both file_in bit_in) bytes) (OpIs requests.SetExec bytes) (λ v behind r. let h = set_exec_law.back bytes v behind each r in (((h.0.0, h.0.1.0), refl), h.1)) op rest e

-- ---- the fields of each answer

pub piece_and_bit : Codec (λ f. IsShort f.0 × ⊤) (λ f. bytes_field f.0 ++ bit_field f.1) (both piece_in bit_in)
piece_and_bit = both_law IsShort IsAny bytes_field bit_field piece_in bit_in piece_law bit_law

digests_law : Codec (λ f. IsDigest f.0 × IsDigest f.1) (λ f. f.0 ++ f.1) (both (front_in 32) (front_in 32))
digests_law = both_law IsDigest IsDigest (λ d. d) (λ d. d) (front_in 32) (front_in 32) (front_law 32) (front_law 32)

room_law : Codec (λ f. FitsIn 8 f.0 × FitsIn 8 f.1) (λ f. number_field 8 f.0 ++ number_field 8 f.1) (both (number_in 8) (number_in 8))
room_law = both_law (FitsIn 8) (FitsIn 8) (number_field 8) (number_field 8) (number_in 8) (number_in 8) (number_law 8) (number_law 8)

-- the kind of an answer
abbrev pub reply_from : Answer (List ℕ) → Reply
reply_from (answers.Listed rows) = replies.Listed
reply_from (answers.Held found) = replies.Held
reply_from (answers.Piece bytes last) = replies.Piece
reply_from (answers.Changed found) = replies.Changed
reply_from (answers.TooLarge bytes) = replies.TooLarge
reply_from answers.Cleared = replies.Cleared
reply_from answers.Opened = replies.Opened
reply_from answers.NotStaged = replies.NotStaged
reply_from answers.Kept = replies.Kept
reply_from (answers.DigestDiffers wanted got) = replies.DigestDiffers
reply_from (answers.Done stamp) = replies.Done
reply_from (answers.NoParent found) = replies.NoParent
reply_from (answers.Differs found) = replies.Differs
reply_from answers.NotEmpty = replies.NotEmpty
reply_from answers.NoExec = replies.NoExec
reply_from (answers.Full room) = replies.Full
reply_from answers.Failed = replies.Failed
reply_from answers.NoLink = replies.NoLink

pub request_of-answer : (answer : Answer (List ℕ)) → request_of (answer_kind answer) ≡ None
request_of-answer (answers.Listed rows) = refl
request_of-answer (answers.Held found) = refl
request_of-answer (answers.Piece bytes last) = refl
request_of-answer (answers.Changed found) = refl
request_of-answer (answers.TooLarge bytes) = refl
request_of-answer answers.Cleared = refl
request_of-answer answers.Opened = refl
request_of-answer answers.NotStaged = refl
request_of-answer answers.Kept = refl
request_of-answer (answers.DigestDiffers wanted got) = refl
request_of-answer (answers.Done stamp) = refl
request_of-answer (answers.NoParent found) = refl
request_of-answer (answers.Differs found) = refl
request_of-answer answers.NotEmpty = refl
request_of-answer answers.NoExec = refl
request_of-answer (answers.Full room) = refl
request_of-answer answers.Failed = refl
request_of-answer answers.NoLink = refl

pub reply_of-answer : (answer : Answer (List ℕ)) → reply_of (answer_kind answer) ≡ Some (reply_from answer)
reply_of-answer (answers.Listed rows) = refl
reply_of-answer (answers.Held found) = refl
reply_of-answer (answers.Piece bytes last) = refl
reply_of-answer (answers.Changed found) = refl
reply_of-answer (answers.TooLarge bytes) = refl
reply_of-answer answers.Cleared = refl
reply_of-answer answers.Opened = refl
reply_of-answer answers.NotStaged = refl
reply_of-answer answers.Kept = refl
reply_of-answer (answers.DigestDiffers wanted got) = refl
reply_of-answer (answers.Done stamp) = refl
reply_of-answer (answers.NoParent found) = refl
reply_of-answer (answers.Differs found) = refl
reply_of-answer answers.NotEmpty = refl
reply_of-answer answers.NoExec = refl
reply_of-answer (answers.Full room) = refl
reply_of-answer answers.Failed = refl
reply_of-answer answers.NoLink = refl

answer_there : (answer : Answer (List ℕ)) (rest : List ℕ) → IsAnswer answer → answer_in (reply_from answer) (answer_fields answer ++ rest) ≡ Some (messages.Answer answer, rest)
answer_there (answers.Listed rows) rest ok = ap (mapped (λ rows. messages.Answer (answers.Listed rows))) (rows_law.there rows rest ok)
answer_there (answers.Held found) rest ok = ap (mapped (λ found. messages.Answer (answers.Held found))) (found_law.there found rest ok)
answer_there (answers.Piece bytes last) rest ok = ap (mapped (λ f. messages.Answer (answers.Piece f.0 f.1))) (piece_and_bit.there (bytes, last) rest (ok, tt))
answer_there (answers.Changed found) rest ok = ap (mapped (λ found. messages.Answer (answers.Changed found))) (found_law.there found rest ok)
answer_there (answers.TooLarge bytes) rest ok = ap (mapped (λ size. messages.Answer (answers.TooLarge size))) ((number_law 8).there bytes rest ok)
answer_there answers.Cleared rest ok = refl
answer_there answers.Opened rest ok = refl
answer_there answers.NotStaged rest ok = refl
answer_there answers.Kept rest ok = refl
answer_there (answers.DigestDiffers wanted got) rest ok = ap (mapped (λ f. messages.Answer (answers.DigestDiffers f.0 f.1))) (digests_law.there (wanted, got) rest ok)
answer_there (answers.Done stamp) rest ok = ap (mapped (λ stamp. messages.Answer (answers.Done stamp))) (done_law.there stamp rest ok)
answer_there (answers.NoParent found) rest ok = ap (mapped (λ found. messages.Answer (answers.NoParent found))) (found_law.there found rest ok)
answer_there (answers.Differs found) rest ok = ap (mapped (λ found. messages.Answer (answers.Differs found))) (found_law.there found rest ok)
answer_there answers.NotEmpty rest ok = refl
answer_there answers.NoExec rest ok = refl
answer_there (answers.Full room) rest ok = ap (mapped (λ f. messages.Answer (answers.Full (record { log = f.0; bytes = f.1 })))) (room_law.there (room.log, room.bytes) rest ok)
answer_there answers.Failed rest ok = refl
answer_there answers.NoLink rest ok = refl

-- a message of this kind, not a request, whose fields stand at the front
abbrev pub ReplyIs : Reply → List ℕ → Message → List ℕ → Type 0
ReplyIs reply bytes message rest = HasFields message × (reply_code reply ∷ bytes ≡ body message ++ rest)

answer_back : (reply : Reply) (bytes : List ℕ) (message : Message) (rest : List ℕ) → AreBytes bytes → answer_in reply bytes ≡ Some (message, rest) → ReplyIs reply bytes message rest
answer_back replies.Listed bytes message rest each e = mapped_back (λ rows. messages.Answer (answers.Listed rows)) (rows_in bytes) (ReplyIs replies.Listed bytes) (λ v behind r. let h = rows_law.back bytes v behind each r in (h.0, ap (λ xs. reply_code replies.Listed ∷ xs) h.1)) message rest e
answer_back replies.Held bytes message rest each e = mapped_back (λ found. messages.Answer (answers.Held found)) (found_in bytes) (ReplyIs replies.Held bytes) (λ v behind r. let h = found_law.back bytes v behind each r in (h.0, ap (λ xs. reply_code replies.Held ∷ xs) h.1)) message rest e
answer_back replies.Piece bytes message rest each e = mapped_back (λ f. messages.Answer (answers.Piece f.0 f.1)) (both piece_in bit_in bytes) (ReplyIs replies.Piece bytes) (λ v behind r. let h = piece_and_bit.back bytes v behind each r in (h.0.0, ap (λ xs. reply_code replies.Piece ∷ xs) h.1)) message rest e
answer_back replies.Changed bytes message rest each e = mapped_back (λ found. messages.Answer (answers.Changed found)) (found_in bytes) (ReplyIs replies.Changed bytes) (λ v behind r. let h = found_law.back bytes v behind each r in (h.0, ap (λ xs. reply_code replies.Changed ∷ xs) h.1)) message rest e
answer_back replies.TooLarge bytes message rest each e = mapped_back (λ size. messages.Answer (answers.TooLarge size)) (number_in 8 bytes) (ReplyIs replies.TooLarge bytes) (λ v behind r. let h = (number_law 8).back bytes v behind each r in (h.0, ap (λ xs. reply_code replies.TooLarge ∷ xs) h.1)) message rest e
answer_back replies.Cleared bytes message rest each e = subst (λ p. ReplyIs replies.Cleared bytes p.0 p.1) (some_is (messages.Answer answers.Cleared, bytes) (message, rest) e) (tt, refl)
answer_back replies.Opened bytes message rest each e = subst (λ p. ReplyIs replies.Opened bytes p.0 p.1) (some_is (messages.Answer answers.Opened, bytes) (message, rest) e) (tt, refl)
answer_back replies.NotStaged bytes message rest each e = subst (λ p. ReplyIs replies.NotStaged bytes p.0 p.1) (some_is (messages.Answer answers.NotStaged, bytes) (message, rest) e) (tt, refl)
answer_back replies.Kept bytes message rest each e = subst (λ p. ReplyIs replies.Kept bytes p.0 p.1) (some_is (messages.Answer answers.Kept, bytes) (message, rest) e) (tt, refl)
answer_back replies.DigestDiffers bytes message rest each e = mapped_back (λ f. messages.Answer (answers.DigestDiffers f.0 f.1)) (both (front_in 32) (front_in 32) bytes) (ReplyIs replies.DigestDiffers bytes) (λ v behind r. let h = digests_law.back bytes v behind each r in (h.0, ap (λ xs. reply_code replies.DigestDiffers ∷ xs) h.1)) message rest e
answer_back replies.Done bytes message rest each e = mapped_back (λ stamp. messages.Answer (answers.Done stamp)) (done_in bytes) (ReplyIs replies.Done bytes) (λ v behind r. let h = done_law.back bytes v behind each r in (h.0, ap (λ xs. reply_code replies.Done ∷ xs) h.1)) message rest e
answer_back replies.NoParent bytes message rest each e = mapped_back (λ found. messages.Answer (answers.NoParent found)) (found_in bytes) (ReplyIs replies.NoParent bytes) (λ v behind r. let h = found_law.back bytes v behind each r in (h.0, ap (λ xs. reply_code replies.NoParent ∷ xs) h.1)) message rest e
answer_back replies.Differs bytes message rest each e = mapped_back (λ found. messages.Answer (answers.Differs found)) (found_in bytes) (ReplyIs replies.Differs bytes) (λ v behind r. let h = found_law.back bytes v behind each r in (h.0, ap (λ xs. reply_code replies.Differs ∷ xs) h.1)) message rest e
answer_back replies.NotEmpty bytes message rest each e = subst (λ p. ReplyIs replies.NotEmpty bytes p.0 p.1) (some_is (messages.Answer answers.NotEmpty, bytes) (message, rest) e) (tt, refl)
answer_back replies.NoExec bytes message rest each e = subst (λ p. ReplyIs replies.NoExec bytes p.0 p.1) (some_is (messages.Answer answers.NoExec, bytes) (message, rest) e) (tt, refl)
answer_back replies.Full bytes message rest each e = mapped_back (λ f. messages.Answer (answers.Full (record { log = f.0; bytes = f.1 }))) (both (number_in 8) (number_in 8) bytes) (ReplyIs replies.Full bytes) (λ v behind r. let h = room_law.back bytes v behind each r in (h.0, ap (λ xs. reply_code replies.Full ∷ xs) h.1)) message rest e
answer_back replies.Failed bytes message rest each e = subst (λ p. ReplyIs replies.Failed bytes p.0 p.1) (some_is (messages.Answer answers.Failed, bytes) (message, rest) e) (tt, refl)
answer_back replies.NoLink bytes message rest each e = subst (λ p. ReplyIs replies.NoLink bytes p.0 p.1) (some_is (messages.Answer answers.NoLink, bytes) (message, rest) e) (tt, refl)
answer_back replies.NoMemory bytes message rest each e = subst (λ p. ReplyIs replies.NoMemory bytes p.0 p.1) (some_is (messages.NoMemory, bytes) (message, rest) e) (tt, refl)
answer_back replies.TooLong bytes message rest each e = mapped_back messages.TooLong (number_in 8 bytes) (ReplyIs replies.TooLong bytes) (λ v behind r. let h = (number_law 8).back bytes v behind each r in (h.0, ap (λ xs. reply_code replies.TooLong ∷ xs) h.1)) message rest e

-- ---- messages

-- behind the kind of a request
abbrev AskIs : Request → List ℕ → Message → List ℕ → Type 0
AskIs request bytes message rest = HasFields message × (request_code request ∷ bytes ≡ body message ++ rest)

ask_back : (request : Request) (bytes : List ℕ) (message : Message) (rest : List ℕ) → AreBytes bytes → ask_in request bytes ≡ Some (message, rest) → AskIs request bytes message rest
ask_back request bytes message rest each e =
    mapped_back (λ f. messages.Ask f.0 f.1) (both who_in (op_in request) bytes) (AskIs request bytes) (λ f behind r.
    let parts = both_parts who_in (op_in request) bytes f behind r in
    let one = session_law.back bytes f.0 parts.0 each parts.1 in
    let two = op_back request parts.0 f.1 behind (bytes_back (who_field f.0) parts.0 (subst AreBytes one.1 each)).1 parts.2 in
    let whole_is : bytes ≡ (who_field f.0 ++ op_fields f.1) ++ behind = one.1 ∙ ap (λ xs. who_field f.0 ++ xs) two.1 ∙ sym (append_assoc (who_field f.0) (op_fields f.1) behind) in
    ((one.0, two.0.0), ap (λ xs. request_code request ∷ xs) whole_is ∙ ap (λ (k : ℕ). k ∷ ((who_field f.0 ++ op_fields f.1) ++ behind)) two.0.1)) message rest e

pub message_there : (message : Message) (rest : List ℕ) → HasFields message → message_in (body message ++ rest) ≡ Some (message, rest)
message_there (messages.Ask who op) rest ok =
    let bytes = (who_field who ++ op_fields op) ++ rest in
    let who_is : who_in bytes ≡ Some (who, op_fields op ++ rest) = ap who_in (append_assoc (who_field who) (op_fields op) rest) ∙ session_law.there who (op_fields op ++ rest) ok.0 in
    ap (λ request. fields_in (op_kind op) request bytes) (request_of-op op)
    ∙ ap (mapped (λ f. messages.Ask f.0 f.1)) (both_is who_in (op_in (request_from op)) bytes (op_fields op ++ rest) rest who op who_is (op_there op rest ok.1))
message_there (messages.Answer answer) rest ok =
    let bytes = answer_fields answer ++ rest in
    ap (λ request. fields_in (answer_kind answer) request bytes) (request_of-answer answer) ∙ ap (λ reply. other_in reply bytes) (reply_of-answer answer) ∙ answer_there answer rest ok
message_there messages.NoMemory rest ok = refl
message_there (messages.TooLong size) rest ok = ap (mapped messages.TooLong) ((number_law 8).there size rest ok)

-- a message that stands at the front
abbrev MessageIs : List ℕ → Message → List ℕ → Type 0
MessageIs bytes message rest = HasFields message × (bytes ≡ body message ++ rest)

other_back : (kind : ℕ) (reply : Option Reply) (bytes : List ℕ) (message : Message) (rest : List ℕ) → AreBytes bytes → reply_of kind ≡ reply → other_in reply bytes ≡ Some (message, rest) → MessageIs (kind ∷ bytes) message rest
other_back kind None bytes message rest each is e = absurd cc
other_back kind (Some reply) bytes message rest each is e =
    let h = answer_back reply bytes message rest each e in
    (h.0, ap (λ (k : ℕ). k ∷ bytes) (reply_code-of kind reply is) ∙ h.1)

fields_back : (kind : ℕ) (request : Option Request) (bytes : List ℕ) (message : Message) (rest : List ℕ) → AreBytes bytes → request_of kind ≡ request → fields_in kind request bytes ≡ Some (message, rest) → MessageIs (kind ∷ bytes) message rest
fields_back kind None bytes message rest each is e = other_back kind (reply_of kind) bytes message rest each refl e
fields_back kind (Some request) bytes message rest each is e =
    let h = ask_back request bytes message rest each e in
    (h.0, ap (λ (k : ℕ). k ∷ bytes) (request_code-of kind request is) ∙ h.1)

message_back : (bytes : List ℕ) (message : Message) (rest : List ℕ) → AreBytes bytes → message_in bytes ≡ Some (message, rest) → MessageIs bytes message rest
message_back [] message rest each e = absurd cc
message_back (kind ∷ bytes) message rest each e = fields_back kind (request_of kind) bytes message rest each.1 refl e

-- ---- whole bodies

pub whole_there : (message : Message) → HasFields message → whole (message_in (body message)) ≡ Some message
whole_there message ok =
    let read : message_in (body message) ≡ Some (message, []) = ap message_in (sym (append-nil (body message))) ∙ message_there message [] ok in
    ap whole read

pub whole_back : (bytes : List ℕ) (message : Message) → AreBytes bytes → whole (message_in bytes) ≡ Some message → HasFields message × (bytes ≡ body message)
whole_back bytes message each e =
    let outer = and_then_some (λ p. cond (length p.1 == 0) (Some p.0) None) (message_in bytes) message e in
    let last = cond_some (length outer.0.1 == 0) outer.0.0 message outer.2 in
    let none : outer.0.1 ≡ [] = nil_from_length outer.0.1 (eqb-true (length outer.0.1) 0 last.0) in
    let h = message_back bytes outer.0.0 outer.0.1 each outer.1 in
    subst (λ m. HasFields m × (bytes ≡ body m)) last.1 (h.0, h.1 ∙ ap (λ xs. body outer.0.0 ++ xs) none ∙ append-nil (body outer.0.0))

pub reads_body : (bytes : List ℕ) (found : Option Message) → AreBytes bytes → length bytes ≤ MAX_MESSAGE → found ≡ whole (message_in bytes) → ReadsBody bytes found
reads_body bytes None each fits e = λ message ok is. let there : whole (message_in bytes) ≡ Some message = ap (λ xs. whole (message_in xs)) is ∙ whole_there message ok.fields in absurd cc
reads_body bytes (Some message) each fits e =
    let h = whole_back bytes message each (sym e) in
    (record { fields = h.0; fits = subst (λ xs. length xs ≤ MAX_MESSAGE) h.1 fits }, h.1)

pub too_long_for_any : (bytes : List ℕ) → MAX_MESSAGE < length bytes → ReadsBody bytes None
too_long_for_any bytes long = λ message ok is. let len : length bytes ≡ length (body message) = ap length is in omega (arith, len, long, ok.fits)

-- one spelling has one message
pub one_message : (a b : Message) → HasFields a → HasFields b → body a ≡ body b → a ≡ b
one_message a b first second same = some_is a b (sym (whole_there a first) ∙ ap (λ xs. whole (message_in xs)) same ∙ whole_there b second)

pub one_bytes : (a b : Message) → HasFields a → HasFields b → spelling a ≡ spelling b → a ≡ b
one_bytes a b first second same =
    let left : drop 4 (spelling a) ≡ body a = drop_at (number_field 4 (length (body a))) (body a) 4 (length_of 4 (length (body a))) in
    let right : drop 4 (spelling b) ≡ body b = drop_at (number_field 4 (length (body b))) (body b) 4 (length_of 4 (length (body b))) in
    one_message a b first second (sym left ∙ ap (drop 4) same ∙ right)

pub written_found : (message : Message) (found : Option Message) → IsMessage message → ReadsBody (body message) found → found ≡ Some message
written_found message None ok none = absurd (none message ok refl)
written_found message (Some other) ok is = ap Some (one_message other message is.0.fields ok.fields (sym is.1))
