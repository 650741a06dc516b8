-- What the walk over a message's fields leaves behind it is what the reader of the message leaves.
use Rattle.std.proofs.Common.{◌≡◌, ℕ, zero, suc, ◌+◌, Bool, true, false, cond, List, [], ◌∷◌, length, take, drop, refl, sym, ◌∙◌, ap, arith, Some, None}
use Rattle.std.specs.Prelude.{Option, nat_le}
use Rattle.std.specs.Option.{option_map, option_and_then}
use Rattle.mux_frames.specs.Numbers.{value, AreBytes}
use Rattle.roots_api.specs.declared.answer.Answer.TheVariants as answers
use Rattle.roots_api.specs.declared.op.Op.TheVariants as ops
use Rattle.roots_api.specs.declared.who.Who.TheVariants.{Session}
use Rattle.agent_proto.specs.declared.behind.Behind.TheVariants as behind
use Rattle.agent_proto.specs.declared.kind.Request.{Request}
use Rattle.agent_proto.specs.declared.kind.Request.TheVariants as requests
use Rattle.agent_proto.specs.declared.kind.Reply.{Reply}
use Rattle.agent_proto.specs.declared.kind.Reply.TheVariants as replies
use Rattle.agent_proto.specs.declared.message.Message.TheVariants as messages
use Rattle.agent_proto.specs.declared.field_place.Wanted.TheVariants as wanted
use Rattle.agent_proto.specs.declared.field_place.Measured.TheVariants as measured
use Rattle.agent_proto.specs.declared.field_place.FieldPlace.{FieldPlace}
use Rattle.agent_proto.specs.declared.field_place.FieldPlace.TheVariants.{Any, AnyThenBit, Found, Done, Size}
use Rattle.agent_proto.specs.declared.field_place.Next.TheVariants.{On}
use Rattle.agent_proto.specs.FieldPlaces.{taken}
use Rattle.agent_proto.specs.Behinds.{then_taken, rows_taken, replaced_taken, bit_taken_then, behind_taken}
use Rattle.agent_proto.specs.Places.{count_taken, reply_taken, asked_taken}
use Rattle.agent_proto.specs.Reading.{both, front_in, number_in, sized_in, bit_in, stamp_of, stamp_in, path_in, name_in, text_in, found_in, entry_in, replaced_in, tracked_in, file_in, done_in, rows_by, rows_in, piece_in, who_in, op_in, answer_in, ask_in}
use Rattle.agent_proto.proofs.FieldWalks.{left_of, left_mapped, left_both, left_front, front_left, front_none, front_some, front_all, any_taken, then_bit_taken, any_left, there_left, replaced_left, tracked_left, file_left, found_taken, done_taken}
use Rattle.agent_proto.proofs.MeasuredWalks.{path_field_taken, name_field_taken, text_field_taken, piece_field_taken, bytes_field_taken, bytes_drop}

-- ---- one field, and others behind it

then_some : (o : Option (List ℕ)) → option_and_then Some o ≡ o
then_some None = refl
then_some (Some x) = refl

then_same : (f g : List ℕ → Option (List ℕ)) (o : Option (List ℕ)) → ((rest : List ℕ) → f rest ≡ g rest) → option_and_then f o ≡ option_and_then g o
then_same f g None same = refl
then_same f g (Some rest) same = same rest

last_is : {V : Type 0} (field : FieldPlace) (a : List ℕ → Option (V × List ℕ)) (bytes : List ℕ) → taken (On field) bytes ≡ left_of (a bytes) → then_taken field Some bytes ≡ left_of (a bytes)
last_is field a bytes e = then_some (taken (On field) bytes) ∙ e

then_is : {V W : Type 0} (field : FieldPlace) (a : List ℕ → Option (V × List ℕ)) (walk : List ℕ → Option (List ℕ)) (b : List ℕ → Option (W × List ℕ)) (bytes : List ℕ)
    → taken (On field) bytes ≡ left_of (a bytes) → ((rest : List ℕ) → walk rest ≡ left_of (b rest)) → then_taken field walk bytes ≡ left_of (both a b bytes)
then_is field a walk b bytes first second =
    ap (option_and_then walk) first ∙ then_same walk (λ rest. left_of (b rest)) (left_of (a bytes)) second ∙ sym (left_both a b bytes)

-- ---- bytes in parts

front_add : (a b : ℕ) (bytes : List ℕ) → option_and_then (front_left b) (front_left a bytes) ≡ front_left (a + b) bytes
front_add zero b bytes = let e : b ≡ 0 + b = omega arith in ap (option_and_then (front_left b)) (front_all bytes) ∙ ap (λ (n : ℕ). front_left n bytes) e
front_add (suc a) b [] =
    let e : suc (a + b) ≡ suc a + b = omega arith in
    ap (option_and_then (front_left b)) (front_none a) ∙ sym (front_none (a + b)) ∙ ap (λ (n : ℕ). front_left n []) e
front_add (suc a) b (x ∷ bytes) =
    let e : suc (a + b) ≡ suc a + b = omega arith in
    ap (option_and_then (front_left b)) (front_some a x bytes) ∙ front_add a b bytes ∙ sym (front_some (a + b) x bytes) ∙ ap (λ (n : ℕ). front_left n (x ∷ bytes)) e

number_left : (digits : ℕ) (bytes : List ℕ) → left_of (number_in digits bytes) ≡ front_left digits bytes
number_left digits bytes = left_mapped value (front_in digits bytes) ∙ left_front digits bytes

stamp_left : (bytes : List ℕ) → left_of (stamp_in bytes) ≡ front_left 16 bytes
stamp_left bytes = left_mapped stamp_of (number_in 16 bytes) ∙ number_left 16 bytes

two_left : {V W : Type 0} (a b : ℕ) (f : List ℕ → Option (V × List ℕ)) (g : List ℕ → Option (W × List ℕ)) (bytes : List ℕ)
    → ((xs : List ℕ) → left_of (f xs) ≡ front_left a xs) → ((xs : List ℕ) → left_of (g xs) ≡ front_left b xs) → left_of (both f g bytes) ≡ front_left (a + b) bytes
two_left a b f g bytes first second =
    left_both f g bytes ∙ then_same (λ rest. left_of (g rest)) (front_left b) (left_of (f bytes)) second ∙ ap (option_and_then (front_left b)) (first bytes) ∙ front_add a b bytes

stamped_left : (bytes : List ℕ) → left_of (both stamp_in (number_in 8) bytes) ≡ front_left 24 bytes
stamped_left bytes = two_left 16 8 stamp_in (number_in 8) bytes stamp_left (number_left 8)

pub who_left : (bytes : List ℕ) → left_of (who_in bytes) ≡ front_left 28 bytes
who_left bytes =
    left_mapped (λ who. Session who.0 who.1.0 who.1.1) (both (number_in 16) (both (number_in 4) (number_in 8)) bytes)
    ∙ two_left 16 12 (number_in 16) (both (number_in 4) (number_in 8)) bytes (number_left 16) (λ xs. two_left 4 8 (number_in 4) (number_in 8) xs (number_left 4) (number_left 8))

-- ---- entries and bits

bit_is : (bytes : List ℕ) → taken (On (AnyThenBit 0)) bytes ≡ left_of (bit_in bytes)
bit_is bytes = then_bit_taken 0 bytes ∙ ap (option_and_then (λ rest. left_of (bit_in rest))) (front_all bytes)

found_is : (bytes : List ℕ) → taken (On (Found wanted.Any)) bytes ≡ left_of (found_in bytes)
found_is bytes = found_taken wanted.Any bytes text_field_taken ∙ sym (any_left (found_in bytes))

there_is : (bytes : List ℕ) → taken (On (Found wanted.There)) bytes ≡ left_of (entry_in bytes)
there_is bytes = found_taken wanted.There bytes text_field_taken ∙ sym (there_left (found_in bytes))

replaced_is : (bytes : List ℕ) → taken (On (Found wanted.Replaced)) bytes ≡ left_of (replaced_in bytes)
replaced_is bytes = found_taken wanted.Replaced bytes text_field_taken ∙ sym (replaced_left (found_in bytes))

tracked_is : (bytes : List ℕ) → taken (On (Found wanted.Tracked)) bytes ≡ left_of (tracked_in bytes)
tracked_is bytes = found_taken wanted.Tracked bytes text_field_taken ∙ sym (tracked_left (found_in bytes))

file_is : (bytes : List ℕ) → taken (On (Found wanted.File)) bytes ≡ left_of (file_in bytes)
file_is bytes = found_taken wanted.File bytes text_field_taken ∙ sym (file_left (found_in bytes))

replaced_last : (bytes : List ℕ) → replaced_taken bytes ≡ left_of (replaced_in bytes)
replaced_last bytes = last_is (Found wanted.Replaced) replaced_in bytes (replaced_is bytes)

bit_last : (bytes : List ℕ) → bit_taken_then Some bytes ≡ left_of (bit_in bytes)
bit_last bytes = last_is (AnyThenBit 0) bit_in bytes (bit_is bytes)

any_is : (count : ℕ) (bytes : List ℕ) → taken (On (Any (suc count))) bytes ≡ left_of (front_in (suc count) bytes)
any_is count bytes = any_taken count bytes ∙ sym (left_front (suc count) bytes)

-- ---- rows

pub rows_left : (count : ℕ) (bytes : List ℕ) → rows_taken count bytes ≡ left_of (rows_by count bytes)
rows_left zero bytes = refl
rows_left (suc count) bytes =
    ap (option_and_then (λ rest. then_taken (Found wanted.There) (rows_taken count) rest)) (name_field_taken bytes)
    ∙ then_same (λ rest. then_taken (Found wanted.There) (rows_taken count) rest) (λ rest. option_and_then (rows_taken count) (left_of (entry_in rest))) (left_of (name_in bytes)) (λ rest. ap (option_and_then (rows_taken count)) (there_is rest))
    ∙ nested (left_of (name_in bytes))
    ∙ ap (option_and_then (rows_taken count)) (sym (left_both name_in entry_in bytes))
    ∙ then_same (rows_taken count) (λ rest. left_of (rows_by count rest)) (left_of (both name_in entry_in bytes)) (rows_left count)
    ∙ sym (left_both (both name_in entry_in) (rows_by count) bytes)
    ∙ sym (left_mapped (λ rows. rows.0 ∷ rows.1) (both (both name_in entry_in) (rows_by count) bytes))
  where
    nested : (o : Option (List ℕ)) → option_and_then (λ rest. option_and_then (rows_taken count) (left_of (entry_in rest))) o ≡ option_and_then (rows_taken count) (option_and_then (λ rest. left_of (entry_in rest)) o)
    nested None = refl
    nested (Some rest) = refl

count_left : (bytes : List ℕ) → count_taken 4 0 bytes ≡ left_of (rows_in bytes)
count_left bytes = by_test (nat_le 4 (length bytes)) (rows_left (value (take 4 bytes)) (drop 4 bytes))
  where
    by_test : (test : Bool) → rows_taken (value (take 4 bytes)) (drop 4 bytes) ≡ left_of (rows_by (value (take 4 bytes)) (drop 4 bytes))
        → cond test (rows_taken (value (take 4 bytes)) (drop 4 bytes)) None
        ≡ left_of (option_and_then (λ (p : ℕ × List ℕ). rows_by p.0 p.1) (option_map (λ (p : List ℕ × List ℕ). (value p.0, p.1)) (cond test (Some (take 4 bytes, drop 4 bytes)) None)))
    by_test true same = same
    by_test false same = refl

-- ---- requests

pub op_left : (request : Request) (bytes : List ℕ) → AreBytes bytes → behind_taken (behind.Asked request) bytes ≡ left_of (op_in request bytes)
op_left requests.List bytes each = last_is (Size measured.Path 2 0) path_in bytes (path_field_taken bytes) ∙ sym (left_mapped ops.List (path_in bytes))
op_left requests.Fetch bytes each =
    then_is (Size measured.Path 2 0) path_in (then_taken (Any 24) Some) (both stamp_in (number_in 8)) bytes (path_field_taken bytes)
    (λ rest. last_is (Any 24) (both stamp_in (number_in 8)) rest (any_taken 23 rest ∙ sym (stamped_left rest)))
    ∙ sym (left_mapped (λ f. ops.Fetch f.0 f.1.0 f.1.1) (both path_in (both stamp_in (number_in 8)) bytes))
op_left requests.StageClear bytes each = refl
op_left requests.StageOpen bytes each = refl
op_left requests.StageAppend bytes each = last_is (Size measured.Bytes 4 0) (sized_in 4) bytes (bytes_field_taken bytes each) ∙ sym (left_mapped ops.StageAppend (sized_in 4 bytes))
op_left requests.StageKeep bytes each = last_is (Any 32) (front_in 32) bytes (any_is 31 bytes) ∙ sym (left_mapped ops.StageKeep (front_in 32 bytes))
op_left requests.Place bytes each =
    then_is (Size measured.Path 2 0) path_in (then_taken (Any 32) (bit_taken_then replaced_taken)) (both (front_in 32) (both bit_in replaced_in)) bytes (path_field_taken bytes)
    (λ rest. then_is (Any 32) (front_in 32) (bit_taken_then replaced_taken) (both bit_in replaced_in) rest (any_is 31 rest)
    (λ more. then_is (AnyThenBit 0) bit_in replaced_taken replaced_in more (bit_is more) replaced_last))
    ∙ sym (left_mapped (λ f. ops.Place f.0 f.1.0 f.1.1.0 f.1.1.1) (both path_in (both (front_in 32) (both bit_in replaced_in)) bytes))
op_left requests.MakeDir bytes each = last_is (Size measured.Path 2 0) path_in bytes (path_field_taken bytes) ∙ sym (left_mapped ops.MakeDir (path_in bytes))
op_left requests.MakeLink bytes each =
    then_is (Size measured.Path 2 0) path_in (then_taken (Size measured.Text 2 0) replaced_taken) (both text_in replaced_in) bytes (path_field_taken bytes)
    (λ rest. then_is (Size measured.Text 2 0) text_in replaced_taken replaced_in rest (text_field_taken rest) replaced_last)
    ∙ sym (left_mapped (λ f. ops.MakeLink f.0 f.1.0 f.1.1) (both path_in (both text_in replaced_in) bytes))
op_left requests.Remove bytes each =
    then_is (Size measured.Path 2 0) path_in (then_taken (Found wanted.Tracked) Some) tracked_in bytes (path_field_taken bytes)
    (λ rest. last_is (Found wanted.Tracked) tracked_in rest (tracked_is rest))
    ∙ sym (left_mapped (λ f. ops.Remove f.0 f.1) (both path_in tracked_in bytes))
op_left requests.SetExec bytes each =
    then_is (Size measured.Path 2 0) path_in (then_taken (Found wanted.File) (bit_taken_then Some)) (both file_in bit_in) bytes (path_field_taken bytes)
    (λ rest. then_is (Found wanted.File) file_in (bit_taken_then Some) bit_in rest (file_is rest) bit_last)
    ∙ sym (left_mapped (λ f. ops.SetExec f.0 f.1.0 f.1.1) (both path_in (both file_in bit_in) bytes))

pub ask_left : (request : Request) (bytes : List ℕ) → AreBytes bytes → asked_taken request bytes ≡ left_of (ask_in request bytes)
ask_left request bytes each =
    ap (option_and_then (behind_taken (behind.Asked request))) (any_taken 27 bytes)
    ∙ by_test (nat_le 28 (length bytes))
    ∙ ap (option_and_then (λ rest. left_of (op_in request rest))) (sym (who_left bytes))
    ∙ sym (left_both who_in (op_in request) bytes)
    ∙ sym (left_mapped (λ f. messages.Ask f.0 f.1) (both who_in (op_in request) bytes))
  where
    by_test : (test : Bool) → option_and_then (behind_taken (behind.Asked request)) (cond test (Some (drop 28 bytes)) None) ≡ option_and_then (λ rest. left_of (op_in request rest)) (cond test (Some (drop 28 bytes)) None)
    by_test true = op_left request (drop 28 bytes) (bytes_drop 28 bytes each)
    by_test false = refl

-- ---- answers

pub answer_left : (reply : Reply) (bytes : List ℕ) → reply_taken reply bytes ≡ left_of (answer_in reply bytes)
answer_left replies.Listed bytes = count_left bytes ∙ sym (left_mapped (λ rows. messages.Answer (answers.Listed rows)) (rows_in bytes))
answer_left replies.Held bytes = last_is (Found wanted.Any) found_in bytes (found_is bytes) ∙ sym (left_mapped (λ found. messages.Answer (answers.Held found)) (found_in bytes))
answer_left replies.Piece bytes =
    then_is (Size measured.Piece 4 0) piece_in (bit_taken_then Some) bit_in bytes (piece_field_taken bytes) bit_last
    ∙ sym (left_mapped (λ f. messages.Answer (answers.Piece f.0 f.1)) (both piece_in bit_in bytes))
answer_left replies.Changed bytes = last_is (Found wanted.Any) found_in bytes (found_is bytes) ∙ sym (left_mapped (λ found. messages.Answer (answers.Changed found)) (found_in bytes))
answer_left replies.TooLarge bytes = last_is (Any 8) (number_in 8) bytes (any_taken 7 bytes ∙ sym (number_left 8 bytes)) ∙ sym (left_mapped (λ size. messages.Answer (answers.TooLarge size)) (number_in 8 bytes))
answer_left replies.Cleared bytes = refl
answer_left replies.Opened bytes = refl
answer_left replies.NotStaged bytes = refl
answer_left replies.Kept bytes = refl
answer_left replies.DigestDiffers bytes =
    last_is (Any 64) (both (front_in 32) (front_in 32)) bytes (any_taken 63 bytes ∙ sym (two_left 32 32 (front_in 32) (front_in 32) bytes (left_front 32) (left_front 32)))
    ∙ sym (left_mapped (λ f. messages.Answer (answers.DigestDiffers f.0 f.1)) (both (front_in 32) (front_in 32) bytes))
answer_left replies.Done bytes = last_is Done done_in bytes (done_taken bytes) ∙ sym (left_mapped (λ stamp. messages.Answer (answers.Done stamp)) (done_in bytes))
answer_left replies.NoParent bytes = last_is (Found wanted.Any) found_in bytes (found_is bytes) ∙ sym (left_mapped (λ found. messages.Answer (answers.NoParent found)) (found_in bytes))
answer_left replies.Differs bytes = last_is (Found wanted.Any) found_in bytes (found_is bytes) ∙ sym (left_mapped (λ found. messages.Answer (answers.Differs found)) (found_in bytes))
answer_left replies.NotEmpty bytes = refl
answer_left replies.NoExec bytes = refl
answer_left replies.Full bytes =
    last_is (Any 16) (both (number_in 8) (number_in 8)) bytes (any_taken 15 bytes ∙ sym (two_left 8 8 (number_in 8) (number_in 8) bytes (number_left 8) (number_left 8)))
    ∙ sym (left_mapped (λ f. messages.Answer (answers.Full (record { log = f.0; bytes = f.1 }))) (both (number_in 8) (number_in 8) bytes))
answer_left replies.Failed bytes = refl
answer_left replies.NoMemory bytes = refl
answer_left replies.TooLong bytes = last_is (Any 8) (number_in 8) bytes (any_taken 7 bytes ∙ sym (number_left 8 bytes)) ∙ sym (left_mapped messages.TooLong (number_in 8 bytes))
answer_left replies.NoLink bytes = refl
