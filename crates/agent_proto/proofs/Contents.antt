-- A message's content that stands apart from what is before it.
use Rattle.std.proofs.Common.{◌≡◌, ℕ, suc, ◌≤◌, Bool, true, false, cond, ◌&&◌, List, [], ◌∷◌, ◌++◌, length, get_or, drop, refl, sym, ap, subst, ◌∙◌, arith, append_assoc, length-append, length-drop, Some, None}
use Rattle.std.specs.Prelude.{IsTrue, ◌==◌}
use Rattle.std.proofs.lemmas.Bool.{and_parts, le-leb}
use Rattle.std.proofs.lemmas.Bool.Decides.{nat_tests}
use Rattle.std.proofs.lemmas.List.{append-nil, drop_at}
use Rattle.mux_frames.specs.Numbers.{AreBytes}
use Rattle.roots_api.specs.declared.answer.Answer.TheVariants as answers
use Rattle.roots_api.specs.declared.op.Op.TheVariants as ops
use Rattle.roots_api.specs.declared.who.Who.{Who}
use Rattle.agent_proto.specs.declared.kind.Request.TheVariants as requests
use Rattle.agent_proto.specs.declared.message.Message.{Message}
use Rattle.agent_proto.specs.declared.message.Message.TheVariants as messages
use Rattle.agent_proto.specs.Fields.{number_field, bytes_field, bit_field}
use Rattle.agent_proto.specs.Messages.{body, who_field}
use Rattle.agent_proto.specs.Reading.{mapped, both, sized_in, bit_in, piece_in, who_in, op_in, message_in}
use Rattle.agent_proto.specs.Streams.{IsSpelling}
use Rattle.agent_proto.specs.Batches.{IsSpelt}
use Rattle.agent_proto.specs.Held.{is_append, is_piece}
use Rattle.agent_proto.proofs.Codecs.{some_is, map_some, both_parts}
use Rattle.agent_proto.proofs.FieldLaws.{session_law, bytes_law}
use Rattle.agent_proto.proofs.FieldWalks.{left_of}
use Rattle.agent_proto.proofs.KindWalks.{who_left}
use Rattle.agent_proto.proofs.MeasuredWalks.{bytes_drop}
use Rattle.agent_proto.proofs.MessageLaws.{message_there, piece_and_bit}
use Rattle.agent_proto.proofs.Numbers.{length_of}

-- the fifth byte, and what is behind it
fifth : (front content : List ℕ) → 5 ≤ length front → drop 4 (front ++ content) ≡ get_or front 4 0 ∷ (drop 5 front ++ content)
fifth [] content h = absurd (omega (arith, h))
fifth (a ∷ []) content h = absurd (omega (arith, h))
fifth (a ∷ b ∷ []) content h = absurd (omega (arith, h))
fifth (a ∷ b ∷ x ∷ []) content h = absurd (omega (arith, h))
fifth (a ∷ b ∷ x ∷ d ∷ []) content h = absurd (omega (arith, h))
fifth (a ∷ b ∷ x ∷ d ∷ e ∷ rest) content h = refl

record Front (front : List ℕ) (size kind : ℕ) : Type 0 where
  len : length front ≡ size
  kind_is : get_or front 4 0 ≡ kind

front_is : (front : List ℕ) (size kind : ℕ) → ((length front == size) && (get_or front 4 0 == kind)) ≡ true → Front front size kind
front_is front size kind e = let h = and_parts (length front == size) (get_or front 4 0 == kind) e in record { len = grind (arith, nat_tests, h.0); kind_is = grind (arith, nat_tests, h.1) }

-- what the bytes are read as
record Read (front content : List ℕ) (kind : ℕ) (message : Message) : Type 0 where
  each : AreBytes (drop 5 front ++ content)
  found : message_in (kind ∷ (drop 5 front ++ content)) ≡ Some (message, [])

read_is : (front content : List ℕ) (kind : ℕ) (is : IsSpelling (front ++ content)) → 5 ≤ length front → get_or front 4 0 ≡ kind → Read front content kind is.0
read_is front content kind is some kind_is =
    let message = is.0 in
    let behind : drop 4 (front ++ content) ≡ kind ∷ (drop 5 front ++ content) = fifth front content some ∙ ap (λ (k : ℕ). k ∷ (drop 5 front ++ content)) kind_is in
    let body_is : body message ≡ kind ∷ (drop 5 front ++ content) = sym (drop_at (number_field 4 (length (body message))) (body message) 4 (length_of 4 (length (body message)))) ∙ ap (drop 4) (sym is.2) ∙ behind in
    let each : AreBytes (kind ∷ (drop 5 front ++ content)) = subst AreBytes behind (bytes_drop 4 (front ++ content) (subst AreBytes (sym is.2) is.1.bytes)) in
    record { each = each.1; found = ap message_in (sym body_is) ∙ ap message_in (sym (append-nil (body message))) ∙ message_there message [] is.1.sound.fields }

-- ---- who asks

who_there : (bytes : List ℕ) → 28 ≤ length bytes → left_of (who_in bytes) ≡ Some (drop 28 bytes)
who_there bytes some = who_left bytes ∙ ap (λ t. cond t (Some (drop 28 bytes)) None) (le-leb 28 (length bytes) some)

pub some_who : (front : List ℕ) → IsTrue (is_append front) → who_in (drop 5 front) ≡ None → ⊥
some_who front ok none =
    let f = front_is front 37 5 ok in
    let there = who_there (drop 5 front) (omega (arith, length-drop 5 front, f.len)) in
    absurd (let e : left_of (who_in (drop 5 front)) ≡ None = ap left_of none in cc)

left_four : (front : List ℕ) (who : Who) (left : List ℕ) → length front ≡ 37 → who_in (drop 5 front) ≡ Some (who, left) → length left ≡ 4
left_four front who left len is =
    let there = who_there (drop 5 front) (omega (arith, length-drop 5 front, len)) in
    let same : left ≡ drop 28 (drop 5 front) = some_is left (drop 28 (drop 5 front)) (sym (ap left_of is) ∙ there) in
    omega (arith, ap length same, length-drop 28 (drop 5 front), length-drop 5 front, len)

front_bytes : (xs ys : List ℕ) → AreBytes (xs ++ ys) → AreBytes xs
front_bytes [] ys each = tt
front_bytes (x ∷ xs) ys each = (each.0, front_bytes xs ys each.1)

back_bytes : (xs ys : List ℕ) → AreBytes (xs ++ ys) → AreBytes ys
back_bytes [] ys each = each
back_bytes (x ∷ xs) ys each = back_bytes xs ys each.1

-- bytes behind a number of them, to the last
content_is : (left content bytes : List ℕ) → length left ≡ 4 → left ++ content ≡ bytes_field bytes ++ [] → content ≡ bytes
content_is left content bytes len e =
    sym (drop_at left content 4 len) ∙ ap (drop 4) (e ∙ append-nil (bytes_field bytes)) ∙ drop_at (number_field 4 (length bytes)) bytes 4 (length_of 4 (length bytes))

pub append_spelt : (front content : List ℕ) (who : Who) (left : List ℕ) → IsTrue (is_append front) → IsSpelling (front ++ content) → who_in (drop 5 front) ≡ Some (who, left)
    → IsSpelt (front ++ content) (messages.Ask who (ops.StageAppend content))
append_spelt front content who left ok is who_is =
    let f = front_is front 37 5 ok in
    let read = read_is front content 5 is (omega (arith, f.len)) f.kind_is in
    let xs = drop 5 front ++ content in
    let asked : mapped (λ a. messages.Ask a.0 a.1) (both who_in (op_in requests.StageAppend) xs) ≡ Some (is.0, []) = read.found in
    let outer = map_some (λ p. (messages.Ask p.0.0 p.0.1, p.1)) (both who_in (op_in requests.StageAppend) xs) (is.0, []) asked in
    let parts = both_parts who_in (op_in requests.StageAppend) xs outer.0.0 outer.0.1 outer.1 in
    let spelled = session_law.back (drop 5 front) who left (front_bytes (drop 5 front) content read.each) who_is in
    let all : xs ≡ who_field who ++ (left ++ content) = ap (λ ys. ys ++ content) spelled.1 ∙ append_assoc (who_field who) left content in
    let there : who_in xs ≡ Some (who, left ++ content) = ap who_in all ∙ session_law.there who (left ++ content) spelled.0 in
    let same = some_is (outer.0.0.0, parts.0) (who, left ++ content) (sym parts.1 ∙ there) in
    let mid : parts.0 ≡ left ++ content = ap (λ p. p.1) same in
    let inner = map_some (λ p. (ops.StageAppend p.0, p.1)) (sized_in 4 parts.0) (outer.0.0.1, outer.0.1) parts.2 in
    let none : inner.0.1 ≡ [] = ap (λ p. p.1) inner.2 ∙ ap (λ p. p.1) outer.2 in
    let each : AreBytes parts.0 = subst AreBytes (sym mid) (back_bytes (who_field who) (left ++ content) (subst AreBytes all read.each)) in
    let sized = bytes_law.back parts.0 inner.0.0 inner.0.1 each inner.1 in
    let bytes : content ≡ inner.0.0 = content_is left content inner.0.0 (left_four front who left f.len who_is) (sym mid ∙ sized.1 ∙ ap (λ ys. bytes_field inner.0.0 ++ ys) none) in
    let op_is : outer.0.0.1 ≡ ops.StageAppend content = sym (ap (λ p. p.0) inner.2) ∙ ap ops.StageAppend (sym bytes) in
    let message_is : is.0 ≡ messages.Ask who (ops.StageAppend content) = sym (ap (λ p. p.0) outer.2) ∙ ap (λ w. messages.Ask w outer.0.0.1) (ap (λ p. p.0) same) ∙ ap (messages.Ask who) op_is in
    subst (IsSpelt (front ++ content)) message_is (is.1, is.2)

-- ---- a piece

-- the bytes and the bit of a piece that these are
record Pieces (content : List ℕ) (message : Message) : Type 0 where
  bytes : List ℕ
  last : Bool
  content_are : content ≡ bytes ++ bit_field last
  message_is : message ≡ messages.Answer (answers.Piece bytes last)

pieces_of : (front content : List ℕ) (is : IsSpelling (front ++ content)) → IsTrue (is_piece front) → Pieces content is.0
pieces_of front content is ok =
    let f = front_is front 9 131 ok in
    let read = read_is front content 131 is (omega (arith, f.len)) f.kind_is in
    let xs = drop 5 front ++ content in
    let told : mapped (λ a. messages.Answer (answers.Piece a.0 a.1)) (both piece_in bit_in xs) ≡ Some (is.0, []) = read.found in
    let outer = map_some (λ p. (messages.Answer (answers.Piece p.0.0 p.0.1), p.1)) (both piece_in bit_in xs) (is.0, []) told in
    let none : outer.0.1 ≡ [] = ap (λ p. p.1) outer.2 in
    let spelled = piece_and_bit.back xs outer.0.0 outer.0.1 read.each outer.1 in
    let b = outer.0.0.0 in
    let n = number_field 4 (length b) in
    let all : drop 5 front ++ content ≡ n ++ (b ++ bit_field outer.0.0.1) = spelled.1 ∙ ap (λ ys. (bytes_field b ++ bit_field outer.0.0.1) ++ ys) none ∙ append-nil (bytes_field b ++ bit_field outer.0.0.1) ∙ append_assoc n b (bit_field outer.0.0.1) in
    record {
      bytes = b;
      last = outer.0.0.1;
      content_are = sym (drop_at (drop 5 front) content 4 (omega (arith, length-drop 5 front, f.len))) ∙ ap (drop 4) all ∙ drop_at n (b ++ bit_field outer.0.0.1) 4 (length_of 4 (length b));
      message_is = sym (ap (λ p. p.0) outer.2);
    }

-- a list and its last item
pub last_of : (xs ys : List ℕ) (x y : ℕ) → xs ++ x ∷ [] ≡ ys ++ y ∷ [] → (xs ≡ ys) × (x ≡ y)
last_of [] [] x y e = (refl, ap (λ zs. get_or zs 0 0) e)
last_of [] (b ∷ ys) x y e = absurd (let h : 1 ≡ suc (length (ys ++ y ∷ [])) = ap length e in omega (arith, h, length-append ys (y ∷ [])))
last_of (a ∷ xs) [] x y e = absurd (let h : suc (length (xs ++ x ∷ [])) ≡ 1 = ap length e in omega (arith, h, length-append xs (x ∷ [])))
last_of (a ∷ xs) (b ∷ ys) x y e =
    let rest = last_of xs ys x y (ap (drop 1) e) in
    let first : a ≡ b = ap (λ zs. get_or zs 0 0) e in
    (ap (λ z. z ∷ xs) first ∙ ap (λ zs. b ∷ zs) rest.0, rest.1)

pub piece_some : (front content : List ℕ) → IsTrue (is_piece front) → IsSpelling (front ++ content) → content ≡ [] → ⊥
piece_some front content ok is none = by_bit p.last p.content_are
  where
    p : Pieces content is.0
    p = pieces_of front content is ok

    by_bit : (last : Bool) → content ≡ p.bytes ++ bit_field last → ⊥
    by_bit true e = omega (arith, ap length none, ap length e, length-append p.bytes (1 ∷ []))
    by_bit false e = omega (arith, ap length none, ap length e, length-append p.bytes (0 ∷ []))

pub piece_spelt : (front content rest : List ℕ) (bit : ℕ) → IsTrue (is_piece front) → IsSpelling (front ++ content) → content ≡ rest ++ bit ∷ [] → IsSpelt (front ++ content) (messages.Answer (answers.Piece rest (bit == 1)))
piece_spelt front content rest bit ok is ends = subst (IsSpelt (front ++ content)) (p.message_is ∙ by_bit p.last p.content_are) (is.1, is.2)
  where
    p : Pieces content is.0
    p = pieces_of front content is ok

    by_bit : (last : Bool) → content ≡ p.bytes ++ bit_field last → messages.Answer (answers.Piece p.bytes last) ≡ messages.Answer (answers.Piece rest (bit == 1))
    by_bit true e = let h = last_of p.bytes rest 1 bit (sym e ∙ ends) in ap (λ b. messages.Answer (answers.Piece b true)) h.0 ∙ ap (λ (k : ℕ). messages.Answer (answers.Piece rest (k == 1))) h.1
    by_bit false e = let h = last_of p.bytes rest 0 bit (sym e ∙ ends) in ap (λ b. messages.Answer (answers.Piece b false)) h.0 ∙ ap (λ (k : ℕ). messages.Answer (answers.Piece rest (k == 1))) h.1
