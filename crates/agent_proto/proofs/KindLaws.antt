-- A message's kind and length: what goes on behind them.
use Rattle.std.proofs.Common.{◌≡◌, ℕ, zero, suc, ◌-◌, ◌<◌, ◌≤◌, Bool, true, false, cond, ◌||◌, List, [], ◌∷◌, ◌++◌, length, refl, sym, ◌∙◌, ap, subst, arith, inl, inr, Some, None, length-append}
use Rattle.std.specs.Prelude.{Option, nat_le, ◌==◌}
use Rattle.std.specs.Option.{option_and_then}
use Rattle.std.proofs.lemmas.Bool.{and_parts, eqb-true, leb-true, le-leb}
use Rattle.std.proofs.lemmas.Bool.Decides.{nat_tests, leb_tells}
use Rattle.std.proofs.lemmas.List.{nil_from_length}
use Rattle.mux_frames.specs.Numbers.{AreBytes}
use Rattle.agent_proto.specs.declared.behind.Behind.TheVariants as behind
use Rattle.agent_proto.specs.declared.kind.Request.{Request}
use Rattle.agent_proto.specs.declared.kind.Request.TheVariants as requests
use Rattle.agent_proto.specs.declared.kind.Reply.{Reply}
use Rattle.agent_proto.specs.declared.kind.Reply.TheVariants as replies
use Rattle.agent_proto.specs.declared.field_place.Wanted.TheVariants as wanted
use Rattle.agent_proto.specs.declared.field_place.Measured.TheVariants as measured
use Rattle.agent_proto.specs.declared.field_place.FieldPlace.TheVariants.{Any, Found, Done, Size}
use Rattle.agent_proto.specs.declared.limits.TheConstants.{MAX_MESSAGE}
use Rattle.agent_proto.specs.declared.message.Message.{Message}
use Rattle.agent_proto.specs.declared.place.Step.TheVariants.{Bad}
use Rattle.agent_proto.specs.declared.field_place.Next.TheVariants.{On as on_field}
use Rattle.agent_proto.specs.declared.wire.TheConstants.{KIND_HELD, KIND_STAGE_APPEND, KIND_CLEARED}
use Rattle.agent_proto.specs.Sizes.{Has, field_sizes}
use Rattle.mux_frames.proofs.Digits.{AreBytes-append}
use Rattle.agent_proto.specs.Kinds.{request_of, reply_of}
use Rattle.agent_proto.specs.Behinds.{behind_taken}
use Rattle.agent_proto.specs.Places.{reply_taken, asked_taken, reply_start, other_start, kind_start, is_length}
use Rattle.agent_proto.specs.Reading.{message_in, fields_in, other_in, whole}
use Rattle.agent_proto.proofs.Found.{some_is}
use Rattle.agent_proto.proofs.FieldWalks.{left_of}
use Rattle.agent_proto.proofs.KindWalks.{ask_left, answer_left}
use Rattle.agent_proto.proofs.FieldSizes.{fills}
use Rattle.agent_proto.proofs.BehindSizes.{behind_measures, taken_append}
use Rattle.agent_proto.proofs.PlaceLaws.{Means, means_along, start_means, none_means}
use Rattle.agent_proto.proofs.StepLaws.{count_means}

-- ---- a message to the last byte

whole_left : {V : Type 0} (read : Option (V × List ℕ)) (v : V) → whole read ≡ Some v → left_of read ≡ Some []
whole_left None v e = absurd cc
whole_left (Some p) v e = by_test (length p.1 == 0) refl e
  where
    by_test : (test : Bool) → (length p.1 == 0) ≡ test → cond test (Some p.0) None ≡ Some v → ◌≡◌ {A = Option (List ℕ)} (Some p.1) (Some [])
    by_test true is e' = ap Some (nil_from_length p.1 (eqb-true (length p.1) 0 is))
    by_test false is e' = absurd cc

left_whole : {V : Type 0} (read : Option (V × List ℕ)) → left_of read ≡ Some [] → (v : V) × (whole read ≡ Some v)
left_whole None e = absurd cc
left_whole (Some p) e =
    let none : p.1 ≡ [] = some_is p.1 [] e in
    let test : (length p.1 == 0) ≡ true = ap (λ xs. length xs == 0) none in
    (p.0, ap (λ t. cond t (Some p.0) None) test)

-- ---- behind a kind

abbrev other_taken : Option Reply → List ℕ → Option (List ℕ)
other_taken None bytes = None
other_taken (Some reply) bytes = reply_taken reply bytes

abbrev kind_taken : Option Request → ℕ → List ℕ → Option (List ℕ)
kind_taken None byte bytes = other_taken (reply_of byte) bytes
kind_taken (Some request) byte bytes = asked_taken request bytes

other_left : (reply : Option Reply) (bytes : List ℕ) → other_taken reply bytes ≡ left_of (other_in reply bytes)
other_left None bytes = refl
other_left (Some reply) bytes = answer_left reply bytes

kind_left : (request : Option Request) (byte : ℕ) (bytes : List ℕ) → AreBytes bytes → kind_taken request byte bytes ≡ left_of (fields_in byte request bytes)
kind_left None byte bytes each = other_left (reply_of byte) bytes
kind_left (Some request) byte bytes each = ask_left request bytes each

abbrev Goes : (List ℕ → Option (List ℕ)) → ℕ → List ℕ → Type 0
Goes walk left bytes = (length bytes ≡ left) × (walk bytes ≡ Some [])

reply_means : (reply : Reply) (left : ℕ) → left ≤ MAX_MESSAGE → Means (reply_start reply left) (Goes (reply_taken reply) left)
reply_means replies.Listed left fits_ = count_means 4 0 left (omega arith) fits_
reply_means replies.Held left fits_ = start_means (Found wanted.Any) behind.Nothing left tt tt fits_
reply_means replies.Piece left fits_ = start_means (Size measured.Piece 4 0) behind.Bit left (omega arith, omega arith, omega arith, omega arith, omega arith) tt fits_
reply_means replies.Changed left fits_ = start_means (Found wanted.Any) behind.Nothing left tt tt fits_
reply_means replies.TooLarge left fits_ = start_means (Any 8) behind.Nothing left (omega arith, omega arith) tt fits_
reply_means replies.Cleared left fits_ = none_means left
reply_means replies.Opened left fits_ = none_means left
reply_means replies.NotStaged left fits_ = none_means left
reply_means replies.Kept left fits_ = none_means left
reply_means replies.DigestDiffers left fits_ = start_means (Any 64) behind.Nothing left (omega arith, omega arith) tt fits_
reply_means replies.Done left fits_ = start_means Done behind.Nothing left tt tt fits_
reply_means replies.NoParent left fits_ = start_means (Found wanted.Any) behind.Nothing left tt tt fits_
reply_means replies.Differs left fits_ = start_means (Found wanted.Any) behind.Nothing left tt tt fits_
reply_means replies.NotEmpty left fits_ = none_means left
reply_means replies.NoExec left fits_ = none_means left
reply_means replies.Full left fits_ = start_means (Any 16) behind.Nothing left (omega arith, omega arith) tt fits_
reply_means replies.Failed left fits_ = none_means left
reply_means replies.NoMemory left fits_ = none_means left
reply_means replies.TooLong left fits_ = start_means (Any 8) behind.Nothing left (omega arith, omega arith) tt fits_
reply_means replies.NoLink left fits_ = none_means left

other_means : (reply : Option Reply) (left : ℕ) → left ≤ MAX_MESSAGE → Means (other_start reply left) (Goes (other_taken reply) left)
other_means None left fits_ = λ bytes each goes. absurd (let e = goes.1 in cc)
other_means (Some reply) left fits_ = reply_means reply left fits_

start_kind_means : (request : Option Request) (byte left : ℕ) → left ≤ MAX_MESSAGE → Means (kind_start request byte left) (Goes (kind_taken request byte) left)
start_kind_means None byte left fits_ = other_means (reply_of byte) left fits_
start_kind_means (Some request) byte left fits_ = start_means (Any 28) (behind.Asked request) left (omega arith, omega arith) tt fits_

-- the rest of a message behind its kind
abbrev pub MessageRest : ℕ → ℕ → List ℕ → Type 0
MessageRest byte left bytes = (length bytes ≡ left) × ((message : Message) × (whole (message_in (byte ∷ bytes)) ≡ Some message))

to_message : (byte left : ℕ) (bytes : List ℕ) → AreBytes bytes → Goes (kind_taken (request_of byte) byte) left bytes → MessageRest byte left bytes
to_message byte left bytes each h = (h.0, left_whole (message_in (byte ∷ bytes)) (sym (kind_left (request_of byte) byte bytes each) ∙ h.1))

from_message : (byte left : ℕ) (bytes : List ℕ) → AreBytes bytes → MessageRest byte left bytes → Goes (kind_taken (request_of byte) byte) left bytes
from_message byte left bytes each h = (h.0, kind_left (request_of byte) byte bytes each ∙ whole_left (message_in (byte ∷ bytes)) h.1.0 h.1.1)

pub kind_means : (byte left : ℕ) → left ≤ MAX_MESSAGE → Means (kind_start (request_of byte) byte left) (MessageRest byte left)
kind_means byte left fits_ = means_along (kind_start (request_of byte) byte left) (Goes (kind_taken (request_of byte) byte) left) (MessageRest byte left) (to_message byte left) (from_message byte left) (start_kind_means (request_of byte) byte left fits_)

-- ---- some message has each length

-- bytes that are a message behind its length
pub record Bodies (size : ℕ) : Type 0 where
  pub bytes : List ℕ
  pub len : length bytes ≡ size
  pub each : AreBytes bytes
  pub found : (message : Message) × (whole (message_in bytes) ≡ Some message)

body_of : (byte left : ℕ) (bytes : List ℕ) → byte < 256 → AreBytes bytes → Goes (kind_taken (request_of byte) byte) left bytes → Bodies (suc left)
body_of byte left bytes small each goes =
    let rest = to_message byte left bytes each goes in
    record { bytes = byte ∷ bytes; len = ap suc rest.0; each = (small, each); found = rest.1 }

short_body : (left : ℕ) → Has (field_sizes (Found wanted.Any)) left → Bodies (suc left)
short_body left has =
    let entry = fills (Found wanted.Any) left tt has in
    body_of KIND_HELD left entry.bytes (omega arith) entry.each (entry.len, ap (option_and_then Some) entry.is)

long_body : (left : ℕ) → 32 ≤ left → left ≤ 4294967327 → Bodies (suc left)
long_body left low high =
    let who = fills (Any 28) 28 (omega arith, omega arith) (inl refl) in
    let rest = (behind_measures (behind.Asked requests.StageAppend)).fills (left - 28) (inr (omega (arith, low), omega (arith, low, high))) in
    body_of KIND_STAGE_APPEND left (who.bytes ++ rest.0) (omega arith) (AreBytes-append who.bytes rest.0 who.each rest.2)
    (omega (arith, length-append who.bytes rest.0, who.len, rest.1, low), ap (option_and_then (behind_taken (behind.Asked requests.StageAppend))) (taken_append (on_field (Any 28)) who.bytes [] rest.0 who.is) ∙ rest.3)

pub body_of_length : (size : ℕ) → is_length size ≡ true → Bodies size
body_of_length zero e = absurd (grind (arith, nat_tests, e))
body_of_length (suc zero) e = body_of KIND_CLEARED 0 [] (omega arith) tt (refl, refl)
body_of_length (suc (suc zero)) e = short_body 1 (inl refl)
body_of_length (suc (suc (suc left))) e =
    let range : (5 ≤ suc (suc (suc left))) × (suc (suc (suc left)) ≤ MAX_MESSAGE) = long_of (suc (suc (suc left))) (omega arith) e in
    elim (leb_tells (suc (suc left)) 4099) [
      | inl p ↦ short_body (suc (suc left)) (inr (omega (arith, range.0), p.1))
      | inr p ↦ long_body (suc (suc left)) (omega (arith, p.1)) (omega (arith, range.1))
    ]
  where
    long_of : (n : ℕ) → 3 ≤ n → is_length n ≡ true → (5 ≤ n) × (n ≤ MAX_MESSAGE)
    long_of n some e' =
        let one : (n == 1) ≡ false = grind (arith, nat_tests, some) in
        let two : (n == 2) ≡ false = grind (arith, nat_tests, some) in
        let both = and_parts (nat_le 5 n) (nat_le n MAX_MESSAGE) (rw (one, two) at e') in
        (leb-true 5 n both.0, leb-true n MAX_MESSAGE both.1)

-- no message has three bytes behind its length, or four
no_reply : (reply : Reply) → (reply_start reply 2 ≡ Bad) × (reply_start reply 3 ≡ Bad)
no_reply replies.Listed = (refl, refl)
no_reply replies.Held = (refl, refl)
no_reply replies.Piece = (refl, refl)
no_reply replies.Changed = (refl, refl)
no_reply replies.TooLarge = (refl, refl)
no_reply replies.Cleared = (refl, refl)
no_reply replies.Opened = (refl, refl)
no_reply replies.NotStaged = (refl, refl)
no_reply replies.Kept = (refl, refl)
no_reply replies.DigestDiffers = (refl, refl)
no_reply replies.Done = (refl, refl)
no_reply replies.NoParent = (refl, refl)
no_reply replies.Differs = (refl, refl)
no_reply replies.NotEmpty = (refl, refl)
no_reply replies.NoExec = (refl, refl)
no_reply replies.Full = (refl, refl)
no_reply replies.Failed = (refl, refl)
no_reply replies.NoMemory = (refl, refl)
no_reply replies.TooLong = (refl, refl)
no_reply replies.NoLink = (refl, refl)

no_other : (reply : Option Reply) → (other_start reply 2 ≡ Bad) × (other_start reply 3 ≡ Bad)
no_other None = (refl, refl)
no_other (Some reply) = no_reply reply

no_kind : (request : Option Request) (byte : ℕ) → (kind_start request byte 2 ≡ Bad) × (kind_start request byte 3 ≡ Bad)
no_kind None byte = no_other (reply_of byte)
no_kind (Some requests.List) byte = (refl, refl)
no_kind (Some requests.Fetch) byte = (refl, refl)
no_kind (Some requests.StageClear) byte = (refl, refl)
no_kind (Some requests.StageOpen) byte = (refl, refl)
no_kind (Some requests.StageAppend) byte = (refl, refl)
no_kind (Some requests.StageKeep) byte = (refl, refl)
no_kind (Some requests.Place) byte = (refl, refl)
no_kind (Some requests.MakeDir) byte = (refl, refl)
no_kind (Some requests.MakeLink) byte = (refl, refl)
no_kind (Some requests.Remove) byte = (refl, refl)
no_kind (Some requests.SetExec) byte = (refl, refl)

none_at : (byte left : ℕ) (bytes : List ℕ) → left ≤ MAX_MESSAGE → kind_start (request_of byte) byte left ≡ Bad → AreBytes bytes → MessageRest byte left bytes → ⊥
none_at byte left bytes fits_ bad each rest =
    let means : Means Bad (MessageRest byte left) = subst (λ s. Means s (MessageRest byte left)) bad (kind_means byte left fits_) in
    means bytes each rest

or_true : (a : Bool) → (a || true) ≡ true
or_true true = refl
or_true false = refl

pub length_of_body : (bytes : List ℕ) (message : Message) → AreBytes bytes → length bytes ≤ MAX_MESSAGE → whole (message_in bytes) ≡ Some message → is_length (length bytes) ≡ true
length_of_body [] message each fits_ e = absurd cc
length_of_body (byte ∷ []) message each fits_ e = refl
length_of_body (byte ∷ x ∷ []) message each fits_ e = refl
length_of_body (byte ∷ x ∷ y ∷ []) message each fits_ e = absurd (none_at byte 2 (x ∷ y ∷ []) (omega arith) (no_kind (request_of byte) byte).0 each.1 (refl, (message, e)))
length_of_body (byte ∷ x ∷ y ∷ z ∷ []) message each fits_ e = absurd (none_at byte 3 (x ∷ y ∷ z ∷ []) (omega arith) (no_kind (request_of byte) byte).1 each.1 (refl, (message, e)))
length_of_body (byte ∷ x ∷ y ∷ z ∷ w ∷ rest) message each fits_ e =
    let n = length (byte ∷ x ∷ y ∷ z ∷ w ∷ rest) in
    let low : nat_le 5 n ≡ true = le-leb 5 n (omega arith) in
    let high : nat_le n MAX_MESSAGE ≡ true = le-leb n MAX_MESSAGE fits_ in
    rw (low, high) (or_true (n == 1 || n == 2))
