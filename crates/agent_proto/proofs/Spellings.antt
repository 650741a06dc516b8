-- One spelling: what a message and some bytes behind it spell has no other reading.
use Rattle.std.proofs.Common.{◌≡◌, ℕ, ◌+◌, ◌<◌, ◌≤◌, List, [], ◌∷◌, ◌++◌, length, take, drop, Some, refl, sym, ap, ◌∙◌, arith, append_assoc, length-append}
use Rattle.std.proofs.lemmas.List.{take_at, drop_at}
use Rattle.mux_frames.specs.Prefix.{Continues}
use Rattle.mux_frames.proofs.Digits.{AreBytes-append}
use Rattle.agent_proto.specs.Fields.{number_field}
use Rattle.agent_proto.specs.Messages.{body, spelling}
use Rattle.agent_proto.specs.Reading.{number_in}
use Rattle.agent_proto.specs.Streams.{IsSent, IsSpelling}
use Rattle.agent_proto.specs.declared.limits.TheConstants.{MAX_MESSAGE}
use Rattle.agent_proto.specs.declared.message.Message.{Message}
use Rattle.agent_proto.specs.declared.message.Message.TheVariants.{NoMemory}
use Rattle.agent_proto.proofs.Codecs.{some_is, number_law}
use Rattle.agent_proto.proofs.Numbers.{length_of, bytes_of_field}
use Rattle.agent_proto.proofs.MessageLaws.{one_message}

pub size_of_spelling : (message : Message) → length (spelling message) ≡ 4 + length (body message)
size_of_spelling message = length-append (number_field 4 (length (body message))) (body message) ∙ ap (λ (n : ℕ). n + length (body message)) (length_of 4 (length (body message)))

pub size_of_message : (message : Message) → IsSent message → length (spelling message) ≤ MAX_MESSAGE + 4
size_of_message message ok = omega (arith, size_of_spelling message, ok.sound.fits)

pub spelling_some : (message : Message) → 0 < length (spelling message)
spelling_some message = omega (arith, size_of_spelling message)

-- the length that stands before a message, and what is behind it
length_first : (message : Message) (rest : List ℕ) → IsSent message → number_in 4 (spelling message ++ rest) ≡ Some (length (body message), body message ++ rest)
length_first message rest ok =
    let n = number_field 4 (length (body message)) in
    ap (number_in 4) (append_assoc n (body message) rest) ∙ (number_law 4).there (length (body message)) (body message ++ rest) (omega (arith, ok.sound.fits))

-- no message begins another, and each has one spelling
pub one_spelling : (a b : Message) (x y : List ℕ) → IsSent a → IsSent b → spelling a ++ x ≡ spelling b ++ y → (a ≡ b) × (x ≡ y)
one_spelling a b x y first second e =
    let both = some_is (length (body a), body a ++ x) (length (body b), body b ++ y) (sym (length_first a x first) ∙ ap (number_in 4) e ∙ length_first b y second) in
    let len : length (body a) ≡ length (body b) = ap (λ p. p.0) both in
    let bytes : body a ++ x ≡ body b ++ y = ap (λ p. p.1) both in
    let bodies : body a ≡ body b =
    sym (take_at (body a) x (length (body b)) len) ∙ ap (take (length (body b))) bytes ∙ take_at (body b) y (length (body b)) refl in
    let rests : x ≡ y = sym (drop_at (body a) x (length (body b)) len) ∙ ap (drop (length (body b))) bytes ∙ drop_at (body b) y (length (body b)) refl in
    (one_message a b first.sound.fields second.sound.fields bodies, rests)

-- some message begins with no bytes
some_text : (L : List ℕ → Type 0) (text : List ℕ) → 0 < length text → L text → Continues L []
some_text L [] some is = absurd (omega arith)
some_text L (next ∷ more) some is = (next, more, is)

no_memory_sent : IsSent NoMemory
no_memory_sent = record {
  sound = record { fields = tt; fits = omega arith };
  bytes = AreBytes-append (number_field 4 (length (body NoMemory))) (body NoMemory) (bytes_of_field 4 (length (body NoMemory))) (omega arith, tt);
}

pub nothing_continues : Continues IsSpelling []
nothing_continues = some_text IsSpelling (spelling NoMemory) (spelling_some NoMemory) (NoMemory, no_memory_sent, refl)
