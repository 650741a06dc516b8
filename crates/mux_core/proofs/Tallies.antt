-- What frames say of one stream, and of frames that are joined.
use Rattle.std.proofs.Common.{◌≡◌, ℕ, ◌+◌, Bool, true, false, ◌||◌, eqb, List, [], ◌∷◌, ◌++◌, refl, sym, ap, ◌∙◌, arith, append_assoc}
use Rattle.std.proofs.lemmas.List.{append-nil}
use Rattle.mux_frames.specs.declared.frame.MuxFrame.{MuxFrame}
use Rattle.mux_frames.specs.declared.frame.MuxFrame.TheVariants.{OpenStream, Accept, CloseWrite, Close}
use Rattle.mux_core.specs.Links.{payload_on, payloads, windows}

abbrev pub is_accept : ℕ → MuxFrame → Bool
is_accept n (Accept stream) = eqb stream n
is_accept n _ = false

abbrev pub is_close_write : ℕ → MuxFrame → Bool
is_close_write n (CloseWrite stream) = eqb stream n
is_close_write n _ = false

abbrev pub is_close : ℕ → MuxFrame → Bool
is_close n (Close stream) = eqb stream n
is_close n _ = false

-- a frame of this kind is among them
abbrev pub has : (MuxFrame → Bool) → List MuxFrame → Bool
has test [] = false
has test (frame ∷ frames) = test frame || has test frames

abbrev pub open_in : MuxFrame → ℕ
open_in (OpenStream stream) = 1
open_in _ = 0

-- how many streams are opened
abbrev pub opens : List MuxFrame → ℕ
opens [] = 0
opens (frame ∷ frames) = open_in frame + opens frames

-- what frames say of one stream
pub record Tally : Type 0 where
  pub bytes : List ℕ
  pub amount : ℕ
  pub accepted : Bool
  pub ended : Bool
  pub closed : Bool

abbrev pub nothing : Tally
nothing = record { bytes = []; amount = 0; accepted = false; ended = false; closed = false }

abbrev pub join : Tally → Tally → Tally
join a b = record { bytes = a.bytes ++ b.bytes; amount = a.amount + b.amount; accepted = a.accepted || b.accepted; ended = a.ended || b.ended; closed = a.closed || b.closed }

abbrev pub tally : ℕ → List MuxFrame → Tally
tally n frames = record { bytes = payloads n frames; amount = windows n frames; accepted = has (is_accept n) frames; ended = has (is_close_write n) frames; closed = has (is_close n) frames }

pub payloads-append : (n : ℕ) (xs ys : List MuxFrame) → payloads n (xs ++ ys) ≡ payloads n xs ++ payloads n ys
payloads-append n [] ys = refl
payloads-append n (x ∷ xs) ys = ap (λ (b : List ℕ). payload_on n x ++ b) (payloads-append n xs ys) ∙ sym (append_assoc (payload_on n x) (payloads n xs) (payloads n ys))

pub windows-append : (n : ℕ) (xs ys : List MuxFrame) → windows n (xs ++ ys) ≡ windows n xs + windows n ys
windows-append n [] ys = omega arith
windows-append n (x ∷ xs) ys = omega (arith, windows-append n xs ys)

pub opens-append : (xs ys : List MuxFrame) → opens (xs ++ ys) ≡ opens xs + opens ys
opens-append [] ys = omega arith
opens-append (x ∷ xs) ys = omega (arith, opens-append xs ys)

pub or_assoc : (a b c : Bool) → (a || (b || c)) ≡ ((a || b) || c)
or_assoc true b c = refl
or_assoc false b c = refl

pub has-append : (test : MuxFrame → Bool) (xs ys : List MuxFrame) → has test (xs ++ ys) ≡ (has test xs || has test ys)
has-append test [] ys = refl
has-append test (x ∷ xs) ys = ap (λ (b : Bool). test x || b) (has-append test xs ys) ∙ or_assoc (test x) (has test xs) (has test ys)

pub tally_is : (a b : List ℕ) (i j : ℕ) (x y p q u v : Bool) → a ≡ b → i ≡ j → x ≡ y → p ≡ q → u ≡ v
    → (let t : Tally = record { bytes = a; amount = i; accepted = x; ended = p; closed = u } in t) ≡ record { bytes = b; amount = j; accepted = y; ended = q; closed = v }
tally_is a b i j x y p q u v e f g h k = cc

pub tally-append : (n : ℕ) (xs ys : List MuxFrame) → tally n (xs ++ ys) ≡ join (tally n xs) (tally n ys)
tally-append n xs ys = tally_is _ _ _ _ _ _ _ _ _ _ (payloads-append n xs ys) (windows-append n xs ys) (has-append (is_accept n) xs ys) (has-append (is_close_write n) xs ys) (has-append (is_close n) xs ys)

pub or_false : (b : Bool) → (b || false) ≡ b
or_false true = refl
or_false false = refl

pub join-nothing : (t : Tally) → join t nothing ≡ t
join-nothing t = tally_is _ _ _ _ _ _ _ _ _ _ (append-nil t.bytes) (omega arith) (or_false t.accepted) (or_false t.ended) (or_false t.closed)
