-- One spelling: what a frame and some bytes behind it spell has no other reading.
use Rattle.std.proofs.Common.{◌≡◌, ℕ, ◌+◌, ◌<◌, Bool, true, false, cond, eqb, List, [], ◌∷◌, ◌++◌, length, get_or, take, drop, Option, Some, None, refl, sym, ap, subst, ◌∙◌, arith, add-one, ◌⊎◌, inl, inr}
use Rattle.std.specs.Int.{w16, w32, to_be_bytes}
use Rattle.std.proofs.lemmas.Bool.{eqb-true}
use Rattle.std.proofs.lemmas.List.{take_at, drop_at}
use Rattle.mux_frames.specs.declared.wire.TheConstants.{KIND_OPEN, KIND_ACCEPT, KIND_DATA, KIND_WINDOW, KIND_CLOSE_WRITE, KIND_CLOSE, KIND_HEARTBEAT}
use Rattle.mux_frames.specs.declared.kind.Kind.{Kind}
use Rattle.mux_frames.specs.declared.kind.Kind.TheVariants as kinds
use Rattle.mux_frames.specs.declared.frame.MuxFrame.{MuxFrame}
use Rattle.mux_frames.specs.declared.frame.MuxFrame.TheVariants.{OpenStream, Accept, Payload, Window, CloseWrite, Close, Heartbeat}
use Rattle.mux_frames.specs.Kinds.{code, kind_of}
use Rattle.mux_frames.specs.Frames.{spelling, IsFrame, IsSpelling}
use Rattle.mux_frames.specs.Numbers.{value}
use Rattle.mux_frames.specs.Prefix.{Continues, IsFault}
use Rattle.mux_frames.specs.Steps.{IsBody}
use Rattle.mux_frames.proofs.Shapes.{value_of_2, value_of_4, code_is, kind_of-code, kind_from, body_from, spelling_is, heads, some_is}

-- the frame behind a kind's byte, and the bytes behind the frame
abbrev frame_at : Kind → List ℕ → MuxFrame × List ℕ
frame_at kinds.Open bytes = (OpenStream (value (take 4 bytes)), drop 4 bytes)
frame_at kinds.Accept bytes = (Accept (value (take 4 bytes)), drop 4 bytes)
frame_at kinds.Data bytes = (Payload (value (take 4 bytes)) (take (value (take 2 (drop 4 bytes))) (drop 6 bytes)), drop (value (take 2 (drop 4 bytes))) (drop 6 bytes))
frame_at kinds.Window bytes = (Window (value (take 4 bytes)) (value (take 4 (drop 4 bytes))), drop 8 bytes)
frame_at kinds.CloseWrite bytes = (CloseWrite (value (take 4 bytes)), drop 4 bytes)
frame_at kinds.Close bytes = (Close (value (take 4 bytes)), drop 4 bytes)
frame_at kinds.Heartbeat bytes = (Heartbeat, drop 4 bytes)

frame_again : (frame : MuxFrame) (rest : List ℕ) → IsFrame frame → frame_at (kind_from frame) (body_from frame ++ rest) ≡ (frame, rest)
frame_again (OpenStream stream) rest ok = ap (λ (n : ℕ). (OpenStream n, rest)) (value_of_4 stream ok.1)
frame_again (Accept stream) rest ok = ap (λ (n : ℕ). (Accept n, rest)) (value_of_4 stream ok.1)
frame_again (Payload stream bytes) rest ok =
    let size_is : value (to_be_bytes w16 (length bytes)) ≡ length bytes = value_of_2 (length bytes) (omega (arith, ok.1.1)) in
    let front : take (value (to_be_bytes w16 (length bytes))) (bytes ++ rest) ≡ bytes = take_at bytes rest (value (to_be_bytes w16 (length bytes))) (sym size_is) in
    let back : drop (value (to_be_bytes w16 (length bytes))) (bytes ++ rest) ≡ rest = drop_at bytes rest (value (to_be_bytes w16 (length bytes))) (sym size_is) in
    ap (λ (n : ℕ). (Payload n (take (value (to_be_bytes w16 (length bytes))) (bytes ++ rest)), drop (value (to_be_bytes w16 (length bytes))) (bytes ++ rest))) (value_of_4 stream ok.0.1)
    ∙ ap (λ (xs : List ℕ). (Payload stream xs, drop (value (to_be_bytes w16 (length bytes))) (bytes ++ rest))) front ∙ ap (λ (xs : List ℕ). (Payload stream bytes, xs)) back
frame_again (Window stream amount) rest ok = ap (λ (n : ℕ). (Window n (value (to_be_bytes w32 amount)), rest)) (value_of_4 stream ok.0.1) ∙ ap (λ (n : ℕ). (Window stream n, rest)) (value_of_4 amount (omega (arith, ok.1.1)))
frame_again (CloseWrite stream) rest ok = ap (λ (n : ℕ). (CloseWrite n, rest)) (value_of_4 stream ok.1)
frame_again (Close stream) rest ok = ap (λ (n : ℕ). (Close n, rest)) (value_of_4 stream ok.1)
frame_again Heartbeat rest ok = refl

-- no frame begins another, and each has one spelling
pub one_spelling : (a b : MuxFrame) (x y : List ℕ) → IsFrame a → IsFrame b → spelling a ++ x ≡ spelling b ++ y → (a ≡ b) × (x ≡ y)
one_spelling a b x y ok_a ok_b e =
    let spelled : code (kind_from a) ∷ (body_from a ++ x) ≡ code (kind_from b) ∷ (body_from b ++ y) = ap (λ (xs : List ℕ). xs ++ x) (sym (spelling_is a)) ∙ e ∙ ap (λ (xs : List ℕ). xs ++ y) (spelling_is b) in
    let parts = heads (code (kind_from a)) (code (kind_from b)) (body_from a ++ x) (body_from b ++ y) spelled in
    let kinds_is : kind_from a ≡ kind_from b = code_is (kind_from a) (kind_from b) parts.0 in
    let both : (a, x) ≡ (b, y) = sym (frame_again a x ok_a) ∙ ap (λ (k : Kind). frame_at k (body_from a ++ x)) kinds_is ∙ ap (frame_at (kind_from b)) parts.1 ∙ frame_again b y ok_b in
    (ap (λ (p : MuxFrame × List ℕ). p.0) both, ap (λ (p : MuxFrame × List ℕ). p.1) both)

-- ---- at the first byte

chosen : (byte : ℕ) (x : Kind) (b : Bool) (rest : Option Kind) (kind : Kind) → eqb byte (code x) ≡ b → cond b (Some x) rest ≡ Some kind → (byte ≡ code kind) ⊎ (rest ≡ Some kind)
chosen byte x true rest kind test e =
    let x_is : x ≡ kind = some_is x kind e in
    inl (eqb-true byte (code x) test ∙ ap code x_is)
chosen byte x false rest kind test e = inr e

-- the byte of the kind that it stands for
pub code-kind_of : (byte : ℕ) (kind : Kind) → kind_of byte ≡ Some kind → byte ≡ code kind
code-kind_of byte kind e =
    elim (chosen byte kinds.Open (eqb byte KIND_OPEN) _ kind refl e) [
      | inl found ↦ found
      | inr e1 ↦
          elim (chosen byte kinds.Accept (eqb byte KIND_ACCEPT) _ kind refl e1) [
            | inl found ↦ found
            | inr e2 ↦
                elim (chosen byte kinds.Data (eqb byte KIND_DATA) _ kind refl e2) [
                  | inl found ↦ found
                  | inr e3 ↦
                      elim (chosen byte kinds.Window (eqb byte KIND_WINDOW) _ kind refl e3) [
                        | inl found ↦ found
                        | inr e4 ↦
                            elim (chosen byte kinds.CloseWrite (eqb byte KIND_CLOSE_WRITE) _ kind refl e4) [
                              | inl found ↦ found
                              | inr e5 ↦
                                  elim (chosen byte kinds.Close (eqb byte KIND_CLOSE) _ kind refl e5) [
                                    | inl found ↦ found
                                    | inr e6 ↦
                                        elim (chosen byte kinds.Heartbeat (eqb byte KIND_HEARTBEAT) _ kind refl e6) [ inl found ↦ found | inr e7 ↦ absurd cc ]
                                  ]
                            ]
                      ]
                ]
          ]
    ]

-- some frame begins with no bytes
pub nothing_continues : Continues IsSpelling []
nothing_continues = (KIND_HEARTBEAT, to_be_bytes w32 0, (Heartbeat, tt, refl))

-- a first byte that is no kind
pub kind_fault : (byte : ℕ) (rest : List ℕ) → kind_of byte ≡ None → IsFault IsSpelling (byte ∷ rest) 0
kind_fault byte rest none = record {
  within = omega arith;
  before = nothing_continues;
  none = λ more text.
      let parts = heads byte (code (kind_from text.0)) more (body_from text.0) (text.2 ∙ spelling_is text.0) in
      let known : kind_of byte ≡ Some (kind_from text.0) = ap kind_of parts.0 ∙ kind_of-code (kind_from text.0) in
      cc;
}

-- behind a kind's byte
pub body_continues : (kind : Kind) (rest : List ℕ) → Continues (IsBody kind) rest → Continues IsSpelling (code kind ∷ rest)
body_continues kind rest goes = goes

pub body_fault : (kind : Kind) (rest : List ℕ) (place : ℕ) → IsFault (IsBody kind) rest place → IsFault IsSpelling (code kind ∷ rest) (place + 1)
body_fault kind rest place fault =
    let one : take (place + 1) (code kind ∷ rest) ≡ code kind ∷ take place rest = rw add-one refl in
    let two : take ((place + 1) + 1) (code kind ∷ rest) ≡ code kind ∷ take (place + 1) rest = ap (λ (n : ℕ). take n (code kind ∷ rest)) (add-one (place + 1)) in
    record {
      within = omega (arith, fault.within);
      before = subst (Continues IsSpelling) (sym one) fault.before;
      none = λ more text. fault.none more (subst IsSpelling (ap (λ (xs : List ℕ). xs ++ more) two) text);
    }

pub first_and_rest : (bytes : List ℕ) → 0 < length bytes → bytes ≡ get_or bytes 0 0 ∷ drop 1 bytes
first_and_rest [] some = absurd (omega arith)
first_and_rest (b ∷ bytes) some = refl
