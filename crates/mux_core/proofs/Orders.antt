-- The order of the frames that an end tells.
use Rattle.std.proofs.Common.{◌≡◌, ℕ, ◌+◌, ◌≤◌, ◌<◌, Bool, true, false, eqb, List, [], ◌∷◌, ◌++◌, refl, sym, ap, subst, ◌∙◌, ◌⊎◌, inl, inr, arith, append_assoc, true≢false}
use Rattle.std.proofs.lemmas.List.{append-nil}
use Rattle.std.proofs.lemmas.Bool.{cases_Bool, or_left, eqb-true, cond-false}
use Rattle.mux_frames.specs.declared.frame.MuxFrame.{MuxFrame}
use Rattle.mux_frames.specs.declared.frame.MuxFrame.TheVariants.{OpenStream, Accept, Payload, Window, CloseWrite, Close, Heartbeat}
use Rattle.mux_core.specs.Links.{payload_on, payloads}
use Rattle.mux_core.proofs.Tallies.{is_accept, is_close_write, is_close, has, opens, has-append}

-- the greatest number of a stream that may be named: at the near end that of the streams opened
-- before, at the far end the last
abbrev pub bound : Bool → ℕ → ℕ → List MuxFrame → ℕ
bound true start last before = start + opens before
bound false start last before = last

-- the stream was opened
abbrev pub IsKnown : Bool → ℕ → ℕ → List MuxFrame → ℕ → Type 0
IsKnown near start last before n = (start < n) × (n ≤ bound near start last before)

-- neither a CloseWrite nor a Close of the stream is among these
abbrev pub IsWritten : List MuxFrame → ℕ → Type 0
IsWritten before n = (has (is_close_write n) before ≡ false) × (has (is_close n) before ≡ false)

-- the frame may be told behind these
abbrev pub Fits : Bool → ℕ → ℕ → List MuxFrame → MuxFrame → Type 0
Fits near start last before (OpenStream n) = (near ≡ true) × (n ≡ (start + opens before) + 1)
Fits near start last before (Accept n) = (near ≡ false) × IsKnown near start last before n × (has (is_accept n) before ≡ false)
Fits near start last before (Payload n bytes) = IsKnown near start last before n × IsWritten before n
Fits near start last before (Window n amount) = IsKnown near start last before n
Fits near start last before (CloseWrite n) = IsKnown near start last before n × IsWritten before n
Fits near start last before (Close n) = IsKnown near start last before n
Fits near start last before Heartbeat = Unit {0}

abbrev pub Follows : Bool → ℕ → ℕ → List MuxFrame → List MuxFrame → Type 0
Follows near start last before [] = Unit {0}
Follows near start last before (frame ∷ frames) = Fits near start last before frame × Follows near start last (before ++ frame ∷ []) frames

pub follows-append : (near : Bool) (start last : ℕ) (before xs ys : List MuxFrame) → Follows near start last before xs → Follows near start last (before ++ xs) ys → Follows near start last before (xs ++ ys)
follows-append near start last before [] ys p q = subst (λ (zs : List MuxFrame). Follows near start last zs ys) (append-nil before) q
follows-append near start last before (x ∷ xs) ys p q =
    (p.0, follows-append near start last (before ++ x ∷ []) xs ys p.1 (subst (λ (zs : List MuxFrame). Follows near start last zs ys) (sym (append_assoc before (x ∷ []) xs)) q))

pub follows_behind : (near : Bool) (start last : ℕ) (before xs ys : List MuxFrame) → Follows near start last before (xs ++ ys) → Follows near start last (before ++ xs) ys
follows_behind near start last before [] ys p = subst (λ (zs : List MuxFrame). Follows near start last zs ys) (sym (append-nil before)) p
follows_behind near start last before (x ∷ xs) ys p =
    subst (λ (zs : List MuxFrame). Follows near start last zs ys) (append_assoc before (x ∷ []) xs) (follows_behind near start last (before ++ x ∷ []) xs ys p.1)

known_later : (near : Bool) (start last later : ℕ) (before : List MuxFrame) (n : ℕ) → last ≤ later → IsKnown near start last before n → IsKnown near start later before n
known_later true start last later before n le p = p
known_later false start last later before n le p = (p.0, omega (arith, p.1, le))

fits_later : (near : Bool) (start last later : ℕ) (before : List MuxFrame) (frame : MuxFrame) → last ≤ later → Fits near start last before frame → Fits near start later before frame
fits_later near start last later before (OpenStream n) le p = p
fits_later near start last later before (Accept n) le p = (p.0, known_later near start last later before n le p.1, p.2)
fits_later near start last later before (Payload n bytes) le p = (known_later near start last later before n le p.0, p.1)
fits_later near start last later before (Window n amount) le p = known_later near start last later before n le p
fits_later near start last later before (CloseWrite n) le p = (known_later near start last later before n le p.0, p.1)
fits_later near start last later before (Close n) le p = known_later near start last later before n le p
fits_later near start last later before Heartbeat le p = p

-- what may be named is more, once more streams are open
pub follows_later : (near : Bool) (start last later : ℕ) (before frames : List MuxFrame) → last ≤ later → Follows near start last before frames → Follows near start later before frames
follows_later near start last later before [] le p = p
follows_later near start last later before (frame ∷ frames) le p = (fits_later near start last later before frame le p.0, follows_later near start last later (before ++ frame ∷ []) frames le p.1)

-- behind a CloseWrite no frame carries bytes of the stream
quiet_frame : (near : Bool) (start last : ℕ) (before : List MuxFrame) (frame : MuxFrame) (n : ℕ) → has (is_close_write n) before ≡ true → Fits near start last before frame → payload_on n frame ≡ []
quiet_frame near start last before (OpenStream stream) n ended p = refl
quiet_frame near start last before (Accept stream) n ended p = refl
quiet_frame near start last before (Payload stream bytes) n ended p = apart (cases_Bool (eqb stream n))
  where
    apart : (eqb stream n ≡ true) ⊎ (eqb stream n ≡ false) → payload_on n (Payload stream bytes) ≡ []
    apart (inl same) = absurd (true≢false (sym ended ∙ sym (ap (λ (k : ℕ). has (is_close_write k) before) (eqb-true stream n same)) ∙ p.1.0))
    apart (inr other) = cond-false (eqb stream n) bytes [] other
quiet_frame near start last before (Window stream amount) n ended p = refl
quiet_frame near start last before (CloseWrite stream) n ended p = refl
quiet_frame near start last before (Close stream) n ended p = refl
quiet_frame near start last before Heartbeat n ended p = refl

pub quiet : (near : Bool) (start last : ℕ) (before frames : List MuxFrame) (n : ℕ) → has (is_close_write n) before ≡ true → Follows near start last before frames → payloads n frames ≡ []
quiet near start last before [] n ended p = refl
quiet near start last before (frame ∷ frames) n ended p =
    let still : has (is_close_write n) (before ++ frame ∷ []) ≡ true = has-append (is_close_write n) before (frame ∷ []) ∙ or_left (has (is_close_write n) before) (has (is_close_write n) (frame ∷ [])) ended in
    ap (λ (xs : List ℕ). xs ++ payloads n frames) (quiet_frame near start last before frame n ended p.0) ∙ quiet near start last (before ++ frame ∷ []) frames n still p.1
