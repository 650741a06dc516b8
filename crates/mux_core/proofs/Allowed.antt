-- The next frame on the way breaks no rule of the end to which it comes.
use Rattle.std.proofs.Common.{◌≡◌, ℕ, ◌+◌, ◌-◌, ◌≤◌, Bool, true, false, not, cond, ◌&&◌, eqb, leb, ltb, List, [], ◌∷◌, ◌++◌, length, refl, sym, ap, subst, ◌∙◌, arith, length-append, true≢false, eq-eqb}
use Rattle.std.specs.Prelude.{Option, Some, None}
use Rattle.std.specs.FinMap as map
use Rattle.std.proofs.lemmas.Bool.{and_from, not_from_false, lt-ltb, le-leb, cond-true}
use Rattle.mux_frames.specs.declared.frame.MuxFrame.{MuxFrame}
use Rattle.mux_frames.specs.declared.frame.MuxFrame.TheVariants.{OpenStream, Accept, Payload, Window, CloseWrite, Close, Heartbeat}
use Rattle.mux_core.specs.declared.stream.TheConstants.{WINDOW}
use Rattle.mux_core.specs.declared.stream.Stream.{Stream}
use Rattle.mux_core.specs.Streams.{is_readable, has_room, has_credit_room}
use Rattle.mux_core.specs.Ends.{End}
use Rattle.mux_core.specs.Arrivals.{was_opened, if_live, allows}
use Rattle.mux_core.specs.Worlds.{Side, other, Event, Reply}
use Rattle.mux_core.specs.Histories.{sent, delivered}
use Rattle.mux_core.specs.Links.{payloads, windows}
use Rattle.mux_core.proofs.Tallies.{opens, opens-append, is_close_write, is_close, has, payloads-append, windows-append}
use Rattle.mux_core.proofs.Orders.{Follows, Fits, IsKnown, follows_behind}
use Rattle.mux_core.proofs.Joints.{Told, Pair}

-- a test of a stream where it is live
live_passes : (o : Option Stream) (test : Stream → Bool) → ((s : Stream) → o ≡ Some s → test s ≡ true) → if_live o test ≡ true
live_passes None test each = refl
live_passes (Some s) test each = each s refl

-- how many streams were opened
last_near : (side : Side) (past : List (Event × Reply)) (here there : End) (f : Told) → Pair side past here there f → there.near ≡ false → there.last ≡ there.start + opens f.heard_there
last_near side past here there f j far = j.law_there.last ∙ ap (λ (b : Bool). there.start + opens (cond b f.told_there f.heard_there)) far

last_far : (side : Side) (past : List (Event × Reply)) (here there : End) (f : Told) → Pair side past here there f → here.near ≡ false → there.near ≡ true → here.last ≤ there.last
last_far side past here there f j far near =
    let mine : here.last ≡ here.start + opens f.heard = j.law.last ∙ ap (λ (b : Bool). here.start + opens (cond b f.told f.heard)) far in
    let theirs : there.last ≡ there.start + opens f.told_there = j.law_there.last ∙ ap (λ (b : Bool). there.start + opens (cond b f.told_there f.heard_there)) near in
    omega (arith, mine, theirs, j.start, ap opens j.told_there_is, opens-append f.heard f.back)

not_true : (b : Bool) → true ≡ not b → b ≡ false
not_true false e = refl
not_true true e = absurd (true≢false e)

not_false : (b : Bool) → false ≡ not b → b ≡ true
not_false true e = refl
not_false false e = absurd (true≢false (sym e))

known_at : (side : Side) (past : List (Event × Reply)) (here there : End) (f : Told) (n : ℕ) (near : Bool) → here.near ≡ near → Pair side past here there f → IsKnown near here.start here.last f.heard_there n → n ≤ there.last
known_at side past here there f n true is j known = omega (arith, known.1, j.start, last_near side past here there f j (not_true there.near (sym is ∙ j.near)))
known_at side past here there f n false is j known = omega (arith, known.1, last_far side past here there f j is (not_false there.near (sym is ∙ j.near)))

known_there : (side : Side) (past : List (Event × Reply)) (here there : End) (f : Told) (n : ℕ) → Pair side past here there f → IsKnown here.near here.start here.last f.heard_there n → was_opened there n ≡ true
known_there side past here there f n j known =
    and_from (ltb there.start n) (leb n there.last) (lt-ltb there.start n (omega (arith, known.0, j.start))) (le-leb n there.last (known_at side past here there f n here.near refl j known))

-- the bytes of a Data frame are within what was read
data_fits : (side : Side) (past : List (Event × Reply)) (here there : End) (f : Told) (n : ℕ) (bytes : List ℕ) (rest : List MuxFrame) (s : Stream) → Pair side past here there f → there.is_cut ≡ false
    → f.later ≡ Payload n bytes ∷ rest → map.get there.streams n ≡ Some s → length bytes ≤ WINDOW - length s.buffer
data_fits side past here there f n bytes rest s j uncut next at_n =
    let mine = j.law.strands n in
    let theirs = j.law_there.strands n in
    let live = theirs.live s at_n in
    let most : length (sent side n past) ≤ WINDOW + windows n f.heard = mine.most in
    let told : length (payloads n f.told) ≡ length (sent side n past) = ap length mine.sent in
    let first : payloads n (Payload n bytes ∷ rest) ≡ bytes ++ payloads n rest = ap (λ (xs : List ℕ). xs ++ payloads n rest) (cond-true (eqb n n) bytes [] (eq-eqb n n refl)) in
    let split : length (payloads n f.told) ≡ length (payloads n f.heard_there) + length (payloads n f.later) =
    ap (λ (fs : List MuxFrame). length (payloads n fs)) j.told_is ∙ ap length (payloads-append n f.heard_there f.later) ∙ length-append (payloads n f.heard_there) (payloads n f.later) in
    let size : length (payloads n f.later) ≡ length bytes + length (payloads n rest) = ap (λ (fs : List MuxFrame). length (payloads n fs)) next ∙ ap length first ∙ length-append bytes (payloads n rest) in
    let given : windows n f.told_there ≡ length (delivered (other side) n past) = theirs.given uncut in
    let parts : windows n f.told_there ≡ windows n f.heard + windows n f.back = ap (windows n) j.told_there_is ∙ windows-append n f.heard f.back in
    let buffer : length (delivered (other side) n past) + length s.buffer ≡ length (payloads n f.heard_there) = sym (length-append (delivered (other side) n past) s.buffer) ∙ ap length live.buffer in
    omega (arith, most, told, split, size, given, parts, buffer)

-- the amount of a Window frame is within what was written
window_fits : (side : Side) (past : List (Event × Reply)) (here there : End) (f : Told) (n amount : ℕ) (rest : List MuxFrame) (s : Stream) → Pair side past here there f → here.is_cut ≡ false
    → f.later ≡ Window n amount ∷ rest → map.get there.streams n ≡ Some s → s.state.credit + amount ≤ WINDOW
window_fits side past here there f n amount rest s j uncut next at_n =
    let mine = j.law.strands n in
    let theirs = j.law_there.strands n in
    let live = theirs.live s at_n in
    let credit : s.state.credit + length (sent (other side) n past) ≡ WINDOW + windows n f.heard_there = live.credit in
    let given : windows n f.told ≡ length (delivered side n past) = mine.given uncut in
    let parts : windows n f.told ≡ windows n f.heard_there + windows n f.later = ap (windows n) j.told_is ∙ windows-append n f.heard_there f.later in
    let first : windows n (Window n amount ∷ rest) ≡ amount + windows n rest = ap (λ (m : ℕ). m + windows n rest) (cond-true (eqb n n) amount 0 (eq-eqb n n refl)) in
    let size : windows n f.later ≡ amount + windows n rest = ap (windows n) next ∙ first in
    let got : length (delivered side n past) ≤ length (payloads n f.heard) = omega (arith, ap length mine.got.1, length-append (delivered side n past) mine.got.0) in
    let told : length (payloads n f.told_there) ≡ length (sent (other side) n past) = ap length theirs.sent in
    let split : length (payloads n f.told_there) ≡ length (payloads n f.heard) + length (payloads n f.back) =
    ap (λ (fs : List MuxFrame). length (payloads n fs)) j.told_there_is ∙ ap length (payloads-append n f.heard f.back) ∙ length-append (payloads n f.heard) (payloads n f.back) in
    omega (arith, credit, given, parts, size, got, told, split)

still_readable : (side : Side) (past : List (Event × Reply)) (here there : End) (f : Told) (n : ℕ) (s : Stream) → Pair side past here there f → map.get there.streams n ≡ Some s
    → has (is_close_write n) f.heard_there ≡ false → has (is_close n) f.heard_there ≡ false → is_readable s.state ≡ true
still_readable side past here there f n s j at_n ended closed =
    let live = (j.law_there.strands n).live s at_n in
    and_from (not s.state.read_ended) (not s.state.closed) (not_from_false s.state.read_ended (live.read_ended ∙ ended)) (not_from_false s.state.closed (live.closed ∙ closed))

-- the order of the frames says of the next one that it fits
pub next_fits : (side : Side) (past : List (Event × Reply)) (here there : End) (f : Told) (frame : MuxFrame) (rest : List MuxFrame) → Pair side past here there f → f.later ≡ frame ∷ rest
    → Fits here.near here.start here.last f.heard_there frame
next_fits side past here there f frame rest j next =
    let order : Follows here.near here.start here.last [] (f.heard_there ++ frame ∷ rest) =
    subst (λ (fs : List MuxFrame). Follows here.near here.start here.last [] fs) (j.told_is ∙ ap (λ (fs : List MuxFrame). f.heard_there ++ fs) next) j.law.order in
    (follows_behind here.near here.start here.last [] f.heard_there (frame ∷ rest) order).0

pub allowed : (side : Side) (past : List (Event × Reply)) (here there : End) (f : Told) (frame : MuxFrame) (rest : List MuxFrame) → Pair side past here there f → here.is_cut ≡ false → there.is_cut ≡ false → f.later ≡ frame ∷ rest
    → Fits here.near here.start here.last f.heard_there frame → allows there frame ≡ true
allowed side past here there f (OpenStream n) rest j uncut uncut_there next fits =
    let far : there.near ≡ false = not_true there.near (sym fits.0 ∙ j.near) in
    and_from (not there.near) (eqb n (there.last + 1)) (not_from_false there.near far) (eq-eqb n (there.last + 1) (omega (arith, fits.1, j.start, last_near side past here there f j far)))
allowed side past here there f (Accept n) rest j uncut uncut_there next fits =
    let near : there.near ≡ true = not_false there.near (sym fits.0 ∙ j.near) in
    and_from there.near (was_opened there n && if_live (map.get there.streams n) (λ s. not s.state.accepted)) near
    (and_from (was_opened there n) (if_live (map.get there.streams n) (λ s. not s.state.accepted)) (known_there side past here there f n j fits.1)
    (live_passes (map.get there.streams n) (λ s. not s.state.accepted) (λ s at_n. not_from_false s.state.accepted (((j.law_there.strands n).live s at_n).accepted near ∙ fits.2))))
allowed side past here there f (Payload n bytes) rest j uncut uncut_there next fits =
    and_from (was_opened there n) (if_live (map.get there.streams n) (λ s. has_room s (length bytes))) (known_there side past here there f n j fits.0)
    (live_passes (map.get there.streams n) (λ s. has_room s (length bytes))
    (λ s at_n. and_from (is_readable s.state) (leb (length bytes) (WINDOW - length s.buffer)) (still_readable side past here there f n s j at_n fits.1.0 fits.1.1)
    (le-leb (length bytes) (WINDOW - length s.buffer) (data_fits side past here there f n bytes rest s j uncut_there next at_n))))
allowed side past here there f (Window n amount) rest j uncut uncut_there next fits =
    and_from (was_opened there n) (if_live (map.get there.streams n) (λ s. has_credit_room s.state amount)) (known_there side past here there f n j fits)
    (live_passes (map.get there.streams n) (λ s. has_credit_room s.state amount)
    (λ s at_n. le-leb (s.state.credit + amount) WINDOW (window_fits side past here there f n amount rest s j uncut next at_n)))
allowed side past here there f (CloseWrite n) rest j uncut uncut_there next fits =
    and_from (was_opened there n) (if_live (map.get there.streams n) (λ s. is_readable s.state)) (known_there side past here there f n j fits.0)
    (live_passes (map.get there.streams n) (λ s. is_readable s.state) (λ s at_n. still_readable side past here there f n s j at_n fits.1.0 fits.1.1))
allowed side past here there f (Close n) rest j uncut uncut_there next fits = known_there side past here there f n j fits
allowed side past here there f Heartbeat rest j uncut uncut_there next fits = refl
