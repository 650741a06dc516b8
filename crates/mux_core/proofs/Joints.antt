-- Two ends that are joined: what holds of both and of the link between them, whatever happens.
use Rattle.std.proofs.Common.{◌≡◌, ℕ, ◌+◌, ◌<◌, ◌^◌, Bool, true, false, not, cond, List, [], ◌++◌, length, refl, sym, ap, subst, ◌∙◌, arith, append_assoc, length-append}
use Rattle.std.specs.Prelude.{Option, Some, None}
use Rattle.std.specs.FinMap as map
use Rattle.std.proofs.lemmas.List.{append-nil}
use Rattle.std.proofs.lemmas.Bool.{or_left}
use Rattle.mux_frames.specs.declared.frame.MuxFrame.{MuxFrame}
use Rattle.mux_core.specs.declared.stream.TheConstants.{WINDOW}
use Rattle.mux_core.specs.declared.stream.Stream.{Stream}
use Rattle.mux_core.specs.Ends.{End}
use Rattle.mux_core.specs.Arrivals.{was_opened}
use Rattle.mux_core.specs.Worlds.{Side, Near, Far, other, Event, Reply, Post}
use Rattle.mux_core.specs.Histories.{sent, delivered, has_ended, has_closed}
use Rattle.mux_core.specs.Links.{payloads, windows, Carries, buffered_in}
use Rattle.mux_core.specs.JoinedLaws.{IsPrefix}
use Rattle.mux_core.proofs.Tallies.{tally, opens, is_close_write, has, has-append, payloads-append, windows-append}
use Rattle.mux_core.proofs.Strands.{Sums, Strand}
use Rattle.mux_core.proofs.Orders.{Follows, follows_behind, quiet}

-- what happened of a stream at a side
abbrev pub sums_of : Side → List (Event × Reply) → List MuxFrame → List MuxFrame → ℕ → Sums
sums_of side past told heard n = record { told = tally n told; heard = tally n heard; sent = sent side n past; got = delivered side n past; ended = has_ended side n past; closed = has_closed side n past }

-- one end, over the frames that it told and heard
pub record EndLaw (side : Side) (past : List (Event × Reply)) (e : End) (told heard : List MuxFrame) : Type 0 where
  pub strands : (n : ℕ) → Strand e.near e.is_cut (was_opened e n) (map.get e.streams n) (sums_of side past told heard n)
  pub order : Follows e.near e.start e.last [] told
  pub last : e.last ≡ e.start + opens (cond e.near told heard)
  pub small : e.last < 2 ^ 32

-- the frames that two ends told and heard, and those that each told and the other hasn't heard
pub record Told : Type 0 where
  pub told : List MuxFrame
  pub heard : List MuxFrame
  pub told_there : List MuxFrame
  pub heard_there : List MuxFrame
  pub later : List MuxFrame
  pub back : List MuxFrame

abbrev pub is_near : Side → Bool
is_near Near = true
is_near Far = false

-- two ends, seen from one side: what is told is heard in its order
pub record Pair (side : Side) (past : List (Event × Reply)) (here there : End) (f : Told) : Type 0 where
  pub law : EndLaw side past here f.told f.heard
  pub law_there : EndLaw (other side) past there f.told_there f.heard_there
  pub told_is : f.told ≡ f.heard_there ++ f.later
  pub told_there_is : f.told_there ≡ f.heard ++ f.back
  pub start : here.start ≡ there.start
  pub near : here.near ≡ not there.near
  pub which : here.near ≡ is_near side

-- and until a side is cut its link carries what wasn't heard
pub record Joint (side : Side) (past : List (Event × Reply)) (here there : Post) : Type 0 where
  pub f : Told
  pub pair : Pair side past here.end there.end f
  pub carries : here.end.is_cut ≡ false → Carries here there f.later
  pub carries_back : there.end.is_cut ≡ false → Carries there here f.back
  pub sound : here.reader.bad ≡ None
  pub sound_there : there.reader.bad ≡ None

-- ---- what it gives

-- what was read at one side is a prefix of what the other side's writes began with
pub reads_prefix : (side : Side) (past : List (Event × Reply)) (here there : End) (f : Told) → Pair side past here there f → (n : ℕ) → IsPrefix (delivered side n past) (sent (other side) n past)
reads_prefix side past here there f j n =
    let strand = j.law.strands n in
    let far = j.law_there.strands n in (
      strand.got.0 ++ payloads n f.back,
      sym (append_assoc (delivered side n past) strand.got.0 (payloads n f.back))
          ∙ ap (λ (xs : List ℕ). xs ++ payloads n f.back) strand.got.1
          ∙ sym (payloads-append n f.heard f.back)
          ∙ ap (payloads n) (sym j.told_there_is)
          ∙ far.sent,
    )

-- what was read, is buffered and is on the way is all that was accepted
pub reads_all : (side : Side) (past : List (Event × Reply)) (here there : End) (f : Told) → Pair side past here there f → (n : ℕ) (s : Stream) → map.get here.streams n ≡ Some s
    → delivered side n past ++ (s.buffer ++ payloads n f.back) ≡ sent (other side) n past
reads_all side past here there f j n s at_n =
    sym (append_assoc (delivered side n past) s.buffer (payloads n f.back))
    ∙ ap (λ (xs : List ℕ). xs ++ payloads n f.back) ((j.law.strands n).live s at_n).buffer
    ∙ sym (payloads-append n f.heard f.back)
    ∙ ap (payloads n) (sym j.told_there_is)
    ∙ (j.law_there.strands n).sent

-- an end that came stands behind all bytes
pub reads_end : (side : Side) (past : List (Event × Reply)) (here there : End) (f : Told) → Pair side past here there f → (n : ℕ) (s : Stream) → map.get here.streams n ≡ Some s
    → s.buffer ≡ [] → s.state.read_ended ≡ true → (delivered side n past ≡ sent (other side) n past) × (has_ended (other side) n past ≡ true)
reads_end side past here there f j n s at_n drained ended =
    let live = (j.law.strands n).live s at_n in
    let came : has (is_close_write n) f.heard ≡ true = sym live.read_ended ∙ ended in
    let behind = follows_behind there.near there.start there.last [] f.heard f.back (subst (λ (fs : List MuxFrame). Follows there.near there.start there.last [] fs) j.told_there_is j.law_there.order) in
    let none : payloads n f.back ≡ [] = quiet there.near there.start there.last f.heard f.back n came behind in (
      sym (append-nil (delivered side n past))
          ∙ ap (λ (xs : List ℕ). delivered side n past ++ xs) (sym (ap (λ (xs : List ℕ). xs ++ payloads n f.back) drained ∙ none))
          ∙ reads_all side past here there f j n s at_n,
      sym (j.law_there.strands n).ended ∙ ap (has (is_close_write n)) j.told_there_is ∙ has-append (is_close_write n) f.heard f.back
          ∙ or_left (has (is_close_write n) f.heard) (has (is_close_write n) f.back) came,
    )

-- what was read and is buffered is what came
buffered_is : (near cut opened : Bool) (o : Option Stream) (z : Sums) → cut ≡ false → z.closed ≡ false → Strand near cut opened o z → length z.got + length (buffered_in o) ≡ length z.heard.bytes
buffered_is near cut opened (Some s) z uncut still st = sym (length-append z.got s.buffer) ∙ ap length (st.live s refl).buffer
buffered_is near cut true None z uncut still st = omega (arith, ap length (st.gone uncut refl refl still).all)
buffered_is near cut false None z uncut still st = omega (arith, ap (λ (x : Sums). length x.got) (st.unopened refl).1, ap (λ (x : Sums). length x.heard.bytes) (st.unopened refl).1)

-- the credits add up
pub adds_up : (side : Side) (past : List (Event × Reply)) (here there : End) (f : Told) → Pair side past here there f → (n : ℕ) (s : Stream) → there.is_cut ≡ false → map.get here.streams n ≡ Some s
    → has_closed (other side) n past ≡ false
    → s.state.credit + length (payloads n f.later) + length (buffered_in (map.get there.streams n)) + windows n f.back ≡ WINDOW
adds_up side past here there f j n s uncut_there at_n still =
    let mine = j.law.strands n in
    let theirs = j.law_there.strands n in
    let live = mine.live s at_n in
    let credit : s.state.credit + length (sent side n past) ≡ WINDOW + windows n f.heard = live.credit in
    let told : length (payloads n f.told) ≡ length (sent side n past) = ap length mine.sent in
    let split : length (payloads n f.told) ≡ length (payloads n f.heard_there) + length (payloads n f.later) =
    ap (λ (fs : List MuxFrame). length (payloads n fs)) j.told_is ∙ ap length (payloads-append n f.heard_there f.later) ∙ length-append (payloads n f.heard_there) (payloads n f.later) in
    let came : length (delivered (other side) n past) + length (buffered_in (map.get there.streams n)) ≡ length (payloads n f.heard_there) =
    buffered_is there.near there.is_cut (was_opened there n) (map.get there.streams n) (sums_of (other side) past f.told_there f.heard_there n) uncut_there still theirs in
    let given : windows n f.told_there ≡ length (delivered (other side) n past) = theirs.given uncut_there in
    let parts : windows n f.told_there ≡ windows n f.heard + windows n f.back = ap (windows n) j.told_there_is ∙ windows-append n f.heard f.back in
    omega (arith, credit, told, split, came, given, parts)
