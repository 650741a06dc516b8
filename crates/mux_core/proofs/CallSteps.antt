-- What reads, ends and closes make of the law of one end.
use Rattle.std.proofs.Common.{◌≡◌, ℕ, ◌+◌, ◌≤◌, ◌<◌, ◌^◌, Bool, true, false, not, cond, ◌||◌, ◌&&◌, eqb, ltb, leb, List, [], ◌∷◌, ◌++◌, length, take, drop, refl, sym, ap, subst, ◌∙◌, ◌⊎◌, inl, inr, arith, eq-eqb}
use Rattle.std.specs.Prelude.{Option, Some, None, Ok}
use Rattle.std.specs.FinMap as map
use Rattle.std.proofs.lemmas.List.{append-nil, length-take, take-append-drop}
use Rattle.std.proofs.lemmas.Bool.{and_from, and_right, and_parts, not-true, cases_lt, cond-true, cond-false, lt-ltb, le-leb, lt-leb}
use Rattle.mux_frames.specs.declared.frame.MuxFrame.{MuxFrame}
use Rattle.mux_frames.specs.declared.frame.MuxFrame.TheVariants as frames
use Rattle.mux_frames.specs.Frames.{spelling, IsFrame}
use Rattle.mux_frames.specs.Streams.{stream_of, AreFrames}
use Rattle.mux_core.specs.declared.answer.ReadAnswer.TheVariants as answers
use Rattle.mux_core.specs.declared.stream.Stream.{Stream}
use Rattle.mux_core.specs.Streams.{Streams, fresh_stream, is_writable, with_state, with_buffer}
use Rattle.mux_core.specs.Ends.{End, tells, opened}
use Rattle.mux_core.specs.Calls.{set, dropped, read_bytes, ends_writing}
use Rattle.mux_core.specs.Arrivals.{was_opened}
use Rattle.mux_core.specs.Worlds.{Side, Event, Read, CloseWrite, Close, Reply, Answered, Done}
use Rattle.mux_core.specs.Histories.{is_on}
use Rattle.mux_core.proofs.Tallies.{tally, nothing, join, join-nothing, tally_is, or_false, opens}
use Rattle.mux_core.proofs.Strands.{Sums, no_sums, Strand, strand_opened, strand_read, strand_ended, strand_ended_done, strand_closed}
use Rattle.mux_core.proofs.Orders.{Follows, Fits}
use Rattle.mux_core.proofs.Joints.{sums_of, EndLaw}
use Rattle.mux_core.proofs.Pasts.{plus, plus-none, sums_are, same_strand, law_at, get_here, get_away, gone_here, gone_away, here_on, away_on, tally_away}
use Rattle.mux_core.proofs.EndSteps.{Goes, was_known, live_opened, is_id, law_on, join_amount, join_ended, join_closed, or_true}

-- ---- what is told while the link stands

abbrev pub linked : Bool → MuxFrame → List MuxFrame
linked cut frame = cond cut [] (frame ∷ [])

linked_waits : (cut : Bool) (waiting : List ℕ) (frame : MuxFrame) → cond cut waiting (waiting ++ spelling frame) ≡ waiting ++ stream_of (linked cut frame)
linked_waits true waiting frame = sym (append-nil waiting)
linked_waits false waiting frame = ap (λ (xs : List ℕ). waiting ++ xs) (sym (append-nil (spelling frame)))

linked_are : (cut : Bool) (frame : MuxFrame) → IsFrame frame → AreFrames (linked cut frame)
linked_are true frame ok = tt
linked_are false frame ok = (ok, tt)

linked_follow : (near cut : Bool) (start last : ℕ) (told : List MuxFrame) (frame : MuxFrame) → Fits near start last told frame → Follows near start last told (linked cut frame)
linked_follow near true start last told frame ok = tt
linked_follow near false start last told frame ok = (ok, tt)

linked_away : (cut : Bool) (n : ℕ) (frame : MuxFrame) → tally n (frame ∷ []) ≡ nothing → tally n (linked cut frame) ≡ nothing
linked_away true n frame none = refl
linked_away false n frame none = none

linked_opens : (cut : Bool) (frame : MuxFrame) → opens (frame ∷ []) ≡ 0 → opens (linked cut frame) ≡ 0
linked_opens true frame none = refl
linked_opens false frame none = none

linked_amount : (cut : Bool) (k amount : ℕ) → tally k (linked cut (frames.Window k amount)) ≡ record nothing { amount = cond cut 0 amount }
linked_amount true k amount = refl
linked_amount false k amount =
    let same : cond (eqb k k) amount 0 ≡ amount = cond-true (eqb k k) amount 0 (eq-eqb k k refl) in
    tally_is _ _ _ _ _ _ _ _ _ _ refl (omega (arith, same)) refl refl refl

linked_closed : (cut : Bool) (k : ℕ) → tally k (linked cut (frames.Close k)) ≡ record nothing { closed = cond cut false true }
linked_closed true k = refl
linked_closed false k = tally_is _ _ _ _ _ _ _ _ _ _ refl refl refl refl (or_false (eqb k k) ∙ eq-eqb k k refl)

given_uncut : (cut : Bool) (amount : ℕ) → cut ≡ false → cond cut 0 amount ≡ amount
given_uncut cut amount e = cond-false cut 0 amount e

-- ---- a read that gives bytes

pub goes_read : (side : Side) (past : List (Event × Reply)) (e : End) (told heard : List MuxFrame) (k most count : ℕ) (s : Stream) → EndLaw side past e told heard
    → map.get e.streams k ≡ Some s → count ≤ length s.buffer → 0 < count
    → Goes side past ((Read side k most, Answered (Ok (answers.Got (take count s.buffer)))) ∷ []) e (read_bytes e k s count).1 told (linked e.is_cut (frames.Window k count)) heard []
goes_read side past e told heard k most count s law at_k within some =
    let b = take count s.buffer in
    let rest = drop count s.buffer in
    let frame = frames.Window k count in
    let step : Event × Reply = (Read side k most, Answered (Ok (answers.Got b))) in
    let st = law.strands k in
    let opened : was_opened e k ≡ true = live_opened side past e told heard k s law at_k in
    let live = st.live s at_k in
    let z = sums_of side past told heard k in
    let size : length b ≡ count = omega (arith, length-take count s.buffer, within) in
    let s_after = with_buffer rest s in
    record {
      law = law_on side past (step ∷ []) e (map.insert e.streams k s_after) (cond e.is_cut e.waiting (e.waiting ++ spelling frame)) told (linked e.is_cut frame) heard [] k law
          (λ n differ. get_away e.streams k n s_after differ)
          (λ n differ. sums_are _ _ _ _ _ _ _ _ _ _ _ _ (linked_away e.is_cut n frame (tally_away n frame differ)) refl refl
          (append-nil (cond (is_on side n side k) b []) ∙ cond-false (is_on side n side k) b [] (away_on side n k differ)) refl refl)
          (Some s_after) (record z { told = record z.told { amount = z.told.amount + cond e.is_cut 0 count }; got = z.got ++ b }) (get_here e.streams k s_after)
          (sums_are _ _ _ _ _ _ _ _ _ _ _ _
          (ap (join z.told) (linked_amount e.is_cut k count) ∙ join_amount z.told (cond e.is_cut 0 count)) (join-nothing z.heard) (append-nil z.sent)
          (ap (λ (xs : List ℕ). z.got ++ xs) (append-nil (cond (is_on side k side k) b []) ∙ cond-true (is_on side k side k) b [] (here_on side k)))
          (or_false z.ended) (or_false z.closed))
          (strand_read e.near e.is_cut (was_opened e k) s z b rest (cond e.is_cut 0 count) (omega (arith, size, some)) (sym (take-append-drop count s.buffer))
          (λ uncut. given_uncut e.is_cut count uncut ∙ sym size) (subst (λ (o : Option Stream). Strand e.near e.is_cut (was_opened e k) o z) at_k st))
          (linked_follow e.near e.is_cut e.start e.last told frame (was_known side past e told heard k law opened).2) (linked_opens e.is_cut frame refl) refl;
      waiting = linked_waits e.is_cut e.waiting frame;
      frames = linked_are e.is_cut frame (is_id side past e told heard k law opened, (some, omega (arith, within, live.fits)));
      near = refl;
      start = refl;
      cut = refl;
    }

-- ---- a read that changes the stream and tells nothing

-- the stream is another, or gone, and nothing is told
pub goes_on : (side : Side) (past ps : List (Event × Reply)) (e : End) (streams : Streams) (told heard : List MuxFrame) (k : ℕ) (s : Stream) (o : Option Stream) → EndLaw side past e told heard
    → map.get e.streams k ≡ Some s
    → ((n : ℕ) → sums_of side ps [] [] n ≡ no_sums)
    → ((n : ℕ) → (n ≡ k → ⊥) → map.get streams n ≡ map.get e.streams n) → map.get streams k ≡ o
    → ((z : Sums) → Strand e.near e.is_cut (was_opened e k) (Some s) z → Strand e.near e.is_cut (was_opened e k) o z)
    → Goes side past ps e (record e { streams = streams }) told [] heard []
goes_on side past ps e streams told heard k s o law at_k none others here change =
    let z = sums_of side past told heard k in
    record {
      law = law_on side past ps e streams e.waiting told [] heard [] k law others (λ n _. none n) o z here
          (ap (plus z) (none k) ∙ plus-none z)
          (change z (subst (λ (x : Option Stream). Strand e.near e.is_cut (was_opened e k) x z) at_k (law.strands k)))
          tt refl refl;
      waiting = sym (append-nil e.waiting);
      frames = tt;
      near = refl;
      start = refl;
      cut = refl;
    }

-- ---- the end of writing, and a close

abbrev ends_step : Side → ℕ → Event × Reply
ends_step side k = (CloseWrite side k, Done (Ok tt))

ended_tally : (k : ℕ) → tally k (frames.CloseWrite k ∷ []) ≡ record nothing { ended = true }
ended_tally k = tally_is _ _ _ _ _ _ _ _ _ _ refl refl refl (or_false (eqb k k) ∙ eq-eqb k k refl) refl

goes_end : (side : Side) (past : List (Event × Reply)) (e : End) (told heard : List MuxFrame) (k : ℕ) (s : Stream) (streams : Streams) (o : Option Stream) → EndLaw side past e told heard
    → map.get e.streams k ≡ Some s → is_writable s.state ≡ true
    → ((n : ℕ) → (n ≡ k → ⊥) → map.get streams n ≡ map.get e.streams n) → map.get streams k ≡ o
    → ((z : Sums) → Strand e.near e.is_cut (was_opened e k) (Some s) z → Strand e.near e.is_cut (was_opened e k) o (record z { told = record z.told { ended = true }; ended = true }))
    → Goes side past (ends_step side k ∷ []) e (record e { streams = streams; waiting = e.waiting ++ spelling (frames.CloseWrite k) }) told (frames.CloseWrite k ∷ []) heard []
goes_end side past e told heard k s streams o law at_k writable others here change =
    let frame = frames.CloseWrite k in
    let st = law.strands k in
    let opened : was_opened e k ≡ true = live_opened side past e told heard k s law at_k in
    let live = st.live s at_k in
    let z = sums_of side past told heard k in
    let flags = and_parts (not s.state.write_ended) (not s.state.closed) writable in
    record {
      law = law_on side past (ends_step side k ∷ []) e streams (e.waiting ++ spelling frame) told (frame ∷ []) heard [] k law others
          (λ n differ. sums_are _ _ _ _ _ _ _ _ _ _ _ _ (tally_away n frame differ) refl refl refl (or_false (is_on side n side k) ∙ away_on side n k differ) refl)
          o (record z { told = record z.told { ended = true }; ended = true }) here
          (sums_are _ _ _ _ _ _ _ _ _ _ _ _ (ap (join z.told) (ended_tally k) ∙ join_ended z.told) (join-nothing z.heard) (append-nil z.sent) (append-nil z.got)
          (ap (λ (x : Bool). z.ended || x) (or_false (is_on side k side k) ∙ here_on side k) ∙ or_true z.ended) (or_false z.closed))
          (change z (subst (λ (x : Option Stream). Strand e.near e.is_cut (was_opened e k) x z) at_k st))
          (((was_known side past e told heard k law opened).2, (sym live.write_ended ∙ not-true s.state.write_ended flags.0, live.not_told)), tt) refl refl;
      waiting = ap (λ (xs : List ℕ). e.waiting ++ xs) (sym (append-nil (spelling frame)));
      frames = (is_id side past e told heard k law opened, tt);
      near = refl;
      start = refl;
      cut = refl;
    }

pub goes_end_write : (side : Side) (past : List (Event × Reply)) (e : End) (told heard : List MuxFrame) (k : ℕ) (s : Stream) → EndLaw side past e told heard
    → map.get e.streams k ≡ Some s → e.is_cut ≡ false → is_writable s.state ≡ true
    → Goes side past (ends_step side k ∷ []) e (ends_writing (tells e (frames.CloseWrite k)) k s) told (frames.CloseWrite k ∷ []) heard []
goes_end_write side past e told heard k s law at_k uncut writable = by_read s.state.end_read refl
  where
    frame : MuxFrame
    frame = frames.CloseWrite k

    s_after : Stream
    s_after = with_state (record s.state { write_ended = true }) s

    by_read : (b : Bool) → s.state.end_read ≡ b → Goes side past (ends_step side k ∷ []) e (ends_writing (tells e (frames.CloseWrite k)) k s) told (frames.CloseWrite k ∷ []) heard []
    by_read true is = subst (λ (after : End). Goes side past (ends_step side k ∷ []) e after told (frames.CloseWrite k ∷ []) heard [])
        (sym (cond-true s.state.end_read (dropped (tells e (frames.CloseWrite k)) k) (set (tells e (frames.CloseWrite k)) k (with_state (record s.state { write_ended = true }) s)) is
        ∙ ap (λ (w : List ℕ). record e { streams = map.remove e.streams k; waiting = w }) (cond-false e.is_cut e.waiting (e.waiting ++ spelling (frames.CloseWrite k)) uncut)))
        (goes_end side past e told heard k s (map.remove e.streams k) None law at_k writable (λ n differ. gone_away e.streams k n differ) (gone_here e.streams k)
        (λ z st. strand_ended_done e.near e.is_cut (was_opened e k) s z is st))
    by_read false is = subst (λ (after : End). Goes side past (ends_step side k ∷ []) e after told (frames.CloseWrite k ∷ []) heard [])
        (sym (cond-false s.state.end_read (dropped (tells e (frames.CloseWrite k)) k) (set (tells e (frames.CloseWrite k)) k (with_state (record s.state { write_ended = true }) s)) is
        ∙ ap (λ (w : List ℕ). record e { streams = map.insert e.streams k (with_state (record s.state { write_ended = true }) s); waiting = w }) (cond-false e.is_cut e.waiting (e.waiting ++ spelling (frames.CloseWrite k)) uncut)))
        (goes_end side past e told heard k s (map.insert e.streams k (with_state (record s.state { write_ended = true }) s)) (Some (with_state (record s.state { write_ended = true }) s)) law at_k writable
        (λ n differ. get_away e.streams k n (with_state (record s.state { write_ended = true }) s) differ) (get_here e.streams k (with_state (record s.state { write_ended = true }) s))
        (λ z st. strand_ended e.near e.is_cut (was_opened e k) s z st))

pub goes_close : (side : Side) (past : List (Event × Reply)) (e : End) (told heard : List MuxFrame) (k : ℕ) (s : Stream) → EndLaw side past e told heard → map.get e.streams k ≡ Some s
    → Goes side past ((Close side k, Done (Ok tt)) ∷ []) e (dropped (tells e (frames.Close k)) k) told (linked e.is_cut (frames.Close k)) heard []
goes_close side past e told heard k s law at_k =
    let frame = frames.Close k in
    let step : Event × Reply = (Close side k, Done (Ok tt)) in
    let st = law.strands k in
    let opened : was_opened e k ≡ true = live_opened side past e told heard k s law at_k in
    let z = sums_of side past told heard k in
    record {
      law = law_on side past (step ∷ []) e (map.remove e.streams k) (cond e.is_cut e.waiting (e.waiting ++ spelling frame)) told (linked e.is_cut frame) heard [] k law
          (λ n differ. gone_away e.streams k n differ)
          (λ n differ. sums_are _ _ _ _ _ _ _ _ _ _ _ _ (linked_away e.is_cut n frame (tally_away n frame differ)) refl refl refl refl (or_false (is_on side n side k) ∙ away_on side n k differ))
          None (record z { told = record z.told { closed = z.told.closed || cond e.is_cut false true }; closed = true }) (gone_here e.streams k)
          (sums_are _ _ _ _ _ _ _ _ _ _ _ _ (ap (join z.told) (linked_closed e.is_cut k) ∙ join_closed z.told (cond e.is_cut false true)) (join-nothing z.heard) (append-nil z.sent) (append-nil z.got) (or_false z.ended)
          (ap (λ (x : Bool). z.closed || x) (or_false (is_on side k side k) ∙ here_on side k) ∙ or_true z.closed))
          (strand_closed e.near e.is_cut (was_opened e k) (z.told.closed || cond e.is_cut false true) s z (subst (λ (o : Option Stream). Strand e.near e.is_cut (was_opened e k) o z) at_k st))
          (linked_follow e.near e.is_cut e.start e.last told frame (was_known side past e told heard k law opened).2) (linked_opens e.is_cut frame refl) refl;
      waiting = linked_waits e.is_cut e.waiting frame;
      frames = linked_are e.is_cut frame (is_id side past e told heard k law opened);
      near = refl;
      start = refl;
      cut = refl;
    }

-- ---- a stream is opened

next_leb : (n last : ℕ) → (n ≡ last + 1 → ⊥) → leb n (last + 1) ≡ leb n last
next_leb n last differ = by_size (cases_lt last n)
  where
    by_size : (last < n) ⊎ (n ≤ last) → leb n (last + 1) ≡ leb n last
    by_size (inr le) = le-leb n (last + 1) (omega (arith, le)) ∙ sym (le-leb n last le)
    by_size (inl lt) = lt-leb n (last + 1) (beyond lt (cases_lt (last + 1) n)) ∙ sym (lt-leb n last lt)
      where
        beyond : last < n → (last + 1 < n) ⊎ (n ≤ last + 1) → last + 1 < n
        beyond lt (inl more) = more
        beyond lt (inr le) = absurd (differ (omega (arith, lt, le)))

pub start_last : (side : Side) (past : List (Event × Reply)) (e : End) (told heard : List MuxFrame) → EndLaw side past e told heard → e.start ≤ e.last
start_last side past e told heard law = omega (arith, law.last)

pub not_opened : (side : Side) (past : List (Event × Reply)) (e : End) (told heard : List MuxFrame) → was_opened e (e.last + 1) ≡ false
not_opened side past e told heard = and_right (ltb e.start (e.last + 1)) (leb (e.last + 1) e.last) (lt-leb (e.last + 1) e.last (omega arith))

pub goes_open : (side : Side) (past : List (Event × Reply)) (ps : List (Event × Reply)) (e : End) (told heard : List MuxFrame) (accepted answered : Bool) (frame : MuxFrame) (hs : List MuxFrame) → EndLaw side past e told heard
    → e.last + 1 < 2 ^ 32 → (e.near ≡ true → accepted ≡ false)
    → ((n : ℕ) → (n ≡ e.last + 1 → ⊥) → sums_of side ps (frame ∷ []) hs n ≡ no_sums)
    → sums_of side ps (frame ∷ []) hs (e.last + 1) ≡ record no_sums { told = record nothing { accepted = answered } }
    → Fits e.near e.start (e.last + 1) told frame → IsFrame frame
    → e.last + 1 ≡ e.start + opens (cond e.near (told ++ frame ∷ []) (heard ++ hs))
    → Goes side past ps e (opened e (e.last + 1) accepted frame) told (frame ∷ []) heard hs
goes_open side past ps e told heard accepted answered frame hs law small fresh away here fits ok last_is =
    let k = e.last + 1 in
    let st = law.strands k in
    let none = st.unopened (not_opened side past e told heard) in
    record {
      law = law_at side past ps e k (map.insert e.streams k (fresh_stream accepted)) (e.waiting ++ spelling frame) told (frame ∷ []) heard hs k law
          (λ n differ. get_away e.streams k n (fresh_stream accepted) differ)
          (λ n differ. ap (λ (x : Bool). ltb e.start n && x) (next_leb n e.last differ))
          away
          (same_strand e.near e.is_cut true (was_opened (record e { last = k }) k) (Some (fresh_stream accepted)) (map.get (map.insert e.streams k (fresh_stream accepted)) k)
          (record no_sums { told = record nothing { accepted = answered } }) (plus (sums_of side past told heard k) (sums_of side ps (frame ∷ []) hs k))
          (and_from (ltb e.start k) (leb k k) (lt-ltb e.start k (omega (arith, start_last side past e told heard law))) (le-leb k k (omega arith)))
          (get_here e.streams k (fresh_stream accepted))
          (ap (λ (z : Sums). plus z (sums_of side ps (frame ∷ []) hs k)) none.1 ∙ ap (plus no_sums) here)
          (strand_opened e.near e.is_cut accepted answered fresh))
          (fits, tt) (omega arith) last_is small;
      waiting = ap (λ (xs : List ℕ). e.waiting ++ xs) (sym (append-nil (spelling frame)));
      frames = (ok, tt);
      near = refl;
      start = refl;
      cut = refl;
    }
