-- What a call makes of the law of one end.
use Rattle.std.proofs.Common.{◌≡◌, ℕ, ◌+◌, ◌-◌, ◌≤◌, ◌<◌, Bool, true, false, not, cond, ◌||◌, ltb, leb, List, [], ◌∷◌, ◌++◌, length, take, refl, sym, ap, subst, ◌∙◌, arith, eq-eqb}
use Rattle.std.specs.Prelude.{Option, Some, None, Ok}
use Rattle.std.specs.FinMap as map
use Rattle.std.proofs.lemmas.List.{append-nil, length-take}
use Rattle.std.proofs.lemmas.Bool.{and_parts, not-true, ne_eqb, cond-true, cond-false, true_from_ne_false, ltb-true, leb-true}
use Rattle.mux_frames.specs.declared.frame.MuxFrame.{MuxFrame}
use Rattle.mux_frames.specs.Fields.{IsStreamId}
use Rattle.mux_frames.specs.Streams.{stream_of, AreFrames}
use Rattle.mux_core.specs.declared.stream.Stream.{Stream}
use Rattle.mux_core.specs.Streams.{Streams, is_writable, with_state}
use Rattle.mux_core.specs.Ends.{End, opened}
use Rattle.mux_core.specs.Calls.{data_frames, accepts}
use Rattle.mux_core.specs.Arrivals.{was_opened}
use Rattle.mux_core.specs.Worlds.{Side, Event, Write, Reply, Wrote}
use Rattle.mux_core.specs.Histories.{sent, delivered, has_ended, has_closed, is_on}
use Rattle.mux_core.proofs.Tallies.{Tally, nothing, join, join-nothing, tally_is, or_false, opens, opens-append}
use Rattle.mux_core.proofs.Strands.{Sums, no_sums, Strand, strand_written}
use Rattle.mux_core.proofs.Orders.{Follows, IsKnown, IsWritten, bound}
use Rattle.mux_core.proofs.Joints.{sums_of, EndLaw}
use Rattle.mux_core.proofs.Pasts.{plus, sums_are, same_strand, law_at, get_here, get_away, here_on, away_on, sent-append, delivered-append, has_ended-append, has_closed-append}
use Rattle.mux_core.proofs.DataTold.{data_tally, data_are, data_follow, data_opens}

-- an end goes on: what it tells waits to go out, and its law holds
pub record Goes (side : Side) (past ps : List (Event × Reply)) (e after : End) (told fs heard hs : List MuxFrame) : Type 0 where
  pub law : EndLaw side (past ++ ps) after (told ++ fs) (heard ++ hs)
  pub waiting : after.waiting ≡ e.waiting ++ stream_of fs
  pub frames : AreFrames fs
  pub near : after.near ≡ e.near
  pub start : after.start ≡ e.start
  pub cut : after.is_cut ≡ e.is_cut

-- ---- nothing happens here

pub idle : (side : Side) (past ps : List (Event × Reply)) (e : End) (told heard : List MuxFrame) → ((n : ℕ) → sums_of side ps [] [] n ≡ no_sums) → EndLaw side past e told heard → EndLaw side (past ++ ps) e told heard
idle side past ps e told heard none law = record {
  strands = λ n. same_strand e.near e.is_cut (was_opened e n) (was_opened e n) (map.get e.streams n) (map.get e.streams n) (sums_of side past told heard n) (sums_of side (past ++ ps) told heard n) refl refl
      (sums_are _ _ _ _ _ _ _ _ _ _ _ _ refl refl
      (sent-append side n past ps ∙ ap (λ (z : Sums). sent side n past ++ z.sent) (none n) ∙ append-nil (sent side n past))
      (delivered-append side n past ps ∙ ap (λ (z : Sums). delivered side n past ++ z.got) (none n) ∙ append-nil (delivered side n past))
      (has_ended-append side n past ps ∙ ap (λ (z : Sums). has_ended side n past || z.ended) (none n) ∙ or_false (has_ended side n past))
      (has_closed-append side n past ps ∙ ap (λ (z : Sums). has_closed side n past || z.closed) (none n) ∙ or_false (has_closed side n past)))
      (law.strands n);
  order = law.order;
  last = law.last;
  small = law.small;
}

pub stays : (side : Side) (past ps : List (Event × Reply)) (e : End) (told heard : List MuxFrame) → ((n : ℕ) → sums_of side ps [] [] n ≡ no_sums) → EndLaw side past e told heard → Goes side past ps e e told [] heard []
stays side past ps e told heard none law = record {
  law = subst (λ (fs : List MuxFrame). EndLaw side (past ++ ps) e fs (heard ++ [])) (sym (append-nil told))
      (subst (λ (fs : List MuxFrame). EndLaw side (past ++ ps) e told fs) (sym (append-nil heard)) (idle side past ps e told heard none law));
  waiting = sym (append-nil e.waiting);
  frames = tt;
  near = refl;
  start = refl;
  cut = refl;
}

-- ---- what an end knows of a live stream

bound_is : (near : Bool) (start last : ℕ) (told heard : List MuxFrame) → last ≡ start + opens (cond near told heard) → bound near start last told ≡ last
bound_is true start last told heard is = sym is
bound_is false start last told heard is = refl

pub was_known : (side : Side) (past : List (Event × Reply)) (e : End) (told heard : List MuxFrame) (k : ℕ) → EndLaw side past e told heard → was_opened e k ≡ true → (e.start < k) × (k ≤ e.last) × IsKnown e.near e.start e.last told k
was_known side past e told heard k law opened =
    let parts = and_parts (ltb e.start k) (leb k e.last) opened in
    let low : e.start < k = ltb-true e.start k parts.0 in
    let high : k ≤ e.last = leb-true k e.last parts.1 in
    (low, high, (low, omega (arith, high, bound_is e.near e.start e.last told heard law.last)))

some_none : (s : Stream) → Some s ≡ None → ⊥
some_none s e = cc

pub live_opened : (side : Side) (past : List (Event × Reply)) (e : End) (told heard : List MuxFrame) (k : ℕ) (s : Stream) → EndLaw side past e told heard → map.get e.streams k ≡ Some s → was_opened e k ≡ true
live_opened side past e told heard k s law at_k = true_from_ne_false (was_opened e k) (λ no. some_none s (sym at_k ∙ ((law.strands k).unopened no).0))

pub is_id : (side : Side) (past : List (Event × Reply)) (e : End) (told heard : List MuxFrame) (k : ℕ) → EndLaw side past e told heard → was_opened e k ≡ true → IsStreamId k
is_id side past e told heard k law opened =
    let known = was_known side past e told heard k law opened in
    (omega (arith, known.0), omega (arith, known.1, law.small))

last_kept : (near : Bool) (start last : ℕ) (told fs heard hs : List MuxFrame) → opens fs ≡ 0 → opens hs ≡ 0 → last ≡ start + opens (cond near told heard) → last ≡ start + opens (cond near (told ++ fs) (heard ++ hs))
last_kept true start last told fs heard hs none none_heard is = omega (arith, is, opens-append told fs, none)
last_kept false start last told fs heard hs none none_heard is = omega (arith, is, opens-append heard hs, none_heard)

-- one stream changes, and no stream is opened
pub law_on : (side : Side) (past ps : List (Event × Reply)) (e : End) (streams : Streams) (waiting : List ℕ) (told fs heard hs : List MuxFrame) (k : ℕ) → EndLaw side past e told heard
    → ((n : ℕ) → (n ≡ k → ⊥) → map.get streams n ≡ map.get e.streams n)
    → ((n : ℕ) → (n ≡ k → ⊥) → sums_of side ps fs hs n ≡ no_sums)
    → (o : Option Stream) (z : Sums) → map.get streams k ≡ o → plus (sums_of side past told heard k) (sums_of side ps fs hs k) ≡ z → Strand e.near e.is_cut (was_opened e k) o z
    → Follows e.near e.start e.last told fs → opens fs ≡ 0 → opens hs ≡ 0
    → EndLaw side (past ++ ps) (record e { streams = streams; waiting = waiting }) (told ++ fs) (heard ++ hs)
law_on side past ps e streams waiting told fs heard hs k law others none o z at_k sums_k here order none_told none_heard =
    law_at side past ps e e.last streams waiting told fs heard hs k law others (λ _ _. refl) none
    (same_strand e.near e.is_cut (was_opened e k) (was_opened e k) o (map.get streams k) z (plus (sums_of side past told heard k) (sums_of side ps fs hs k)) refl at_k sums_k here)
    order (omega arith) (last_kept e.near e.start e.last told fs heard hs none_told none_heard law.last) law.small

add_none : (n : ℕ) → n + 0 ≡ n
add_none n = omega arith

pub or_true : (b : Bool) → (b || true) ≡ true
or_true true = refl
or_true false = refl

pub join_bytes : (t : Tally) (b : List ℕ) → join t (record nothing { bytes = b }) ≡ record t { bytes = t.bytes ++ b }
join_bytes t b = tally_is _ _ _ _ _ _ _ _ _ _ refl (add_none t.amount) (or_false t.accepted) (or_false t.ended) (or_false t.closed)

pub join_amount : (t : Tally) (m : ℕ) → join t (record nothing { amount = m }) ≡ record t { amount = t.amount + m }
join_amount t m = tally_is _ _ _ _ _ _ _ _ _ _ (append-nil t.bytes) refl (or_false t.accepted) (or_false t.ended) (or_false t.closed)

pub join_accepted : (t : Tally) → join t (record nothing { accepted = true }) ≡ record t { accepted = true }
join_accepted t = tally_is _ _ _ _ _ _ _ _ _ _ (append-nil t.bytes) (add_none t.amount) (or_true t.accepted) (or_false t.ended) (or_false t.closed)

pub join_ended : (t : Tally) → join t (record nothing { ended = true }) ≡ record t { ended = true }
join_ended t = tally_is _ _ _ _ _ _ _ _ _ _ (append-nil t.bytes) (add_none t.amount) (or_false t.accepted) (or_true t.ended) (or_false t.closed)

pub join_closed : (t : Tally) (b : Bool) → join t (record nothing { closed = b }) ≡ record t { closed = t.closed || b }
join_closed t b = tally_is _ _ _ _ _ _ _ _ _ _ (append-nil t.bytes) (add_none t.amount) (or_false t.accepted) (or_false t.ended) refl

-- ---- a write

pub goes_write : (side : Side) (past : List (Event × Reply)) (e : End) (told heard : List MuxFrame) (k : ℕ) (bytes : List ℕ) (count : ℕ) (s : Stream) → EndLaw side past e told heard
    → map.get e.streams k ≡ Some s → is_writable s.state ≡ true → count ≤ s.state.credit
    → Goes side past ((Write side k bytes, Wrote (Ok count)) ∷ []) e (accepts e k s (take count bytes)) told (data_frames k (take count bytes)) heard []
goes_write side past e told heard k bytes count s law at_k writable fits =
    let b = take count bytes in
    let step : Event × Reply = (Write side k bytes, Wrote (Ok count)) in
    let st = law.strands k in
    let opened : was_opened e k ≡ true = live_opened side past e told heard k s law at_k in
    let live = st.live s at_k in
    let z = sums_of side past told heard k in
    let s_after = with_state (record s.state { credit = s.state.credit - length b }) s in
    let flags = and_parts (not s.state.write_ended) (not s.state.closed) writable in
    let within : length b ≤ s.state.credit = omega (arith, length-take count bytes, fits) in
    let written : IsWritten told k = (sym live.write_ended ∙ not-true s.state.write_ended flags.0, live.not_told) in
    record {
      law = law_on side past (step ∷ []) e (map.insert e.streams k s_after) (e.waiting ++ stream_of (data_frames k b)) told (data_frames k b) heard [] k law
          (λ n differ. get_away e.streams k n s_after differ)
          (λ n differ. sums_are _ _ _ _ _ _ _ _ _ _ _ _
          (data_tally n k b ∙ ap (λ (x : Bool). record nothing { bytes = cond x b [] }) (ne_eqb k n (λ same. differ (sym same)))) refl
          (append-nil (cond (is_on side n side k) b []) ∙ cond-false (is_on side n side k) b [] (away_on side n k differ)) refl refl refl)
          (Some s_after) (record z { told = record z.told { bytes = z.told.bytes ++ b }; sent = z.sent ++ b }) (get_here e.streams k s_after)
          (sums_are _ _ _ _ _ _ _ _ _ _ _ _
          (ap (join z.told) (data_tally k k b ∙ ap (λ (x : Bool). record nothing { bytes = cond x b [] }) (eq-eqb k k refl)) ∙ join_bytes z.told b) (join-nothing z.heard)
          (ap (λ (xs : List ℕ). z.sent ++ xs) (append-nil (cond (is_on side k side k) b []) ∙ cond-true (is_on side k side k) b [] (here_on side k)))
          (append-nil z.got) (or_false z.ended) (or_false z.closed))
          (strand_written e.near e.is_cut (was_opened e k) s z b within (subst (λ (o : Option Stream). Strand e.near e.is_cut (was_opened e k) o z) at_k st))
          (data_follow e.near e.start e.last k told b (was_known side past e told heard k law opened).2 written) (data_opens k b) refl;
      waiting = refl;
      frames = data_are k b (is_id side past e told heard k law opened);
      near = refl;
      start = refl;
      cut = refl;
    }
