-- What a frame that comes makes of the law of one end.
use Rattle.std.proofs.Common.{◌≡◌, ℕ, ◌+◌, ◌-◌, ◌<◌, ◌^◌, Bool, true, false, not, cond, ◌||◌, ◌&&◌, eqb, leb, List, [], ◌∷◌, ◌++◌, length, refl, sym, ap, subst, ◌∙◌, inl, inr, arith, eq-eqb, true≢false}
use Rattle.std.specs.Prelude.{Option, Some, None}
use Rattle.std.specs.FinMap as map
use Rattle.std.proofs.lemmas.List.{append-nil}
use Rattle.std.proofs.lemmas.Bool.{and_parts, not-true, leb-true, eqb-true, cond-true}
use Rattle.mux_frames.specs.declared.frame.MuxFrame.{MuxFrame}
use Rattle.mux_frames.specs.declared.frame.MuxFrame.TheVariants.{OpenStream, Accept, Payload, Window, CloseWrite, Close, Heartbeat}
use Rattle.mux_frames.specs.Frames.{IsFrame}
use Rattle.mux_core.specs.declared.stream.TheConstants.{WINDOW}
use Rattle.mux_core.specs.declared.stream.Stream.{Stream}
use Rattle.mux_core.specs.Streams.{Streams, with_state, with_buffer, changed, changed_at, is_readable, has_room, has_credit_room}
use Rattle.mux_core.specs.Ends.{End, opened}
use Rattle.mux_core.specs.Arrivals.{was_opened, if_live, allows, after_frame}
use Rattle.mux_core.specs.Worlds.{Side, Event, Reply}
use Rattle.mux_core.proofs.Tallies.{Tally, tally, nothing, join, join-nothing, tally_is, or_false, opens, opens-append}
use Rattle.mux_core.proofs.Strands.{Sums, Strand, hears_accept, hears_data, hears_window, hears_ended, hears_closed, hears_none}
use Rattle.mux_core.proofs.Orders.{bound, IsWritten}
use Rattle.mux_core.proofs.Joints.{sums_of, EndLaw}
use Rattle.mux_core.proofs.Pasts.{plus-none, sums_are, get_here, get_away, tally_away}
use Rattle.mux_core.proofs.EndSteps.{Goes, law_on, join_bytes, join_amount, join_accepted, join_ended, join_closed, or_true}
use Rattle.mux_core.proofs.CallSteps.{goes_open, start_last, not_opened}

abbrev changed_option : (Stream → Stream) → Option Stream → Option Stream
changed_option change None = None
changed_option change (Some s) = Some (change s)

changed_here_at : (streams : Streams) (k : ℕ) (change : Stream → Stream) (o : Option Stream) → map.get streams k ≡ o → map.get (changed_at streams k change o) k ≡ changed_option change o
changed_here_at streams k change None at_k = at_k
changed_here_at streams k change (Some s) at_k = get_here streams k (change s)

changed_here : (streams : Streams) (k : ℕ) (change : Stream → Stream) → map.get (changed streams k change) k ≡ changed_option change (map.get streams k)
changed_here streams k change = changed_here_at streams k change (map.get streams k) refl

changed_away_at : (streams : Streams) (k n : ℕ) (change : Stream → Stream) (o : Option Stream) → (n ≡ k → ⊥) → map.get (changed_at streams k change o) n ≡ map.get streams n
changed_away_at streams k n change None differ = refl
changed_away_at streams k n change (Some s) differ = get_away streams k n (change s) differ

-- one stream hears of a frame
hear_at : (side : Side) (past : List (Event × Reply)) (e : End) (told heard : List MuxFrame) (k : ℕ) (frame : MuxFrame) (t : Tally) (change : Stream → Stream) → EndLaw side past e told heard
    → ((n : ℕ) → (n ≡ k → ⊥) → tally n (frame ∷ []) ≡ nothing) → tally k (frame ∷ []) ≡ t → opens (frame ∷ []) ≡ 0
    → ((z : Sums) → z ≡ sums_of side past told heard k → Strand e.near e.is_cut (was_opened e k) (map.get e.streams k) z → Strand e.near e.is_cut (was_opened e k) (changed_option change (map.get e.streams k)) (record z { heard = join z.heard t }))
    → Goes side past [] e (record e { streams = changed e.streams k change }) told [] heard (frame ∷ [])
hear_at side past e told heard k frame t change law away here none strand =
    let z = sums_of side past told heard k in
    record {
      law = law_on side past [] e (changed e.streams k change) e.waiting told [] heard (frame ∷ []) k law
          (λ n differ. changed_away_at e.streams k n change (map.get e.streams k) differ)
          (λ n differ. sums_are _ _ _ _ _ _ _ _ _ _ _ _ refl (away n differ) refl refl refl refl)
          (changed_option change (map.get e.streams k)) (record z { heard = join z.heard t }) (changed_here e.streams k change)
          (sums_are _ _ _ _ _ _ _ _ _ _ _ _ (join-nothing z.told) (ap (join z.heard) here) (append-nil z.sent) (append-nil z.got) (or_false z.ended) (or_false z.closed))
          (strand z refl (law.strands k)) tt refl none;
      waiting = sym (append-nil e.waiting);
      frames = tt;
      near = refl;
      start = refl;
      cut = refl;
    }

-- ---- the stream, live or not

for_accept : (near cut opened : Bool) (o : Option Stream) (z : Sums) → opened ≡ true → Strand near cut opened o z
    → Strand near cut opened (changed_option (λ s. with_state (record s.state { accepted = true }) s) o) (record z { heard = join z.heard (record nothing { accepted = true }) })
for_accept near cut opened None z is_open st = hears_none near cut opened (z.heard.accepted || true) false false z [] 0 is_open (inl refl) st
for_accept near cut opened (Some s) z is_open st =
    subst (λ (t : Tally). Strand near cut opened (Some (with_state (record s.state { accepted = true }) s)) (record z { heard = t })) (sym (join_accepted z.heard)) (hears_accept near cut opened s z st)

for_data : (near cut opened : Bool) (o : Option Stream) (z : Sums) (b : List ℕ) → opened ≡ true → if_live o (λ s. has_room s (length b)) ≡ true → (z.heard.ended ≡ false) × (z.heard.closed ≡ false) → Strand near cut opened o z
    → Strand near cut opened (changed_option (λ s. with_buffer (s.buffer ++ b) s) o) (record z { heard = join z.heard (record nothing { bytes = b }) })
for_data near cut opened None z b is_open room quiet st = hears_none near cut opened (z.heard.accepted || false) false false z b 0 is_open (inr quiet) st
for_data near cut opened (Some s) z b is_open room quiet st =
    let parts = and_parts (is_readable s.state) (leb (length b) (WINDOW - length s.buffer)) room in
    let readable = and_parts (not s.state.read_ended) (not s.state.closed) parts.0 in
    subst (λ (t : Tally). Strand near cut opened (Some (with_buffer (s.buffer ++ b) s)) (record z { heard = t })) (sym (join_bytes z.heard b))
    (hears_data near cut opened s z b (not-true s.state.read_ended readable.0) (leb-true (length b) (WINDOW - length s.buffer) parts.1) st)

for_window : (near cut opened : Bool) (o : Option Stream) (z : Sums) (amount : ℕ) → opened ≡ true → Strand near cut opened o z
    → Strand near cut opened (changed_option (λ s. with_state (record s.state { credit = s.state.credit + amount }) s) o) (record z { heard = join z.heard (record nothing { amount = amount }) })
for_window near cut opened None z amount is_open st = hears_none near cut opened (z.heard.accepted || false) false false z [] amount is_open (inl refl) st
for_window near cut opened (Some s) z amount is_open st =
    subst (λ (t : Tally). Strand near cut opened (Some (with_state (record s.state { credit = s.state.credit + amount }) s)) (record z { heard = t })) (sym (join_amount z.heard amount)) (hears_window near cut opened s z amount st)

for_ended : (near cut opened : Bool) (o : Option Stream) (z : Sums) → opened ≡ true → Strand near cut opened o z
    → Strand near cut opened (changed_option (λ s. with_state (record s.state { read_ended = true }) s) o) (record z { heard = join z.heard (record nothing { ended = true }) })
for_ended near cut opened None z is_open st = hears_none near cut opened (z.heard.accepted || false) true false z [] 0 is_open (inl refl) st
for_ended near cut opened (Some s) z is_open st =
    subst (λ (t : Tally). Strand near cut opened (Some (with_state (record s.state { read_ended = true }) s)) (record z { heard = t })) (sym (join_ended z.heard)) (hears_ended near cut opened s z st)

for_closed : (near cut opened : Bool) (o : Option Stream) (z : Sums) → opened ≡ true → Strand near cut opened o z
    → Strand near cut opened (changed_option (λ s. with_state (record s.state { closed = true }) s) o) (record z { heard = join z.heard (record nothing { closed = true }) })
for_closed near cut opened None z is_open st = hears_none near cut opened (z.heard.accepted || false) false true z [] 0 is_open (inl refl) st
for_closed near cut opened (Some s) z is_open st =
    subst (λ (t : Tally). Strand near cut opened (Some (with_state (record s.state { closed = true }) s)) (record z { heard = t })) (sym (join_closed z.heard true ∙ ap (λ (x : Bool). record z.heard { closed = x }) (or_true z.heard.closed))) (hears_closed near cut opened s z st)

-- ---- a frame

-- what is answered to a frame at once
abbrev pub replies : MuxFrame → List MuxFrame
replies (OpenStream n) = Accept n ∷ []
replies _ = []

-- no bytes of the stream may come behind an end of it
abbrev pub IsTimely : List MuxFrame → MuxFrame → Type 0
IsTimely heard (Payload n bytes) = IsWritten heard n
IsTimely heard _ = Unit {0}

hear_open : (side : Side) (past : List (Event × Reply)) (e : End) (told heard : List MuxFrame) → EndLaw side past e told heard → e.near ≡ false → e.last + 1 < 2 ^ 32
    → Goes side past [] e (opened e (e.last + 1) true (Accept (e.last + 1))) told (Accept (e.last + 1) ∷ []) heard (OpenStream (e.last + 1) ∷ [])
hear_open side past e told heard law far small =
    let k = e.last + 1 in
    let none = (law.strands k).unopened (not_opened side past e told heard) in
    let bound_is : bound e.near e.start k told ≡ k = ap (λ (b : Bool). bound b e.start k told) far in
    let last_is : e.last ≡ e.start + opens heard = law.last ∙ ap (λ (b : Bool). e.start + opens (cond b told heard)) far in
    let after : e.start + opens (cond e.near (told ++ Accept k ∷ []) (heard ++ OpenStream k ∷ [])) ≡ e.start + opens (heard ++ OpenStream k ∷ []) = ap (λ (b : Bool). e.start + opens (cond b (told ++ Accept k ∷ []) (heard ++ OpenStream k ∷ []))) far in
    let low : e.start < k = omega (arith, start_last side past e told heard law) in
    goes_open side past [] e told heard true true (Accept k) (OpenStream k ∷ []) law small (λ near. absurd (true≢false (sym near ∙ far)))
    (λ n differ. sums_are _ _ _ _ _ _ _ _ _ _ _ _ (tally_away n (Accept k) differ) refl refl refl refl refl)
    (sums_are _ _ _ _ _ _ _ _ _ _ _ _ (tally_is _ _ _ _ _ _ _ _ _ _ refl refl (or_false (eqb k k) ∙ eq-eqb k k refl) refl refl) refl refl refl refl refl)
    (far, (low, omega (arith, bound_is)), ap (λ (z : Sums). z.told.accepted) none.1)
    (omega arith, small)
    (omega (arith, last_is, after, opens-append heard (OpenStream k ∷ [])))

data_said : (k : ℕ) (b : List ℕ) → tally k (Payload k b ∷ []) ≡ record nothing { bytes = b }
data_said k b = tally_is _ _ _ _ _ _ _ _ _ _ (append-nil (cond (eqb k k) b []) ∙ cond-true (eqb k k) b [] (eq-eqb k k refl)) refl refl refl refl

window_said : (k amount : ℕ) → tally k (Window k amount ∷ []) ≡ record nothing { amount = amount }
window_said k amount = let same : cond (eqb k k) amount 0 ≡ amount = cond-true (eqb k k) amount 0 (eq-eqb k k refl) in tally_is _ _ _ _ _ _ _ _ _ _ refl (omega (arith, same)) refl refl refl

pub goes_hear : (side : Side) (past : List (Event × Reply)) (e : End) (told heard : List MuxFrame) (frame : MuxFrame) → EndLaw side past e told heard → allows e frame ≡ true → IsFrame frame → IsTimely heard frame
    → Goes side past [] e (after_frame e frame) told (replies frame) heard (frame ∷ [])
goes_hear side past e told heard (OpenStream n) law allowed ok timely =
    let parts = and_parts (not e.near) (eqb n (e.last + 1)) allowed in
    let next : n ≡ e.last + 1 = eqb-true n (e.last + 1) parts.1 in
    subst (λ (m : ℕ). Goes side past [] e (opened e m true (Accept m)) told (Accept m ∷ []) heard (OpenStream m ∷ [])) (sym next) (hear_open side past e told heard law (not-true e.near parts.0) (omega (arith, next, ok.1)))
goes_hear side past e told heard (Accept n) law allowed ok timely =
    let parts = and_parts (was_opened e n) (if_live (map.get e.streams n) (λ s. not s.state.accepted)) (and_parts e.near (was_opened e n && if_live (map.get e.streams n) (λ s. not s.state.accepted)) allowed).1 in
    hear_at side past e told heard n (Accept n) (record nothing { accepted = true }) (λ s. with_state (record s.state { accepted = true }) s) law (λ m differ. tally_away m (Accept n) differ)
    (tally_is _ _ _ _ _ _ _ _ _ _ refl refl (or_false (eqb n n) ∙ eq-eqb n n refl) refl refl) refl
    (λ z _ st. for_accept e.near e.is_cut (was_opened e n) (map.get e.streams n) z parts.0 st)
goes_hear side past e told heard (Payload n b) law allowed ok timely =
    let parts = and_parts (was_opened e n) (if_live (map.get e.streams n) (λ s. has_room s (length b))) allowed in
    hear_at side past e told heard n (Payload n b) (record nothing { bytes = b }) (λ s. with_buffer (s.buffer ++ b) s) law (λ m differ. tally_away m (Payload n b) differ) (data_said n b) refl
    (λ z is st. for_data e.near e.is_cut (was_opened e n) (map.get e.streams n) z b parts.0 parts.1 (ap (λ (y : Sums). y.heard.ended) is ∙ timely.0, ap (λ (y : Sums). y.heard.closed) is ∙ timely.1) st)
goes_hear side past e told heard (Window n amount) law allowed ok timely =
    let parts = and_parts (was_opened e n) (if_live (map.get e.streams n) (λ s. has_credit_room s.state amount)) allowed in
    hear_at side past e told heard n (Window n amount) (record nothing { amount = amount }) (λ s. with_state (record s.state { credit = s.state.credit + amount }) s) law (λ m differ. tally_away m (Window n amount) differ) (window_said n amount) refl
    (λ z _ st. for_window e.near e.is_cut (was_opened e n) (map.get e.streams n) z amount parts.0 st)
goes_hear side past e told heard (CloseWrite n) law allowed ok timely =
    let parts = and_parts (was_opened e n) (if_live (map.get e.streams n) (λ s. is_readable s.state)) allowed in
    hear_at side past e told heard n (CloseWrite n) (record nothing { ended = true }) (λ s. with_state (record s.state { read_ended = true }) s) law (λ m differ. tally_away m (CloseWrite n) differ)
    (tally_is _ _ _ _ _ _ _ _ _ _ refl refl refl (or_false (eqb n n) ∙ eq-eqb n n refl) refl) refl
    (λ z _ st. for_ended e.near e.is_cut (was_opened e n) (map.get e.streams n) z parts.0 st)
goes_hear side past e told heard (Close n) law allowed ok timely =
    hear_at side past e told heard n (Close n) (record nothing { closed = true }) (λ s. with_state (record s.state { closed = true }) s) law (λ m differ. tally_away m (Close n) differ)
    (tally_is _ _ _ _ _ _ _ _ _ _ refl refl refl refl (or_false (eqb n n) ∙ eq-eqb n n refl)) refl
    (λ z _ st. for_closed e.near e.is_cut (was_opened e n) (map.get e.streams n) z allowed st)
goes_hear side past e told heard Heartbeat law allowed ok timely = record {
  law = law_on side past [] e e.streams e.waiting told [] heard (Heartbeat ∷ []) 0 law (λ n _. refl) (λ n _. refl) (map.get e.streams 0) (sums_of side past told heard 0) refl (plus-none (sums_of side past told heard 0)) (law.strands 0) tt refl refl;
  waiting = sym (append-nil e.waiting);
  frames = tt;
  near = refl;
  start = refl;
  cut = refl;
}
