-- One stream at one end: what it is, over what was told and heard of it.
use Rattle.std.proofs.Common.{◌≡◌, ℕ, ◌+◌, ◌-◌, ◌≤◌, ◌<◌, Bool, true, false, ◌||◌, List, [], ◌++◌, length, refl, sym, ap, subst, ◌∙◌, ◌⊎◌, inl, inr, arith, append_assoc, length-append, true≢false}
use Rattle.std.specs.Prelude.{Option, Some, None}
use Rattle.std.proofs.lemmas.List.{append-nil}
use Rattle.std.proofs.lemmas.Bool.{true_from_ne_false, or_left}
use Rattle.mux_core.specs.declared.stream.TheConstants.{WINDOW}
use Rattle.mux_core.specs.declared.stream.Stream.{Stream}
use Rattle.mux_core.specs.Streams.{fresh_stream, with_state, with_buffer}
use Rattle.mux_core.specs.JoinedLaws.{IsPrefix}
use Rattle.mux_core.proofs.Tallies.{Tally, nothing}

-- what happened of a stream at an end: the frames told and heard, the bytes accepted and read, and
-- whether its writing was ended and it was closed
pub record Sums : Type 0 where
  pub told : Tally
  pub heard : Tally
  pub sent : List ℕ
  pub got : List ℕ
  pub ended : Bool
  pub closed : Bool

abbrev pub no_sums : Sums
no_sums = record { told = nothing; heard = nothing; sent = []; got = []; ended = false; closed = false }

-- a live stream
pub record Live (near : Bool) (s : Stream) (z : Sums) : Type 0 where
  pub credit : s.state.credit + length z.sent ≡ WINDOW + z.heard.amount
  pub buffer : z.got ++ s.buffer ≡ z.heard.bytes
  pub fits : length s.buffer ≤ WINDOW
  pub read_ended : s.state.read_ended ≡ z.heard.ended
  pub closed : s.state.closed ≡ z.heard.closed
  pub accepted : near ≡ true → s.state.accepted ≡ z.heard.accepted
  pub write_ended : s.state.write_ended ≡ z.told.ended
  pub not_told : z.told.closed ≡ false
  pub end_read : s.state.end_read ≡ true → (s.buffer ≡ []) × (s.state.read_ended ≡ true)

-- a stream that was opened and isn't live any more, though it wasn't closed here, was read to its end
pub record Gone (z : Sums) : Type 0 where
  pub all : z.got ≡ z.heard.bytes
  pub why : (z.heard.ended ≡ true) ⊎ (z.heard.closed ≡ true)

-- a stream, opened or not, live or not
pub record Strand (near cut opened : Bool) (o : Option Stream) (z : Sums) : Type 0 where
  pub unopened : opened ≡ false → (o ≡ None) × (z ≡ no_sums)
  pub sent : z.told.bytes ≡ z.sent
  pub ended : z.told.ended ≡ z.ended
  pub most : length z.sent ≤ WINDOW + z.heard.amount
  pub got : IsPrefix z.got z.heard.bytes
  pub given : cut ≡ false → z.told.amount ≡ length z.got
  pub live : (s : Stream) → o ≡ Some s → Live near s z
  pub gone : cut ≡ false → opened ≡ true → o ≡ None → z.closed ≡ false → Gone z

some_is : (s t : Stream) → Some s ≡ Some t → s ≡ t
some_is s t e = cc

none_some : (s : Stream) → None ≡ Some s → ⊥
none_some s e = cc

-- of a live stream it is enough to know that one
one_live : (near : Bool) (z : Sums) (t : Stream) → Live near t z → (s : Stream) → Some t ≡ Some s → Live near s z
one_live near z t live s e = subst (λ (x : Stream). Live near x z) (some_is t s e) live

-- a stream that is opened
pub strand_opened : (near cut accepted told : Bool) → (near ≡ true → accepted ≡ false)
    → Strand near cut true (Some (fresh_stream accepted)) (record no_sums { told = record nothing { accepted = told } })
strand_opened near cut accepted told fresh = record {
  unopened = λ e. absurd (true≢false e);
  sent = refl;
  ended = refl;
  most = omega arith;
  got = ([], refl);
  given = λ _. refl;
  live = one_live near (record no_sums { told = record nothing { accepted = told } }) (fresh_stream accepted) (record {
    credit = omega arith;
    buffer = refl;
    fits = omega arith;
    read_ended = refl;
    closed = refl;
    accepted = fresh;
    write_ended = refl;
    not_told = refl;
    end_read = λ e. absurd (true≢false (sym e));
  });
  gone = λ _ _ e _. absurd (none_some (fresh_stream accepted) (sym e));
}

is_opened : (near cut opened : Bool) (s : Stream) (z : Sums) → Strand near cut opened (Some s) z → opened ≡ true
is_opened near cut opened s z st = true_from_ne_false opened (λ e. none_some s (sym (st.unopened e).0))

-- what a live stream makes a strand
from_live : (near cut opened : Bool) (s : Stream) (z : Sums) → opened ≡ true → z.told.bytes ≡ z.sent → z.told.ended ≡ z.ended → (cut ≡ false → z.told.amount ≡ length z.got) → Live near s z
    → Strand near cut opened (Some s) z
from_live near cut opened s z is_open sent ended given live = record {
  unopened = λ e. absurd (true≢false (sym is_open ∙ e));
  sent = sent;
  ended = ended;
  most = omega (arith, live.credit);
  got = (s.buffer, live.buffer);
  given = given;
  live = one_live near z s live;
  gone = λ _ _ e _. absurd (none_some s (sym e));
}

-- what a stream that isn't live makes one
from_none : (near cut opened : Bool) (z : Sums) → opened ≡ true → z.told.bytes ≡ z.sent → z.told.ended ≡ z.ended → length z.sent ≤ WINDOW + z.heard.amount → IsPrefix z.got z.heard.bytes
    → (cut ≡ false → z.told.amount ≡ length z.got) → (cut ≡ false → z.closed ≡ false → Gone z) → Strand near cut opened None z
from_none near cut opened z is_open sent ended most got given gone = record {
  unopened = λ e. absurd (true≢false (sym is_open ∙ e));
  sent = sent;
  ended = ended;
  most = most;
  got = got;
  given = given;
  live = λ s e. absurd (none_some s e);
  gone = λ uncut _ _ still. gone uncut still;
}

-- bytes are accepted
pub strand_written : (near cut opened : Bool) (s : Stream) (z : Sums) (b : List ℕ) → length b ≤ s.state.credit → Strand near cut opened (Some s) z
    → Strand near cut opened (Some (with_state (record s.state { credit = s.state.credit - length b }) s)) (record z { told = record z.told { bytes = z.told.bytes ++ b }; sent = z.sent ++ b })
strand_written near cut opened s z b fits st =
    let l = st.live s refl in
    from_live near cut opened (with_state (record s.state { credit = s.state.credit - length b }) s) (record z { told = record z.told { bytes = z.told.bytes ++ b }; sent = z.sent ++ b })
    (is_opened near cut opened s z st) (ap (λ (xs : List ℕ). xs ++ b) st.sent) st.ended st.given
    (record {
      credit = omega (arith, length-append z.sent b, l.credit, fits);
      buffer = l.buffer;
      fits = l.fits;
      read_ended = l.read_ended;
      closed = l.closed;
      accepted = l.accepted;
      write_ended = l.write_ended;
      not_told = l.not_told;
      end_read = l.end_read;
    })

-- bytes are read
pub strand_read : (near cut opened : Bool) (s : Stream) (z : Sums) (b rest : List ℕ) (given : ℕ) → 0 < length b → s.buffer ≡ b ++ rest → (cut ≡ false → given ≡ length b)
    → Strand near cut opened (Some s) z → Strand near cut opened (Some (with_buffer rest s)) (record z { told = record z.told { amount = z.told.amount + given }; got = z.got ++ b })
strand_read near cut opened s z b rest given some is tells st =
    let l = st.live s refl in
    let sizes : length s.buffer ≡ length b + length rest = ap length is ∙ length-append b rest in
    from_live near cut opened (with_buffer rest s) (record z { told = record z.told { amount = z.told.amount + given }; got = z.got ++ b })
    (is_opened near cut opened s z st) st.sent st.ended (λ uncut. omega (arith, st.given uncut, tells uncut, length-append z.got b))
    (record {
      credit = l.credit;
      buffer = append_assoc z.got b rest ∙ ap (λ (xs : List ℕ). z.got ++ xs) (sym is) ∙ l.buffer;
      fits = omega (arith, sizes, l.fits);
      read_ended = l.read_ended;
      closed = l.closed;
      accepted = l.accepted;
      write_ended = l.write_ended;
      not_told = l.not_told;
      end_read = λ e. absurd (omega (arith, sizes, some, ap length (l.end_read e).0));
    })

-- the end is read, and this end may still write
pub strand_end_read : (near cut opened : Bool) (s : Stream) (z : Sums) → s.buffer ≡ [] → s.state.read_ended ≡ true
    → Strand near cut opened (Some s) z → Strand near cut opened (Some (with_state (record s.state { end_read = true }) s)) z
strand_end_read near cut opened s z drained ended st =
    let l = st.live s refl in
    from_live near cut opened (with_state (record s.state { end_read = true }) s) z (is_opened near cut opened s z st) st.sent st.ended st.given
    (record {
      credit = l.credit;
      buffer = l.buffer;
      fits = l.fits;
      read_ended = l.read_ended;
      closed = l.closed;
      accepted = l.accepted;
      write_ended = l.write_ended;
      not_told = l.not_told;
      end_read = λ _. (drained, ended);
    })

all_read : (near : Bool) (s : Stream) (z : Sums) → s.buffer ≡ [] → Live near s z → z.got ≡ z.heard.bytes
all_read near s z drained l = sym (append-nil z.got) ∙ ap (λ (xs : List ℕ). z.got ++ xs) (sym drained) ∙ l.buffer

-- a stream that was read to its end is dropped
pub strand_done : (near cut opened : Bool) (s : Stream) (z : Sums) → s.buffer ≡ [] → (cut ≡ false → (s.state.read_ended ≡ true) ⊎ (s.state.closed ≡ true))
    → Strand near cut opened (Some s) z → Strand near cut opened None z
strand_done near cut opened s z drained why st =
    let l = st.live s refl in
    from_none near cut opened z (is_opened near cut opened s z st) st.sent st.ended st.most st.got st.given
    (λ uncut _. record { all = all_read near s z drained l; why = told_why l (why uncut) })
  where
    told_why : Live near s z → (s.state.read_ended ≡ true) ⊎ (s.state.closed ≡ true) → (z.heard.ended ≡ true) ⊎ (z.heard.closed ≡ true)
    told_why l (inl e) = inl (sym l.read_ended ∙ e)
    told_why l (inr e) = inr (sym l.closed ∙ e)

-- writing is ended
pub strand_ended : (near cut opened : Bool) (s : Stream) (z : Sums) → Strand near cut opened (Some s) z
    → Strand near cut opened (Some (with_state (record s.state { write_ended = true }) s)) (record z { told = record z.told { ended = true }; ended = true })
strand_ended near cut opened s z st =
    let l = st.live s refl in
    from_live near cut opened (with_state (record s.state { write_ended = true }) s) (record z { told = record z.told { ended = true }; ended = true })
    (is_opened near cut opened s z st) st.sent refl st.given
    (record {
      credit = l.credit;
      buffer = l.buffer;
      fits = l.fits;
      read_ended = l.read_ended;
      closed = l.closed;
      accepted = l.accepted;
      write_ended = refl;
      not_told = l.not_told;
      end_read = l.end_read;
    })

-- writing is ended where the other end's was read
pub strand_ended_done : (near cut opened : Bool) (s : Stream) (z : Sums) → s.state.end_read ≡ true → Strand near cut opened (Some s) z
    → Strand near cut opened None (record z { told = record z.told { ended = true }; ended = true })
strand_ended_done near cut opened s z end_read st =
    let l = st.live s refl in
    from_none near cut opened (record z { told = record z.told { ended = true }; ended = true }) (is_opened near cut opened s z st) st.sent refl st.most st.got st.given
    (λ _ _. record { all = all_read near s z (l.end_read end_read).0 l; why = inl (sym l.read_ended ∙ (l.end_read end_read).1) })

-- a stream is closed
pub strand_closed : (near cut opened told : Bool) (s : Stream) (z : Sums) → Strand near cut opened (Some s) z
    → Strand near cut opened None (record z { told = record z.told { closed = told }; closed = true })
strand_closed near cut opened told s z st =
    from_none near cut opened (record z { told = record z.told { closed = told }; closed = true }) (is_opened near cut opened s z st) st.sent st.ended st.most st.got st.given
    (λ _ e. absurd (true≢false e))

-- the link is cut
pub strand_cut : (near cut opened : Bool) (o : Option Stream) (z : Sums) → Strand near cut opened o z → Strand near true opened o z
strand_cut near cut opened o z st = record {
  unopened = st.unopened;
  sent = st.sent;
  ended = st.ended;
  most = st.most;
  got = st.got;
  given = λ e. absurd (true≢false e);
  live = st.live;
  gone = λ e _ _ _. absurd (true≢false e);
}

-- ---- frames that come of a live stream

pub hears_accept : (near cut opened : Bool) (s : Stream) (z : Sums) → Strand near cut opened (Some s) z
    → Strand near cut opened (Some (with_state (record s.state { accepted = true }) s)) (record z { heard = record z.heard { accepted = true } })
hears_accept near cut opened s z st =
    let l = st.live s refl in
    from_live near cut opened (with_state (record s.state { accepted = true }) s) (record z { heard = record z.heard { accepted = true } })
    (is_opened near cut opened s z st) st.sent st.ended st.given
    (record {
      credit = l.credit;
      buffer = l.buffer;
      fits = l.fits;
      read_ended = l.read_ended;
      closed = l.closed;
      accepted = λ _. refl;
      write_ended = l.write_ended;
      not_told = l.not_told;
      end_read = l.end_read;
    })

pub hears_data : (near cut opened : Bool) (s : Stream) (z : Sums) (b : List ℕ) → s.state.read_ended ≡ false → length b ≤ WINDOW - length s.buffer → Strand near cut opened (Some s) z
    → Strand near cut opened (Some (with_buffer (s.buffer ++ b) s)) (record z { heard = record z.heard { bytes = z.heard.bytes ++ b } })
hears_data near cut opened s z b readable room st =
    let l = st.live s refl in
    from_live near cut opened (with_buffer (s.buffer ++ b) s) (record z { heard = record z.heard { bytes = z.heard.bytes ++ b } })
    (is_opened near cut opened s z st) st.sent st.ended st.given
    (record {
      credit = l.credit;
      buffer = sym (append_assoc z.got s.buffer b) ∙ ap (λ (xs : List ℕ). xs ++ b) l.buffer;
      fits = omega (arith, length-append s.buffer b, room, l.fits);
      read_ended = l.read_ended;
      closed = l.closed;
      accepted = l.accepted;
      write_ended = l.write_ended;
      not_told = l.not_told;
      end_read = λ e. absurd (true≢false (sym (l.end_read e).1 ∙ readable));
    })

pub hears_window : (near cut opened : Bool) (s : Stream) (z : Sums) (amount : ℕ) → Strand near cut opened (Some s) z
    → Strand near cut opened (Some (with_state (record s.state { credit = s.state.credit + amount }) s)) (record z { heard = record z.heard { amount = z.heard.amount + amount } })
hears_window near cut opened s z amount st =
    let l = st.live s refl in
    from_live near cut opened (with_state (record s.state { credit = s.state.credit + amount }) s) (record z { heard = record z.heard { amount = z.heard.amount + amount } })
    (is_opened near cut opened s z st) st.sent st.ended st.given
    (record {
      credit = omega (arith, l.credit);
      buffer = l.buffer;
      fits = l.fits;
      read_ended = l.read_ended;
      closed = l.closed;
      accepted = l.accepted;
      write_ended = l.write_ended;
      not_told = l.not_told;
      end_read = l.end_read;
    })

pub hears_ended : (near cut opened : Bool) (s : Stream) (z : Sums) → Strand near cut opened (Some s) z
    → Strand near cut opened (Some (with_state (record s.state { read_ended = true }) s)) (record z { heard = record z.heard { ended = true } })
hears_ended near cut opened s z st =
    let l = st.live s refl in
    from_live near cut opened (with_state (record s.state { read_ended = true }) s) (record z { heard = record z.heard { ended = true } })
    (is_opened near cut opened s z st) st.sent st.ended st.given
    (record {
      credit = l.credit;
      buffer = l.buffer;
      fits = l.fits;
      read_ended = refl;
      closed = l.closed;
      accepted = l.accepted;
      write_ended = l.write_ended;
      not_told = l.not_told;
      end_read = λ e. ((l.end_read e).0, refl);
    })

pub hears_closed : (near cut opened : Bool) (s : Stream) (z : Sums) → Strand near cut opened (Some s) z
    → Strand near cut opened (Some (with_state (record s.state { closed = true }) s)) (record z { heard = record z.heard { closed = true } })
hears_closed near cut opened s z st =
    let l = st.live s refl in
    from_live near cut opened (with_state (record s.state { closed = true }) s) (record z { heard = record z.heard { closed = true } })
    (is_opened near cut opened s z st) st.sent st.ended st.given
    (record {
      credit = l.credit;
      buffer = l.buffer;
      fits = l.fits;
      read_ended = l.read_ended;
      closed = refl;
      accepted = l.accepted;
      write_ended = l.write_ended;
      not_told = l.not_told;
      end_read = l.end_read;
    })

-- ---- frames that come of a stream that isn't live any more

-- one of these: bytes that may still come, an amount, and ends
pub hears_none : (near cut opened accepted ended closed : Bool) (z : Sums) (b : List ℕ) (amount : ℕ) → opened ≡ true
    → (b ≡ []) ⊎ ((z.heard.ended ≡ false) × (z.heard.closed ≡ false))
    → Strand near cut opened None z
    → Strand near cut opened None (record z { heard = record { bytes = z.heard.bytes ++ b; amount = z.heard.amount + amount; accepted = accepted; ended = z.heard.ended || ended; closed = z.heard.closed || closed } })
hears_none near cut opened accepted ended closed z b amount is_open when st =
    from_none near cut opened (record z { heard = record { bytes = z.heard.bytes ++ b; amount = z.heard.amount + amount; accepted = accepted; ended = z.heard.ended || ended; closed = z.heard.closed || closed } })
    is_open st.sent st.ended (omega (arith, st.most)) (st.got.0 ++ b, sym (append_assoc z.got st.got.0 b) ∙ ap (λ (xs : List ℕ). xs ++ b) st.got.1) st.given
    (λ uncut still. read_all (st.gone uncut is_open refl still) when)
  where
    after_why : (z.heard.ended ≡ true) ⊎ (z.heard.closed ≡ true) → ((z.heard.ended || ended) ≡ true) ⊎ ((z.heard.closed || closed) ≡ true)
    after_why (inl e) = inl (or_left z.heard.ended ended e)
    after_why (inr e) = inr (or_left z.heard.closed closed e)

    both : (z.heard.ended ≡ true) ⊎ (z.heard.closed ≡ true) → (z.heard.ended ≡ false) × (z.heard.closed ≡ false) → ⊥
    both (inl e) p = true≢false (sym e ∙ p.0)
    both (inr e) p = true≢false (sym e ∙ p.1)

    read_all : Gone z → (b ≡ []) ⊎ ((z.heard.ended ≡ false) × (z.heard.closed ≡ false))
        → Gone (record z { heard = record { bytes = z.heard.bytes ++ b; amount = z.heard.amount + amount; accepted = accepted; ended = z.heard.ended || ended; closed = z.heard.closed || closed } })
    read_all g (inl e) = record { all = g.all ∙ sym (append-nil z.heard.bytes) ∙ ap (λ (xs : List ℕ). z.heard.bytes ++ xs) (sym e); why = after_why g.why }
    read_all g (inr p) = absurd (both g.why p)
