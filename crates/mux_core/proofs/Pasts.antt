-- What happened, and what happens next: the sums of both.
use Rattle.std.proofs.Common.{◌≡◌, ℕ, ◌+◌, ◌≤◌, ◌<◌, ◌^◌, Bool, true, false, cond, ◌||◌, ◌&&◌, eqb, ltb, leb, List, [], ◌∷◌, ◌++◌, refl, sym, ap, subst, ◌∙◌, ◌⊎◌, inl, inr, arith, append_assoc, eq-eqb, true≢false}
use Rattle.std.specs.Prelude.{Option, Some, None}
use Rattle.std.specs.FinMap as map
use Rattle.std.specs.FinMap.{get-empty, get-insert, get-remove, nat_cmp-IsAntisymmetric}
use Rattle.std.specs.declared.cmp.Ordering.{Ordering}
use Rattle.std.specs.declared.cmp.Ordering.TheVariants.{Less, Equal, Greater}
use Rattle.std.specs.Ordering.{nat_cmp, eq_by_cmp, is_eq}
use Rattle.std.specs.Cmp.{nat_cmp_total, eq_by_cmp_equiv}
use Rattle.std.proofs.lemmas.List.{append-nil}
use Rattle.std.proofs.lemmas.Bool.{and_from, and_left, and_right, ne_eqb, cases_eq, cases_lt, cond-true, cond-false, false_from_ne_true, lt-leb, le-ltb}
use Rattle.mux_frames.specs.declared.frame.MuxFrame.{MuxFrame}
use Rattle.mux_frames.specs.declared.frame.MuxFrame.TheVariants.{OpenStream, Accept, Payload, Window, CloseWrite, Close, Heartbeat}
use Rattle.mux_core.specs.declared.stream.Stream.{Stream}
use Rattle.mux_core.specs.Streams.{Streams}
use Rattle.mux_core.specs.Ends.{End}
use Rattle.mux_core.specs.Arrivals.{was_opened}
use Rattle.mux_core.specs.Worlds.{Side, Near, Far, other, Event, Reply}
use Rattle.mux_core.specs.Histories.{sent, delivered, has_ended, has_closed, accepted_in, read_in, ends_in, closes_in, is_on, same_side}
use Rattle.mux_core.proofs.Tallies.{Tally, tally, nothing, join, tally-append, join-nothing, opens, or_false, or_assoc}
use Rattle.mux_core.proofs.Strands.{Sums, no_sums, Strand}
use Rattle.mux_core.proofs.Orders.{Follows, follows-append, follows_later}
use Rattle.mux_core.proofs.Joints.{sums_of, EndLaw}

pub sent-append : (side : Side) (n : ℕ) (ps qs : List (Event × Reply)) → sent side n (ps ++ qs) ≡ sent side n ps ++ sent side n qs
sent-append side n [] qs = refl
sent-append side n (p ∷ ps) qs = ap (λ (xs : List ℕ). accepted_in side n p.0 p.1 ++ xs) (sent-append side n ps qs) ∙ sym (append_assoc (accepted_in side n p.0 p.1) (sent side n ps) (sent side n qs))

pub delivered-append : (side : Side) (n : ℕ) (ps qs : List (Event × Reply)) → delivered side n (ps ++ qs) ≡ delivered side n ps ++ delivered side n qs
delivered-append side n [] qs = refl
delivered-append side n (p ∷ ps) qs = ap (λ (xs : List ℕ). read_in side n p.0 p.1 ++ xs) (delivered-append side n ps qs) ∙ sym (append_assoc (read_in side n p.0 p.1) (delivered side n ps) (delivered side n qs))

pub has_ended-append : (side : Side) (n : ℕ) (ps qs : List (Event × Reply)) → has_ended side n (ps ++ qs) ≡ (has_ended side n ps || has_ended side n qs)
has_ended-append side n [] qs = refl
has_ended-append side n (p ∷ ps) qs = ap (λ (b : Bool). ends_in side n p.0 p.1 || b) (has_ended-append side n ps qs) ∙ or_assoc (ends_in side n p.0 p.1) (has_ended side n ps) (has_ended side n qs)

pub has_closed-append : (side : Side) (n : ℕ) (ps qs : List (Event × Reply)) → has_closed side n (ps ++ qs) ≡ (has_closed side n ps || has_closed side n qs)
has_closed-append side n [] qs = refl
has_closed-append side n (p ∷ ps) qs = ap (λ (b : Bool). closes_in side n p.0 p.1 || b) (has_closed-append side n ps qs) ∙ or_assoc (closes_in side n p.0 p.1) (has_closed side n ps) (has_closed side n qs)

abbrev pub plus : Sums → Sums → Sums
plus z d = record { told = join z.told d.told; heard = join z.heard d.heard; sent = z.sent ++ d.sent; got = z.got ++ d.got; ended = z.ended || d.ended; closed = z.closed || d.closed }

pub sums_are : (a b p q : Tally) (s t u v : List ℕ) (c d x y : Bool) → a ≡ b → p ≡ q → s ≡ t → u ≡ v → c ≡ d → x ≡ y
    → (let z : Sums = record { told = a; heard = p; sent = s; got = u; ended = c; closed = x } in z) ≡ record { told = b; heard = q; sent = t; got = v; ended = d; closed = y }
sums_are a b p q s t u v c d x y e f g h i j = cc

pub sums_step : (side : Side) (past ps : List (Event × Reply)) (told fs heard hs : List MuxFrame) (n : ℕ) → sums_of side (past ++ ps) (told ++ fs) (heard ++ hs) n ≡ plus (sums_of side past told heard n) (sums_of side ps fs hs n)
sums_step side past ps told fs heard hs n = sums_are _ _ _ _ _ _ _ _ _ _ _ _ (tally-append n told fs) (tally-append n heard hs) (sent-append side n past ps) (delivered-append side n past ps) (has_ended-append side n past ps) (has_closed-append side n past ps)

pub plus-none : (z : Sums) → plus z no_sums ≡ z
plus-none z = sums_are _ _ _ _ _ _ _ _ _ _ _ _ (join-nothing z.told) (join-nothing z.heard) (append-nil z.sent) (append-nil z.got) (or_false z.ended) (or_false z.closed)

-- ---- the streams of a map

pub get_here : (m : Streams) (k : ℕ) (s : Stream) → map.get (map.insert m k s) k ≡ Some s
get_here m k s = get-insert nat_cmp_total m k s k ∙ cond-true (eq_by_cmp nat_cmp k k) (Some s) (map.get m k) ((eq_by_cmp_equiv nat_cmp_total).refl k)

pub gone_here : (m : Streams) (k : ℕ) → map.get (map.remove m k) k ≡ None
gone_here m k = get-remove nat_cmp_total m k k ∙ cond-true (eq_by_cmp nat_cmp k k) None (map.get m k) ((eq_by_cmp_equiv nat_cmp_total).refl k)

tied : (o : Ordering) → is_eq o ≡ true → o ≡ Equal
tied Less e = absurd (true≢false (sym e))
tied Equal e = refl
tied Greater e = absurd (true≢false (sym e))

apart : (n k : ℕ) → (n ≡ k → ⊥) → eq_by_cmp nat_cmp n k ≡ false
apart n k differ = false_from_ne_true (eq_by_cmp nat_cmp n k) (λ e. differ (nat_cmp-IsAntisymmetric n k (tied (nat_cmp n k) e)))

pub get_away : (m : Streams) (k n : ℕ) (s : Stream) → (n ≡ k → ⊥) → map.get (map.insert m k s) n ≡ map.get m n
get_away m k n s differ = get-insert nat_cmp_total m k s n ∙ cond-false (eq_by_cmp nat_cmp n k) (Some s) (map.get m n) (apart n k differ)

pub gone_away : (m : Streams) (k n : ℕ) → (n ≡ k → ⊥) → map.get (map.remove m k) n ≡ map.get m n
gone_away m k n differ = get-remove nat_cmp_total m k n ∙ cond-false (eq_by_cmp nat_cmp n k) None (map.get m n) (apart n k differ)

-- ---- one end, once something happened of one stream

pub same_strand : (near cut opened opened_after : Bool) (o o_after : Option Stream) (z z_after : Sums) → opened_after ≡ opened → o_after ≡ o → z_after ≡ z → Strand near cut opened o z → Strand near cut opened_after o_after z_after
same_strand near cut opened opened_after o o_after z z_after e f g st =
    subst (λ (b : Bool). Strand near cut b o_after z_after) (sym e) (subst (λ (x : Option Stream). Strand near cut opened x z_after) (sym f) (subst (λ (x : Sums). Strand near cut opened o x) (sym g) st))

pub law_at : (side : Side) (past ps : List (Event × Reply)) (e : End) (last : ℕ) (streams : Streams) (waiting : List ℕ) (told fs heard hs : List MuxFrame) (k : ℕ) → EndLaw side past e told heard
    → ((n : ℕ) → (n ≡ k → ⊥) → map.get streams n ≡ map.get e.streams n)
    → ((n : ℕ) → (n ≡ k → ⊥) → was_opened (record e { last = last }) n ≡ was_opened e n)
    → ((n : ℕ) → (n ≡ k → ⊥) → sums_of side ps fs hs n ≡ no_sums)
    → Strand e.near e.is_cut (was_opened (record e { last = last }) k) (map.get streams k) (plus (sums_of side past told heard k) (sums_of side ps fs hs k))
    → Follows e.near e.start last told fs → e.last ≤ last → last ≡ e.start + opens (cond e.near (told ++ fs) (heard ++ hs)) → last < 2 ^ 32
    → EndLaw side (past ++ ps) (record e { last = last; streams = streams; waiting = waiting }) (told ++ fs) (heard ++ hs)
law_at side past ps e last streams waiting told fs heard hs k law others opened none here order grows last_is small = record {
  strands = λ n. at_n n (cases_eq n k);
  order = follows-append e.near e.start last [] told fs (follows_later e.near e.start e.last last [] told grows law.order) order;
  last = last_is;
  small = small;
}
  where
    at_n : (n : ℕ) → (n ≡ k) ⊎ (n ≡ k → ⊥) → Strand e.near e.is_cut (was_opened (record e { last = last }) n) (map.get streams n) (sums_of side (past ++ ps) (told ++ fs) (heard ++ hs) n)
    at_n n (inl same) = subst (λ (m : ℕ). Strand e.near e.is_cut (was_opened (record e { last = last }) m) (map.get streams m) (sums_of side (past ++ ps) (told ++ fs) (heard ++ hs) m)) (sym same)
        (subst (λ (z : Sums). Strand e.near e.is_cut (was_opened (record e { last = last }) k) (map.get streams k) z) (sym (sums_step side past ps told fs heard hs k)) here)
    at_n n (inr differ) = same_strand e.near e.is_cut (was_opened e n) (was_opened (record e { last = last }) n) (map.get e.streams n) (map.get streams n) (sums_of side past told heard n) (sums_of side (past ++ ps) (told ++ fs) (heard ++ hs) n)
        (opened n differ) (others n differ) (sums_step side past ps told fs heard hs n ∙ ap (λ (z : Sums). plus (sums_of side past told heard n) z) (none n differ) ∙ plus-none (sums_of side past told heard n))
        (law.strands n)

-- ---- what a call of a side on a stream adds

pub here_on : (side : Side) (k : ℕ) → is_on side k side k ≡ true
here_on Near k = and_from true (eqb k k) refl (eq-eqb k k refl)
here_on Far k = and_from true (eqb k k) refl (eq-eqb k k refl)

pub away_on : (side : Side) (n k : ℕ) → (n ≡ k → ⊥) → is_on side n side k ≡ false
away_on side n k differ = and_right (same_side side side) (eqb k n) (ne_eqb k n (λ e. differ (sym e)))

pub other_on : (side : Side) (n k : ℕ) → is_on (other side) n side k ≡ false
other_on Near n k = and_left false (eqb k n) refl
other_on Far n k = and_left false (eqb k n) refl

abbrev pub stream_in : MuxFrame → ℕ
stream_in (OpenStream n) = n
stream_in (Accept n) = n
stream_in (Payload n bytes) = n
stream_in (Window n amount) = n
stream_in (CloseWrite n) = n
stream_in (Close n) = n
stream_in Heartbeat = 0

-- a frame says nothing of another stream
pub tally_away : (n : ℕ) (frame : MuxFrame) → (n ≡ stream_in frame → ⊥) → tally n (frame ∷ []) ≡ nothing
tally_away n (OpenStream k) differ = refl
tally_away n (Accept k) differ = ap (λ (b : Bool). record nothing { accepted = b || false }) (ne_eqb k n (λ e. differ (sym e)))
tally_away n (Payload k bytes) differ = ap (λ (b : Bool). record nothing { bytes = cond b bytes [] ++ [] }) (ne_eqb k n (λ e. differ (sym e)))
tally_away n (Window k amount) differ = ap (λ (b : Bool). record nothing { amount = cond b amount 0 + 0 }) (ne_eqb k n (λ e. differ (sym e)))
tally_away n (CloseWrite k) differ = ap (λ (b : Bool). record nothing { ended = b || false }) (ne_eqb k n (λ e. differ (sym e)))
tally_away n (Close k) differ = ap (λ (b : Bool). record nothing { closed = b || false }) (ne_eqb k n (λ e. differ (sym e)))
tally_away n Heartbeat differ = refl

-- ---- before anything happens

never_opened : (last n : ℕ) → (ltb last n && leb n last) ≡ false
never_opened last n = by_size (cases_lt last n)
  where
    by_size : (last < n) ⊎ (n ≤ last) → (ltb last n && leb n last) ≡ false
    by_size (inl lt) = and_right (ltb last n) (leb n last) (lt-leb n last lt)
    by_size (inr le) = and_left (ltb last n) (leb n last) (le-ltb last n le)

none_at : (n : ℕ) → map.get (let m : Streams = map.empty in m) n ≡ None
none_at n = get-empty nat_cmp n

pub not_yet : (near : Bool) (last n : ℕ) → Strand near false (ltb last n && leb n last) (map.get (let m : Streams = map.empty in m) n) no_sums
not_yet near last n = record {
  unopened = λ _. (none_at n, refl);
  sent = refl;
  ended = refl;
  most = omega arith;
  got = ([], refl);
  given = λ _. refl;
  live = λ s e. absurd (none_is s (sym (none_at n) ∙ e));
  gone = λ _ opened _ _. absurd (true≢false (sym opened ∙ never_opened last n));
}
  where
    none_is : (s : Stream) → None ≡ Some s → ⊥
    none_is s e = cc
