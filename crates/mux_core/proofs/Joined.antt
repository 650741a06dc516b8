-- Every call of a side keeps what holds of two ends that are joined.
use Rattle.std.proofs.Common.{◌≡◌, ℕ, ◌+◌, ◌≤◌, ◌<◌, ◌^◌, min, Bool, true, false, not, cond, ◌||◌, eqb, leb, List, [], ◌∷◌, ◌++◌, length, take, zero, suc, refl, sym, ap, ◌∙◌, ◌⊎◌, inl, inr, arith, true≢false}
use Rattle.std.specs.Prelude.{Option, Some, None, Result, Ok, Err}
use Rattle.std.specs.FinMap as map
use Rattle.std.proofs.lemmas.List.{append-nil}
use Rattle.std.proofs.lemmas.Bool.{cases_lt, or_parts, or_cases, not-false, eqb-true, eqb-false, cond-false}
use Rattle.mux_frames.specs.declared.frame.MuxFrame.TheVariants as frames
use Rattle.mux_core.specs.declared.answer.ReadAnswer.{ReadAnswer}
use Rattle.mux_core.specs.declared.answer.ReadAnswer.TheVariants as answers
use Rattle.mux_core.specs.declared.error.MuxError.{MuxError}
use Rattle.mux_core.specs.declared.error.MuxError.TheVariants as errors
use Rattle.mux_core.specs.declared.error.OpenError.{OpenError}
use Rattle.mux_core.specs.declared.error.OpenError.TheVariants as opening
use Rattle.mux_core.specs.declared.opening.TheConstants.{MAX_LIVE}
use Rattle.mux_core.specs.declared.stream.Stream.{Stream}
use Rattle.mux_core.specs.Streams.{is_writable, with_state}
use Rattle.mux_core.specs.Ends.{End, tells, opened}
use Rattle.mux_core.specs.Calls.{open_step, last_number, write_step, write_live, accepts, read_step, read_live, read_drained, read_bytes, close_write_step, close_write_live, ends_writing, close_step, close_live, set, dropped}
use Rattle.mux_core.specs.Worlds.{Side, Near, other, Event, Open, Write, Read, CloseWrite, Close, Reply, Opened, Wrote, Answered, Done, Post}
use Rattle.mux_core.specs.Histories.{is_on}
use Rattle.mux_core.proofs.Tallies.{opens, opens-append, or_false}
use Rattle.mux_core.proofs.Strands.{no_sums, strand_end_read, strand_done}
use Rattle.mux_core.proofs.Joints.{Joint, sums_of}
use Rattle.mux_core.proofs.Pasts.{sums_are, other_on, get_here, get_away, gone_here, gone_away}
use Rattle.mux_core.proofs.EndSteps.{stays, goes_write}
use Rattle.mux_core.proofs.CallSteps.{goes_read, goes_on, goes_end_write, goes_close, goes_open, linked}
use Rattle.mux_core.proofs.Moves.{called}

abbrev pub post : End → Post → Post
post e here = record { end = e; reader = here.reader }

-- nothing changes at this side
same_here : (side : Side) (past ps : List (Event × Reply)) (here there : Post) → Joint side past here there → ((n : ℕ) → sums_of side ps [] [] n ≡ no_sums) → ((n : ℕ) → sums_of (other side) ps [] [] n ≡ no_sums)
    → Joint side (past ++ ps) (post here.end here) there
same_here side past ps here there j none none_there = called side past ps here there here.end [] j (stays side past ps here.end j.f.told j.f.heard none j.pair.law) none_there

-- ---- writes

other_wrote : (side : Side) (k : ℕ) (bytes : List ℕ) (answer : Result ℕ MuxError) (n : ℕ) → sums_of (other side) ((Write side k bytes, Wrote answer) ∷ []) [] [] n ≡ no_sums
other_wrote side k bytes (Ok count) n = sums_are _ _ _ _ _ _ _ _ _ _ _ _ refl refl
    (append-nil (cond (is_on (other side) n side k) (take count bytes) []) ∙ cond-false (is_on (other side) n side k) (take count bytes) [] (other_on side n k)) refl refl refl
other_wrote side k bytes (Err error) n = refl

write_keeps : (side : Side) (past : List (Event × Reply)) (here there : Post) (k : ℕ) (bytes : List ℕ) → Joint side past here there → (o : Option Stream) → map.get here.end.streams k ≡ o
    → Joint side (past ++ (Write side k bytes, Wrote (write_live here.end k bytes o).0) ∷ []) (post (write_live here.end k bytes o).1 here) there
write_keeps side past here there k bytes j None at_k =
    same_here side past ((Write side k bytes, Wrote (Err errors.NoStream)) ∷ []) here there j (λ n. refl) (other_wrote side k bytes (Err errors.NoStream))
write_keeps side past here there k bytes j (Some s) at_k = by_flag (here.end.is_cut || not (is_writable s.state)) refl
  where
    by_flag : (b : Bool) → (here.end.is_cut || not (is_writable s.state)) ≡ b
        → (let count = min (length bytes) s.state.credit in
        let r : Result ℕ MuxError × End = cond b (Err errors.WriteClosed, here.end) (Ok count, accepts here.end k s (take count bytes)) in
        Joint side (past ++ (Write side k bytes, Wrote r.0) ∷ []) (post r.1 here) there)
    by_flag true is = same_here side past ((Write side k bytes, Wrote (Err errors.WriteClosed)) ∷ []) here there j (λ n. refl) (other_wrote side k bytes (Err errors.WriteClosed))
    by_flag false is =
        let count = min (length bytes) s.state.credit in
        let writable : is_writable s.state ≡ true = not-false (is_writable s.state) (or_parts here.end.is_cut (not (is_writable s.state)) is).1 in
        called side past ((Write side k bytes, Wrote (Ok count)) ∷ []) here there (accepts here.end k s (take count bytes)) _ j
        (goes_write side past here.end j.f.told j.f.heard k bytes count s j.pair.law at_k writable (omega arith)) (other_wrote side k bytes (Ok count))

pub writes_keep : (side : Side) (past : List (Event × Reply)) (here there : Post) (k : ℕ) (bytes : List ℕ) → Joint side past here there
    → Joint side (past ++ (Write side k bytes, Wrote (write_step here.end k bytes).0) ∷ []) (post (write_step here.end k bytes).1 here) there
writes_keep side past here there k bytes j = write_keeps side past here there k bytes j (map.get here.end.streams k) refl

-- ---- reads

other_read : (side : Side) (k most : ℕ) (answer : ReadAnswer) (n : ℕ) → sums_of (other side) ((Read side k most, Answered (Ok answer)) ∷ []) [] [] n ≡ no_sums
other_read side k most (answers.Got bytes) n = sums_are _ _ _ _ _ _ _ _ _ _ _ _ refl refl refl
    (append-nil (cond (is_on (other side) n side k) bytes []) ∙ cond-false (is_on (other side) n side k) bytes [] (other_on side n k)) refl refl
other_read side k most answers.Empty n = refl
other_read side k most answers.End n = refl
other_read side k most answers.Broken n = refl

nothing_left : (xs : List ℕ) (most : ℕ) → 0 < most → min most (length xs) ≡ 0 → xs ≡ []
nothing_left [] most some none = refl
nothing_left (x ∷ xs) most some none = absurd (omega (arith, some, none))

drained_keeps : (side : Side) (past : List (Event × Reply)) (here there : Post) (k most : ℕ) (s : Stream) → Joint side past here there → map.get here.end.streams k ≡ Some s → s.buffer ≡ []
    → (let r = read_drained here.end k s in Joint side (past ++ (Read side k most, Answered (Ok r.0)) ∷ []) (post r.1 here) there)
drained_keeps side past here there k most s j at_k empty = by_end s.state.read_ended refl
  where
    drop_it : (answer : ReadAnswer) → ((n : ℕ) → sums_of side ((Read side k most, Answered (Ok answer)) ∷ []) [] [] n ≡ no_sums) → (here.end.is_cut ≡ false → (s.state.read_ended ≡ true) ⊎ (s.state.closed ≡ true))
        → Joint side (past ++ (Read side k most, Answered (Ok answer)) ∷ []) (post (dropped here.end k) here) there
    drop_it answer none why = called side past ((Read side k most, Answered (Ok answer)) ∷ []) here there (dropped here.end k) [] j
        (goes_on side past ((Read side k most, Answered (Ok answer)) ∷ []) here.end (map.remove here.end.streams k) j.f.told j.f.heard k s None j.pair.law at_k none (λ n differ. gone_away here.end.streams k n differ) (gone_here here.end.streams k)
        (λ z st. strand_done here.end.near here.end.is_cut _ s z empty why st))
        (other_read side k most answer)

    by_written : (b : Bool) → s.state.read_ended ≡ true
        → Joint side (past ++ (Read side k most, Answered (Ok answers.End)) ∷ []) (post (cond b (dropped here.end k) (set here.end k (with_state (record s.state { end_read = true }) s))) here) there
    by_written true ended = drop_it answers.End (λ n. refl) (λ _. inl ended)
    by_written false ended =
        let s_after = with_state (record s.state { end_read = true }) s in
        called side past ((Read side k most, Answered (Ok answers.End)) ∷ []) here there (set here.end k s_after) [] j
        (goes_on side past ((Read side k most, Answered (Ok answers.End)) ∷ []) here.end (map.insert here.end.streams k s_after) j.f.told j.f.heard k s (Some s_after) j.pair.law at_k (λ n. refl)
        (λ n differ. get_away here.end.streams k n s_after differ) (get_here here.end.streams k s_after) (λ z st. strand_end_read here.end.near here.end.is_cut _ s z empty ended st))
        (other_read side k most answers.End)

    broken_why : (s.state.closed || here.end.is_cut) ≡ true → here.end.is_cut ≡ false → (s.state.read_ended ≡ true) ⊎ (s.state.closed ≡ true)
    broken_why is uncut = pick (or_cases s.state.closed here.end.is_cut is)
      where
        pick : (s.state.closed ≡ true) ⊎ (here.end.is_cut ≡ true) → (s.state.read_ended ≡ true) ⊎ (s.state.closed ≡ true)
        pick (inl e) = inr e
        pick (inr e) = absurd (true≢false (sym e ∙ uncut))

    by_broken : (b : Bool) → (s.state.closed || here.end.is_cut) ≡ b
        → (let r : ReadAnswer × End = cond b (answers.Broken, dropped here.end k) (answers.Empty, here.end) in Joint side (past ++ (Read side k most, Answered (Ok r.0)) ∷ []) (post r.1 here) there)
    by_broken true is = drop_it answers.Broken (λ n. refl) (broken_why is)
    by_broken false is = same_here side past ((Read side k most, Answered (Ok answers.Empty)) ∷ []) here there j (λ n. refl) (other_read side k most answers.Empty)

    by_end : (b : Bool) → s.state.read_ended ≡ b
        → (let r : ReadAnswer × End = cond b (answers.End, cond s.state.write_ended (dropped here.end k) (set here.end k (with_state (record s.state { end_read = true }) s))) (cond (s.state.closed || here.end.is_cut) (answers.Broken, dropped here.end k) (answers.Empty, here.end)) in
        Joint side (past ++ (Read side k most, Answered (Ok r.0)) ∷ []) (post r.1 here) there)
    by_end true is = by_written s.state.write_ended is
    by_end false is = by_broken (s.state.closed || here.end.is_cut) refl

read_keeps : (side : Side) (past : List (Event × Reply)) (here there : Post) (k most : ℕ) → Joint side past here there → 0 < most → (o : Option Stream) → map.get here.end.streams k ≡ o
    → Joint side (past ++ (Read side k most, Answered (read_live here.end k most o).0) ∷ []) (post (read_live here.end k most o).1 here) there
read_keeps side past here there k most j some None at_k =
    same_here side past ((Read side k most, Answered (Err errors.NoStream)) ∷ []) here there j (λ n. refl) (λ n. refl)
read_keeps side past here there k most j some (Some s) at_k = by_count (eqb (min most (length s.buffer)) 0) refl
  where
    by_count : (b : Bool) → eqb (min most (length s.buffer)) 0 ≡ b
        → (let r : ReadAnswer × End = cond b (read_drained here.end k s) (read_bytes here.end k s (min most (length s.buffer))) in Joint side (past ++ (Read side k most, Answered (Ok r.0)) ∷ []) (post r.1 here) there)
    by_count true is = drained_keeps side past here there k most s j at_k (nothing_left s.buffer most some (eqb-true (min most (length s.buffer)) 0 is))
    by_count false is =
        let count = min most (length s.buffer) in
        called side past ((Read side k most, Answered (Ok (answers.Got (take count s.buffer)))) ∷ []) here there (read_bytes here.end k s count).1 (linked here.end.is_cut (frames.Window k count)) j
        (goes_read side past here.end j.f.told j.f.heard k most count s j.pair.law at_k (omega arith) (positive count (eqb-false count 0 is))) (other_read side k most (answers.Got (take count s.buffer)))
      where
        positive : (m : ℕ) → (m ≡ 0 → ⊥) → 0 < m
        positive zero differ = absurd (differ refl)
        positive (suc m) differ = omega arith

pub reads_keep : (side : Side) (past : List (Event × Reply)) (here there : Post) (k most : ℕ) → Joint side past here there → 0 < most
    → Joint side (past ++ (Read side k most, Answered (read_step here.end k most).0) ∷ []) (post (read_step here.end k most).1 here) there
reads_keep side past here there k most j some = read_keeps side past here there k most j some (map.get here.end.streams k) refl

-- where End is answered nothing is buffered, and the other side's end came
pub end_means : (e : End) (k most : ℕ) → 0 < most → Ok answers.End ≡ (read_step e k most).0 → (s : Stream) × (map.get e.streams k ≡ Some s) × (s.buffer ≡ []) × (s.state.read_ended ≡ true)
end_means e k most some is = by_stream (map.get e.streams k) refl is
  where
    by_stream : (o : Option Stream) → map.get e.streams k ≡ o → Ok answers.End ≡ (read_live e k most o).0 → (s : Stream) × (map.get e.streams k ≡ Some s) × (s.buffer ≡ []) × (s.state.read_ended ≡ true)
    by_stream None at_k is = cc
    by_stream (Some s) at_k is = by_count (eqb (min most (length s.buffer)) 0) refl is
      where
        by_broken : (b : Bool) → ◌≡◌ {A = Result ReadAnswer MuxError} (Ok answers.End) (Ok (let r : ReadAnswer × End = cond b (answers.Broken, dropped e k) (answers.Empty, e) in r).0) → ⊥
        by_broken true is = cc
        by_broken false is = cc

        by_end : (b : Bool) → s.state.read_ended ≡ b
            → ◌≡◌ {A = Result ReadAnswer MuxError} (Ok answers.End) (Ok (let r : ReadAnswer × End = cond b (answers.End, cond s.state.write_ended (dropped e k) (set e k (with_state (record s.state { end_read = true }) s))) (cond (s.state.closed || e.is_cut) (answers.Broken, dropped e k) (answers.Empty, e)) in r).0)
            → s.state.read_ended ≡ true
        by_end true ended is = ended
        by_end false ended is = absurd (by_broken (s.state.closed || e.is_cut) is)

        by_count : (b : Bool) → eqb (min most (length s.buffer)) 0 ≡ b
            → ◌≡◌ {A = Result ReadAnswer MuxError} (Ok answers.End) (Ok (let r : ReadAnswer × End = cond b (read_drained e k s) (read_bytes e k s (min most (length s.buffer))) in r).0)
            → (s : Stream) × (map.get e.streams k ≡ Some s) × (s.buffer ≡ []) × (s.state.read_ended ≡ true)
        by_count true none is = (s, at_k, nothing_left s.buffer most some (eqb-true (min most (length s.buffer)) 0 none), by_end s.state.read_ended refl is)
        by_count false none is = cc

-- ---- the end of writing, and a close

other_done : (side : Side) (k : ℕ) (answer : Result Unit MuxError) (n : ℕ) → sums_of (other side) ((CloseWrite side k, Done answer) ∷ []) [] [] n ≡ no_sums
other_done side k (Ok done) n = sums_are _ _ _ _ _ _ _ _ _ _ _ _ refl refl refl refl (or_false (is_on (other side) n side k) ∙ other_on side n k) refl
other_done side k (Err error) n = refl

end_keeps : (side : Side) (past : List (Event × Reply)) (here there : Post) (k : ℕ) → Joint side past here there → (o : Option Stream) → map.get here.end.streams k ≡ o
    → Joint side (past ++ (CloseWrite side k, Done (close_write_live here.end k o).0) ∷ []) (post (close_write_live here.end k o).1 here) there
end_keeps side past here there k j None at_k =
    same_here side past ((CloseWrite side k, Done (Err errors.NoStream)) ∷ []) here there j (λ n. refl) (λ n. refl)
end_keeps side past here there k j (Some s) at_k = by_flag (here.end.is_cut || not (is_writable s.state)) refl
  where
    by_flag : (b : Bool) → (here.end.is_cut || not (is_writable s.state)) ≡ b
        → (let r : Result Unit MuxError × End = cond b (Err errors.WriteClosed, here.end) (Ok tt, ends_writing (tells here.end (frames.CloseWrite k)) k s) in
        Joint side (past ++ (CloseWrite side k, Done r.0) ∷ []) (post r.1 here) there)
    by_flag true is = same_here side past ((CloseWrite side k, Done (Err errors.WriteClosed)) ∷ []) here there j (λ n. refl) (λ n. refl)
    by_flag false is =
        let flags = or_parts here.end.is_cut (not (is_writable s.state)) is in
        called side past ((CloseWrite side k, Done (Ok tt)) ∷ []) here there (ends_writing (tells here.end (frames.CloseWrite k)) k s) (frames.CloseWrite k ∷ []) j
        (goes_end_write side past here.end j.f.told j.f.heard k s j.pair.law at_k flags.0 (not-false (is_writable s.state) flags.1)) (other_done side k (Ok tt))

pub ends_keep : (side : Side) (past : List (Event × Reply)) (here there : Post) (k : ℕ) → Joint side past here there
    → Joint side (past ++ (CloseWrite side k, Done (close_write_step here.end k).0) ∷ []) (post (close_write_step here.end k).1 here) there
ends_keep side past here there k j = end_keeps side past here there k j (map.get here.end.streams k) refl

other_closed : (side : Side) (k n : ℕ) → sums_of (other side) ((Close side k, Done (Ok tt)) ∷ []) [] [] n ≡ no_sums
other_closed side k n = sums_are _ _ _ _ _ _ _ _ _ _ _ _ refl refl refl refl refl (or_false (is_on (other side) n side k) ∙ other_on side n k)

close_keeps : (side : Side) (past : List (Event × Reply)) (here there : Post) (k : ℕ) → Joint side past here there → (o : Option Stream) → map.get here.end.streams k ≡ o
    → Joint side (past ++ (Close side k, Done (close_live here.end k o).0) ∷ []) (post (close_live here.end k o).1 here) there
close_keeps side past here there k j None at_k =
    same_here side past ((Close side k, Done (Err errors.NoStream)) ∷ []) here there j (λ n. refl) (λ n. refl)
close_keeps side past here there k j (Some s) at_k =
    called side past ((Close side k, Done (Ok tt)) ∷ []) here there (dropped (tells here.end (frames.Close k)) k) (linked here.end.is_cut (frames.Close k)) j
    (goes_close side past here.end j.f.told j.f.heard k s j.pair.law at_k) (other_closed side k)

pub closes_keep : (side : Side) (past : List (Event × Reply)) (here there : Post) (k : ℕ) → Joint side past here there
    → Joint side (past ++ (Close side k, Done (close_step here.end k).0) ∷ []) (post (close_step here.end k).1 here) there
closes_keep side past here there k j = close_keeps side past here there k j (map.get here.end.streams k) refl

-- ---- a stream is opened

pub opens_keep : (past : List (Event × Reply)) (here there : Post) → Joint Near past here there
    → Joint Near (past ++ (Open, Opened (open_step here.end).0) ∷ []) (post (open_step here.end).1 here) there
opens_keep past here there j = by_flag (leb MAX_LIVE (map.len here.end.streams) || eqb here.end.last last_number) refl
  where
    by_flag : (b : Bool) → (leb MAX_LIVE (map.len here.end.streams) || eqb here.end.last last_number) ≡ b
        → (let r : Result ℕ OpenError × End = cond b (Err (opening.StreamsFull (min (map.len here.end.streams) MAX_LIVE)), here.end) (Ok (here.end.last + 1), opened here.end (here.end.last + 1) false (frames.OpenStream (here.end.last + 1))) in
        Joint Near (past ++ (Open, Opened r.0) ∷ []) (post r.1 here) there)
    by_flag true is = same_here Near past ((Open, Opened (Err (opening.StreamsFull (min (map.len here.end.streams) MAX_LIVE)))) ∷ []) here there j (λ n. refl) (λ n. refl)
    by_flag false is =
        let e = here.end in
        let law = j.pair.law in
        let near : e.near ≡ true = j.pair.which in
        let not_last = eqb-false e.last last_number (or_parts (leb MAX_LIVE (map.len e.streams)) (eqb e.last last_number) is).1 in
        let small : e.last + 1 < 2 ^ 32 = room e.last law.small not_last in
        let last_is : e.last ≡ e.start + opens j.f.told = law.last ∙ ap (λ (b : Bool). e.start + opens (cond b j.f.told j.f.heard)) near in
        let after : e.start + opens (cond e.near (j.f.told ++ frames.OpenStream (e.last + 1) ∷ []) (j.f.heard ++ [])) ≡ e.start + opens (j.f.told ++ frames.OpenStream (e.last + 1) ∷ []) = ap (λ (b : Bool). e.start + opens (cond b (j.f.told ++ frames.OpenStream (e.last + 1) ∷ []) (j.f.heard ++ []))) near in
        called Near past ((Open, Opened (Ok (e.last + 1))) ∷ []) here there (opened e (e.last + 1) false (frames.OpenStream (e.last + 1))) (frames.OpenStream (e.last + 1) ∷ []) j
        (goes_open Near past ((Open, Opened (Ok (e.last + 1))) ∷ []) e j.f.told j.f.heard false false (frames.OpenStream (e.last + 1)) [] law small (λ _. refl) (λ n _. refl) refl
        (near, omega (arith, last_is)) (omega arith, small) (omega (arith, last_is, after, opens-append j.f.told (frames.OpenStream (e.last + 1) ∷ []))))
        (λ n. refl)
      where
        room : (last : ℕ) → last < 2 ^ 32 → (last ≡ last_number → ⊥) → last + 1 < 2 ^ 32
        room last small differ = by_size (cases_lt last last_number)
          where
            by_size : (last < last_number) ⊎ (last_number ≤ last) → last + 1 < 2 ^ 32
            by_size (inl lt) = omega (arith, lt)
            by_size (inr le) = absurd (differ (omega (arith, le, small)))
