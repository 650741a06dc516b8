-- Bytes that go over part by part.
use Rattle.std.proofs.Common.{◌≡◌, ℕ, ◌+◌, ◌-◌, ◌<◌, ◌≤◌, ◌^◌, min, Bool, true, false, cond, List, [], ◌∷◌, ◌++◌, length, take, drop, refl, sym, ap, subst, ◌∙◌, arith, append_assoc, length-append, length-drop}
use Rattle.std.specs.Prelude.{Result, Ok, Err, None}
use Rattle.std.proofs.lemmas.List.{append-nil, take-append-drop, length-take, length-take-le, take-take, drop-drop}
use Rattle.std.proofs.lemmas.List.Concat.{flat_map-append}
use Rattle.std.proofs.lemmas.Bool.{cond-true}
use Rattle.std.proofs.Math.Seq.{take-add}
use Rattle.mux_frames.specs.declared.frame.MuxFrame.{MuxFrame}
use Rattle.mux_frames.specs.declared.frame.MuxFrame.TheVariants.{OpenStream, Accept, Payload, Window, CloseWrite, Close, Heartbeat}
use Rattle.mux_frames.specs.Frames.{spelling, IsFrame, IsSpelling}
use Rattle.mux_frames.specs.Prefix.{Continues}
use Rattle.mux_frames.specs.Streams.{stream_of, IsStream, Splits}
use Rattle.mux_frames.specs.Readers.{Reading, Reads, counted, FaultsAfter}
use Rattle.mux_frames.proofs.Splitting.{sound_front}
use Rattle.mux_frames.proofs.Running.{front_of, splits_join}
use Rattle.mux_frames.proofs.Spellings.{nothing_continues}
use Rattle.mux_core.specs.declared.error.MuxError.{MuxError}
use Rattle.mux_core.specs.declared.error.MuxError.TheVariants as errors
use Rattle.mux_core.specs.Ends.{End}
use Rattle.mux_core.specs.Calls.{taken_out}
use Rattle.mux_core.specs.Arrivals.{allows, after_frame, frame_step}
use Rattle.mux_core.specs.Worlds.{Side, Near, Far, Move, Moved, Post, posts, takes, front, without_front, Happens}
use Rattle.mux_core.proofs.Allowed.{allowed, next_fits}
use Rattle.mux_core.proofs.Moves.{carried}
use Rattle.mux_link.specs.Posts.{IsReached}
use Rattle.mux_link.specs.Moves.{AreJoined, Went, ready}
use Rattle.mux_link.proofs.Reaching.{reached_by, joint_of}

-- ---- the next part

-- so many bytes at the front, of those that may go over
front_is : (from : Post) (used : ℕ) → used ≤ length from.end.waiting → front from.end used ≡ take used from.end.waiting
front_is from used fits = let m : min used (length from.end.waiting) ≡ used = omega arith in ap (λ (n : ℕ). take n from.end.waiting) m

without_is : (from : Post) (used : ℕ) → used ≤ length from.end.waiting → without_front from.end used ≡ taken_out from.end used
without_is from used fits = let m : min used (length from.end.waiting) ≡ used = omega arith in ap (taken_out from.end) m

-- a piece is the front of what waits, and so is its own front
pub within_piece : (piece waiting : List ℕ) (used : ℕ) → piece ≡ take (length piece) waiting → used ≤ length piece → (take used piece ≡ take used waiting) × (used ≤ length waiting)
within_piece piece waiting used is fits = (ap (take used) is ∙ take-take used (length piece) waiting fits, omega (arith, ap length is, length-take (length piece) waiting, fits))

-- the frame that so many bytes complete is one that the other end takes
allowed_next : (side : Side) (from to : Post) (used : ℕ) (frame : MuxFrame) → (r : IsReached (posts side from to)) → from.end.is_cut ≡ false → to.end.is_cut ≡ false → used ≤ length from.end.waiting → IsFrame frame
    → to.reader.held ++ take used from.end.waiting ≡ spelling frame → allows to.end frame ≡ true
allowed_next side from to used frame r linked linked_there fits ok is =
    let j = joint_of side from to r in
    let c = j.carries linked in
    let whole = carried from to j.f.later used c in
    let piece : to.reader.held ++ front from.end used ≡ spelling frame ++ [] = ap (λ (xs : List ℕ). to.reader.held ++ xs) (front_is from used fits) ∙ is ∙ sym (append-nil (spelling frame)) in
    let split : Splits (to.reader.held ++ front from.end used) (frame ∷ []) [] = record { whole = piece ∙ ap (λ (xs : List ℕ). xs ++ []) (sym (append-nil (spelling frame))); each = (ok, tt); partial = nothing_continues } in
    let found = front_of j.f.later (frame ∷ []) (to.reader.held ++ front from.end used) [] (drop (min used (length from.end.waiting)) from.end.waiting) c.0 whole split in
    allowed side r.0 from.end to.end j.f frame found.later j.pair linked linked_there found.sent_is (next_fits side r.0 from.end to.end j.f frame found.later j.pair found.sent_is)

pub next_allowed : (from to : Post) (used : ℕ) (frame : MuxFrame) → AreJoined from to → from.end.is_cut ≡ false → to.end.is_cut ≡ false → used ≤ length from.end.waiting → IsFrame frame
    → to.reader.held ++ take used from.end.waiting ≡ spelling frame → allows to.end frame ≡ true
next_allowed from to used frame j linked linked_there fits ok is = allowed_next j.0 from to used frame j.1 linked linked_there fits ok is

-- no byte that waits is a bad one
pub no_fault : (from to : Post) (count place : ℕ) → AreJoined from to → from.end.is_cut ≡ false → FaultsAfter to.reader (take count from.end.waiting) place → ⊥
no_fault from to count place joined linked fault =
    let j = joint_of joined.0 from to joined.1 in
    let c = j.carries linked in
    let piece = take count from.end.waiting in
    let more = drop count from.end.waiting in
    let all : (to.reader.held ++ piece) ++ more ≡ stream_of j.f.later = append_assoc to.reader.held piece more ∙ ap (λ (xs : List ℕ). to.reader.held ++ xs) (take-append-drop count from.end.waiting) ∙ c.1 in
    sound_front IsStream (to.reader.held ++ piece) more fault.0 (j.f.later, c.0, all) fault.1

-- a whole frame is taken, and then its bytes leave
pub went_frame : (from to from_after to_after : Post) (used : ℕ) (frame : MuxFrame) → to.reader.bad ≡ None → used ≤ length from.end.waiting → IsFrame frame → to.reader.held ++ take used from.end.waiting ≡ spelling frame
    → allows to.end frame ≡ true → to_after.end ≡ after_frame to.end frame → to_after.reader ≡ record to.reader { taken = counted (to.reader.taken + (length to.reader.held + used)); held = [] }
    → from_after ≡ record { end = taken_out from.end used; reader = from.reader }
    → Went from to used from_after to_after
went_frame from to from_after to_after used frame sound fits ok is allowed_it end_is reader_is from_is =
    let front_at = front_is from used fits in
    let one : stream_of (frame ∷ []) ≡ spelling frame = append-nil (spelling frame) in
    let size : length (stream_of (frame ∷ [])) ≡ length to.reader.held + used =
    ap length (one ∙ sym is) ∙ length-append to.reader.held (take used from.end.waiting) ∙ ap (λ (n : ℕ). length to.reader.held + n) (length-take-le used from.end.waiting fits) in
    let step : frame_step to.end frame ≡ (Ok tt, after_frame to.end frame) = cond-true (allows to.end frame) (Ok tt, after_frame to.end frame) (Err (errors.Protocol frame), to.end) allowed_it in
    let held_is : to_after.reader.held ≡ [] = ap (λ (r : Reading). r.held) reader_is in
    record {
      frames = frame ∷ [];
      reads = record {
        was_sound = sound;
        splits = subst (λ (xs : List ℕ). Splits (to.reader.held ++ front from.end used) (frame ∷ []) xs) (sym held_is) (record {
          whole = ap (λ (xs : List ℕ). to.reader.held ++ xs) front_at ∙ is ∙ sym one ∙ sym (append-nil (stream_of (frame ∷ [])));
          each = (ok, tt);
          partial = nothing_continues;
        });
        taken = ap (λ (r : Reading). r.taken) reader_is ∙ ap (λ (n : ℕ). counted (to.reader.taken + n)) (sym size);
        sound = ap (λ (r : Reading). r.bad) reader_is ∙ sound;
      };
      came = ap (λ (x : Result Unit MuxError × End). takes x []) step ∙ ap (λ (e : End). (Ok tt, e)) (sym end_is);
      sent = from_is ∙ ap (λ (e : End). record { end = e; reader = from.reader }) (sym (without_is from used fits));
    }

-- bytes that complete no frame are held back
pub went_part : (from to from_after to_after : Post) (count : ℕ) → to.reader.bad ≡ None → to.reader.taken < 2 ^ 64 → count ≤ length from.end.waiting → Continues IsSpelling (to.reader.held ++ take count from.end.waiting)
    → to_after.end ≡ to.end → to_after.reader ≡ record to.reader { held = to.reader.held ++ take count from.end.waiting } → from_after ≡ record { end = taken_out from.end count; reader = from.reader }
    → Went from to count from_after to_after
went_part from to from_after to_after count sound small fits goes end_is reader_is from_is =
    let held_is : to_after.reader.held ≡ to.reader.held ++ front from.end count = ap (λ (r : Reading). r.held) reader_is ∙ ap (λ (xs : List ℕ). to.reader.held ++ xs) (sym (front_is from count fits)) in
    record {
      frames = [];
      reads = record {
        was_sound = sound;
        splits = record { whole = sym held_is; each = tt; partial = subst (λ (r : Reading). Continues IsSpelling r.held) (sym reader_is) goes };
        taken = ap (λ (r : Reading). r.taken) reader_is ∙ omega arith;
        sound = ap (λ (r : Reading). r.bad) reader_is ∙ sound;
      };
      came = ap (λ (e : End). (Ok tt, e)) (sym end_is);
      sent = from_is ∙ ap (λ (e : End). record { end = e; reader = from.reader }) (sym (without_is from count fits));
    }

-- ---- one part behind another

frame_step_cut : (e : End) (frame : MuxFrame) → (frame_step e frame).1.is_cut ≡ e.is_cut
frame_step_cut e frame = by_flag (allows e frame)
  where
    after_cut : (frame : MuxFrame) → (after_frame e frame).is_cut ≡ e.is_cut
    after_cut (OpenStream n) = refl
    after_cut (Accept n) = refl
    after_cut (Payload n bytes) = refl
    after_cut (Window n amount) = refl
    after_cut (CloseWrite n) = refl
    after_cut (Close n) = refl
    after_cut Heartbeat = refl

    by_flag : (b : Bool) → (let r : Result Unit MuxError × End = cond b (Ok tt, after_frame e frame) (Err (errors.Protocol frame), e) in r.1.is_cut ≡ e.is_cut)
    by_flag true = after_cut frame
    by_flag false = refl

takes_cut : (answer : Result Unit MuxError) (e : End) (frames : List MuxFrame) → (takes (answer, e) frames).1.is_cut ≡ e.is_cut
takes_cut (Err error) e frames = refl
takes_cut (Ok done) e [] = refl
takes_cut (Ok done) e (frame ∷ frames) = takes_cut (frame_step e frame).0 (frame_step e frame).1 frames ∙ frame_step_cut e frame

-- a side is cut or not as it was
pub went_linked : (from to from_after to_after : Post) (count : ℕ) → Went from to count from_after to_after → (from_after.end.is_cut ≡ from.end.is_cut) × (to_after.end.is_cut ≡ to.end.is_cut)
went_linked from to from_after to_after count h =
    (ap (λ (x : Post). x.end.is_cut) h.sent, sym (ap (λ (x : Result Unit MuxError × End). x.1.is_cut) h.came) ∙ takes_cut (Ok tt) to.end h.frames)

-- what waits is what didn't go over
pub went_waits : (from to from_after to_after : Post) (count : ℕ) → Went from to count from_after to_after → from_after.end.waiting ≡ drop (min count (length from.end.waiting)) from.end.waiting
went_waits from to from_after to_after count h = ap (λ (x : Post). x.end.waiting) h.sent

-- the two sides were joined still
pub went_joined : (from to from_after to_after : Post) (count : ℕ) → AreJoined from to → from.end.is_cut ≡ false → to.end.is_cut ≡ false → Went from to count from_after to_after → AreJoined from_after to_after
went_joined from to from_after to_after count j linked linked_there h = (j.0, reached j.0 j.1)
  where
    event : (side : Side) → Happens (posts side from to) (Move side count) (Moved (Ok tt)) (posts side from_after to_after)
    event Near = (linked, linked_there, h)
    event Far = (linked, linked_there, h)

    reached : (side : Side) → IsReached (posts side from to) → IsReached (posts side from_after to_after)
    reached side r = reached_by ((Move side count, Moved (Ok tt)) ∷ []) (posts side from to) (posts side from_after to_after) r (posts side from_after to_after, event side, refl)

takes-append : (answer : Result Unit MuxError) (e f : End) (xs ys : List MuxFrame) → takes (answer, e) xs ≡ (Ok tt, f) → takes (answer, e) (xs ++ ys) ≡ takes (Ok tt, f) ys
takes-append (Err error) e f xs ys is = cc
takes-append (Ok done) e f [] ys is = ap (λ (x : Result Unit MuxError × End). takes x ys) is
takes-append (Ok done) e f (x ∷ xs) ys is = takes-append (frame_step e x).0 (frame_step e x).1 f xs ys is

-- what waits behind two parts
sent_join : (from from_mid from_after : Post) (a b : ℕ) → a + b ≤ length from.end.waiting → from_mid ≡ record { end = without_front from.end a; reader = from.reader }
    → from_after ≡ record { end = without_front from_mid.end b; reader = from_mid.reader } → from_after ≡ record { end = without_front from.end (a + b); reader = from.reader }
sent_join from from_mid from_after a b fits one two =
    let waiting = from.end.waiting in
    let left : Post = record { end = taken_out from.end a; reader = from.reader } in
    let all : Post = record { end = without_front from.end (a + b); reader = from.reader } in
    let size : min b (length (drop a waiting)) ≡ b = omega (arith, length-drop a waiting) in
    let sum : a + b ≡ min (a + b) (length waiting) = omega arith in
    let mid_is : from_mid ≡ left = one ∙ ap (λ (e : End). record { end = e; reader = from.reader }) (without_is from a (omega arith)) in
    let second : record { end = without_front from_mid.end b; reader = from_mid.reader } ≡ record { end = without_front left.end b; reader = from.reader } = ap (λ (x : Post). record { end = without_front x.end b; reader = x.reader }) mid_is in
    let rest : drop (min b (length (drop a waiting))) (drop a waiting) ≡ drop (min (a + b) (length waiting)) waiting = ap (λ (n : ℕ). drop n (drop a waiting)) size ∙ drop-drop b a waiting ∙ ap (λ (n : ℕ). drop n waiting) sum in
    let last : record { end = without_front left.end b; reader = from.reader } ≡ all = ap (λ (xs : List ℕ). record { end = record from.end { waiting = xs }; reader = from.reader }) rest in
    ◌∙◌ {b = record { end = without_front from_mid.end b; reader = from_mid.reader }} two (◌∙◌ {b = record { end = without_front left.end b; reader = from.reader }} second last)

-- what goes over in two parts goes over
pub went_join : (from to from_mid to_mid from_after to_after : Post) (a b : ℕ) → a + b ≤ length from.end.waiting → Went from to a from_mid to_mid → Went from_mid to_mid b from_after to_after → Went from to (a + b) from_after to_after
went_join from to from_mid to_mid from_after to_after a b fits one two =
    let waiting = from.end.waiting in
    let waits : from_mid.end.waiting ≡ drop a waiting = went_waits from to from_mid to_mid a one ∙ ap (λ (n : ℕ). drop n waiting) (let m : min a (length waiting) ≡ a = omega arith in m) in
    let left : length from_mid.end.waiting ≡ length waiting - a = ap length waits ∙ length-drop a waiting in
    let front_one : front from.end a ≡ take a waiting = front_is from a (omega arith) in
    let front_two : front from_mid.end b ≡ take b (drop a waiting) = front_is from_mid b (omega (arith, left)) ∙ ap (take b) waits in
    let front_both : front from.end (a + b) ≡ front from.end a ++ front from_mid.end b = front_is from (a + b) fits ∙ take-add a b waiting ∙ ap (λ (xs : List ℕ). xs ++ take b (drop a waiting)) (sym front_one) ∙ ap (λ (xs : List ℕ). front from.end a ++ xs) (sym front_two) in
    let splits = splits_join (to.reader.held ++ front from.end a) (front from_mid.end b) one.frames two.frames to_mid.reader.held to_after.reader.held one.reads.splits two.reads.splits in
    let bytes : (to.reader.held ++ front from.end a) ++ front from_mid.end b ≡ to.reader.held ++ front from.end (a + b) =
    append_assoc to.reader.held (front from.end a) (front from_mid.end b) ∙ ap (λ (xs : List ℕ). to.reader.held ++ xs) (sym front_both) in
    let size : length (stream_of (one.frames ++ two.frames)) ≡ length (stream_of one.frames) + length (stream_of two.frames) =
    ap length (flat_map-append spelling one.frames two.frames) ∙ length-append (stream_of one.frames) (stream_of two.frames) in
    record {
      frames = one.frames ++ two.frames;
      reads = record {
        was_sound = one.reads.was_sound;
        splits = subst (λ (xs : List ℕ). Splits xs (one.frames ++ two.frames) to_after.reader.held) bytes splits;
        taken = omega (arith, one.reads.taken, two.reads.taken, size);
        sound = two.reads.sound;
      };
      came = takes-append (Ok tt) to.end to_mid.end one.frames two.frames one.came ∙ two.came;
      sent = sent_join from from_mid from_after a b fits one.sent two.sent;
    }

-- nothing goes over
pub went_none : (from to : Post) → to.reader.bad ≡ None → to.reader.taken < 2 ^ 64 → Continues IsSpelling to.reader.held → Went from to 0 from to
went_none from to sound small goes = record {
  frames = [];
  reads = record {
    was_sound = sound;
    splits = record { whole = ap (λ (xs : List ℕ). to.reader.held ++ xs) (front_is from 0 (omega arith)) ∙ append-nil to.reader.held; each = tt; partial = goes };
    taken = omega arith;
    sound = sound;
  };
  came = refl;
  sent = sym (ap (λ (e : End). record { end = e; reader = from.reader }) (without_is from 0 (omega arith)));
}

-- as many as may go over, or all that wait
pub went_most : (from to from_after to_after : Post) (most : ℕ) → Went from to (ready from most) from_after to_after → Went from to most from_after to_after
went_most from to from_after to_after most h =
    let m : min (min most (length from.end.waiting)) (length from.end.waiting) ≡ min most (length from.end.waiting) = omega arith in
    record {
      frames = h.frames;
      reads = subst (λ (n : ℕ). Reads to.reader (take n from.end.waiting) h.frames to_after.reader) m h.reads;
      came = h.came;
      sent = h.sent ∙ ap (λ (n : ℕ). record { end = taken_out from.end n; reader = from.reader }) m;
    }
