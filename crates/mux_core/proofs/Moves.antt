-- What a move and a cut make of two ends that are joined.
use Rattle.std.proofs.Common.{◌≡◌, ℕ, min, Bool, true, false, not, List, [], ◌∷◌, ◌++◌, length, take, drop, refl, sym, ap, subst, ◌∙◌, append_assoc, true≢false}
use Rattle.std.specs.Prelude.{Result, Ok, Err}
use Rattle.std.proofs.lemmas.List.{append-nil, take-append-drop}
use Rattle.std.proofs.lemmas.List.Concat.{flat_map-append}
use Rattle.std.proofs.lemmas.Bool.{cond-true}
use Rattle.mux_frames.specs.declared.frame.MuxFrame.{MuxFrame}
use Rattle.mux_frames.specs.declared.frame.MuxFrame.TheVariants.{OpenStream, Accept, Payload, Window, CloseWrite, Close, Heartbeat}
use Rattle.mux_frames.specs.Frames.{spelling}
use Rattle.mux_frames.specs.Streams.{stream_of, AreFrames, IsStream}
use Rattle.mux_frames.proofs.Splitting.{sound_front, AreFrames-append}
use Rattle.mux_frames.proofs.Running.{front_of}
use Rattle.mux_core.specs.declared.error.MuxError.{MuxError}
use Rattle.mux_core.specs.declared.error.MuxError.TheVariants as errors
use Rattle.mux_core.specs.Ends.{End, cut_off}
use Rattle.mux_core.specs.Arrivals.{allows, after_frame, frame_step}
use Rattle.mux_core.specs.Worlds.{Side, Near, Far, other, Event, Reply, Post, takes, front, without_front, Hands, Fails}
use Rattle.mux_core.specs.Links.{Carries}
use Rattle.mux_core.proofs.Strands.{no_sums, strand_cut}
use Rattle.mux_core.proofs.Orders.{Fits}
use Rattle.mux_core.proofs.Joints.{Told, Pair, Joint, EndLaw, sums_of, is_near}
use Rattle.mux_core.proofs.Allowed.{allowed, next_fits}
use Rattle.mux_core.proofs.EndSteps.{Goes, idle}
use Rattle.mux_core.proofs.HearSteps.{goes_hear, replies, IsTimely}

-- ---- either side

turned_near : (a b : Bool) → a ≡ not b → b ≡ not a
turned_near true true e = absurd (true≢false e)
turned_near true false e = refl
turned_near false true e = refl
turned_near false false e = absurd (true≢false (sym e))

turned_which : (side : Side) (a b : Bool) → a ≡ not b → a ≡ is_near side → b ≡ is_near (other side)
turned_which Near a b e f = turned_near a b e ∙ ap not f
turned_which Far a b e f = turned_near a b e ∙ ap not f

twice : (side : Side) (past : List (Event × Reply)) (e : End) (told heard : List MuxFrame) → EndLaw side past e told heard → EndLaw (other (other side)) past e told heard
twice Near past e told heard law = law
twice Far past e told heard law = law

-- the same, seen from the other side
pub flip : (side : Side) (past : List (Event × Reply)) (here there : Post) → Joint side past here there → Joint (other side) past there here
flip side past here there j = record {
  f = record { told = j.f.told_there; heard = j.f.heard_there; told_there = j.f.told; heard_there = j.f.heard; later = j.f.back; back = j.f.later };
  pair = record {
    law = j.pair.law_there;
    law_there = twice side past here.end j.f.told j.f.heard j.pair.law;
    told_is = j.pair.told_there_is;
    told_there_is = j.pair.told_is;
    start = sym j.pair.start;
    near = turned_near here.end.near there.end.near j.pair.near;
    which = turned_which side here.end.near there.end.near j.pair.near j.pair.which;
  };
  carries = j.carries_back;
  carries_back = j.carries;
  sound = j.sound_there;
  sound_there = j.sound;
}

-- ---- a call at this side

more_waits : (from_held waiting after : List ℕ) (later fs : List MuxFrame) → AreFrames later × (from_held ++ waiting ≡ stream_of later) → AreFrames fs → after ≡ waiting ++ stream_of fs
    → AreFrames (later ++ fs) × (from_held ++ after ≡ stream_of (later ++ fs))
more_waits held waiting after later fs c ok is = (
  AreFrames-append later fs c.0 ok,
  ap (λ (xs : List ℕ). held ++ xs) is ∙ sym (append_assoc held waiting (stream_of fs)) ∙ ap (λ (xs : List ℕ). xs ++ stream_of fs) c.1 ∙ sym (flat_map-append spelling later fs),
)

pub called : (side : Side) (past ps : List (Event × Reply)) (here there : Post) (after : End) (fs : List MuxFrame) (j : Joint side past here there) → Goes side past ps here.end after j.f.told fs j.f.heard []
    → ((n : ℕ) → sums_of (other side) ps [] [] n ≡ no_sums) → Joint side (past ++ ps) (record { end = after; reader = here.reader }) there
called side past ps here there after fs j goes none = record {
  f = record { told = j.f.told ++ fs; heard = j.f.heard; told_there = j.f.told_there; heard_there = j.f.heard_there; later = j.f.later ++ fs; back = j.f.back };
  pair = record {
    law = subst (λ (hs : List MuxFrame). EndLaw side (past ++ ps) after (j.f.told ++ fs) hs) (append-nil j.f.heard) goes.law;
    law_there = idle (other side) past ps there.end j.f.told_there j.f.heard_there none j.pair.law_there;
    told_is = ap (λ (xs : List MuxFrame). xs ++ fs) j.pair.told_is ∙ append_assoc j.f.heard_there j.f.later fs;
    told_there_is = j.pair.told_there_is;
    start = goes.start ∙ j.pair.start;
    near = goes.near ∙ j.pair.near;
    which = goes.near ∙ j.pair.which;
  };
  carries = λ uncut. more_waits there.reader.held here.end.waiting after.waiting j.f.later fs (j.carries (sym goes.cut ∙ uncut)) goes.frames goes.waiting;
  carries_back = j.carries_back;
  sound = j.sound;
  sound_there = j.sound_there;
}

-- ---- frames that come to the other side

-- the frames were taken, each of them, and these were answered
pub record Took (side : Side) (past : List (Event × Reply)) (here there : End) (f : Told) (frames later : List MuxFrame) : Type 0 where
  pub after : End
  pub f_after : Told
  pub answered : List MuxFrame
  pub taken : takes (Ok tt, there) frames ≡ (Ok tt, after)
  pub pair : Pair side past here after f_after
  pub later_is : f_after.later ≡ later
  pub back_is : f_after.back ≡ f.back ++ answered
  pub are : AreFrames answered
  pub waiting : after.waiting ≡ there.waiting ++ stream_of answered

timely : (near : Bool) (start last : ℕ) (before : List MuxFrame) (frame : MuxFrame) → Fits near start last before frame → IsTimely before frame
timely near start last before (OpenStream n) fits = tt
timely near start last before (Accept n) fits = tt
timely near start last before (Payload n bytes) fits = fits.1
timely near start last before (Window n amount) fits = tt
timely near start last before (CloseWrite n) fits = tt
timely near start last before (Close n) fits = tt
timely near start last before Heartbeat fits = tt

pub take_all : (side : Side) (past : List (Event × Reply)) (here there : End) (f : Told) (frames later : List MuxFrame) → Pair side past here there f → here.is_cut ≡ false → there.is_cut ≡ false → f.later ≡ frames ++ later → AreFrames frames
    → Took side past here there f frames later
take_all side past here there f [] later p uncut uncut_there next ok = record {
  after = there;
  f_after = f;
  answered = [];
  taken = refl;
  pair = p;
  later_is = next;
  back_is = sym (append-nil f.back);
  are = tt;
  waiting = sym (append-nil there.waiting);
}
take_all side past here there f (frame ∷ frames) later p uncut uncut_there next ok =
    let fits = next_fits side past here there f frame (frames ++ later) p next in
    let allows_it : allows there frame ≡ true = allowed side past here there f frame (frames ++ later) p uncut uncut_there next fits in
    let goes = goes_hear (other side) past there f.told_there f.heard_there frame p.law_there allows_it ok.0 (timely here.near here.start here.last f.heard_there frame fits) in
    let step : frame_step there frame ≡ (Ok tt, after_frame there frame) = cond-true (allows there frame) (Ok tt, after_frame there frame) (Err (errors.Protocol frame), there) allows_it in
    let mid : Told = record { told = f.told; heard = f.heard; told_there = f.told_there ++ replies frame; heard_there = f.heard_there ++ frame ∷ []; later = frames ++ later; back = f.back ++ replies frame } in
    let pair_mid : Pair side past here (after_frame there frame) mid = record {
      law = p.law;
      law_there = subst (λ (xs : List (Event × Reply)). EndLaw (other side) xs (after_frame there frame) (f.told_there ++ replies frame) (f.heard_there ++ frame ∷ [])) (append-nil past) goes.law;
      told_is = p.told_is ∙ ap (λ (xs : List MuxFrame). f.heard_there ++ xs) next ∙ sym (append_assoc f.heard_there (frame ∷ []) (frames ++ later));
      told_there_is = ap (λ (xs : List MuxFrame). xs ++ replies frame) p.told_there_is ∙ append_assoc f.heard f.back (replies frame);
      start = p.start ∙ sym goes.start;
      near = p.near ∙ ap not (sym goes.near);
      which = p.which;
    } in
    let rest = take_all side past here (after_frame there frame) mid frames later pair_mid uncut (goes.cut ∙ uncut_there) refl ok.1 in
    record {
      after = rest.after;
      f_after = rest.f_after;
      answered = replies frame ++ rest.answered;
      taken = ap (λ (x : Result Unit MuxError × End). takes x frames) step ∙ rest.taken;
      pair = rest.pair;
      later_is = rest.later_is;
      back_is = rest.back_is ∙ append_assoc f.back (replies frame) rest.answered;
      are = AreFrames-append (replies frame) rest.answered goes.frames rest.are;
      waiting = rest.waiting ∙ ap (λ (xs : List ℕ). xs ++ stream_of rest.answered) goes.waiting ∙ append_assoc there.waiting (stream_of (replies frame)) (stream_of rest.answered)
          ∙ ap (λ (xs : List ℕ). there.waiting ++ xs) (sym (flat_map-append spelling (replies frame) rest.answered));
    }

-- ---- a move

law_waiting : (side : Side) (past : List (Event × Reply)) (e : End) (waiting : List ℕ) (told heard : List MuxFrame) → EndLaw side past e told heard → EndLaw side past (record e { waiting = waiting }) told heard
law_waiting side past e waiting told heard law = record { strands = law.strands; order = law.order; last = law.last; small = law.small }

-- what the link carries: what is held, what is taken, and what waits behind it
pub carried : (here there : Post) (later : List MuxFrame) (count : ℕ) → Carries here there later
    → stream_of later ≡ (there.reader.held ++ front here.end count) ++ drop (min count (length here.end.waiting)) here.end.waiting
carried here there later count c =
    let m = min count (length here.end.waiting) in
    sym c.1 ∙ ap (λ (xs : List ℕ). there.reader.held ++ xs) (sym (take-append-drop m here.end.waiting)) ∙ sym (append_assoc there.reader.held (take m here.end.waiting) (drop m here.end.waiting))

-- the reader refuses nothing
pub never_fails : (side : Side) (past : List (Event × Reply)) (here there here_after there_after : Post) (count place : ℕ) → Joint side past here there → here.end.is_cut ≡ false → Fails here there count place here_after there_after → ⊥
never_fails side past here there here_after there_after count place j uncut fails =
    let c = j.carries uncut in
    let m = min count (length here.end.waiting) in
    sound_front IsStream (there.reader.held ++ front here.end count) (drop m here.end.waiting) fails.refuses.offset (j.f.later, c.0, sym (carried here there j.f.later count c)) fails.refuses.fault

pub moved : (side : Side) (past ps : List (Event × Reply)) (here there here_after there_after : Post) (count : ℕ) (answer : Result Unit MuxError) → Joint side past here there → here.end.is_cut ≡ false → there.end.is_cut ≡ false
    → Hands here there count answer here_after there_after
    → ((n : ℕ) → sums_of side ps [] [] n ≡ no_sums) → ((n : ℕ) → sums_of (other side) ps [] [] n ≡ no_sums)
    → Joint side (past ++ ps) here_after there_after × (answer ≡ Ok tt)
moved side past ps here there here_after there_after count answer j uncut uncut_there hands none none_there =
    let c = j.carries uncut in
    let m = min count (length here.end.waiting) in
    let found = front_of j.f.later hands.frames (there.reader.held ++ front here.end count) there_after.reader.held (drop m here.end.waiting) c.0 (carried here there j.f.later count c) hands.reads.splits in
    let took = take_all side past here.end there.end j.f hands.frames found.later j.pair uncut uncut_there found.sent_is hands.reads.splits.each in
    let same : (answer, there_after.end) ≡ (Ok tt, took.after) = sym hands.came ∙ took.taken in
    let end_is : took.after ≡ there_after.end = sym (ap (λ (x : Result Unit MuxError × End). x.1) same) in
    let back : AreFrames took.f_after.back × (here.reader.held ++ took.after.waiting ≡ stream_of took.f_after.back) =
    subst (λ (fs : List MuxFrame). AreFrames fs × (here.reader.held ++ took.after.waiting ≡ stream_of fs)) (sym took.back_is)
    (more_waits here.reader.held there.end.waiting took.after.waiting j.f.back took.answered (j.carries_back uncut_there) took.are took.waiting) in
    let f = took.f_after in
    let p = took.pair in
    let there_now : Post = record { end = took.after; reader = there_after.reader } in
    let here_now : Post = record { end = without_front here.end count; reader = here.reader } in
    let joint : Joint side (past ++ ps) here_now there_now = record {
      f = f;
      pair = record {
        law = idle side past ps (without_front here.end count) f.told f.heard none (law_waiting side past here.end (drop m here.end.waiting) f.told f.heard p.law);
        law_there = idle (other side) past ps took.after f.told_there f.heard_there none_there p.law_there;
        told_is = p.told_is;
        told_there_is = p.told_there_is;
        start = p.start;
        near = p.near;
        which = p.which;
      };
      carries = λ _. subst (λ (fs : List MuxFrame). AreFrames fs × (there_after.reader.held ++ drop m here.end.waiting ≡ stream_of fs)) (sym took.later_is) (found.each, found.ahead);
      carries_back = λ _. back;
      sound = j.sound;
      sound_there = hands.reads.sound;
    } in (
      subst (λ (x : Post). Joint side (past ++ ps) x there_after) (sym hands.sent)
          (subst (λ (e : End). Joint side (past ++ ps) here_now (record { end = e; reader = there_after.reader })) end_is joint),
      ap (λ (x : Result Unit MuxError × End). x.0) same,
    )

-- ---- a cut

law_cut : (side : Side) (past ps : List (Event × Reply)) (e : End) (told heard : List MuxFrame) → ((n : ℕ) → sums_of side ps [] [] n ≡ no_sums) → EndLaw side past e told heard → EndLaw side (past ++ ps) (cut_off e) told heard
law_cut side past ps e told heard none law =
    idle side past ps (cut_off e) told heard none
    (record { strands = λ n. strand_cut e.near e.is_cut _ _ (sums_of side past told heard n) (law.strands n); order = law.order; last = law.last; small = law.small })

pub cut_here : (side : Side) (past ps : List (Event × Reply)) (here there : Post) → ((n : ℕ) → sums_of side ps [] [] n ≡ no_sums) → ((n : ℕ) → sums_of (other side) ps [] [] n ≡ no_sums) → Joint side past here there
    → Joint side (past ++ ps) (record { end = cut_off here.end; reader = here.reader }) there
cut_here side past ps here there none none_there j = record {
  f = j.f;
  pair = record {
    law = law_cut side past ps here.end j.f.told j.f.heard none j.pair.law;
    law_there = idle (other side) past ps there.end j.f.told_there j.f.heard_there none_there j.pair.law_there;
    told_is = j.pair.told_is;
    told_there_is = j.pair.told_there_is;
    start = j.pair.start;
    near = j.pair.near;
    which = j.pair.which;
  };
  carries = λ e. absurd (true≢false e);
  carries_back = j.carries_back;
  sound = j.sound;
  sound_there = j.sound_there;
}
