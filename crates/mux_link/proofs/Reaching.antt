-- What is known of two ends that were joined, whatever happened to them.
use Rattle.std.proofs.Common.{◌≡◌, ℕ, ◌<◌, ◌^◌, true, List, [], ◌∷◌, ◌++◌, sym, subst, arith}
use Rattle.std.specs.Prelude.{Result, None}
use Rattle.mux_frames.specs.Frames.{IsSpelling}
use Rattle.mux_frames.specs.Prefix.{Continues}
use Rattle.mux_frames.specs.declared.frame.MuxFrame.{MuxFrame}
use Rattle.mux_frames.specs.Readers.{Reading, Reads, Refuses, fresh}
use Rattle.mux_frames.proofs.Spellings.{nothing_continues}
use Rattle.mux_core.specs.declared.error.MuxError.{MuxError}
use Rattle.mux_core.specs.Ends.{End}
use Rattle.mux_core.specs.Worlds.{Side, Near, Far, other, Event, Open, Write, Read, CloseWrite, Close, Move, Cut, Reply, Opened, Wrote, Answered, Done, Moved, BadFrame, WasCut, Post, World, fresh_world, at, posts, with_end, Hands, Fails, Happens, Runs}
use Rattle.mux_core.proofs.Joints.{Joint}
use Rattle.mux_core.proofs.Everywhere.{always}
use Rattle.mux_link.specs.Posts.{IsReached}
use Rattle.mux_link.specs.Moves.{AreJoined}

-- ---- runs

pub runs-append : (xs ys : List (Event × Reply)) (w u v : World) → Runs w xs u → Runs u ys v → Runs w (xs ++ ys) v
runs-append [] ys w u v a b = subst (λ (x : World). Runs x ys v) a b
runs-append (x ∷ xs) ys w u v a b = (a.0, a.1, runs-append xs ys a.0 u v a.2 b)

-- what happens in a world that was reached leads to one
pub reached_by : (events : List (Event × Reply)) (w v : World) → IsReached w → Runs w events v → IsReached v
reached_by events w v r run = (r.0 ++ events, (r.1.0, r.1.1, runs-append r.0 events (fresh_world r.1.0) w v r.1.2 run))

-- what holds of two ends that were joined
pub joint_of : (side : Side) (from to : Post) (r : IsReached (posts side from to)) → Joint side r.0 from to
joint_of Near from to r = always r.0 (posts Near from to) r.1 Near
joint_of Far from to r = always r.0 (posts Far from to) r.1 Far

-- the last number is one
pub last_small : (w : World) → IsReached w → w.near.end.last < 2 ^ 32
last_small w r = (always r.0 w r.1 Near).pair.law.small

pub near_is : (w : World) → IsReached w → w.near.end.near ≡ true
near_is w r = (always r.0 w r.1 Near).pair.which

-- ---- readers

-- less than a whole frame is held back
pub record IsSound (r : Reading) : Type 0 where
  pub partial : Continues IsSpelling r.held
  pub small : r.taken < 2 ^ 64

abbrev BothSound : World → Type 0
BothSound w = IsSound w.near.reader × IsSound w.far.reader

kept : (side : Side) (w v : World) (e : End) → v ≡ with_end w side e → BothSound w → BothSound v
kept Near w v e is p = subst BothSound (sym is) p
kept Far w v e is p = subst BothSound (sym is) p

same_reader : (p q : Post) (e : End) → q ≡ record { end = e; reader = p.reader } → IsSound p.reader → IsSound q.reader
same_reader p q e is sound = subst (λ (x : Post). IsSound x.reader) (sym is) sound

read : (old new : Reading) (piece : List ℕ) (frames : List MuxFrame) → Reads old piece frames new → IsSound new
read old new piece frames r = record { partial = r.splits.partial; small = omega (arith, r.taken) }

refused : (old new : Reading) (piece : List ℕ) (place : ℕ) → Refuses old piece place new → IsSound old → IsSound new
refused old new piece place r s = subst IsSound (sym r.new_is) (record { partial = s.partial; small = s.small })

over : (side : Side) (w v : World) (count : ℕ) (answer : Result Unit MuxError) → Hands (at w side) (at w (other side)) count answer (at v side) (at v (other side)) → BothSound w → BothSound v
over Near w v count answer h p = (same_reader w.near v.near _ h.sent p.0, read _ _ _ _ h.reads)
over Far w v count answer h p = (read _ _ _ _ h.reads, same_reader w.far v.far _ h.sent p.1)

stopped : (side : Side) (w v : World) (count place : ℕ) → Fails (at w side) (at w (other side)) count place (at v side) (at v (other side)) → BothSound w → BothSound v
stopped Near w v count place f p = (same_reader w.near v.near _ f.sent p.0, refused _ _ _ _ f.refuses p.1)
stopped Far w v count place f p = (refused _ _ _ _ f.refuses p.0, same_reader w.far v.far _ f.sent p.1)

happens : (w v : World) (event : Event) (reply : Reply) → Happens w event reply v → BothSound w → BothSound v
happens w v Open (Opened answer) h p = kept Near w v _ h.2 p
happens w v (Write side k bytes) (Wrote answer) h p = kept side w v _ h.1 p
happens w v (Read side k most) (Answered answer) h p = kept side w v _ h.2 p
happens w v (CloseWrite side k) (Done answer) h p = kept side w v _ h.1 p
happens w v (Close side k) (Done answer) h p = kept side w v _ h.1 p
happens w v (Move side count) (Moved answer) h p = over side w v count answer h.2 p
happens w v (Move side count) (BadFrame place) h p = stopped side w v count place h.2 p
happens w v (Cut side) WasCut h p = kept side w v _ h p
happens w v event reply h p = absurd h

through : (events : List (Event × Reply)) (w v : World) → Runs w events v → BothSound w → BothSound v
through [] w v is p = subst BothSound (sym is) p
through (x ∷ events) w v r p = through events r.0 v r.2 (happens w r.0 x.0 x.1 r.1 p)

fresh_sound : IsSound fresh
fresh_sound = record { partial = nothing_continues; small = omega arith }

sound_at : (side : Side) (from to : Post) → IsReached (posts side from to) → IsSound to.reader
sound_at Near from to r = (through r.0 (fresh_world r.1.0) (posts Near from to) r.1.2 (fresh_sound, fresh_sound)).1
sound_at Far from to r = (through r.0 (fresh_world r.1.0) (posts Far from to) r.1.2 (fresh_sound, fresh_sound)).0

pub sound : (from to : Post) → AreJoined from to → IsSound to.reader
sound from to j = sound_at j.0 from to j.1

pub not_bad : (from to : Post) → AreJoined from to → to.reader.bad ≡ None
not_bad from to j = (joint_of j.0 from to j.1).sound_there
