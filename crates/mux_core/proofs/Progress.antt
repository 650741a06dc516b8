-- Bytes of whole frames, cut anywhere, are frames and a part of one; so each move can be made.
use Rattle.std.proofs.Common.{◌≡◌, ℕ, ◌+◌, min, false, List, [], ◌∷◌, ◌++◌, length, drop, refl, sym, ap, ◌∙◌, ◌⊎◌, inl, inr, append_assoc}
use Rattle.std.specs.Prelude.{None, Ok}
use Rattle.mux_frames.specs.declared.frame.MuxFrame.{MuxFrame}
use Rattle.mux_frames.specs.Frames.{spelling}
use Rattle.mux_frames.specs.Streams.{stream_of, AreFrames, Splits}
use Rattle.mux_frames.specs.Readers.{counted}
use Rattle.mux_frames.proofs.Spellings.{nothing_continues}
use Rattle.mux_frames.proofs.Running.{front_of}
use Rattle.mux_core.specs.Worlds.{Side, Near, Far, other, Event, Move, Reply, Moved, Post, World, at, posts, front, without_front, Hands, Happens}
use Rattle.mux_core.specs.JoinedLaws.{Reaches}
use Rattle.mux_core.proofs.Joints.{Joint}
use Rattle.mux_core.proofs.Moves.{carried, take_all}
use Rattle.mux_core.proofs.Everywhere.{always}

-- of two fronts of one list one begins with the other
two_fronts : (a b c d : List ℕ) → a ++ b ≡ c ++ d → ((extra : List ℕ) × (a ≡ c ++ extra) × (d ≡ extra ++ b)) ⊎ ((next : ℕ) × (extra : List ℕ) × (c ≡ a ++ next ∷ extra))
two_fronts [] b [] d e = inl ([], refl, sym e)
two_fronts [] b (y ∷ c) d e = inr (y, c, refl)
two_fronts (x ∷ a) b [] d e = inl (x ∷ a, refl, sym e)
two_fronts (x ∷ a) b (y ∷ c) d e =
    let head : x ≡ y = cc in
    let tail : a ++ b ≡ c ++ d = cc in
    behind head (two_fronts a b c d tail)
  where
    behind : x ≡ y → ((extra : List ℕ) × (a ≡ c ++ extra) × (d ≡ extra ++ b)) ⊎ ((next : ℕ) × (extra : List ℕ) × (c ≡ a ++ next ∷ extra))
        → ((extra : List ℕ) × (x ∷ a ≡ y ∷ c ++ extra) × (d ≡ extra ++ b)) ⊎ ((next : ℕ) × (extra : List ℕ) × (y ∷ c ≡ x ∷ a ++ next ∷ extra))
    behind h (inl p) = inl (p.0, ap (λ (xs : List ℕ). x ∷ xs) p.1 ∙ ap (λ (n : ℕ). n ∷ c ++ p.0) h, p.2)
    behind h (inr p) = inr (p.0, p.1, ap (λ (xs : List ℕ). y ∷ xs) p.2 ∙ ap (λ (n : ℕ). n ∷ a ++ p.0 ∷ p.1) (sym h))

pub splits_of : (sent : List MuxFrame) (bytes more : List ℕ) → AreFrames sent → stream_of sent ≡ bytes ++ more → (frames : List MuxFrame) × (rest : List ℕ) × Splits bytes frames rest
splits_of [] [] more ok e = ([], [], record { whole = refl; each = tt; partial = nothing_continues })
splits_of [] (x ∷ bytes) more ok e = cc
splits_of (frame ∷ sent) bytes more ok e = by_size (λ extra whole. splits_of sent extra more ok.1 whole) (two_fronts bytes more (spelling frame) (stream_of sent) (sym e))
  where
    by_size : ((extra : List ℕ) → stream_of sent ≡ extra ++ more → (frames : List MuxFrame) × (rest : List ℕ) × Splits extra frames rest)
        → ((extra : List ℕ) × (bytes ≡ spelling frame ++ extra) × (stream_of sent ≡ extra ++ more)) ⊎ ((next : ℕ) × (extra : List ℕ) × (spelling frame ≡ bytes ++ next ∷ extra))
        → (frames : List MuxFrame) × (rest : List ℕ) × Splits bytes frames rest
    by_size later (inr p) = ([], bytes, record { whole = refl; each = tt; partial = (p.0, p.1, (frame, ok.0, sym p.2)) })
    by_size later (inl p) =
        let found = later p.0 p.2 in (
          frame ∷ found.0,
          found.1,
          record {
            whole = p.1 ∙ ap (λ (xs : List ℕ). spelling frame ++ xs) found.2.whole ∙ sym (append_assoc (spelling frame) (stream_of found.0) found.1);
            each = (ok.0, found.2.each);
            partial = found.2.partial;
          },
        )

-- a move from one side to the other
move_on : (side : Side) (past : List (Event × Reply)) (here there : Post) (count : ℕ) → Joint side past here there → here.end.is_cut ≡ false → there.end.is_cut ≡ false → (here_after : Post) × (there_after : Post) × Hands here there count (Ok tt) here_after there_after
move_on side past here there count j uncut uncut_there =
    let c = j.carries uncut in
    let m = min count (length here.end.waiting) in
    let piece = front here.end count in
    let whole = carried here there j.f.later count c in
    let split = splits_of j.f.later (there.reader.held ++ piece) (drop m here.end.waiting) c.0 whole in
    let found = front_of j.f.later split.0 (there.reader.held ++ piece) split.1 (drop m here.end.waiting) c.0 whole split.2 in
    let took = take_all side past here.end there.end j.f split.0 found.later j.pair uncut uncut_there found.sent_is split.2.each in (
      record { end = without_front here.end count; reader = here.reader },
      record { end = took.after; reader = record { taken = counted (there.reader.taken + length (stream_of split.0)); held = split.1; bad = None } },
      record {
        frames = split.0;
        reads = record { was_sound = j.sound_there; splits = split.2; taken = refl; sound = refl };
        came = took.taken;
        sent = refl;
      },
    )

pub placed : (side : Side) (a b : Post) (P : Post → Post → Type 0) → P a b → P (at (posts side a b) side) (at (posts side a b) (other side))
placed Near a b P p = p
placed Far a b P p = p

pub moves_on : (steps : List (Event × Reply)) (w : World) → Reaches steps w → (side : Side) (count : ℕ) → (at w side).end.is_cut ≡ false → (at w (other side)).end.is_cut ≡ false → (v : World) × Happens w (Move side count) (Moved (Ok tt)) v
moves_on steps w r side count uncut uncut_there =
    let m = move_on side steps (at w side) (at w (other side)) count (always steps w r side) uncut uncut_there in
    (posts side m.0 m.1, (uncut, uncut_there, placed side m.0 m.1 (λ (a b : Post). Hands (at w side) (at w (other side)) count (Ok tt) a b) m.2))
