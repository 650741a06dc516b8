-- Bytes that go from one side to the other.
use Rattle.std.specs.Prelude.{◌≡◌, ℕ, ◌<◌, min, Bool, true, false, ◌||◌, length, Result, Ok, Err}
use Rattle.mux_core.specs.Worlds.{Post, Side, Hands, posts}
use Rattle.mux_link.specs.declared.reply.LinkReply.{LinkReply}
use Rattle.mux_link.specs.declared.reply.LinkReply.TheVariants as replies
use Rattle.mux_link.specs.Posts.{IsReached}

-- an end knows that the link was cut
abbrev pub is_cut : Post → Post → Bool
is_cut from to = from.end.is_cut || to.end.is_cut

-- two sides that were joined
abbrev pub AreJoined : Post → Post → Type 0
AreJoined from to = (side : Side) × IsReached (posts side from to)

-- so many of the bytes that wait went over, and the frames that they completed were taken
abbrev pub Went : Post → Post → ℕ → Post → Post → Type 0
Went from to count from_after to_after = Hands from to count (Ok tt) from_after to_after

-- how many bytes go over
abbrev pub ready : Post → ℕ → ℕ
ready from most = min most (length from.end.waiting)

-- all of them went over
abbrev pub WentAll : Post → Post → ℕ → ℕ → Post → Post → Type 0
WentAll from to most count from_after to_after = (count ≡ ready from most) × Went from to most from_after to_after

-- the first of them went over, and not all
abbrev pub WentInPart : Post → Post → ℕ → Post → Post → Type 0
WentInPart from to most from_after to_after = (count : ℕ) × (count < ready from most) × Went from to count from_after to_after

-- what is answered where they go over part by part, each of which may want memory
abbrev pub Carried : {E : Type 0} → Post → Post → ℕ → Result ℕ E → Post → Post → Type 0
Carried from to most (Ok count) from_after to_after = WentAll from to most count from_after to_after
Carried from to most (Err error) from_after to_after = WentInPart from to most from_after to_after

-- Up to so many bytes go over, while the link isn't cut. Where memory runs out fewer of them went over,
-- and the others wait as they did.
abbrev pub Moves : Post → Post → ℕ → LinkReply → Post → Post → Type 0
Moves from to most (replies.Moved count) from_after to_after =
    (is_cut from to ≡ true → (count ≡ 0) × (from_after ≡ from) × (to_after ≡ to)) × (is_cut from to ≡ false → WentAll from to most count from_after to_after)
Moves from to most replies.NoMemory from_after to_after = (is_cut from to ≡ false) × WentInPart from to most from_after to_after
Moves from to most _ from_after to_after = ⊥
