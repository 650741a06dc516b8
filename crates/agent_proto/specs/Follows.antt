-- The bytes that led to a place, and what a piece makes of them.
use Rattle.std.specs.Prelude.{◌≡◌, ℕ, ◌+◌, ◌<◌, ◌≤◌, List, ◌++◌, length, take}
use Rattle.mux_frames.specs.Numbers.{AreBytes}
use Rattle.mux_frames.specs.Prefix.{IsFault}
use Rattle.agent_proto.specs.declared.place.Place.{Place}
use Rattle.agent_proto.specs.declared.walk.End.{End}
use Rattle.agent_proto.specs.declared.walk.End.TheVariants.{Whole, On, Bad}
use Rattle.agent_proto.specs.Places.{IsRest, IsReached}
use Rattle.agent_proto.specs.Streams.{IsSpelling}

-- the bytes go on to the end of a message exactly with what the place says is to come
pub record Follows (seen : List ℕ) (place : Place) : Type 0 where
  pub bytes : AreBytes seen
  pub reached : IsReached place
  pub goes : (rest : List ℕ) → AreBytes rest → IsRest place rest → IsSpelling (seen ++ rest)
  pub comes : (rest : List ℕ) → IsSpelling (seen ++ rest) → IsRest place rest

-- behind the bytes seen the others complete a message with so many of them, or lead to a place, or have a byte with which no message goes on
abbrev pub Ends : List ℕ → List ℕ → End → Type 0
Ends seen bytes (Whole used) = (0 < used) × (used ≤ length bytes) × IsSpelling (seen ++ take used bytes)
Ends seen bytes (On place) = Follows (seen ++ bytes) place
Ends seen bytes (Bad at) = (at < length bytes) × IsFault IsSpelling (seen ++ bytes) (length seen + at)

-- at most so many bytes can be passed over at once, whatever they are, and lead from the one place to the other
abbrev pub Passes : Place → ℕ → Place × ℕ → Type 0
Passes place most passed =
    (passed.1 ≤ most) × IsReached passed.0
    × ((seen more : List ℕ) → AreBytes more → length more ≡ passed.1 → Follows seen place → Follows (seen ++ more) passed.0)
