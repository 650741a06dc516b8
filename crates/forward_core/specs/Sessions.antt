-- A forwarding session.
use Rattle.std.specs.Prelude.{Bool, true, false, ◌||◌, if◌then◌else◌, refl}
use Rattle.std.specs.Coded.{Coded, code_by, coded×, coded_bool}
use Rattle.mux_core.specs.Worlds.{World, fresh_world}
use Rattle.mux_link.specs.Posts.{world_code}
use Rattle.mux_link.specs.Moves.{is_cut}
use Rattle.mux_link.specs.Steps.{cut_both}

-- whether it is paused, and its link
pub record Session : Type 0 where
  pub paused : Bool
  pub link : World

-- a session as it is made
abbrev pub fresh_session : Bool → Session
fresh_session paused = record { paused = paused; link = fresh_world 0 }

-- pausing cuts the link
abbrev pub paused_session : Session → Session
paused_session s = record { paused = true; link = cut_both s.link }

-- nothing moves on its link
abbrev pub is_idle : Session → Bool
is_idle s = s.paused || is_cut s.link.near s.link.far

-- resuming makes a new link where nothing moves, with streams numbered behind the last that was given
abbrev pub resumed_session : Session → Session
resumed_session s = if is_idle s then record { paused = false; link = fresh_world s.link.near.end.last } else s

-- sessions are told apart by their fields
abbrev pub session_code : Coded Session
session_code = code_by (Bool × World) (coded× coded_bool world_code) (λ s. (s.paused, s.link)) (λ p. record { paused = p.0; link = p.1 }) (λ _. refl)
