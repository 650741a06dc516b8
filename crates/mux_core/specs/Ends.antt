-- An end of a connection.
use Rattle.std.specs.Prelude.{◌≡◌, ℕ, Bool, true, false, if◌then◌else◌, List, [], ◌++◌, refl}
use Rattle.std.specs.Coded.{Coded, code_by, coded×, coded_ℕ, coded_bool, coded_list}
use Rattle.std.specs.FinMap as map
use Rattle.mux_frames.specs.declared.frame.MuxFrame.{MuxFrame}
use Rattle.mux_frames.specs.Frames.{spelling}
use Rattle.mux_core.specs.Streams.{Streams, fresh_stream, stream_code}

-- Whether it is the near end, which opens the streams; the number that it was made with, behind which
-- streams are numbered; the last number that was given; whether the link was cut; the live streams;
-- and the bytes that wait to go to the other end.
pub record End : Type 0 where
  pub near : Bool
  pub start : ℕ
  pub last : ℕ
  pub is_cut : Bool
  pub streams : Streams
  pub waiting : List ℕ

-- an end as it is made
abbrev pub fresh_end : Bool → ℕ → End
fresh_end near last = record { near = near; start = last; last = last; is_cut = false; streams = map.empty; waiting = [] }

-- the frame waits to go out, behind all that waits already; a link that was cut takes no more
abbrev pub tells : End → MuxFrame → End
tells e frame = record e { waiting = if e.is_cut then e.waiting else e.waiting ++ spelling frame }

abbrev pub with_streams : End → Streams → End
with_streams e streams = record e { streams = streams }

-- a stream of this number is opened, and the frame waits to go out
abbrev pub opened : End → ℕ → Bool → MuxFrame → End
opened e number accepted frame =
    record e {
      last = number;
      streams = map.insert e.streams number (fresh_stream accepted);
      waiting = e.waiting ++ spelling frame;
    }

-- the link was cut: what waits is dropped
abbrev pub cut_off : End → End
cut_off e = record e { is_cut = true; waiting = [] }

-- the same kind of end, made with the same number, and the link is cut or not as it was
abbrev pub SameLink : End → End → Type 0
SameLink old new = (new.near ≡ old.near) × (new.start ≡ old.start) × (new.is_cut ≡ old.is_cut)

-- ends are told apart by their fields
abbrev pub end_code : Coded End
end_code =
    code_by (Bool × (ℕ × (ℕ × (Bool × (Streams × List ℕ))))) (coded× coded_bool (coded× coded_ℕ (coded× coded_ℕ (coded× coded_bool (coded× (map.code coded_ℕ stream_code) (coded_list coded_ℕ))))))
    (λ e. (e.near, (e.start, (e.last, (e.is_cut, (e.streams, e.waiting))))))
    (λ p. record { near = p.0; start = p.1.0; last = p.1.1.0; is_cut = p.1.1.1.0; streams = p.1.1.1.1.0; waiting = p.1.1.1.1.1 }) (λ _. refl)
