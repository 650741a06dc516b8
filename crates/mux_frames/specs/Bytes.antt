-- Bytes in two parts.
use Rattle.std.specs.Prelude.{ℕ, List, ◌++◌}
use Rattle.mux_frames.specs.declared.rest.Rest.{Rest}

-- the bytes of both parts
abbrev pub bytes_of : Rest → List ℕ
bytes_of rest = rest.front.now ++ rest.back.now
