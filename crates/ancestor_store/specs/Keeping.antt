-- What a keeper makes of its frames.
use Rattle.std.specs.Prelude.{◌≡◌, ℕ, List, [], ◌∷◌, ◌++◌, map, Result, Ok, Err}
use Rattle.std.specs.Global.{Vec}
use Rattle.frame_text.specs.Frames.{frame_bytes}
use Rattle.frame_text.specs.declared.frame.Frame.{Frame}
use Rattle.ancestor_store.specs.declared.keeper.KeepError.{KeepError}

-- the frames of a key after an append: that frame's bytes behind them, or, where it was refused, what they were
abbrev pub Appends : Frame → Result Unit KeepError → List (List ℕ) → List (List ℕ) → Type 0
Appends frame (Ok done) old new = new ≡ old ++ frame_bytes frame ∷ []
Appends frame (Err error) old new = new ≡ old

-- the bytes of frames
abbrev pub bytes_of : List (Vec ℕ) → List (List ℕ)
bytes_of frames = map (λ (frame : Vec ℕ). frame.items) frames
