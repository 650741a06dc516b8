-- What is appended, and what becomes of the ancestor then.
use Rattle.std.specs.Prelude.{Option}
use Rattle.std.specs.Option.{option_and_then}
use Rattle.frame_text.specs.Folds.{Folded, with_payload}
use Rattle.frame_text.specs.Frames.{payload_of}
use Rattle.frame_text.specs.declared.frame.Frame.{Frame}

-- The fold with a frame more, if it takes the frame: a frame of the table has no payload, and lines have to be such as can be taken up.
abbrev pub with_frame : Folded → Frame → Option Folded
with_frame folded frame = option_and_then (with_payload folded) (payload_of frame)
