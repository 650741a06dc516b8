-- What can be appended to a keeper, and its bytes.
use Rattle.std.specs.Prelude.{ℕ, List, Option, Some, None}
use Rattle.frame_text.specs.Payloads.{payload_bytes}
use Rattle.frame_text.specs.declared.frame.Frame.{Frame}
use Rattle.frame_text.specs.declared.frame.Frame.TheVariants.{Agree, Reset, Table}
use Rattle.frame_text.specs.declared.payload.Payload.{Payload}
use Rattle.frame_text.specs.declared.payload.Payload.TheVariants as payloads
use Rattle.frame_text.specs.declared.version.Version.TheVariants.{V2}

-- the payload of a session's frame; a frame of the table has none
abbrev pub payload_of : Frame → Option Payload
payload_of (Agree run cycle lines) = Some (payloads.Agree V2 run cycle lines)
payload_of (Reset number) = Some (payloads.Reset number)
payload_of (Table bytes) = None

-- the bytes of a frame, which a keeper keeps
abbrev pub frame_bytes : Frame → List ℕ
frame_bytes (Agree run cycle lines) = payload_bytes (payloads.Agree V2 run cycle lines)
frame_bytes (Reset number) = payload_bytes (payloads.Reset number)
frame_bytes (Table bytes) = bytes
