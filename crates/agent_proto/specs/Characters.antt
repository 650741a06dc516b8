-- The bytes of a text's characters (UTF-8), one behind the other.
use Rattle.std.specs.Prelude.{ℕ, Bool, true, false, cond, ◌==◌, nat_lt, List, [], ◌∷◌, Option, Some, None}
use Rattle.std.specs.Int.{is_in_range}
use Rattle.agent_proto.specs.declared.character.Begun.{Begun}
use Rattle.agent_proto.specs.declared.character.Begun.TheVariants.{Whole, One, Two, Three, AfterE0, AfterEd, AfterF0, AfterF4}

-- this, where the byte is one of these
abbrev pub next_in : ℕ → ℕ → ℕ → Begun → Option Begun
next_in low high byte then = cond (is_in_range low high byte) (Some then) None

-- what has come of a character with one byte more
abbrev pub char_step : Begun → ℕ → Option Begun
char_step Whole byte =
    cond (nat_lt byte 0x80) (Some Whole)
    (cond (nat_lt byte 0xC2) None
    (cond (nat_lt byte 0xE0) (Some One)
    (cond (byte == 0xE0) (Some AfterE0)
    (cond (byte == 0xED) (Some AfterEd)
    (cond (nat_lt byte 0xF0) (Some Two)
    (cond (byte == 0xF0) (Some AfterF0)
    (cond (nat_lt byte 0xF4) (Some Three)
    (cond (byte == 0xF4) (Some AfterF4)
    None))))))))
char_step One byte = next_in 0x80 0xBF byte Whole
char_step Two byte = next_in 0x80 0xBF byte One
char_step Three byte = next_in 0x80 0xBF byte Two
char_step AfterE0 byte = next_in 0xA0 0xBF byte One
char_step AfterEd byte = next_in 0x80 0x9F byte One
char_step AfterF0 byte = next_in 0x90 0xBF byte Two
char_step AfterF4 byte = next_in 0x80 0x8F byte Two

abbrev pub is_whole : Begun → Bool
is_whole Whole = true
is_whole begun = false

-- how many bytes are to come
abbrev pub bytes_due : Begun → ℕ
bytes_due Whole = 0
bytes_due One = 1
bytes_due Two = 2
bytes_due Three = 3
bytes_due AfterE0 = 2
bytes_due AfterEd = 2
bytes_due AfterF0 = 3
bytes_due AfterF4 = 3

-- whether these bytes go on from there to the end of a character
abbrev pub ends_whole : Option Begun → List ℕ → Bool
ends_whole None bytes = false
ends_whole (Some begun) [] = is_whole begun
ends_whole (Some begun) (b ∷ bytes) = ends_whole (char_step begun b) bytes
