-- Where in the text of a path its first bytes end, and what can stand behind them.
use Rattle.std.specs.Prelude.{ℕ, Bool, true, false, cond, not, ◌&&◌, ◌||◌, ◌+◌, ◌-◌, ◌*◌, ◌==◌, nat_lt, nat_le, List, [], ◌∷◌, Option, Some, None}
use Rattle.std.specs.Option.{option_map}
use Rattle.agent_proto.specs.declared.character.Begun.{Begun}
use Rattle.agent_proto.specs.declared.character.Begun.TheVariants.{Whole}
use Rattle.agent_proto.specs.declared.path_place.PathPlace.{PathPlace}
use Rattle.agent_proto.specs.Characters.{char_step, is_whole, bytes_due}

-- before a name, behind which so many may stand
abbrev pub name_start : ℕ → PathPlace
name_start names = record { begun = Whole; len = 0; dots = true; names = names }

-- the bytes of the name are some, and not `.` or `..`
abbrev pub is_good_name : PathPlace → Bool
is_good_name p = nat_lt 0 p.len && not (p.dots && nat_le p.len 2)

abbrev pub is_name_end : PathPlace → Bool
is_name_end p = is_whole p.begun && is_good_name p

-- behind a `/`
abbrev pub behind_slash : PathPlace → Option PathPlace
behind_slash p = cond (is_name_end p && nat_lt 0 p.names) (Some (name_start (p.names - 1))) None

-- behind a byte of the name, with which so much of a character has come
abbrev pub behind_byte : PathPlace → ℕ → Begun → PathPlace
behind_byte p byte begun = record { begun = begun; len = p.len + 1; dots = p.dots && byte == 46; names = p.names }

abbrev pub behind_letter : PathPlace → ℕ → Option PathPlace
behind_letter p byte =
    cond (nat_le 32 byte && nat_lt p.len 255)
    (option_map (behind_byte p byte) (char_step p.begun byte))
    None

-- behind one byte more; `/` is 47
abbrev pub path_step : PathPlace → ℕ → Option PathPlace
path_step p byte = cond (byte == 47) (behind_slash p) (behind_letter p byte)

-- whether these bytes go on from there to the end of a path
abbrev pub ends_path : Option PathPlace → List ℕ → Bool
ends_path None bytes = false
ends_path (Some p) [] = is_name_end p
ends_path (Some p) (b ∷ bytes) = ends_path (path_step p b) bytes

-- Whether so many bytes can go on to the end of a path, where `due` of them end a character, the name has `len` bytes, behind it may stand
-- so many names, and its bytes so far make a name or don't.
abbrev pub has_room : ℕ → ℕ → ℕ → ℕ → Bool → Bool
has_room due len left names good =
    nat_le due left && (nat_le (len + due) 255 && (nat_le (len + left) (255 + 256 * names)
    && cond (left == due) (nat_lt 0 due || good) (nat_lt (len + due) 255 || nat_lt (due + 1) left)))

abbrev pub can_end : PathPlace → ℕ → Bool
can_end p left = has_room (bytes_due p.begun) p.len left p.names (is_good_name p)
