-- Which bytes make a name, the component of a path.
use Rattle.std.specs.Prelude.{ℕ, Bool, not, ◌&&◌, ◌||◌, ◌==◌, List, length, nat_le, codes, bytes_eq, IsTrue}
use Rattle.std.specs.List.{list_all}
use Rattle.std.specs.Str.{is_utf8}
use Rattle.sync_path.specs.declared.limits.TheConstants.{MAX_NAME_LEN}

-- as many bytes as a name may have
abbrev pub has_name_len : List ℕ → Bool
has_name_len bs = nat_le 1 (length bs) && nat_le (length bs) MAX_NAME_LEN

-- a byte that may stand in a name: no control byte below 0x20, and no `/` (47)
abbrev pub is_name_byte : ℕ → Bool
is_name_byte b = nat_le 32 b && not (b == 47)

-- `.` and `..`, which stand for the folder itself and for the folder above
abbrev pub is_dots : List ℕ → Bool
is_dots bs = bytes_eq bs (codes ".") || bytes_eq bs (codes "..")

-- 1 to 255 bytes, each one that may stand in a name, and neither `.` nor `..`
abbrev pub has_name_form : List ℕ → Bool
has_name_form bs = has_name_len bs && not (is_dots bs) && list_all is_name_byte bs

-- bytes that make a name: UTF-8 in that form
abbrev pub is_name : List ℕ → Bool
is_name bs = is_utf8 bs && has_name_form bs

-- these bytes make a name
abbrev pub IsName : List ℕ → Type 0
IsName bs = IsTrue (is_name bs)
