-- What a session is made of.
use Rattle.std.specs.Prelude.{ℕ, Bool, false, List, Option, bytes_eq}
use Rattle.command_words.specs.declared.session_kind.SessionKind.{SessionKind}
use Rattle.command_words.specs.declared.session_kind.SessionKind.TheVariants as kinds
use Rattle.session_table.specs.declared.create.Create.{Create}
use Rattle.session_table.specs.declared.create.Create.TheVariants.{Sync, Forward}

-- the kind of the session
abbrev pub kind_of : Create → SessionKind
kind_of (Sync c) = kinds.Sync
kind_of (Forward c) = kinds.Forward

-- its name, if it has one
abbrev pub name_of : Create → Option (List ℕ)
name_of (Sync c) = c.name
name_of (Forward c) = c.name

-- whether it begins paused
abbrev pub is_paused : Create → Bool
is_paused (Sync c) = c.paused
is_paused (Forward c) = c.paused

-- whether both sides are one root
abbrev pub has_same_roots : Create → Bool
has_same_roots (Sync c) = bytes_eq c.alpha c.beta
has_same_roots (Forward c) = false
