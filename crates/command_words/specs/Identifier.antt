-- The identifiers of sessions, and how they are spelt.
use Rattle.std.specs.Prelude.{ℕ, ◌<◌, ◌^◌, cond, List, ◌++◌, codes, bytes_eq, Option, Some, None}
use Rattle.std.specs.Int.{to_be_bytes}
use Rattle.uuid.specs.Text.{hyphenated_text, lower}
use Rattle.command_words.specs.declared.identifier.Identifier.{Identifier}
use Rattle.command_words.specs.declared.session_kind.SessionKind.{SessionKind}
use Rattle.command_words.specs.declared.session_kind.SessionKind.TheVariants.{Sync, Forward}
use mir.Syntax.{w128}

-- what the identifiers of a kind begin with
abbrev pub kind_prefix : SessionKind → List ℕ
kind_prefix Sync = codes "sync_"
kind_prefix Forward = codes "fwrd_"

-- the kind whose identifiers begin with this
abbrev pub kind_by : List ℕ → Option SessionKind
kind_by prefix = cond (bytes_eq prefix (codes "sync_")) (Some Sync) (cond (bytes_eq prefix (codes "fwrd_")) (Some Forward) None)

-- a number of 128 bits as a UUID: 8-4-4-4-12 lower-case hexadecimal digits, high digit first
abbrev pub uuid_text : ℕ → List ℕ
uuid_text id = hyphenated_text lower (to_be_bytes w128 id)

abbrev pub identifier_word : Identifier → List ℕ
identifier_word i = kind_prefix i.kind ++ uuid_text i.id

-- the number is one of 128 bits
abbrev pub IsIdentifier : Identifier → Type 0
IsIdentifier i = i.id < 2 ^ 128
