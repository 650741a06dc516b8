-- Sessions of which no two have one identifier, or one kind and one name; and the names by which they are found.
use Rattle.std.specs.Prelude.{◌≡◌, ℕ, true, List, [], ◌∷◌, ◌++◌, Option, Some, None, nat_eq, bytes_eq}
use Rattle.std.specs.Map.{lookup}
use Rattle.command_words.specs.declared.session_kind.SessionKind.{SessionKind}
use Rattle.command_words.specs.declared.session_kind.SessionKind.TheVariants.{Sync, Forward}
use Rattle.session_table.specs.Finding.{id_named, is_named}
use Rattle.session_table.specs.States.{IsCovered}
use Rattle.session_table.specs.declared.session.Session.{Session}

-- the session has no name that one of these has, of its kind
abbrev pub IsNamedAlone : Session → List (ℕ × Session) → Type 0
IsNamedAlone s es = (kind : SessionKind) (name : List ℕ) → is_named kind name s ≡ true → id_named kind name es ≡ None

-- no two sessions have one identifier, or one kind and one name
abbrev pub AreDistinct : List (ℕ × Session) → Type 0
AreDistinct [] = Unit {0}
AreDistinct (e ∷ es) = (lookup (nat_eq e.0) es ≡ None) × IsNamedAlone e.1 es × AreDistinct es

-- these are the names of the sessions of the kind
abbrev pub IsIndexed : SessionKind → List (List ℕ × ℕ) → List (ℕ × Session) → Type 0
IsIndexed kind names live = (q : List ℕ) → lookup (bytes_eq q) names ≡ id_named kind q live

-- what the live sessions, the identifiers given and the names of both kinds keep to
abbrev pub AreKept : List (ℕ × SessionKind) → List (ℕ × Session) → List (List ℕ × ℕ) → List (List ℕ × ℕ) → Type 0
AreKept given live sync forward = IsCovered given live × AreDistinct live × IsIndexed Sync sync live × IsIndexed Forward forward live

-- the names with one more, if there is one
abbrev pub with_name : List (List ℕ × ℕ) → Option (List ℕ) → ℕ → List (List ℕ × ℕ)
with_name names None id = names
with_name names (Some name) id = names ++ (name, id) ∷ []

-- none of these is the name, if there is one
abbrev pub IsNewName : Option (List ℕ) → List (List ℕ × ℕ) → Type 0
IsNewName None names = Unit {0}
IsNewName (Some name) names = lookup (bytes_eq name) names ≡ None
