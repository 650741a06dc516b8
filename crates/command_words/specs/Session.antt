-- The words that name a session.
use Rattle.std.specs.Prelude.{ℕ, List}
use Rattle.command_words.specs.GivenName.{IsGivenName}
use Rattle.command_words.specs.Identifier.{identifier_word, IsIdentifier}
use Rattle.command_words.specs.declared.session.SessionWord.{SessionWord}
use Rattle.command_words.specs.declared.session.SessionWord.TheVariants.{Identified, Named}

abbrev pub session_word : SessionWord → List ℕ
session_word (Identified identifier) = identifier_word identifier
session_word (Named name) = name

abbrev pub IsSession : SessionWord → Type 0
IsSession (Identified identifier) = IsIdentifier identifier
IsSession (Named name) = IsGivenName name
