-- What a writer writes before a request.
use Rattle.std.specs.Prelude.{ℕ, List, [], ◌∷◌, ◌++◌, decimal, Option, Some, None}
use Rattle.line_words.specs.Spelling.{space, written}
use Rattle.command_words.specs.declared.client.Client.{Client}

-- a client with its number, and a space behind them
abbrev pub client_lead : Option Client → List ℕ
client_lead None = []
client_lead (Some client) = written ((64 ∷ client.name) ∷ decimal client.number ∷ []) ++ space ∷ []
