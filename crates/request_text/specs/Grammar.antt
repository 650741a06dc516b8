-- Which words spell a request, and where the words of a line go wrong.
use Rattle.std.specs.Prelude.{◌≡◌, ℕ, Bool, true, false, IsTrue, List, [], ◌∷◌, ◌++◌, codes, decimal, Option, Some, None}
use Rattle.line_words.specs.Lines.{HasWords, Item}
use Rattle.line_words.specs.Numbers.{byte_value}
use Rattle.command_words.specs.declared.client.Client.{Client}
use Rattle.request_text.specs.Given.{GiveForward, GiveSync}
use Rattle.request_text.specs.Requests.{IsClient, IsRequest}
use Rattle.request_text.specs.Settings.{setting_words}
use Rattle.request_text.specs.Words.{client_words, edit_words, stream_words, words_of}
use Rattle.request_text.specs.declared.asked.Asked.{Asked}
use Rattle.request_text.specs.declared.request.Request.{Request}
use Rattle.request_text.specs.declared.request.Request.TheVariants.{Fill, StreamFill, SyncCreate, SyncFlush, SyncFlushSkipWait, SyncOrder, ForwardCreate, ForwardOrder}
use Rattle.request_text.specs.declared.setting.Setting.{Setting}

-- The words spell the request: they are its words as a writer writes them, but that the digits of a byte may stand in either case, and
-- that options may stand in any order and may say what is so without them.
abbrev pub Spells : Request → List (List ℕ) → Type 0
Spells (Fill at len byte) words = (digits : List ℕ) × (byte_value digits ≡ Some byte) × (words ≡ edit_words at (codes "fill") (decimal len ∷ digits ∷ []))
Spells (StreamFill end len byte) words = (digits : List ℕ) × (byte_value digits ≡ Some byte) × (words ≡ stream_words end (codes "fill") (decimal len ∷ digits ∷ []))
Spells (SyncCreate create) words = (given : List Setting) × GiveSync given create
    × (words ≡ codes "sync" ∷ codes "create" ∷ (setting_words given ++ (create.alpha ∷ create.beta ∷ [])))
Spells (ForwardCreate create) words = (given : List Setting) × GiveForward given create
    × (words ≡ codes "forward" ∷ codes "create" ∷ (setting_words given ++ (create.source ∷ create.dest ∷ [])))
Spells request words = words ≡ words_of request

-- a line that changes a session may name a client
abbrev pub may_name_client : Request → Bool
may_name_client (SyncCreate create) = true
may_name_client (SyncFlush session) = true
may_name_client (SyncFlushSkipWait session) = true
may_name_client (SyncOrder order session) = true
may_name_client (ForwardCreate create) = true
may_name_client (ForwardOrder order session) = true
may_name_client request = false

-- the client, if the line names one, may stand before the request
abbrev pub MayAsk : Option Client → Request → Type 0
MayAsk None request = Unit {0}
MayAsk (Some client) request = IsClient client × IsTrue (may_name_client request)

-- The words of a line spell a request and its client.
pub record SpellsLine (asked : Asked) (words : List (List ℕ)) : Type 0 where
  pub request : IsRequest asked.request
  pub client : MayAsk asked.client asked.request
  pub behind : List (List ℕ)
  pub is : words ≡ client_words asked.client ++ behind
  pub spells : Spells asked.request behind

-- Some request line begins with these words.
pub record Begins (words : List (List ℕ)) : Type 0 where
  pub asked : Asked
  pub rest : List (List ℕ)
  pub is : SpellsLine asked (words ++ rest)

-- no request line goes on behind these words with what stands here, a word or none
abbrev pub NoneGoesOn : List (List ℕ) → Option (List ℕ) → Type 0
NoneGoesOn words None = Unit {0}
NoneGoesOn words (Some word) = Begins (words ++ word ∷ []) → ⊥

-- behind these words a line, which ends at `end`, goes wrong at this place: at its end, if they are no request, or at the next item
abbrev pub StopsAt : List (List ℕ) → List Item → ℕ → ℕ → Type 0
StopsAt words [] end place = (place ≡ end) × ((asked : Asked) → SpellsLine asked words → ⊥)
StopsAt words (item ∷ rest) end place = (place ≡ item.place) × NoneGoesOn words item.word

-- The items of a line, which ends at `end`, go wrong at this place: up to there some request line begins so, and there none does.
pub record IsBadLine (items : List Item) (end place : ℕ) : Type 0 where
  pub words : List (List ℕ)
  pub front : List Item
  pub rest : List Item
  pub all : items ≡ front ++ rest
  pub read : HasWords front words
  pub begun : Begins words
  pub stops : StopsAt words rest end place
