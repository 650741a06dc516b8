-- A written line is read back.
use Rattle.std.specs.Prelude.{Bool, ◌||◌, IsTrue, is_none}
use Rattle.line_words.specs.Lines.{HasWords, line_items}
use Rattle.line_words.specs.declared.reading.Reading.TheVariants.{Free}
use Rattle.request_text.specs.Grammar.{SpellsLine, may_name_client}
use Rattle.request_text.specs.Words.{asked_line, asked_words}
use Rattle.request_text.specs.declared.asked.Asked.{Asked}
use Rattle.request_laws.specs.Kept.{IsHeld}

-- no client stands before the request, or one may
abbrev pub has_place_for_client : Asked → Bool
has_place_for_client asked = is_none asked.client || may_name_client asked.request

-- The written line of a request is read as its words, and these spell the request.
pub record IsReadBack (asked : Asked) : Type 0 where
  pub words : HasWords (line_items Free (asked_line asked)) (asked_words asked)
  pub spells : SpellsLine asked (asked_words asked)

abbrev pub WrittenIsRead : Type 0
WrittenIsRead = (asked : Asked) → IsHeld asked → IsTrue (has_place_for_client asked) → IsReadBack asked
