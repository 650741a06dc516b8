-- Words, each behind a space.
use Rattle.std.proofs.Common.{◌≡◌, ℕ, List, ◌++◌}
use Rattle.std.proofs.lemmas.Grind.{flat_map-append}
use Rattle.command_words.specs.Piece.{next_word, next_words}

-- one list of words behind another
pub next_append : (words more : List (List ℕ)) → next_words (words ++ more) ≡ next_words words ++ next_words more
next_append words more = flat_map-append next_word words more
