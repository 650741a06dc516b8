-- The rows of lists, and how they are spelt.
use Rattle.std.specs.Prelude.{ℕ, List, [], ◌∷◌, ◌++◌, codes, Option, Some, None}
use Rattle.std.specs.Fmt.{decimal}
use Rattle.std.specs.List.{flat_map}
use Rattle.command_words.specs.Identifier.{identifier_word}
use Rattle.command_words.specs.Keywords.{halt_word, mode_word}
use Rattle.command_words.specs.Label.{label_word}
use Rattle.command_words.specs.declared.label.Label.{Label}
use Rattle.reply_text.specs.Lines.{detail_line}
use Rattle.reply_text.specs.declared.forward_row.ForwardRow.{ForwardRow}
use Rattle.reply_text.specs.declared.forward_row.ForwardState.{ForwardState}
use Rattle.reply_text.specs.declared.forward_row.ForwardState.TheVariants as forward
use Rattle.reply_text.specs.declared.sync_row.SyncRow.{SyncRow}
use Rattle.reply_text.specs.declared.sync_row.SyncState.{SyncState}
use Rattle.reply_text.specs.declared.sync_row.SyncState.TheVariants.{Halted, Paused, Cycling, Due, Resting}

-- a session's name, or `-` where it has none
abbrev pub name_word : Option (List ℕ) → List ℕ
name_word None = codes "-"
name_word (Some name) = name

-- the state of a synchronisation session
abbrev pub state_words : SyncState → List (List ℕ)
state_words (Halted halt) = codes "halted" ∷ halt_word halt ∷ []
state_words Paused = codes "paused" ∷ []
state_words Cycling = codes "cycling" ∷ []
state_words Due = codes "due" ∷ []
state_words Resting = codes "resting" ∷ []

-- the words of a label
abbrev pub label_words : Label → List (List ℕ)
label_words label = codes "label" ∷ label_word label ∷ []

-- the words of labels
abbrev pub labels_words : List Label → List (List ℕ)
labels_words labels = flat_map label_words labels

-- what a synchronisation session is: its identifier, its name, its mode and its roots
abbrev pub what_words : SyncRow → List (List ℕ)
what_words row = identifier_word row.identifier ∷ name_word row.name ∷ mode_word row.mode ∷ row.alpha ∷ row.beta ∷ []

-- how many cycles have finished, and how many conflicts and problems the last report has
abbrev pub count_words : SyncRow → List (List ℕ)
count_words row = codes "cycles" ∷ decimal row.cycles ∷ codes "conflicts" ∷ decimal row.conflicts ∷ codes "problems" ∷ decimal row.problems ∷ []

-- the words of a synchronisation session
abbrev pub sync_words : SyncRow → List (List ℕ)
sync_words row = what_words row ++ (state_words row.state ++ (count_words row ++ labels_words row.labels))

-- the line of a synchronisation session
unfoldable pub sync_line : SyncRow → List ℕ
sync_line row = detail_line (sync_words row)

-- the state of a forwarding session
abbrev pub forward_state_word : ForwardState → List ℕ
forward_state_word forward.Running = codes "running"
forward_state_word forward.Paused = codes "paused"

-- the words of a forwarding session
abbrev pub forward_words : ForwardRow → List (List ℕ)
forward_words row = identifier_word row.identifier ∷ name_word row.name ∷ row.source ∷ row.dest ∷ forward_state_word row.state ∷ []

-- the line of a forwarding session
unfoldable pub forward_line : ForwardRow → List ℕ
forward_line row = detail_line (forward_words row)
