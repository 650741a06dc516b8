-- The labels of a session, and how they are spelt.
use Rattle.std.specs.Prelude.{ℕ, List, ◌∷◌, ◌++◌}
use Rattle.command_words.specs.LabelText.{IsLabelText}
use Rattle.command_words.specs.declared.label.Label.{Label}

-- a key, `=` (61) and a value
abbrev pub label_word : Label → List ℕ
label_word label = label.key ++ 61 ∷ label.value

abbrev pub IsLabel : Label → Type 0
IsLabel label = IsLabelText label.key × IsLabelText label.value
