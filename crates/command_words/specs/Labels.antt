-- Labels in order of their keys.
use Rattle.std.specs.Prelude.{ℕ, Bool, true, ◌&&◌, cond, not, nat_le, nat_lt, bytes_eq, List, [], ◌∷◌, length, IsTrue}
use Rattle.std.specs.Cmp.Lexicographic.{slice_cmp}
use Rattle.std.specs.Ordering.{nat_cmp, is_lt}
use Rattle.std.specs.List.{list_any, position_or_len}
use Rattle.command_words.specs.declared.label.Label.{Label}
use Rattle.command_words.specs.declared.labels.TheConstants.{MAX_LABELS}

-- whether a key stands before another: the order of their bytes
abbrev pub is_before : List ℕ → List ℕ → Bool
is_before key other = is_lt (slice_cmp nat_cmp key other)

-- each key stands before the next one
abbrev pub are_in_order : List Label → Bool
are_in_order [] = true
are_in_order (label ∷ []) = true
are_in_order (label ∷ next ∷ labels) = is_before label.key next.key && are_in_order (next ∷ labels)

-- at most 16 labels, in order of their keys, which all differ
abbrev pub AreLabels : List Label → Type 0
AreLabels labels = IsTrue (nat_le (length labels) MAX_LABELS && are_in_order labels)

-- the labels with one more, in its place
abbrev pub with_label : Label → List Label → List Label
with_label label [] = label ∷ []
with_label label (first ∷ labels) = cond (is_before label.key first.key) (label ∷ first ∷ labels) (first ∷ with_label label labels)

-- whether one of the labels has the key
abbrev pub has_key : List ℕ → List Label → Bool
has_key key labels = list_any (λ (l : Label). bytes_eq l.key key) labels

-- whether there is room for a label, and its key is new
abbrev pub can_take : Label → List Label → Bool
can_take label labels = nat_lt (length labels) MAX_LABELS && not (has_key label.key labels)

-- how many labels stand before one with this key
abbrev pub place_in : List ℕ → List Label → ℕ
place_in key labels = position_or_len (λ (l : Label). is_before key l.key) labels
