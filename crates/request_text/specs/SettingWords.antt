-- How the word of an option is cut: which option it is, and its value.
use Rattle.std.specs.Prelude.{ℕ, cond, nat_eq, List, [], codes, decimal, Option, Some, None}
use Rattle.std.specs.List.{starts_with}
use Rattle.command_words.specs.Keywords.{mode_word}
use Rattle.command_words.specs.Label.{label_word}
use Rattle.command_words.specs.declared.label.Label.{Label}
use Rattle.request_text.specs.declared.setting.Setting.{Setting}
use Rattle.request_text.specs.declared.setting.Setting.TheVariants.{Name, Labelled, InMode, IgnoreVcs, Ignore, Paused, Entries, Size}
use Rattle.request_text.specs.declared.setting_words.SettingKind.{SettingKind}
use Rattle.request_text.specs.declared.setting_words.SettingKind.TheVariants as kinds

-- what the words of a kind of option begin with
abbrev pub kind_prefix : SettingKind → List ℕ
kind_prefix kinds.Name = codes "--name="
kind_prefix kinds.Label = codes "--label="
kind_prefix kinds.Mode = codes "--mode="
kind_prefix kinds.IgnoreVcs = codes "--ignore-vcs"
kind_prefix kinds.Ignore = codes "--ignore="
kind_prefix kinds.Paused = codes "--paused"
kind_prefix kinds.Entries = codes "--max-entry-count="
kind_prefix kinds.Size = codes "--max-staging-file-size="

-- the kind of option that a word begins
abbrev pub kind_by : List ℕ → Option SettingKind
kind_by word =
    cond (starts_with nat_eq word (codes "--name=")) (Some kinds.Name)
    (cond (starts_with nat_eq word (codes "--label=")) (Some kinds.Label)
    (cond (starts_with nat_eq word (codes "--mode=")) (Some kinds.Mode)
    (cond (starts_with nat_eq word (codes "--ignore-vcs")) (Some kinds.IgnoreVcs)
    (cond (starts_with nat_eq word (codes "--ignore=")) (Some kinds.Ignore)
    (cond (starts_with nat_eq word (codes "--paused")) (Some kinds.Paused)
    (cond (starts_with nat_eq word (codes "--max-entry-count=")) (Some kinds.Entries)
    (cond (starts_with nat_eq word (codes "--max-staging-file-size=")) (Some kinds.Size) None)))))))

abbrev pub kind_of : Setting → SettingKind
kind_of (Name name) = kinds.Name
kind_of (Labelled label) = kinds.Label
kind_of (InMode mode) = kinds.Mode
kind_of IgnoreVcs = kinds.IgnoreVcs
kind_of (Ignore pattern) = kinds.Ignore
kind_of Paused = kinds.Paused
kind_of (Entries most) = kinds.Entries
kind_of (Size most) = kinds.Size

-- what stands behind the beginning of an option's word
abbrev pub value_of : Setting → List ℕ
value_of (Name name) = name
value_of (Labelled label) = label_word label
value_of (InMode mode) = mode_word mode
value_of IgnoreVcs = []
value_of (Ignore pattern) = pattern
value_of Paused = []
value_of (Entries most) = decimal most
value_of (Size most) = decimal most

-- the label of an option that gives one
abbrev pub label_in : Setting → Option Label
label_in (Labelled label) = Some label
label_in setting = None
