-- The options of lines that create a session.
use Rattle.std.specs.Prelude.{ℕ, ◌≤◌, Bool, true, false, ◌==◌, cond, IsTrue, List, [], ◌∷◌, ◌++◌, codes, map, decimal, Option, Some, None}
use Rattle.std.specs.Str.{is_utf8}
use Rattle.command_words.specs.GivenName.{IsGivenName}
use Rattle.command_words.specs.Keywords.{mode_word}
use Rattle.command_words.specs.Label.{IsLabel, label_word}
use Rattle.mode_rules.specs.declared.mode.Mode.{Mode}
use Rattle.mode_rules.specs.declared.mode.Mode.TheVariants.{TwoWaySafe, TwoWayResolved, OneWaySafe, OneWayReplica}
use Rattle.request_text.specs.declared.create.ForwardCreate.{ForwardCreate}
use Rattle.request_text.specs.declared.create.SyncCreate.{SyncCreate}
use Rattle.request_text.specs.declared.limits.TheConstants.{MAX_ENTRY_LIMIT, MAX_SIZE_LIMIT}
use Rattle.request_text.specs.declared.setting.Setting.{Setting}
use Rattle.request_text.specs.declared.setting.Setting.TheVariants.{Name, Labelled, InMode, IgnoreVcs, Ignore, Paused, Entries, Size}

-- the word of an option
abbrev pub setting_word : Setting → List ℕ
setting_word (Name name) = codes "--name=" ++ name
setting_word (Labelled label) = codes "--label=" ++ label_word label
setting_word (InMode mode) = codes "--mode=" ++ mode_word mode
setting_word IgnoreVcs = codes "--ignore-vcs"
setting_word (Ignore pattern) = codes "--ignore=" ++ pattern
setting_word Paused = codes "--paused"
setting_word (Entries most) = codes "--max-entry-count=" ++ decimal most
setting_word (Size most) = codes "--max-staging-file-size=" ++ decimal most

-- what the types of an option's value keep
abbrev pub IsSetting : Setting → Type 0
IsSetting (Name name) = IsGivenName name
IsSetting (Labelled label) = IsLabel label
IsSetting (InMode mode) = Unit {0}
IsSetting IgnoreVcs = Unit {0}
IsSetting (Ignore pattern) = IsTrue (is_utf8 pattern)
IsSetting Paused = Unit {0}
IsSetting (Entries most) = (1 ≤ most) × (most ≤ MAX_ENTRY_LIMIT)
IsSetting (Size most) = (1 ≤ most) × (most ≤ MAX_SIZE_LIMIT)

-- ---- the options that a writer writes, in this order

abbrev pub name_settings : Option (List ℕ) → List Setting
name_settings None = []
name_settings (Some name) = Name name ∷ []

abbrev pub mode_settings : Mode → List Setting
mode_settings TwoWaySafe = []
mode_settings TwoWayResolved = InMode TwoWayResolved ∷ []
mode_settings OneWaySafe = InMode OneWaySafe ∷ []
mode_settings OneWayReplica = InMode OneWayReplica ∷ []

-- an option without a value
abbrev pub flag : Setting → Bool → List Setting
flag setting true = setting ∷ []
flag setting false = []

-- a limit, unless it is the default
abbrev pub entries_settings : ℕ → List Setting
entries_settings most = cond (most == MAX_ENTRY_LIMIT) [] (Entries most ∷ [])

abbrev pub size_settings : ℕ → List Setting
size_settings most = cond (most == MAX_SIZE_LIMIT) [] (Size most ∷ [])

-- the limits, each unless it is the default
abbrev pub limit_settings : SyncCreate → List Setting
limit_settings create = entries_settings create.entries ++ size_settings create.size

-- the options of a new synchronisation session: labels in order of their keys, patterns in their order, and no default
abbrev pub sync_settings : SyncCreate → List Setting
sync_settings create =
    name_settings create.name
    ++ (map Labelled create.labels
    ++ (mode_settings create.mode
    ++ (flag IgnoreVcs create.ignore_vcs
    ++ (map Ignore create.ignores
    ++ (flag Paused create.paused
    ++ limit_settings create)))))

-- the options of a new forwarding session
abbrev pub forward_settings : ForwardCreate → List Setting
forward_settings create = name_settings create.name ++ flag Paused create.paused

-- the words of options
abbrev pub setting_words : List Setting → List (List ℕ)
setting_words settings = map setting_word settings
