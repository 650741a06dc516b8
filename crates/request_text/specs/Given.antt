-- The options that a line gives, in any order, and what they make of a new session.
use Rattle.std.specs.Prelude.{◌≡◌, ℕ, is_none, true, false, cond, nat_lt, List, [], ◌∷◌, ◌++◌, length, Option, Some, None}
use Rattle.std.specs.Option.{option_and_then}
use Rattle.command_words.specs.Labels.{can_take, with_label}
use Rattle.mode_rules.specs.declared.mode.Mode.TheVariants.{TwoWaySafe}
use Rattle.request_text.specs.Settings.{IsSetting}
use Rattle.request_text.specs.declared.create.ForwardCreate.{ForwardCreate}
use Rattle.request_text.specs.declared.create.SyncCreate.{SyncCreate}
use Rattle.request_text.specs.declared.limits.TheConstants.{MAX_ENTRY_LIMIT, MAX_SIZE_LIMIT}
use Rattle.request_text.specs.declared.options.ForwardOptions.{ForwardOptions}
use Rattle.request_text.specs.declared.options.SyncOptions.{SyncOptions}
use Rattle.request_text.specs.declared.patterns.TheConstants.{MAX_PATTERNS}
use Rattle.request_text.specs.declared.setting.Setting.{Setting}
use Rattle.request_text.specs.declared.setting.Setting.TheVariants.{Name, Labelled, InMode, IgnoreVcs, Ignore, Paused, Entries, Size}

-- no option was given yet
abbrev pub no_sync_options : SyncOptions
no_sync_options = record { name = None; labels = []; mode = None; ignore_vcs = false; ignores = []; paused = false; entries = None; size = None }

-- What is given with one option more. Each stands once at most, but for labels, of which there are at most 16, with different keys, and
-- for patterns, of which there are at most 256.
abbrev pub with_setting : SyncOptions → Setting → Option SyncOptions
with_setting given (Name name) = cond (is_none given.name) (Some (record given { name = Some name })) None
with_setting given (Labelled label) = cond (can_take label given.labels) (Some (record given { labels = with_label label given.labels })) None
with_setting given (InMode mode) = cond (is_none given.mode) (Some (record given { mode = Some mode })) None
with_setting given IgnoreVcs = cond given.ignore_vcs None (Some (record given { ignore_vcs = true }))
with_setting given (Ignore pattern) = cond (nat_lt (length given.ignores) MAX_PATTERNS) (Some (record given { ignores = given.ignores ++ pattern ∷ [] })) None
with_setting given Paused = cond given.paused None (Some (record given { paused = true }))
with_setting given (Entries most) = cond (is_none given.entries) (Some (record given { entries = Some most })) None
with_setting given (Size most) = cond (is_none given.size) (Some (record given { size = Some most })) None

-- what is given with some options more, one after another
abbrev pub with_settings : SyncOptions → List Setting → Option SyncOptions
with_settings given [] = Some given
with_settings given (setting ∷ settings) = option_and_then (λ more. with_settings more settings) (with_setting given setting)

abbrev pub or_default : {V : Type 0} → V → Option V → V
or_default default None = default
or_default default (Some value) = value

-- the session that is made with what was given
abbrev pub sync_create : SyncOptions → List ℕ → List ℕ → SyncCreate
sync_create given alpha beta = record {
  name = given.name;
  labels = given.labels;
  mode = or_default TwoWaySafe given.mode;
  ignore_vcs = given.ignore_vcs;
  ignores = given.ignores;
  paused = given.paused;
  entries = or_default MAX_ENTRY_LIMIT given.entries;
  size = or_default MAX_SIZE_LIMIT given.size;
  alpha = alpha;
  beta = beta;
}

-- the same for a forwarding session, which takes a name and whether it begins paused
abbrev pub no_forward_options : ForwardOptions
no_forward_options = record { name = None; paused = false }

abbrev pub with_forward_setting : ForwardOptions → Setting → Option ForwardOptions
with_forward_setting given (Name name) = cond (is_none given.name) (Some (record given { name = Some name })) None
with_forward_setting given Paused = cond given.paused None (Some (record given { paused = true }))
with_forward_setting given setting = None

abbrev pub with_forward_settings : ForwardOptions → List Setting → Option ForwardOptions
with_forward_settings given [] = Some given
with_forward_settings given (setting ∷ settings) = option_and_then (λ more. with_forward_settings more settings) (with_forward_setting given setting)

abbrev pub forward_create : ForwardOptions → List ℕ → List ℕ → ForwardCreate
forward_create given source dest = record { name = given.name; paused = given.paused; source = source; dest = dest }

-- what the types of each option's value keep
abbrev pub AreSettings : List Setting → Type 0
AreSettings [] = Unit {0}
AreSettings (setting ∷ settings) = IsSetting setting × AreSettings settings

-- these options, in this order, make this session
pub record GiveSync (settings : List Setting) (create : SyncCreate) : Type 0 where
  pub are : AreSettings settings
  pub options : SyncOptions
  pub given : with_settings no_sync_options settings ≡ Some options
  pub made : create ≡ sync_create options create.alpha create.beta

pub record GiveForward (settings : List Setting) (create : ForwardCreate) : Type 0 where
  pub are : AreSettings settings
  pub options : ForwardOptions
  pub given : with_forward_settings no_forward_options settings ≡ Some options
  pub made : create ≡ forward_create options create.source create.dest
