-- Words that may be one thing or another: an option or a root, an option or an endpoint.
use Rattle.std.proofs.Common.{◌≡◌, ◌↔◌, ℕ, true, false, not, List, ◌∷◌, ◌++◌, refl, sym, ap, ◌∙◌, Some, None, Option, codes, inl, inr}
use Rattle.std.specs.Prelude.{◌⊎◌, nat_eq}
use Rattle.std.specs.List.{starts_with}
use Rattle.std.specs.Str.{is_utf8}
use Rattle.std.proofs.lemmas.Bool.{and_parts}
use Rattle.command_words.specs.RootName.{has_root_name_form, has_root_name_len}
use Rattle.request_text.specs.Given.{with_forward_setting, with_setting}
use Rattle.request_text.specs.Places.{IsEndpointOf, IsForwardOption, IsRoot, IsSettingOf, IsSyncOption, Steps}
use Rattle.request_text.specs.Settings.{setting_word}
use Rattle.request_text.specs.declared.options.ForwardOptions.{ForwardOptions}
use Rattle.request_text.specs.declared.options.SyncOptions.{SyncOptions}
use Rattle.request_text.specs.declared.place.Place.{Place}
use Rattle.request_text.specs.declared.setting.Setting.{Setting}
use Rattle.request_text.specs.declared.setting.Setting.TheVariants.{Name, Labelled, InMode, IgnoreVcs, Ignore, Paused, Entries, Size}

-- the word can only be the first
pub left_step : (found : Option Place) (L R : Place → Type 0) → Steps L found → ((t : Place) → R t → ⊥) → Steps (λ t. L t ⊎ R t) found
left_step found L R h none t = (λ e. inl ((h t).0 e), λ k. by k)
  where
    by : L t ⊎ R t → found ≡ Some t
    by (inl l) = (h t).1 l
    by (inr r) = absurd (none t r)

-- the word can only be the second
pub right_step : (found : Option Place) (L R : Place → Type 0) → Steps R found → ((t : Place) → L t → ⊥) → Steps (λ t. L t ⊎ R t) found
right_step found L R h none t = (λ e. inr ((h t).0 e), λ k. by k)
  where
    by : L t ⊎ R t → found ≡ Some t
    by (inl l) = absurd (none t l)
    by (inr r) = (h t).1 r

-- a root's name doesn't begin as an option does
pub no_root : (word root : List ℕ) → starts_with nat_eq word (codes "--") ≡ true → IsRoot word root → ⊥
no_root word root e h =
    let form = (and_parts (is_utf8 root) (has_root_name_form root) h.0).1 in
    let other = (and_parts (has_root_name_len root) (not (starts_with nat_eq root (codes "--"))) form).1 in
    let k : not true ≡ true = sym (ap not (ap (λ w. starts_with nat_eq w (codes "--")) (sym h.1) ∙ e)) ∙ other in absurd (cc)

-- nor does an endpoint
pub no_endpoint : (word endpoint : List ℕ) → starts_with nat_eq word (codes "--") ≡ true → IsEndpointOf word endpoint → ⊥
no_endpoint word endpoint e h =
    let scheme = h.0.0 in
    let rest = h.0.1 in
    let same : word ≡ codes "tcp" ++ 58 ∷ rest = h.1 ∙ h.0.2 ∙ ap (λ s. s ++ 58 ∷ rest) h.0.3 in
    let k : false ≡ true = sym (ap (λ w. starts_with nat_eq w (codes "--")) same) ∙ e in absurd (cc)

setting_begins : (setting : Setting) → starts_with nat_eq (setting_word setting) (codes "--") ≡ true
setting_begins (Name name) = refl
setting_begins (Labelled label) = refl
setting_begins (InMode mode) = refl
setting_begins IgnoreVcs = refl
setting_begins (Ignore pattern) = refl
setting_begins Paused = refl
setting_begins (Entries most) = refl
setting_begins (Size most) = refl

-- an option begins so
pub no_option : (word : List ℕ) (setting : Setting) → starts_with nat_eq word (codes "--") ≡ false → IsSettingOf word setting → ⊥
no_option word setting e h =
    let k : false ≡ true = sym e ∙ ap (λ w. starts_with nat_eq w (codes "--")) h.1 ∙ setting_begins setting in absurd (cc)

-- ---- options that are taken

pub sync_taken : (word : List ℕ) (given : SyncOptions) (setting : Setting) (found : Option SyncOptions) → ((s : Setting) → (Some setting ≡ Some s) ↔ IsSettingOf word s)
    → found ≡ with_setting given setting → (more : SyncOptions) → (found ≡ Some more) ↔ IsSyncOption given word more
sync_taken word given setting found h e more = (
  λ k. record { setting = setting; is = (h setting).0 refl; taken = sym e ∙ k },
  λ o. let told : Some setting ≡ Some o.setting = (h o.setting).1 o.is in let same : setting ≡ o.setting = cc in e ∙ ap (with_setting given) same ∙ o.taken,
)

pub sync_none : (word : List ℕ) (given : SyncOptions) → ((s : Setting) → (◌≡◌ {A = Option Setting} None (Some s)) ↔ IsSettingOf word s)
    → (more : SyncOptions) → (◌≡◌ {A = Option SyncOptions} None (Some more)) ↔ IsSyncOption given word more
sync_none word given h more = (λ k. absurd (cc), λ o. let told = (h o.setting).1 o.is in absurd (cc))

pub forward_taken : (word : List ℕ) (given : ForwardOptions) (setting : Setting) (found : Option ForwardOptions) → ((s : Setting) → (Some setting ≡ Some s) ↔ IsSettingOf word s)
    → found ≡ with_forward_setting given setting → (more : ForwardOptions) → (found ≡ Some more) ↔ IsForwardOption given word more
forward_taken word given setting found h e more = (
  λ k. record { setting = setting; is = (h setting).0 refl; taken = sym e ∙ k },
  λ o. let told : Some setting ≡ Some o.setting = (h o.setting).1 o.is in let same : setting ≡ o.setting = cc in e ∙ ap (with_forward_setting given) same ∙ o.taken,
)

pub forward_none : (word : List ℕ) (given : ForwardOptions) → ((s : Setting) → (◌≡◌ {A = Option Setting} None (Some s)) ↔ IsSettingOf word s)
    → (more : ForwardOptions) → (◌≡◌ {A = Option ForwardOptions} None (Some more)) ↔ IsForwardOption given word more
forward_none word given h more = (λ k. absurd (cc), λ o. let told = (h o.setting).1 o.is in absurd (cc))
