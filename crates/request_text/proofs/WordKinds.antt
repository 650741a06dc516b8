-- The kinds of words of a line.
use Rattle.std.proofs.Common.{◌≡◌, ◌↔◌, ℕ, ◌+◌, ◌≤◌, Bool, true, false, cond, List, [], ◌∷◌, ◌++◌, drop, length, refl, sym, ap, subst, ◌∙◌, Some, None, Option, Result, Ok, Err, codes, arith, length-append}
use Rattle.std.specs.Prelude.{nat_eq, IfOk, IfSome}
use Rattle.std.specs.List.{list_all, starts_with}
use Rattle.std.specs.Str.{is_utf8, IsUtf8}
use Rattle.std.proofs.lemmas.Bool.{and_parts}
use Rattle.std.proofs.lemmas.Bool.Decides.{Decides-eqb}
use Rattle.std.proofs.lemmas.Slice.Eq.{starts_is}
use Rattle.std.proofs.lemmas.Str.{IsUtf8-from_is_utf8}
use Rattle.sync_path.specs.Name.{has_name_form, is_name}
use Rattle.sync_path.specs.Path.{IsPath}
use Rattle.sync_path.proofs.TextParts.{path_text-cons}
use Rattle.sync_path.proofs.Texts.{same_from_texts}
use Rattle.entry_tree.specs.PathWord.{path_word}
use Rattle.entry_tree.specs.Text.{has_text_len}
use Rattle.command_words.specs.Contents.{contents_word}
use Rattle.command_words.specs.GivenName.{is_given_name, IsGivenName}
use Rattle.command_words.specs.Kept.{kept}
use Rattle.command_words.specs.declared.label.Label.{Label}
use Rattle.command_words.proofs.LabelWords.{kept_some}
use Rattle.request_text.specs.Places.{IsLabelOption, IsLink, IsPathOf, IsSettingOf}
use Rattle.request_text.specs.SettingWords.{kind_by, kind_of, kind_prefix, label_in}
use Rattle.request_text.specs.Settings.{setting_word}
use Rattle.request_text.specs.declared.setting.Setting.{Setting}
use Rattle.request_text.specs.declared.setting.Setting.TheVariants.{Name, Labelled, InMode, IgnoreVcs, Ignore, Paused, Entries, Size}
use Rattle.request_text.specs.declared.setting_words.SettingKind.{SettingKind}
use Rattle.request_text.specs.declared.setting_words.SettingKind.TheVariants as kinds

pub both_ok : {T E : Type 0} (r : Result T E) (P Q R : T → Type 0) → IfOk r P → IfOk r Q → ((x : T) → P x → Q x → R x) → IfOk r R
both_ok (Ok x) P Q R p q f = f x p q
both_ok (Err e) P Q R p q f = tt

-- ---- paths

dot_is_no_name : (name : List ℕ) (rest : List ℕ) → is_name name ≡ true → name ++ rest ≡ codes "." → ⊥
dot_is_no_name [] rest h e =
    let form : has_name_form [] ≡ true = (and_parts (is_utf8 []) (has_name_form []) h).1 in absurd (cc)
dot_is_no_name (b ∷ []) rest h e =
    let first : b ≡ 46 = cc in
    let form : has_name_form (b ∷ []) ≡ true = (and_parts (is_utf8 (b ∷ [])) (has_name_form (b ∷ [])) h).1 in
    let none : false ≡ true = subst (λ c. has_name_form (c ∷ []) ≡ true) first form in absurd (cc)
dot_is_no_name (b ∷ c ∷ name) rest h e = absurd (cc)

root_has_own_word : (name : List ℕ) (names : List (List ℕ)) → IsPath (name ∷ names) → path_word (name ∷ names) ≡ codes "." → ⊥
root_has_own_word name names h e =
    dot_is_no_name name _ (and_parts (is_name name) (list_all is_name names) h.each_name).0 (sym (path_text-cons name names) ∙ e)

paths_same : (path other : List (List ℕ)) → IsPath path → IsPath other → path_word path ≡ path_word other → path ≡ other
paths_same [] [] h k e = refl
paths_same [] (name ∷ names) h k e = absurd (root_has_own_word name names k (sym e))
paths_same (name ∷ names) [] h k e = absurd (root_has_own_word name names h e)
paths_same (name ∷ names) (other ∷ others) h k e = same_from_texts (name ∷ names) (other ∷ others) h k e

pub path_read : (word : List ℕ) (found : Option (List (List ℕ))) → IfSome found (λ path. (word ≡ path_word path) × IsPath path)
    → (found ≡ None → (names : List (List ℕ)) → IsPath names → path_word names ≡ word → ⊥) → (path : List (List ℕ)) → (found ≡ Some path) ↔ IsPathOf word path
path_read word None some none path = (λ e. absurd (cc), λ h. absurd (none refl path h.0 (sym h.1)))
path_read word (Some p) some none path = (
  λ e. let same : p ≡ path = cc in subst (λ q. IsPathOf word q) same (some.1, some.0),
  λ h. ap Some (paths_same p path some.1 h.0 (sym some.0 ∙ h.1)),
)

-- ---- links

pub no_link : (word bytes : List ℕ) → word ≡ contents_word bytes → (IsUtf8 bytes → ⊥) → (text : List ℕ) → (◌≡◌ {A = Option (List ℕ)} None (Some text)) ↔ IsLink word text
no_link word bytes e none text = (
  λ k. absurd (cc),
  λ h. let same : bytes ≡ text = cc in
      let parts = and_parts (is_utf8 text) (has_text_len text) h.0 in
      absurd (none (subst IsUtf8 (sym same) (IsUtf8-from_is_utf8 text parts.0))),
)

-- ---- options

-- the kind of an option is told by its word
kind_read : (setting : Setting) → kind_by (setting_word setting) ≡ Some (kind_of setting)
kind_read (Name name) = refl
kind_read (Labelled label) = refl
kind_read (InMode mode) = refl
kind_read IgnoreVcs = refl
kind_read (Ignore pattern) = refl
kind_read Paused = refl
kind_read (Entries most) = refl
kind_read (Size most) = refl

pub name_read : (value name : List ℕ) → Some name ≡ kept is_given_name value → (setting : Setting) → (Some (Name name) ≡ Some setting) ↔ IsSettingOf (kind_prefix kinds.Name ++ value) setting
name_read value name k (Name other) =
    let own = kept_some is_given_name value name k in (
      λ e. let same : name ≡ other = cc in (subst IsGivenName (sym own.0 ∙ same) own.1, ap (λ v. codes "--name=" ++ v) (sym own.0 ∙ same)),
      λ h. let same : value ≡ other = cc in ap (λ v. Some (Name v)) (own.0 ∙ same),
    )
name_read value name k (Labelled label) = (λ e. absurd (cc), λ h. let e : Some kinds.Name ≡ Some kinds.Label = ap kind_by h.1 ∙ kind_read (Labelled label) in absurd (cc))
name_read value name k (InMode mode) = (λ e. absurd (cc), λ h. let e : Some kinds.Name ≡ Some kinds.Mode = ap kind_by h.1 ∙ kind_read (InMode mode) in absurd (cc))
name_read value name k IgnoreVcs = (λ e. absurd (cc), λ h. let e : Some kinds.Name ≡ Some kinds.IgnoreVcs = ap kind_by h.1 ∙ kind_read IgnoreVcs in absurd (cc))
name_read value name k (Ignore pattern) = (λ e. absurd (cc), λ h. let e : Some kinds.Name ≡ Some kinds.Ignore = ap kind_by h.1 ∙ kind_read (Ignore pattern) in absurd (cc))
name_read value name k Paused = (λ e. absurd (cc), λ h. let e : Some kinds.Name ≡ Some kinds.Paused = ap kind_by h.1 ∙ kind_read Paused in absurd (cc))
name_read value name k (Entries most) = (λ e. absurd (cc), λ h. let e : Some kinds.Name ≡ Some kinds.Entries = ap kind_by h.1 ∙ kind_read (Entries most) in absurd (cc))
name_read value name k (Size most) = (λ e. absurd (cc), λ h. let e : Some kinds.Name ≡ Some kinds.Size = ap kind_by h.1 ∙ kind_read (Size most) in absurd (cc))

-- an option that gives a label
gives_label : (setting : Setting) (label : Label) → label_in setting ≡ Some label → setting ≡ Labelled label
gives_label (Name name) label e = absurd (cc)
gives_label (Labelled own) label e = let same : own ≡ label = cc in ap Labelled same
gives_label (InMode mode) label e = absurd (cc)
gives_label IgnoreVcs label e = absurd (cc)
gives_label (Ignore pattern) label e = absurd (cc)
gives_label Paused label e = absurd (cc)
gives_label (Entries most) label e = absurd (cc)
gives_label (Size most) label e = absurd (cc)

pub label_read : (word : List ℕ) (setting : Setting) → ((s : Setting) → (Some setting ≡ Some s) ↔ IsSettingOf word s) → (label : Label) → (label_in setting ≡ Some label) ↔ IsLabelOption word label
label_read word setting h label = (
  λ e. (h (Labelled label)).0 (ap Some (gives_label setting label e)),
  λ k. let same : Some setting ≡ Some (Labelled label) = (h (Labelled label)).1 k in let one : setting ≡ Labelled label = cc in ap label_in one,
)

pub label_none : (word : List ℕ) → ((s : Setting) → (◌≡◌ {A = Option Setting} None (Some s)) ↔ IsSettingOf word s) → (label : Label) → (◌≡◌ {A = Option Label} None (Some label)) ↔ IsLabelOption word label
label_none word h label = (λ e. absurd (cc), λ k. let none = (h (Labelled label)).1 k in absurd (cc))

-- ---- how the word of an option is cut

-- the first test of a chain, and the others
chain : (word first : List ℕ) (kind wanted : SettingKind) (others : Option SettingKind) → kind_prefix kind ≡ first
    → (others ≡ Some wanted → starts_with nat_eq word (kind_prefix wanted) ≡ true) → cond (starts_with nat_eq word first) (Some kind) others ≡ Some wanted → starts_with nat_eq word (kind_prefix wanted) ≡ true
chain word first kind wanted others is more h = by (starts_with nat_eq word first) refl h
  where
    by : (b : Bool) → starts_with nat_eq word first ≡ b → cond b (Some kind) others ≡ Some wanted → starts_with nat_eq word (kind_prefix wanted) ≡ true
    by true e k = let same : kind ≡ wanted = cc in subst (λ w. starts_with nat_eq word (kind_prefix w) ≡ true) same (ap (starts_with nat_eq word) is ∙ e)
    by false e k = more k

begins : (word : List ℕ) (kind : SettingKind) → kind_by word ≡ Some kind → starts_with nat_eq word (kind_prefix kind) ≡ true
begins word kind = chain word (codes "--name=") kinds.Name kind _ refl
    (chain word (codes "--label=") kinds.Label kind _ refl
    (chain word (codes "--mode=") kinds.Mode kind _ refl
    (chain word (codes "--ignore-vcs") kinds.IgnoreVcs kind _ refl
    (chain word (codes "--ignore=") kinds.Ignore kind _ refl
    (chain word (codes "--paused") kinds.Paused kind _ refl
    (chain word (codes "--max-entry-count=") kinds.Entries kind _ refl
    (chain word (codes "--max-staging-file-size=") kinds.Size kind None refl
    (λ h. absurd (cc)))))))))

pub cut_behind : (word : List ℕ) (kind : SettingKind) → kind_by word ≡ Some kind → word ≡ kind_prefix kind ++ drop (length (kind_prefix kind)) word
cut_behind word kind h = (starts_is Decides-eqb word (kind_prefix kind) (starts_with nat_eq word (kind_prefix kind)) refl).0 (begins word kind h)

pub fits_in : (word prefix rest : List ℕ) → word ≡ prefix ++ rest → length prefix ≤ length word
fits_in word prefix rest e = let len : length word ≡ length prefix + length rest = ap length e ∙ length-append prefix rest in omega (arith, len)

pub no_setting : (word : List ℕ) → kind_by word ≡ None → (setting : Setting) → (◌≡◌ {A = Option Setting} None (Some setting)) ↔ IsSettingOf word setting
no_setting word none setting = (
  λ e. absurd (cc),
  λ h. let k : None ≡ Some (kind_of setting) = sym none ∙ ap kind_by h.1 ∙ kind_read setting in absurd (cc),
)
