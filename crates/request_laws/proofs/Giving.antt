-- The options that a writer writes make the session of which they were written.
use Rattle.std.proofs.Common.{◌≡◌, ◌==◌, ℕ, ◌+◌, ◌≤◌, Bool, true, false, cond, not, ◌&&◌, ◌||◌, List, [], ◌∷◌, ◌++◌, length, length-append, map, refl, sym, ap, ap₂, subst, ◌∙◌, arith, Option, Some, None, IfSome, append-nil, append_assoc, nat_lt, nat_le, bytes_eq, eqb-true}
use Rattle.std.specs.List.{AllByRecursion}
use Rattle.std.specs.Option.{option_and_then}
use Rattle.std.specs.Prelude.{is_none}
use Rattle.std.specs.Ordering.{is_lt, nat_cmp, ordering_reverse}
use Rattle.std.specs.Cmp.Lexicographic.{slice_cmp, nat_list_cmp_total}
use Rattle.std.specs.declared.cmp.Ordering.{Ordering}
use Rattle.std.specs.declared.cmp.Ordering.TheVariants.{Less, Equal, Greater}
use Rattle.std.proofs.lemmas.Bool.{and_parts, leb-true, lt-ltb}
use Rattle.std.proofs.lemmas.Cmp.{tied_itself}
use Rattle.entry_tree.proofs.Paths.{name_is}
use Rattle.command_words.specs.GivenName.{IsGivenName}
use Rattle.command_words.specs.Label.{IsLabel}
use Rattle.command_words.specs.Labels.{are_in_order, can_take, has_key, is_before, with_label}
use Rattle.command_words.specs.declared.label.Label.{Label}
use Rattle.command_words.specs.declared.labels.TheConstants.{MAX_LABELS}
use Rattle.mode_rules.specs.declared.mode.Mode.{Mode}
use Rattle.mode_rules.specs.declared.mode.Mode.TheVariants.{TwoWaySafe, TwoWayResolved, OneWaySafe, OneWayReplica}
use Rattle.request_text.specs.Given.{AreSettings, GiveForward, GiveSync, no_forward_options, no_sync_options, or_default, sync_create, with_forward_settings, with_setting, with_settings}
use Rattle.request_text.specs.Settings.{entries_settings, flag, forward_settings, mode_settings, name_settings, size_settings, sync_settings}
use Rattle.request_text.specs.declared.create.ForwardCreate.{ForwardCreate}
use Rattle.request_text.specs.declared.create.SyncCreate.{SyncCreate}
use Rattle.request_text.specs.declared.limits.TheConstants.{MAX_ENTRY_LIMIT, MAX_SIZE_LIMIT}
use Rattle.request_text.specs.declared.options.ForwardOptions.{ForwardOptions}
use Rattle.request_text.specs.declared.options.SyncOptions.{SyncOptions}
use Rattle.request_text.specs.declared.patterns.TheConstants.{MAX_PATTERNS}
use Rattle.request_text.specs.declared.setting.Setting.{Setting}
use Rattle.request_text.specs.declared.setting.Setting.TheVariants.{Labelled, IgnoreVcs, Ignore, Paused, Entries, Size}
use Rattle.request_laws.specs.Kept.{IsCreated, IsPatternText}

-- ---- options behind options

with_first : (first : Option SyncOptions) (m : SyncOptions) (xs : List Setting) → first ≡ Some m → option_and_then (λ more. with_settings more xs) first ≡ with_settings m xs
with_first first m xs is = ap (λ (o : Option SyncOptions). option_and_then (λ more. with_settings more xs) o) is

pub with_joined : (g m : SyncOptions) (xs ys : List Setting) → with_settings g xs ≡ Some m → with_settings g (xs ++ ys) ≡ with_settings m ys
with_joined g m [] ys is = ap (λ (o : Option SyncOptions). option_and_then (λ more. with_settings more ys) o) is
with_joined g m (x ∷ xs) ys is = by (with_setting g x) (λ next h. with_joined next m xs ys h) is
  where
    by : (o : Option SyncOptions) → ((next : SyncOptions) → with_settings next xs ≡ Some m → with_settings next (xs ++ ys) ≡ with_settings m ys)
        → option_and_then (λ more. with_settings more xs) o ≡ Some m → option_and_then (λ more. with_settings more (xs ++ ys)) o ≡ with_settings m ys
    by None more h = absurd (cc)
    by (Some next) more h = more next h

settings_joined : (xs ys : List Setting) → AreSettings xs → AreSettings ys → AreSettings (xs ++ ys)
settings_joined [] ys p q = q
settings_joined (x ∷ xs) ys p q = (p.0, settings_joined xs ys p.1 q)

-- ---- labels in order

less_is : (o : Ordering) → is_lt o ≡ true → o ≡ Less
less_is Less h = refl
less_is Equal h = absurd (let no : false ≡ true = h in cc)
less_is Greater h = absurd (let no : false ≡ true = h in cc)

abbrev compared : List ℕ → List ℕ → Ordering
compared = slice_cmp nat_cmp

before_through : (a b c : List ℕ) → is_before a b ≡ true → is_before b c ≡ true → is_before a c ≡ true
before_through a b c p q = ap is_lt (nat_list_cmp_total.trans a b c (less_is (compared a b) p) (less_is (compared b c) q))

not_behind : (a b : List ℕ) → is_before a b ≡ true → is_before b a ≡ false
not_behind a b p = ap is_lt (nat_list_cmp_total.antisymm b a ∙ ap ordering_reverse (less_is (compared a b) p))

not_same : (a b : List ℕ) → is_before a b ≡ true → bytes_eq a b ≡ false
not_same a b p = by (bytes_eq a b) refl
  where
    by : (x : Bool) → bytes_eq a b ≡ x → x ≡ false
    by false e = refl
    by true e = absurd (let same : compared a b ≡ Equal = ap (λ k. compared k b) (name_is a b e) ∙ tied_itself nat_list_cmp_total b in let no : Less ≡ Equal = sym (less_is (compared a b) p) ∙ same in cc)

abbrev AllBefore : Label → List Label → Type 0
AllBefore l = AllByRecursion (λ (d : Label). is_before d.key l.key ≡ true)

-- in a list in order, all that stand before one have keys before its own
front_before : (done : List Label) (l : Label) (ls : List Label) → are_in_order (done ++ l ∷ ls) ≡ true → AllBefore l done
front_before [] l ls h = tt
front_before (d ∷ []) l ls h = ((and_parts (is_before d.key l.key) _ h).0, tt)
front_before (d ∷ e ∷ done) l ls h =
    let parts = and_parts (is_before d.key e.key) (are_in_order ((e ∷ done) ++ l ∷ ls)) h in
    let rest = front_before (e ∷ done) l ls parts.1 in
    (before_through d.key e.key l.key parts.0 rest.0, rest)

behind_all : (l : Label) (done : List Label) → AllBefore l done → with_label l done ≡ done ++ l ∷ []
behind_all l [] all = refl
behind_all l (d ∷ done) all =
    ap (λ b. cond b (l ∷ d ∷ done) (d ∷ with_label l done)) (not_behind d.key l.key all.0) ∙ ap (λ ls. d ∷ ls) (behind_all l done all.1)

new_key : (l : Label) (done : List Label) → AllBefore l done → has_key l.key done ≡ false
new_key l [] all = refl
new_key l (d ∷ done) all = ap (λ b. b || has_key l.key done) (not_same d.key l.key all.0) ∙ new_key l done all.1

with_labels : (g : SyncOptions) (done rest : List Label) → g.labels ≡ done → length (done ++ rest) ≤ MAX_LABELS → are_in_order (done ++ rest) ≡ true
    → with_settings g (map Labelled rest) ≡ Some (record g { labels = done ++ rest })
with_labels g done [] is fits order = ap (λ ls. Some (record g { labels = ls })) (is ∙ sym (append-nil done))
with_labels g done (l ∷ ls) is fits order =
    let all = front_before done l ls order in
    let more : length (done ++ l ∷ ls) ≡ length done + length (l ∷ ls) = length-append done (l ∷ ls) in
    let room : nat_lt (length g.labels) MAX_LABELS ≡ true = ap (λ x. nat_lt (length x) MAX_LABELS) is ∙ lt-ltb (length done) MAX_LABELS (omega (arith, fits, more)) in
    let fresh : not (has_key l.key g.labels) ≡ true = ap (λ x. not (has_key l.key x)) is ∙ ap not (new_key l done all) in
    let taken : can_take l g.labels ≡ true = ap₂ (λ a b. a && b) room fresh in
    let placed : with_label l g.labels ≡ done ++ l ∷ [] = ap (with_label l) is ∙ behind_all l done all in
    let joined : (done ++ l ∷ []) ++ ls ≡ done ++ l ∷ ls = append_assoc done (l ∷ []) ls in
    ap (λ b. option_and_then (λ next. with_settings next (map Labelled ls)) (cond b (Some (record g { labels = with_label l g.labels })) None)) taken
    ∙ ap (λ (x : List Label). with_settings (record g { labels = x }) (map Labelled ls)) placed
    ∙ with_labels (record g { labels = done ++ l ∷ [] }) (done ++ l ∷ []) ls refl (subst (λ (x : List Label). length x ≤ MAX_LABELS) (sym joined) fits) (ap are_in_order joined ∙ order)
    ∙ ap (λ (x : List Label). Some (record g { labels = x })) joined

-- ---- patterns
with_patterns : (g : SyncOptions) (done rest : List (List ℕ)) → g.ignores ≡ done → length (done ++ rest) ≤ MAX_PATTERNS → with_settings g (map Ignore rest) ≡ Some (record g { ignores = done ++ rest })
with_patterns g done [] is fits = ap (λ ps. Some (record g { ignores = ps })) (is ∙ sym (append-nil done))
with_patterns g done (p ∷ ps) is fits =
    let more : length (done ++ p ∷ ps) ≡ length done + length (p ∷ ps) = length-append done (p ∷ ps) in
    let room : nat_lt (length g.ignores) MAX_PATTERNS ≡ true = ap (λ x. nat_lt (length x) MAX_PATTERNS) is ∙ lt-ltb (length done) MAX_PATTERNS (omega (arith, fits, more)) in
    let placed : g.ignores ++ p ∷ [] ≡ done ++ p ∷ [] = ap (λ x. x ++ p ∷ []) is in
    let joined : (done ++ p ∷ []) ++ ps ≡ done ++ p ∷ ps = append_assoc done (p ∷ []) ps in
    ap (λ b. option_and_then (λ next. with_settings next (map Ignore ps)) (cond b (Some (record g { ignores = g.ignores ++ p ∷ [] })) None)) room
    ∙ ap (λ (x : List (List ℕ)). with_settings (record g { ignores = x }) (map Ignore ps)) placed
    ∙ with_patterns (record g { ignores = done ++ p ∷ [] }) (done ++ p ∷ []) ps refl (subst (λ (x : List (List ℕ)). length x ≤ MAX_PATTERNS) (sym joined) fits)
    ∙ ap (λ (x : List (List ℕ)). Some (record g { ignores = x })) joined

-- ---- the others

with_name : (g : SyncOptions) (name : Option (List ℕ)) → g.name ≡ None → with_settings g (name_settings name) ≡ Some (record g { name = name })
with_name g None is = ap (λ (x : Option (List ℕ)). Some (record g { name = x })) is
with_name g (Some name) is = ap (λ (x : Option (List ℕ)). option_and_then (λ next. with_settings next []) (cond (is_none x) (Some (record g { name = Some name })) None)) is

-- the mode that is given
mode_given : Mode → Option Mode
mode_given TwoWaySafe = None
mode_given TwoWayResolved = Some TwoWayResolved
mode_given OneWaySafe = Some OneWaySafe
mode_given OneWayReplica = Some OneWayReplica

with_mode : (g : SyncOptions) (mode : Mode) → g.mode ≡ None → with_settings g (mode_settings mode) ≡ Some (record g { mode = mode_given mode })
unfolding mode_given
with_mode g TwoWaySafe is = ap (λ (x : Option Mode). Some (record g { mode = x })) is
with_mode g TwoWayResolved is = ap (λ (x : Option Mode). option_and_then (λ next. with_settings next []) (cond (is_none x) (Some (record g { mode = Some TwoWayResolved })) None)) is
with_mode g OneWaySafe is = ap (λ (x : Option Mode). option_and_then (λ next. with_settings next []) (cond (is_none x) (Some (record g { mode = Some OneWaySafe })) None)) is
with_mode g OneWayReplica is = ap (λ (x : Option Mode). option_and_then (λ next. with_settings next []) (cond (is_none x) (Some (record g { mode = Some OneWayReplica })) None)) is

mode_back : (mode : Mode) → or_default TwoWaySafe (mode_given mode) ≡ mode
unfolding mode_given
mode_back TwoWaySafe = refl
mode_back TwoWayResolved = refl
mode_back OneWaySafe = refl
mode_back OneWayReplica = refl

with_vcs : (g : SyncOptions) (on : Bool) → g.ignore_vcs ≡ false → with_settings g (flag IgnoreVcs on) ≡ Some (record g { ignore_vcs = on })
with_vcs g true is = ap (λ b. option_and_then (λ next. with_settings next []) (cond b None (Some (record g { ignore_vcs = true })))) is
with_vcs g false is = ap (λ b. Some (record g { ignore_vcs = b })) is

with_paused : (g : SyncOptions) (on : Bool) → g.paused ≡ false → with_settings g (flag Paused on) ≡ Some (record g { paused = on })
with_paused g true is = ap (λ b. option_and_then (λ next. with_settings next []) (cond b None (Some (record g { paused = true })))) is
with_paused g false is = ap (λ b. Some (record g { paused = b })) is

-- the limit that is given
limit_given : ℕ → ℕ → Option ℕ
limit_given default most = cond (most == default) None (Some most)

limit_back : (default most : ℕ) → or_default default (limit_given default most) ≡ most
unfolding limit_given
limit_back default most = by (most == default) refl
  where
    by : (b : Bool) → (most == default) ≡ b → or_default default (cond b None (Some most)) ≡ most
    by true e = sym (eqb-true most default e)
    by false e = refl

with_entries : (g : SyncOptions) (most : ℕ) → g.entries ≡ None → with_settings g (entries_settings most) ≡ Some (record g { entries = limit_given MAX_ENTRY_LIMIT most })
unfolding limit_given
with_entries g most is = by (most == MAX_ENTRY_LIMIT)
  where
    by : (b : Bool) → with_settings g (cond b [] (Entries most ∷ [])) ≡ Some (record g { entries = cond b None (Some most) })
    by true = ap (λ (x : Option ℕ). Some (record g { entries = x })) is
    by false = ap (λ (x : Option ℕ). option_and_then (λ next. with_settings next []) (cond (is_none x) (Some (record g { entries = Some most })) None)) is

with_size : (g : SyncOptions) (most : ℕ) → g.size ≡ None → with_settings g (size_settings most) ≡ Some (record g { size = limit_given MAX_SIZE_LIMIT most })
unfolding limit_given
with_size g most is = by (most == MAX_SIZE_LIMIT)
  where
    by : (b : Bool) → with_settings g (cond b [] (Size most ∷ [])) ≡ Some (record g { size = cond b None (Some most) })
    by true = ap (λ (x : Option ℕ). Some (record g { size = x })) is
    by false = ap (λ (x : Option ℕ). option_and_then (λ next. with_settings next []) (cond (is_none x) (Some (record g { size = Some most })) None)) is

-- ---- a new synchronisation session

module _ (create : SyncCreate) (h : IsCreated create) where
  abbrev named : SyncOptions
  named = record no_sync_options { name = create.name }

  abbrev labelled : SyncOptions
  labelled = record named { labels = create.labels }

  abbrev in_mode : SyncOptions
  in_mode = record labelled { mode = mode_given create.mode }

  abbrev with_folders : SyncOptions
  with_folders = record in_mode { ignore_vcs = create.ignore_vcs }

  abbrev ignoring : SyncOptions
  ignoring = record with_folders { ignores = create.ignores }

  abbrev begun : SyncOptions
  begun = record ignoring { paused = create.paused }

  abbrev bounded : SyncOptions
  bounded = record begun { entries = limit_given MAX_ENTRY_LIMIT create.entries }

  abbrev all_given : SyncOptions
  all_given = record bounded { size = limit_given MAX_SIZE_LIMIT create.size }

  label_parts : (nat_le (length create.labels) MAX_LABELS ≡ true) × (are_in_order create.labels ≡ true)
  label_parts = and_parts (nat_le (length create.labels) MAX_LABELS) (are_in_order create.labels) h.labels

  given_all : with_settings no_sync_options (sync_settings create) ≡ Some all_given
  given_all =
      with_joined no_sync_options named (name_settings create.name) _ (with_name no_sync_options create.name refl)
      ∙ with_joined named labelled (map Labelled create.labels) _ (with_labels named [] create.labels refl (leb-true (length create.labels) MAX_LABELS label_parts.0) label_parts.1)
      ∙ with_joined labelled in_mode (mode_settings create.mode) _ (with_mode labelled create.mode refl)
      ∙ with_joined in_mode with_folders (flag IgnoreVcs create.ignore_vcs) _ (with_vcs in_mode create.ignore_vcs refl)
      ∙ with_joined with_folders ignoring (map Ignore create.ignores) _ (with_patterns with_folders [] create.ignores refl (leb-true (length create.ignores) MAX_PATTERNS h.patterns))
      ∙ with_joined ignoring begun (flag Paused create.paused) _ (with_paused ignoring create.paused refl)
      ∙ with_joined begun bounded (entries_settings create.entries) (size_settings create.size) (with_entries begun create.entries refl)
      ∙ with_size bounded create.size refl

  made_back : create ≡ sync_create all_given create.alpha create.beta
  made_back = λ i. record {
    name = create.name;
    labels = create.labels;
    mode = sym (mode_back create.mode) i;
    ignore_vcs = create.ignore_vcs;
    ignores = create.ignores;
    paused = create.paused;
    entries = sym (limit_back MAX_ENTRY_LIMIT create.entries) i;
    size = sym (limit_back MAX_SIZE_LIMIT create.size) i;
    alpha = create.alpha;
    beta = create.beta;
  }

  given_is : (name : Option (List ℕ)) → IfSome name IsGivenName → AreSettings (name_settings name)
  given_is None h = tt
  given_is (Some name) h = (h, tt)

  labels_are : (labels : List Label) → AllByRecursion IsLabel labels → AreSettings (map Labelled labels)
  labels_are [] all = tt
  labels_are (l ∷ ls) all = (all.0, labels_are ls all.1)

  mode_is : (mode : Mode) → AreSettings (mode_settings mode)
  mode_is TwoWaySafe = tt
  mode_is TwoWayResolved = (tt, tt)
  mode_is OneWaySafe = (tt, tt)
  mode_is OneWayReplica = (tt, tt)

  vcs_is : (on : Bool) → AreSettings (flag IgnoreVcs on)
  vcs_is true = (tt, tt)
  vcs_is false = tt

  paused_is : (on : Bool) → AreSettings (flag Paused on)
  paused_is true = (tt, tt)
  paused_is false = tt

  patterns_are : (ps : List (List ℕ)) → AllByRecursion IsPatternText ps → AreSettings (map Ignore ps)
  patterns_are [] all = tt
  patterns_are (p ∷ ps) all = (all.0, patterns_are ps all.1)

  entries_are : AreSettings (entries_settings create.entries)
  entries_are = by (create.entries == MAX_ENTRY_LIMIT)
    where
      by : (b : Bool) → AreSettings (cond b [] (Entries create.entries ∷ []))
      by true = tt
      by false = ((h.some_entries, h.entries), tt)

  size_is : AreSettings (size_settings create.size)
  size_is = by (create.size == MAX_SIZE_LIMIT)
    where
      by : (b : Bool) → AreSettings (cond b [] (Size create.size ∷ []))
      by true = tt
      by false = ((h.some_size, h.size), tt)

  pub settings_are : AreSettings (sync_settings create)
  settings_are =
      settings_joined (name_settings create.name) _ (given_is create.name h.name)
      (settings_joined (map Labelled create.labels) _ (labels_are create.labels h.each_label)
      (settings_joined (mode_settings create.mode) _ (mode_is create.mode)
      (settings_joined (flag IgnoreVcs create.ignore_vcs) _ (vcs_is create.ignore_vcs)
      (settings_joined (map Ignore create.ignores) _ (patterns_are create.ignores h.each_pattern)
      (settings_joined (flag Paused create.paused) _ (paused_is create.paused)
      (settings_joined (entries_settings create.entries) (size_settings create.size) entries_are size_is))))))

  pub gives_sync : GiveSync (sync_settings create) create
  gives_sync = record { are = settings_are; options = all_given; given = given_all; made = made_back }

-- ---- a new forwarding session

module _ (create : ForwardCreate) (h : IfSome create.name IsGivenName) where
  abbrev forward_given : ForwardOptions
  forward_given = record { name = create.name; paused = create.paused }

  given_forward : (name : Option (List ℕ)) (paused : Bool) → with_forward_settings no_forward_options (name_settings name ++ flag Paused paused) ≡ Some (record { name = name; paused = paused })
  given_forward None true = refl
  given_forward None false = refl
  given_forward (Some name) true = refl
  given_forward (Some name) false = refl

  are_forward : (name : Option (List ℕ)) (paused : Bool) → IfSome name IsGivenName → AreSettings (name_settings name ++ flag Paused paused)
  are_forward None true h = (tt, tt)
  are_forward None false h = tt
  are_forward (Some name) true h = (h, (tt, tt))
  are_forward (Some name) false h = (h, tt)

  pub forward_are : AreSettings (forward_settings create)
  forward_are = are_forward create.name create.paused h

  pub gives_forward : GiveForward (forward_settings create) create
  gives_forward = record { are = forward_are; options = forward_given; given = given_forward create.name create.paused; made = refl }
