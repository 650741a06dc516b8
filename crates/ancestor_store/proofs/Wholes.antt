-- The whole payload of a fold folds to it.
use Rattle.std.proofs.Common.{◌≡◌, ℕ, suc, ◌<◌, ◌≤◌, ◌^◌, length, Bool, true, false, cond, List, [], ◌∷◌, ◌++◌, map, refl, sym, ap, subst, ◌∙◌, inl, inr, Option, Some, None, append_assoc, arith}
use Rattle.std.specs.Prelude.{◌==◌}
use Rattle.std.specs.Global.{Vec}
use Rattle.std.specs.FinMap as trees
use Rattle.std.specs.List.{list_any, AllByRecursion}
use Rattle.std.specs.List.Sorted.{IsStrictlySortedBy}
use Rattle.std.specs.Map.{keys_of}
use Rattle.std.specs.Option.{is_some, option_and_then}
use Rattle.std.specs.Ordering.{eq_by_cmp, is_lt}
use Rattle.std.specs.declared.cmp.Ordering.TheVariants.{Less}
use Rattle.std.proofs.lemmas.Bool.{or_cases, or_left, or_right, and_from}
use Rattle.std.proofs.lemmas.Bool.Decides.{nat_tests}
use Rattle.std.proofs.lemmas.List.{append-nil}
use Rattle.std.proofs.lemmas.Map.Keys.{sorted_head, sorted_tail}
use Rattle.finite_maps.proofs.Constructors.{none_is_not_some, some_same}
use Rattle.finite_maps.proofs.SortedLists.{sorted-from_is_sorted}
use Rattle.sync_path.specs.Path.{path_cmp, is_under}
use Rattle.sync_path.specs.PathOrder.{path_cmp_total}
use Rattle.entry_tree.specs.Atom.{is_dir}
use Rattle.entry_tree.specs.Tree.{Names, ByPath, IsClosed}
use Rattle.entry_tree.specs.declared.atom.Atom.{Atom}
use Rattle.entry_tree.specs.declared.atom.Atom.TheVariants.{Dir, File, Link, Untracked, Problem}
use Rattle.entry_tree.proofs.Paths.{path_same}
use Rattle.entry_tree.proofs.Trees.{closed_empty, tie_is}
use Rattle.mode_rules.specs.AncestorFold.{with_line, with_lines}
use Rattle.mode_rules.specs.declared.ancestor_line.AncestorLine.{AncestorLine}
use Rattle.mode_rules.specs.declared.ancestor_line.AncestorLine.TheVariants.{Set, Drop}
use Rattle.mode_rules.proofs.Agreeing.{less_before, among_front, let_set}
use Rattle.mode_rules.proofs.Below.{folder_above}
use Rattle.mode_rules.proofs.Cases.{folder_there}
use Rattle.mode_rules.proofs.Folding.{touches_line, given, get-with_line, with_first, with_lines-append, fold_closed, fold_given, fold_kept}
use Rattle.frame_text.specs.Folds.{AllSpell, Folded, FoldsTo, IsBadFrame, first_payload, fold_of, folded_from, unfolded, with_payload, with_tree}
use Rattle.frame_text.specs.LineText.{IsLine, fits}
use Rattle.frame_text.specs.Payloads.{IsPayload, is_whole, payload_bytes, stands_before}
use Rattle.frame_text.specs.declared.head.TheConstants.{MAX_RUN}
use Rattle.frame_text.specs.declared.payload.Payload.{Payload}
use Rattle.frame_text.specs.declared.payload.Payload.TheVariants.{Agree, Reset, Whole}
use Rattle.frame_text.specs.declared.version.Version.{Version}
use Rattle.frame_text.specs.declared.version.Version.TheVariants.{V2}
use Rattle.frame_text.proofs.Folding.{one_fold}
use Rattle.ancestor_store.specs.Compacting.{Compacts, line_of, lines_of, whole_of}
use Rattle.ancestor_store.specs.Keeping.{bytes_of}
use Rattle.ancestor_store.specs.Settling.{Agrees, touched}
use Rattle.ancestor_store.proofs.BadFrames.{not_both}
use Rattle.ancestor_store.proofs.Settled.{any_gives, none_touched}
use Rattle.ancestor_store.proofs.TreeEntries.{StandsIn, among_entries, entries_stand}

-- ---- what a fold keeps: a closed tree, of which each entry is a line of version 2, and a number of 64 bits

abbrev Lines : ByPath Atom → Type 0
Lines tree = (q : Names) (x : Atom) → trees.get tree q ≡ Some x → IsLine V2 (Set q x)

record Good (folded : Folded) : Type 0 where
  closed : IsClosed is_dir folded.tree
  lines : Lines folded.tree
  number : folded.served < 2 ^ 64

fits_up : (version : Version) (x : Atom) → fits version x ≡ true → fits V2 x ≡ true
fits_up version Dir h = refl
fits_up version (File digest executable) h = refl
fits_up version (Link text) h = refl
fits_up version Untracked h = h
fits_up version (Problem kind) h = h

empty_lines : Lines trees.empty
empty_lines q x e = absurd (none_is_not_some x (sym (trees.get-empty path_cmp q) ∙ e))

-- what a line gives is a line
given_line : (version : Version) (q : Names) (x : Atom) (l : AncestorLine) → IsLine version l → given q l ≡ Some x → IsLine V2 (Set q x)
given_line version q x (Drop p) is e = absurd (none_is_not_some x e)
given_line version q x (Set p a) is e = by (eq_by_cmp path_cmp q p) refl e
  where
    by : (b : Bool) → eq_by_cmp path_cmp q p ≡ b → cond b (Some a) None ≡ Some x → IsLine V2 (Set q x)
    by true t same =
        subst (λ r. IsLine V2 (Set r x)) (sym (tie_is q p t)) (subst (λ y. IsLine V2 (Set p y)) (some_same a x same) (is.0, is.1, fits_up version a is.2))
    by false t none = absurd (none_is_not_some x none)

line_lines : (version : Version) (tree next : ByPath Atom) (l : AncestorLine) → with_line tree l ≡ Some next → IsLine version l → Lines tree → Lines next
line_lines version tree next l taken is lines q x e = by (touches_line q l) (sym (get-with_line q tree next l taken) ∙ e)
  where
    by : (b : Bool) → cond b (given q l) (trees.get tree q) ≡ Some x → IsLine V2 (Set q x)
    by true h = given_line version q x l is h
    by false h = lines q x h

lines_lines : (version : Version) (tree next : ByPath Atom) (ls : List AncestorLine) → with_lines tree ls ≡ Some next → AllByRecursion (IsLine version) ls → Lines tree → Lines next
lines_lines version tree next [] taken all lines = subst Lines (some_same tree next taken) lines
lines_lines version tree next (l ∷ ls) taken all lines =
    let step = with_first (with_line tree l) next ls taken in
    lines_lines version step.0 next ls step.2 all.1 (line_lines version tree step.0 l step.1 all.0 lines)

-- lines behind a fold
good_lines : (version : Version) (from : Folded) (next : Folded) (ls : List AncestorLine) → AllByRecursion (IsLine version) ls → Good from → with_tree from (with_lines from.tree ls) ≡ Some next → Good next
good_lines version from next ls all good is = by (with_lines from.tree ls) refl is
  where
    by : (o : Option (ByPath Atom)) → with_lines from.tree ls ≡ o → with_tree from o ≡ Some next → Good next
    by None e h = absurd (none_is_not_some next h)
    by (Some tree) e h =
        subst Good (some_same _ next h)
        (record { closed = fold_closed from.tree tree ls e good.closed; lines = lines_lines version from.tree tree ls e all good.lines; number = good.number })

good_number : (number : ℕ) → number < 2 ^ 64 → Good (record { tree = trees.empty; served = number })
good_number number h = record { closed = closed_empty is_dir; lines = empty_lines; number = h }

good_unfolded : Good unfolded
good_unfolded = good_number 0 (omega arith)

good_payload : (from next : Folded) (payload : Payload) → IsPayload payload → Good from → with_payload from payload ≡ Some next → Good next
good_payload from next (Agree version run cycle ls) is good h = good_lines version from next ls is.1 good h
good_payload from next (Reset number) is good h = subst Good (some_same _ next h) (good_number number is.0.1)
good_payload from next (Whole run cycle served ls) is good h = absurd (none_is_not_some next h)

good_first : (next : Folded) (payload : Payload) → IsPayload payload → first_payload payload ≡ Some next → Good next
good_first next (Agree version run cycle ls) is h = good_payload unfolded next (Agree version run cycle ls) is good_unfolded h
good_first next (Reset number) is h = good_payload unfolded next (Reset number) is good_unfolded h
good_first next (Whole run cycle served ls) is h = good_lines V2 (record { tree = trees.empty; served = served }) next ls is.1 (good_number served is.0.2) h

good_from : (frames : List (List ℕ)) (payloads : List Payload) (from last : Folded) → AllSpell frames payloads → Good from → folded_from from payloads ≡ Some last → Good last
good_from [] [] from last spell good h = subst Good (some_same from last h) good
good_from [] (p ∷ payloads) from last spell good h = absurd spell
good_from (f ∷ frames) [] from last spell good h = absurd spell
good_from (f ∷ frames) (p ∷ payloads) from last spell good h =
    by (with_payload from p) (λ next e. good_payload from next p spell.0.0 good e) (λ next g e. good_from frames payloads next last spell.1 g e) h
  where
    by : (o : Option Folded) → ((next : Folded) → o ≡ Some next → Good next) → ((next : Folded) → Good next → folded_from next payloads ≡ Some last → Good last)
        → option_and_then (λ (next : Folded). folded_from next payloads) o ≡ Some last → Good last
    by None one more e = absurd (none_is_not_some last e)
    by (Some next) one more e = more next (one next refl) e

good_fold : (frames : List (List ℕ)) (folded : Folded) → FoldsTo frames folded → Good folded
good_fold frames folded h = all frames h.0 h.1 h.2
  where
    all : (fs : List (List ℕ)) (payloads : List Payload) → AllSpell fs payloads → fold_of payloads ≡ Some folded → Good folded
    all [] [] spell e = subst Good (some_same unfolded folded e) good_unfolded
    all [] (p ∷ payloads) spell e = absurd spell
    all (f ∷ fs) [] spell e = absurd spell
    all (f ∷ fs) (p ∷ payloads) spell e = by (first_payload p) (λ next is. good_first next p spell.0.0 is) e
      where
        by : (o : Option Folded) → ((next : Folded) → o ≡ Some next → Good next) → option_and_then (λ (next : Folded). folded_from next payloads) o ≡ Some folded → Good folded
        by None one is = absurd (none_is_not_some folded is)
        by (Some next) one is = good_from fs payloads next folded spell.1 (one next refl) is

-- ---- all entries of a tree make it again

touched_map : (q : Names) (es : List (Names × Atom)) → list_any (eq_by_cmp path_cmp q) (keys_of es) ≡ true → touched q (map line_of es) ≡ true
touched_map q [] h = h
touched_map q (e ∷ es) h =
    elim (or_cases (eq_by_cmp path_cmp q e.0) (list_any (eq_by_cmp path_cmp q) (keys_of es)) h) [
      | inl here ↦ or_left (touches_line q (line_of e)) (touched q (map line_of es)) (or_left (eq_by_cmp path_cmp q e.0) _ here)
      | inr later ↦ or_right (touches_line q (line_of e)) (touched q (map line_of es)) (touched_map q es later)
    ]

map_lines-append : (es fs : List (Names × Atom)) → map line_of (es ++ fs) ≡ map line_of es ++ map line_of fs
map_lines-append [] fs = refl
map_lines-append (e ∷ es) fs = ap (λ ls. line_of e ∷ ls) (map_lines-append es fs)

keys_of-append : (es fs : List (Names × Atom)) → keys_of (es ++ fs) ≡ keys_of es ++ keys_of fs
keys_of-append [] fs = refl
keys_of-append (e ∷ es) fs = ap (λ ks. e.0 ∷ ks) (keys_of-append es fs)

lines_agree : (tree : ByPath Atom) (es : List (Names × Atom)) → AllByRecursion (StandsIn tree) es → AllByRecursion (Agrees tree) (map line_of es)
lines_agree tree [] all = tt
lines_agree tree (e ∷ es) all = (all.0, lines_agree tree es all.1)

module _ (tree : ByPath Atom) (closed : IsClosed is_dir tree) where
  sorted : IsStrictlySortedBy path_cmp (keys_of (trees.entries tree))
  sorted = sorted-from_is_sorted path_cmp (trees.entries tree) (trees.entries_sorted tree)

  -- above the next entry there are folders, once those before it are set
  above : (front back : List (Names × Atom)) (e : Names × Atom) → front ++ e ∷ back ≡ trees.entries tree → (m : ByPath Atom) → with_lines trees.empty (map line_of front) ≡ Some m
      → AllByRecursion (StandsIn tree) front → StandsIn tree e → (r : Names) → is_under e.0 r ≡ true → is_under r e.0 ≡ false → trees.get m r ≡ Some Dir
  above front back e whole m folds stand stands r up down =
      fold_given r (trees.get tree r) trees.empty m (map line_of front) folds (any_gives tree closed r (map line_of front) (lines_agree tree front stand)) (touched_map r front among) ∙ dir
    where
      dir : trees.get tree r ≡ Some Dir
      dir = folder_there (trees.get tree r) (folder_above tree closed e.0 r up down (ap is_some stands))

      split : keys_of (trees.entries tree) ≡ keys_of front ++ e.0 ∷ keys_of back
      split = ap keys_of (sym whole) ∙ keys_of-append front (e ∷ back)

      among : list_any (eq_by_cmp path_cmp r) (keys_of front) ≡ true
      among = among_front (keys_of front) e.0 r (keys_of back) (subst (IsStrictlySortedBy path_cmp) split sorted) (less_before e.0 r up down)
          (subst (λ ks. list_any (eq_by_cmp path_cmp r) ks ≡ true) split (among_entries tree r Dir dir))

  taken : (back front : List (Names × Atom)) → front ++ back ≡ trees.entries tree → (m : ByPath Atom) → with_lines trees.empty (map line_of front) ≡ Some m → AllByRecursion (StandsIn tree) front
      → AllByRecursion (StandsIn tree) back → (n : ByPath Atom) × (with_lines trees.empty (lines_of tree) ≡ Some n)
  taken [] front whole m folds stand rest = (m, ap (λ fs. with_lines trees.empty (map line_of fs)) (sym whole ∙ append-nil front) ∙ folds)
  taken (e ∷ back) front whole m folds stand rest =
      let next = let_set m e.0 e.1 (above front back e whole m folds stand rest.0) in
      taken back (front ++ e ∷ []) (append_assoc front (e ∷ []) back ∙ whole) next.0
      (ap (with_lines trees.empty) (map_lines-append front (e ∷ []))
      ∙ with_lines-append trees.empty m (map line_of front) (line_of e ∷ []) folds
      ∙ ap (option_and_then (λ (x : ByPath Atom). Some x)) next.1)
      (both front stand rest.0) rest.1
    where
      both : (fs : List (Names × Atom)) → AllByRecursion (StandsIn tree) fs → StandsIn tree e → AllByRecursion (StandsIn tree) (fs ++ e ∷ [])
      both [] all s = (s, tt)
      both (f ∷ fs) all s = (all.0, both fs all.1 s)

  pub made_again : with_lines trees.empty (lines_of tree) ≡ Some tree
  made_again = made.1 ∙ ap (λ (t : ByPath Atom). Some t) (trees.same_map path_cmp_total path_same made.0 tree same)
    where
      made : (n : ByPath Atom) × (with_lines trees.empty (lines_of tree) ≡ Some n)
      made = taken (trees.entries tree) [] refl trees.empty refl tt (entries_stand tree)

      agree : AllByRecursion (Agrees tree) (lines_of tree)
      agree = lines_agree tree (trees.entries tree) (entries_stand tree)

      none : (q : Names) → touched q (lines_of tree) ≡ false → (o : Option Atom) → trees.get tree q ≡ o → o ≡ None
      none q t None e = refl
      none q t (Some x) e = let bad : true ≡ false = sym (touched_map q (trees.entries tree) (among_entries tree q x e)) ∙ t in absurd (cc)

      same : (q : Names) → trees.get made.0 q ≡ trees.get tree q
      same q = by (touched q (lines_of tree)) refl
        where
          by : (b : Bool) → touched q (lines_of tree) ≡ b → trees.get made.0 q ≡ trees.get tree q
          by true t = fold_given q (trees.get tree q) trees.empty made.0 (lines_of tree) made.1 (any_gives tree closed q (lines_of tree) agree) t
          by false t =
              fold_kept q None trees.empty made.0 (lines_of tree) made.1 (none_touched q None (lines_of tree) t) (trees.get-empty path_cmp q)
              ∙ sym (none q t (trees.get tree q) refl)

-- ---- and they can be spelt

whole_lines : (es : List (Names × Atom)) → IsStrictlySortedBy path_cmp (keys_of es) → is_whole (map line_of es) ≡ true
whole_lines [] rising = refl
whole_lines (e ∷ es) rising =
    and_from (stands_before (line_of e) (map line_of es)) (is_whole (map line_of es)) (first es (sorted_head path_cmp e.0 (keys_of es) rising))
    (whole_lines es (sorted_tail path_cmp e.0 (keys_of es) rising))
  where
    first : (fs : List (Names × Atom)) → AllByRecursion (λ k. path_cmp e.0 k ≡ Less) (keys_of fs) → stands_before (line_of e) (map line_of fs) ≡ true
    first [] less = refl
    first (f ∷ fs) less = ap is_lt less.0

each_line : (tree : ByPath Atom) (es : List (Names × Atom)) → Lines tree → AllByRecursion (StandsIn tree) es → AllByRecursion (IsLine V2) (map line_of es)
each_line tree [] lines all = tt
each_line tree (e ∷ es) lines all = (lines e.0 e.1 all.0, each_line tree es lines all.1)

whole_is_payload : (run : ℕ) (folded : Folded) → run ≤ MAX_RUN → Good folded → IsPayload (whole_of run folded)
whole_is_payload run folded h good =
    ((h, omega arith, good.number), each_line folded.tree (trees.entries folded.tree) good.lines (entries_stand folded.tree), whole_lines (trees.entries folded.tree) (sorted folded.tree good.closed))

whole_folds : (run : ℕ) (folded : Folded) → run ≤ MAX_RUN → Good folded → FoldsTo (payload_bytes (whole_of run folded) ∷ []) folded
whole_folds run folded h good = (
  whole_of run folded ∷ [],
  ((whole_is_payload run folded h good, refl), tt),
  ap (λ (t : Option (ByPath Atom)). option_and_then (λ (next : Folded). Some next) (with_tree (record { tree = trees.empty; served = folded.served }) t)) (made_again folded.tree good.closed),
)

-- ---- compaction

pub compacted_folds : (run : ℕ) (old new : List (List ℕ)) (folded : Folded) → run ≤ MAX_RUN → Compacts run old new → FoldsTo old folded → FoldsTo new folded
compacted_folds run [] new folded h is folds = subst (λ fs. FoldsTo fs folded) (sym is) folds
compacted_folds run (f ∷ fs) new folded h is folds =
    subst (λ frames. FoldsTo frames folded) (sym (is.0 folded folds)) (whole_folds run folded h (good_fold (f ∷ fs) folded folds))

pub compacted_bad : (run : ℕ) (old new : List (List ℕ)) (number : ℕ) → Compacts run old new → IsBadFrame old number → new ≡ old
compacted_bad run [] new number is bad = is
compacted_bad run (f ∷ fs) new number is bad = is.1 number bad

pub compacts_fold : (run : ℕ) (f : List ℕ) (fs new : List (List ℕ)) (folded : Folded) → FoldsTo (f ∷ fs) folded → new ≡ payload_bytes (whole_of run folded) ∷ [] → Compacts run (f ∷ fs) new
compacts_fold run f fs new folded folds is = (
  λ other h. is ∙ ap (λ (x : Folded). payload_bytes (whole_of run x) ∷ []) (one_fold (f ∷ fs) folded other folds h),
  λ number bad. absurd (not_both (f ∷ fs) folded number folds bad),
)

pub compacts_bad : (run : ℕ) (f : List ℕ) (fs : List (List ℕ)) (number : ℕ) → IsBadFrame (f ∷ fs) number → Compacts run (f ∷ fs) (f ∷ fs)
compacts_bad run f fs number bad = (λ folded h. absurd (not_both (f ∷ fs) folded number h bad), λ other h. refl)

-- ---- the same of frames that are held

none_held : (items : List (Vec ℕ)) → (length items == 0) ≡ true → items ≡ []
none_held [] h = refl
none_held (x ∷ items) h = absurd (apart (length items) h)
  where
    apart : (n : ℕ) → (suc n == 0) ≡ true → ⊥
    apart n e = grind (arith, nat_tests)

pub compacts_none : (run : ℕ) (items : List (Vec ℕ)) → (length items == 0) ≡ true → Compacts run (bytes_of items) (bytes_of items)
compacts_none run items h = subst (λ xs. Compacts run (bytes_of xs) (bytes_of xs)) (sym (none_held items h)) refl

pub compacts_one : (run : ℕ) (items : List (Vec ℕ)) (new : List (List ℕ)) (bytes : List ℕ) (folded : Folded) → (length items == 0) ≡ false → FoldsTo (bytes_of items) folded
    → bytes ≡ payload_bytes (whole_of run folded) → new ≡ bytes ∷ [] → Compacts run (bytes_of items) new
compacts_one run [] new bytes folded h folds is made = let bad : true ≡ false = h in absurd (cc)
compacts_one run (x ∷ items) new bytes folded h folds is made = compacts_fold run x.items (bytes_of items) new folded folds (made ∙ ap (λ b. b ∷ []) is)

pub compacts_same : (run : ℕ) (items : List (Vec ℕ)) (number : ℕ) → (length items == 0) ≡ false → IsBadFrame (bytes_of items) number → Compacts run (bytes_of items) (bytes_of items)
compacts_same run [] number h bad = let wrong : true ≡ false = h in absurd (cc)
compacts_same run (x ∷ items) number h bad = compacts_bad run x.items (bytes_of items) number bad
