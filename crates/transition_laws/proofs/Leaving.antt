-- What an undisturbed change leaves, and what wasn't done of it.
use Rattle.std.proofs.Common.{◌≡◌, ◌≢◌, ℕ, ◌+◌, ◌<◌, ◌≤◌, Bool, true, false, cond, not, ◌||◌, ◌&&◌, List, [], ◌∷◌, ◌++◌, length, arith, reverse, refl, sym, ap, subst, ◌∙◌, inl, inr, Option, Some, None, bytes_eq, append_assoc, map as list_map}
use Rattle.std.specs.Prelude.{◌⊎◌, is_some, unwrap_or, if◌then◌else◌}
use Rattle.std.proofs.lemmas.Bool.{and_parts, and_from, or_left, or_right}
use Rattle.std.proofs.lemmas.List.{append-nil}
use Rattle.std.specs.FinMap as map
use Rattle.std.specs.List.{cons_option, filter, filter_map, list_any, AllByRecursion}
use Rattle.std.specs.Option.{option_and_then, option_map, option_map_or, option_to_list}
use Rattle.std.specs.Ordering.{is_eq, eq_by_cmp}
use Rattle.std.proofs.lemmas.Cmp.{tied_itself}
use Rattle.finite_maps.proofs.Constructors.{nil_is_not_cons, none_is_not_some, some_same}
use Rattle.sha2.specs.Sha256.{sha256}
use Rattle.sync_path.specs.Path.{path_cmp, is_under, is_below, parent_of}
use Rattle.sync_path.specs.PathOrder.{path_cmp_total}
use Rattle.entry_tree.specs.Atom.{is_dir as is_folder, is_tracked}
use Rattle.entry_tree.specs.Entry.{is_dir}
use Rattle.entry_tree.specs.Tree.{Names, ByPath, holds_folder, set_at}
use Rattle.entry_tree.specs.declared.atom.Atom.{Atom}
use Rattle.entry_tree.specs.declared.atom.Atom.TheVariants as atom
use Rattle.entry_tree.specs.declared.entry.Entry.{Entry}
use Rattle.entry_tree.specs.declared.entry.Entry.TheVariants as entry
use Rattle.entry_tree.specs.declared.entry.Stamp.{Stamp}
use Rattle.entry_tree.proofs.Paths.{name_is, under_itself, child_below, not_below_child}
use Rattle.entry_tree.proofs.Trees.{tie_is, root_or_child, parent-child}
use Rattle.mode_rules.specs.Placing.{is_one_content, sets_bit_alone}
use Rattle.mode_rules.specs.Trees.{is_blocked as is_held}
use Rattle.mode_rules.specs.declared.ancestor_line.AncestorLine.TheVariants.{Set}
use Rattle.mode_rules.specs.declared.change.Change.{Change}
use Rattle.mode_rules.proofs.Below.{under_both}
use Rattle.mode_rules.specs.declared.problem.Cause.{Cause}
use Rattle.roots_api.specs.States.{RootState, content_of, is_expected, kept_by, missing_parent, nothing_staged, with_bit}
use Rattle.roots_api.specs.Steps.{answer_of, after, where_expected}
use Rattle.roots_api.specs.Views.{atom_of}
use Rattle.roots_api.specs.declared.answer.Answer.{Answer}
use Rattle.roots_api.specs.declared.answer.Answer.TheVariants.{Done, Differs}
use Rattle.roots_api.specs.declared.op.Op.{Op}
use Rattle.roots_api.specs.declared.op.Op.TheVariants.{Place, MakeDir, MakeLink, Remove, SetExec}
use Rattle.transition_plan.specs.Courses.{fate_of, is_blocked, not_done}
use Rattle.transition_plan.specs.Resting.{rests_on}
use Rattle.transition_plan.specs.Stepping.{entry_of, leaf_of, file_at, removal, creation, bit_set, bit_change, leaf_change, is_leaf, replaces_leaf, whole_steps, steps_of}
use Rattle.transition_plan.specs.declared.step.Step.{Step}
use Rattle.transition_plan.specs.declared.undone.Undone.{Undone}
use Rattle.transition_laws.specs.Undisturbed.{IsPartOfTree, StandsFor, Agrees, KeepsContent, MayBegin, IsFileLeft, IsLeft, Leaves, is_let_be, has_let_be, has_let_be_below, is_beneath_let_be, stays, goes, staying, least_stamp, stamp_there}
use Rattle.transition_laws.proofs.Carrying.{Walk, by_fate, carry}
use Rattle.transition_laws.proofs.Finding.{no_true, is_false, nothing_there, Met, any_from_there, there_from_any, are_sorted, each_stands, is_among, among_entries}
use Rattle.transition_laws.proofs.Making.{IsNamed, IsSure, IsMade, Made, Over as Made_over, set_there, set_others, makes_link, makes_file, where_is, over as over_creations}
use Rattle.transition_laws.proofs.Removing.{below_parts, below_from, under_below, Covers, covers_all, let_be_keeps, goes_nothing, goes_is, stays_folder, reason, note, staying_in, staying_is, any-append, any-map, any_staying, any_witness, map-append, same_itself, Removed, left, Over, over as over_removals}

-- what a walk over the steps of a change comes to
pub record Ends (change : Change) (s : RootState) (w : Walk) (skipped : List Step) : Type 0 where
  pub leaves : Leaves change s w.state
  pub undone : w.undone ≡ list_map (note (staying change.old)) (staying change.old) ++ list_map (not_done None) skipped
  pub none_skipped : staying change.old ≡ [] → skipped ≡ []
  pub all_skipped : staying change.old ≢ [] → skipped ≡ filter_map (creation None) (map.entries change.new)

none_and : (b : Bool) → (b && false) ≡ false
none_and true = refl
none_and false = refl

not_false : (b : Bool) → not b ≡ true → b ≡ false
not_false true h = let no : false ≡ true = h in absurd (cc)
not_false false h = refl

-- ---- where all is tracked

module _ (old : ByPath Atom) (at : Names) (part : IsPartOfTree old at) where
  pub all_tracked : has_let_be old ≡ false → (p : Names) (a : Atom) → map.get old p ≡ Some a → is_tracked a ≡ true
  all_tracked none p a there = by (is_tracked a) refl
    where
      by : (b : Bool) → is_tracked a ≡ b → is_tracked a ≡ true
      by true t = t
      by false t = absurd (no_true (has_let_be old) (any_from_there is_let_be old p a there (ap not t)) none)

  pub none_beneath : has_let_be old ≡ false → (p : Names) → is_beneath_let_be old p ≡ false
  none_beneath none p =
      is_false (is_beneath_let_be old p)
      (λ h. let met = there_from_any (λ (e : Names × Atom). is_let_be e && is_below p e.0) old h in
      no_true (is_tracked met.value) (all_tracked none met.path met.value met.there) (not_false (is_tracked met.value) (and_parts (not (is_tracked met.value)) (is_below p met.path) met.is).0))

  pub none_stays : has_let_be old ≡ false → (p : Names) → stays old p ≡ false
  none_stays none p = is_false (stays old p) (λ h. let why = reason old at part p h in no_true (is_tracked why.value) (all_tracked none why.path why.value why.there) why.let_be)

  none_staying_in : has_let_be old ≡ false → (es : List (Names × Atom)) → staying_in old es ≡ []
  none_staying_in none [] = refl
  none_staying_in none (e ∷ es) = ap (λ b. if b then staying_in old es ++ e.0 ∷ [] else staying_in old es) (none_stays none e.0) ∙ none_staying_in none es

  pub none_staying : has_let_be old ≡ false → staying old ≡ []
  none_staying none = sym (staying_is old (map.entries old)) ∙ none_staying_in none (map.entries old)

  -- what isn't tracked makes the folder at the path stay
  pub top_stays : is_held (map.get old at) ≡ false → has_let_be old ≡ true → stays old at ≡ true
  top_stays free h =
      let met = there_from_any is_let_be old h in
      let let_be = not_false (is_tracked met.value) met.is in
      let within = part.within met.path (ap is_some met.there) in
      by met.path met.value met.there let_be within (is_under at met.path) refl
    where
      by : (p : Names) (a : Atom) → map.get old p ≡ Some a → is_tracked a ≡ false → is_under p at ≡ true → (b : Bool) → is_under at p ≡ b → stays old at ≡ true
      by p a there let_be within true up =
          let same = under_both p at within up in
          absurd (no_true (is_held (map.get old at)) (ap is_held (ap (λ (q : Names). map.get old q) (sym same) ∙ there) ∙ ap not let_be) free)
      by p a there let_be within false up = let_be_keeps old at part at p a (under_itself at) there let_be (below_from p at within up)

  -- a tree with a file or a link at its path has nothing else
  pub alone : is_leaf (map.get old at) ≡ true → (q : Names) → is_below q at ≡ true → map.get old q ≡ None
  alone leaf q below = nothing_there (map.get old q) (λ a there. no_folder (map.get old at) leaf (part.folders at q (ap is_some there) below (under_itself at)))
    where
      no_folder : (o : Option Atom) → is_leaf o ≡ true → holds_folder is_folder o ≡ true → ⊥
      no_folder None l h = no_true false h refl
      no_folder (Some atom.Dir) l h = no_true false l refl
      no_folder (Some (atom.File digest exec)) l h = no_true false h refl
      no_folder (Some (atom.Link text)) l h = no_true false h refl
      no_folder (Some atom.Untracked) l h = no_true false h refl
      no_folder (Some (atom.Problem kind)) l h = no_true false h refl

  leaf_tracked : (o : Option Atom) (a : Atom) → o ≡ Some a → is_leaf o ≡ true → is_tracked a ≡ true
  leaf_tracked None a e l = absurd (none_is_not_some a e)
  leaf_tracked (Some atom.Dir) a e l = absurd (no_true false l refl)
  leaf_tracked (Some (atom.File digest exec)) a e l = ap is_tracked (sym (some_same (atom.File digest exec) a e))
  leaf_tracked (Some (atom.Link text)) a e l = ap is_tracked (sym (some_same (atom.Link text) a e))
  leaf_tracked (Some atom.Untracked) a e l = absurd (no_true false l refl)
  leaf_tracked (Some (atom.Problem kind)) a e l = absurd (no_true false l refl)

  pub alone_tracked : is_leaf (map.get old at) ≡ true → has_let_be old ≡ false
  alone_tracked leaf =
      is_false (has_let_be old)
      (λ h. let met = there_from_any is_let_be old h in
      by met.path met.value met.there (not_false (is_tracked met.value) met.is) (part.within met.path (ap is_some met.there)) (is_under at met.path) refl)
    where
      by : (p : Names) (a : Atom) → map.get old p ≡ Some a → is_tracked a ≡ false → is_under p at ≡ true → (b : Bool) → is_under at p ≡ b → ⊥
      by p a there let_be within true up =
          let same = under_both p at within up in
          no_true (is_tracked a) (leaf_tracked (map.get old at) a (ap (λ (q : Names). map.get old q) (sym same) ∙ there) leaf) let_be
      by p a there let_be within false up = none_is_not_some a (sym (alone leaf p (below_from p at within up)) ∙ there)

-- ---- what is to be made is skipped behind a removal that wasn't done

skips_all : (id : ℕ) (t : RootState) (p : Names) (e : Entry) (why : Option Cause) (rest : List Undone) (es : List (Names × Atom))
    → carry id t ((record { path = p; op = Remove p e; cause = why }) ∷ rest) (filter_map (creation None) es)
    ≡ record { state = t; undone = ((record { path = p; op = Remove p e; cause = why }) ∷ rest) ++ list_map (not_done None) (filter_map (creation None) es) }
skips_all id t p e why rest [] = ap (λ (u : List Undone). let end : Walk = record { state = t; undone = u } in end) (sym (append-nil ((record { path = p; op = Remove p e; cause = why }) ∷ rest)))
skips_all id t p e why rest (x ∷ es) = by (λ rest. skips_all id t p e why rest es) x.1
  where
    first : Undone
    first = record { path = p; op = Remove p e; cause = why }

    Skips : List Undone → List Step → Type 0
    Skips rest steps = carry id t (first ∷ rest) steps ≡ record { state = t; undone = (first ∷ rest) ++ list_map (not_done None) steps }

    one : ((rest : List Undone) → Skips rest (filter_map (creation None) es)) → (step : Step)
        → carry id t (first ∷ rest) (step ∷ filter_map (creation None) es) ≡ carry id t (first ∷ (rest ++ not_done None step ∷ [])) (filter_map (creation None) es) → Skips rest (step ∷ filter_map (creation None) es)
    one more step is =
        is ∙ more (rest ++ not_done None step ∷ [])
        ∙ ap (λ (u : List Undone). let end : Walk = record { state = t; undone = first ∷ u } in end) (append_assoc rest (not_done None step ∷ []) (list_map (not_done None) (filter_map (creation None) es)))

    by : ((rest : List Undone) → Skips rest (filter_map (creation None) es)) → (a : Atom) → Skips rest (cons_option (creation None (x.0, a)) (filter_map (creation None) es))
    by more atom.Dir = one more (record { op = MakeDir x.0; line = Set x.0 atom.Dir }) refl
    by more (atom.File digest exec) = one more (record { op = Place x.0 digest exec None; line = Set x.0 (atom.File digest exec) }) refl
    by more (atom.Link text) = one more (record { op = MakeLink x.0 text None; line = Set x.0 (atom.Link text) }) refl
    by more atom.Untracked = more rest
    by more (atom.Problem kind) = more rest

-- ---- one operation alone

module _ (change : Change) (id : ℕ) (s : RootState) (stamps : ByPath Stamp) (m : MayBegin s id stamps change) where
  abbrev at : Names
  at = change.at

  itself : eq_by_cmp path_cmp at at ≡ true
  itself = ap is_eq (tied_itself path_cmp_total at)

  away : (q : Names) → is_under q at ≡ false → eq_by_cmp path_cmp q at ≡ false
  away q out = is_false (eq_by_cmp path_cmp q at) (λ same. no_true (is_under q at) (ap (λ r. is_under r at) (tie_is q at same) ∙ under_itself at) out)

  away_below : (q : Names) → is_below q at ≡ true → is_under q at ≡ false → ⊥
  away_below q below out = no_true (is_under q at) (below_parts q at below).0 out

  under_cases : (q : Names) → is_under q at ≡ true → eq_by_cmp path_cmp q at ≡ false → is_below q at ≡ true
  under_cases q under apart =
      below_from q at under (is_false (is_under at q) (λ up. no_true (eq_by_cmp path_cmp q at) (ap (λ r. eq_by_cmp path_cmp r at) (under_both q at under up) ∙ itself) apart))

  module _ (old_leaf : is_leaf (map.get change.old at) ≡ true) (new_leaf : is_leaf (map.get change.new at) ≡ true) where
    tracked : has_let_be change.old ≡ false
    tracked = alone_tracked change.old at m.old old_leaf

    -- nothing stands below the path
    empty : (q : Names) → is_below q at ≡ true → map.get s.tree q ≡ None
    empty q below = m.agrees.nothing q (below_parts q at below).0 (alone change.old at m.old old_leaf q below) (none_beneath change.old at m.old tracked q)

    -- what one operation leaves that changes its path alone
    ends_one : (t : RootState) (b : Atom) → map.get change.new at ≡ Some b → IsLeft (least_stamp s change) t (Some b) (map.get t.tree at)
        → ((q : Names) → eq_by_cmp path_cmp q at ≡ false → map.get t.tree q ≡ map.get s.tree q)
        → (sets_bit_alone change ≡ true → stamp_there (map.get t.tree at) ≡ stamp_there (map.get s.tree at))
        → (added : List (List ℕ)) → t.ledger ≡ s.ledger ++ added → t.staging ≡ s.staging → Ends change s (record { state = t; undone = [] }) []
    ends_one t b is left others bit added contents staging = record {
      leaves = record {
        others = λ p out. others p (away p out);
        whole = λ none p under. at_path p under (eq_by_cmp path_cmp p at) refl;
        bit = bit;
        part = λ some. absurd (no_true (has_let_be change.old) some tracked);
        added = added;
        contents = contents;
        staged = staging;
      };
      undone = ap (λ (l : List Names). list_map (note (staying change.old)) l ++ []) (sym (none_staying change.old at m.old tracked));
      none_skipped = λ e. refl;
      all_skipped = λ apart. absurd (apart (none_staying change.old at m.old tracked));
    }
      where
        at_path : (p : Names) → is_under p at ≡ true → (x : Bool) → eq_by_cmp path_cmp p at ≡ x → IsLeft (least_stamp s change) t (map.get change.new p) (map.get t.tree p)
        at_path p under true same =
            subst (λ (q : Names). IsLeft (least_stamp s change) t (map.get change.new q) (map.get t.tree q)) (sym (tie_is p at same))
            (subst (λ (o : Option Atom). IsLeft (least_stamp s change) t o (map.get t.tree at)) (sym is) left)
        at_path p under false apart =
            let below = under_cases p under apart in
            subst (λ (o : Option Atom). IsLeft (least_stamp s change) t o (map.get t.tree p)) (sym (alone change.new at m.new new_leaf p below)) (others p apart ∙ empty p below)

    -- ---- a bit alone
    pub bit_ends : (d : List ℕ) (was : Bool) (e : List ℕ) (on : Bool) → map.get change.old at ≡ Some (atom.File d was) → map.get change.new at ≡ Some (atom.File e on) → bytes_eq d e ≡ true
        → sets_bit_alone change ≡ true → Ends change s (carry id s [] (option_to_list (option_map (bit_set at e on) (file_at stamps at was)))) []
    bit_ends d was e on old_is new_is same alone_bit = by (map.get stamps at) refl
      where
        stands : StandsFor s stamps at (atom.File d was)
        stands = m.agrees.tracked at (atom.File d was) old_is refl

        digest_is : (x : List ℕ) (y : Bool) → ◌≡◌ {A = Atom} (atom.File x y) (atom.File d was) → x ≡ d
        digest_is x y h = ap (λ (a : Atom). digest_in a) h
          where
            digest_in : Atom → List ℕ
            digest_in atom.Dir = []
            digest_in (atom.File digest exec) = digest
            digest_in (atom.Link text) = []
            digest_in atom.Untracked = []
            digest_in (atom.Problem kind) = []

        with_stamp : (stamp : Stamp) → map.get stamps at ≡ Some stamp → Ends change s (carry id s [] (bit_set at e on (entry.File stamp was) ∷ [])) []
        with_stamp stamp told = subst (λ (w : Walk). Ends change s w []) (sym walked) (ends_one next (atom.File e on) new_is left others bit [] (sym (append-nil s.ledger)) refl)
          where
            found_is : Some stands.found ≡ Some (entry.File stamp was)
            found_is = sym stands.expected ∙ ap (λ (o : Option Stamp). option_map (λ (x : Stamp). entry.File x was) o) told

            there : map.get s.tree at ≡ Some (entry.File stamp was)
            there = stands.there ∙ found_is

            op : Op
            op = SetExec at (entry.File stamp was) on

            answered : answer_of s id op ≡ Done None
            answered = where_is s.tree at (Some (entry.File stamp was)) (Done None) (ap (λ (o : Option Entry). is_expected o (Some (entry.File stamp was))) there ∙ same_itself (entry.File stamp was))

            done : Answer (List ℕ)
            done = Done None

            next : RootState
            next = after s id op done

            tree_is : next.tree ≡ set_at is_dir s.tree at (entry.File stamp on)
            tree_is = ap (λ (o : Option Entry). option_map_or (λ found. set_at is_dir s.tree at (with_bit on found)) o s.tree) there

            here : map.get next.tree at ≡ Some (entry.File stamp on)
            here = ap (λ (x : ByPath Entry). map.get x at) tree_is ∙ set_there s.tree at (entry.File stamp on)

            shown : sha256 (content_of s.ledger stamp) ≡ e
            shown =
                digest_is (sha256 (content_of s.ledger stamp)) was (ap (λ (x : Entry). atom_of s.ledger x) (sym (some_same stands.found (entry.File stamp was) found_is)) ∙ stands.shown)
                ∙ name_is d e same

            left : IsLeft (least_stamp s change) next (Some (atom.File e on)) (map.get next.tree at)
            left = record { stamp = stamp; there = here; late = subst (λ (n : ℕ). n ≤ stamp.0) (sym (ap (λ b. if b then 0 else length s.ledger) alone_bit)) (omega arith); shown = shown }

            others : (q : Names) → eq_by_cmp path_cmp q at ≡ false → map.get next.tree q ≡ map.get s.tree q
            others q apart = ap (λ (x : ByPath Entry). map.get x q) tree_is ∙ set_others s.tree at (entry.File stamp on) q apart (empty q)

            bit : sets_bit_alone change ≡ true → stamp_there (map.get next.tree at) ≡ stamp_there (map.get s.tree at)
            bit h = ap stamp_there here ∙ sym (ap stamp_there there)

            walk_by : Answer (List ℕ) → Walk
            walk_by answer =
                by_fate (record { state = after s id op answer; undone = [] }) (record { state = after s id op answer; undone = [] })
                (λ why. record { state = after s id op answer; undone = not_done (Some why) (bit_set at e on (entry.File stamp was)) ∷ [] }) (fate_of (Some answer))

            walked : carry id s [] (bit_set at e on (entry.File stamp was) ∷ []) ≡ record { state = next; undone = [] }
            walked = ap walk_by answered

        by : (o : Option Stamp) → map.get stamps at ≡ o → Ends change s (carry id s [] (option_to_list (option_map (bit_set at e on) (option_map (λ (x : Stamp). entry.File x was) o)))) []
        by None none = absurd (none_is_not_some stands.found (sym (ap (λ (o : Option Stamp). option_map (λ (x : Stamp). entry.File x was) o) none) ∙ stands.expected))
        by (Some stamp) told = with_stamp stamp told

    -- ---- a file or a link in place of one
    module _ (no_bit : sets_bit_alone change ≡ false) where
      abbrev first : ℕ
      first = length s.ledger

      least_is : least_stamp s change ≡ length s.ledger
      least_is = ap (λ b. if b then 0 else length s.ledger) no_bit

      made_ends : (b : Atom) (step : Step) → map.get change.new at ≡ Some b → IsMade first id s at b step → Ends change s (carry id s [] (step ∷ [])) []
      made_ends b step is k =
          subst (λ (w : Walk). Ends change s w []) (sym walked)
          (ends_one (after s id step.op k.answer) b is (subst (λ (n : ℕ). IsLeft n (after s id step.op k.answer) (Some b) (map.get (after s id step.op k.answer).tree at)) (sym least_is) k.here.left)
          (λ q apart. k.others q apart (empty q)) (λ h. absurd (no_true (sets_bit_alone change) h no_bit)) k.added k.contents k.staging)
        where
          walk_by : Answer (List ℕ) → Walk
          walk_by answer =
              by_fate (record { state = after s id step.op answer; undone = [] }) (record { state = after s id step.op answer; undone = [] })
              (λ why. record { state = after s id step.op answer; undone = not_done (Some why) step ∷ [] }) (fate_of (Some answer))

          walked : carry id s [] (step ∷ []) ≡ record { state = after s id step.op k.answer; undone = [] }
          walked =
              ap walk_by k.answered
              ∙ k.lands (record { state = after s id step.op k.answer; undone = [] }) (record { state = after s id step.op k.answer; undone = [] })
              (λ why. record { state = after s id step.op k.answer; undone = not_done (Some why) step ∷ [] })

      leaf_ends : (a b : Atom) (found : Entry) → map.get change.new at ≡ Some b → is_leaf (Some b) ≡ true → map.get s.tree at ≡ Some found
          → Ends change s (carry id s [] (option_to_list (creation (Some found) (at, b)))) []
      leaf_ends a b found is leaf there = by b is leaf
        where
          expected : is_expected (map.get s.tree at) (Some found) ≡ true
          expected = ap (λ (o : Option Entry). is_expected o (Some found)) there ∙ same_itself found

          late : first ≤ length s.ledger
          late = omega arith

          by : (b : Atom) → map.get change.new at ≡ Some b → is_leaf (Some b) ≡ true → Ends change s (carry id s [] (option_to_list (creation (Some found) (at, b)))) []
          by atom.Dir is leaf = absurd (no_true false leaf refl)
          by (atom.File digest exec) is leaf =
              made_ends (atom.File digest exec) (record { op = Place at digest exec (Some found); line = Set at (atom.File digest exec) }) is
              (makes_file first id s at (Some found) late m.agrees.parent digest exec expected (m.kept at digest exec is) (record { op = Place at digest exec (Some found); line = Set at (atom.File digest exec) }) refl)
          by (atom.Link text) is leaf =
              made_ends (atom.Link text) (record { op = MakeLink at text (Some found); line = Set at (atom.Link text) }) is
              (makes_link first id s at (Some found) late m.agrees.parent text expected (record { op = MakeLink at text (Some found); line = Set at (atom.Link text) }) refl)
          by atom.Untracked is leaf = absurd (no_true false leaf refl)
          by (atom.Problem kind) is leaf = absurd (no_true false leaf refl)

      leaf_of_is : (a : Atom) → is_leaf (Some a) ≡ true → leaf_of stamps at a ≡ entry_of stamps at a
      leaf_of_is atom.Dir h = absurd (no_true false h refl)
      leaf_of_is (atom.File digest exec) h = refl
      leaf_of_is (atom.Link text) h = refl
      leaf_of_is atom.Untracked h = absurd (no_true false h refl)
      leaf_of_is (atom.Problem kind) h = absurd (no_true false h refl)

      tracked_leaf : (a : Atom) → is_leaf (Some a) ≡ true → is_tracked a ≡ true
      tracked_leaf atom.Dir h = refl
      tracked_leaf (atom.File digest exec) h = refl
      tracked_leaf (atom.Link text) h = refl
      tracked_leaf atom.Untracked h = absurd (no_true false h refl)
      tracked_leaf (atom.Problem kind) h = absurd (no_true false h refl)

      pub replaced_ends : (old new : Option Atom) → map.get change.old at ≡ old → map.get change.new at ≡ new → is_leaf old ≡ true → is_leaf new ≡ true
          → Ends change s (carry id s [] (option_to_list (leaf_change stamps at old new))) []
      replaced_ends None new old_is new_is old_leaf new_leaf = absurd (no_true false old_leaf refl)
      replaced_ends (Some a) None old_is new_is old_leaf new_leaf = absurd (no_true false new_leaf refl)
      replaced_ends (Some a) (Some b) old_is new_is old_leaf new_leaf =
          let stands = m.agrees.tracked at a old_is (tracked_leaf a old_leaf) in
          subst (λ (o : Option Entry). Ends change s (carry id s [] (option_to_list (option_and_then (λ (expected : Entry). creation (Some expected) (at, b)) o))) []) (sym (leaf_of_is a old_leaf ∙ stands.expected))
          (leaf_ends a b stands.found new_is new_leaf stands.there)

  -- ---- all removals, and all creations
  module _ (no_bit : sets_bit_alone change ≡ false) where
    removals : Over change.old at m.old stamps id s m.agrees (map.entries change.old)
    removals = over_removals change.old at m.old stamps id s m.agrees (map.entries change.old) (are_sorted change.old) (each_stands change.old) (covers_all change.old at m.old)

    abbrev creations : List Step
    creations = filter_map (creation None) (map.entries change.new)

    abbrev all : List Names
    all = staying change.old

    -- what stands behind the removals
    behind : (p : Names) → map.get removals.walk.state.tree p ≡ (if goes change.old p then None else map.get s.tree p)
    behind p = removals.removed.tree p ∙ ap (λ b. if b then None else map.get s.tree p) (by (map.get change.old p) refl)
      where
        and_true : (b c : Bool) → c ≡ true → (b && c) ≡ b
        and_true true c e = e
        and_true false c e = refl

        by : (o : Option Atom) → map.get change.old p ≡ o → (goes change.old p && is_among (map.entries change.old) p) ≡ goes change.old p
        by None none = let free = goes_nothing change.old at m.old p none in ap (λ b. b && is_among (map.entries change.old) p) free ∙ sym free
        by (Some a) there = and_true (goes change.old p) (is_among (map.entries change.old) p) (among_entries change.old p a there)

    outside : (p : Names) → is_under p at ≡ false → map.get removals.walk.state.tree p ≡ map.get s.tree p
    outside p out =
        behind p
        ∙ ap (λ b. if b then None else map.get s.tree p)
        (goes_nothing change.old at m.old p (nothing_there (map.get change.old p) (λ a there. no_true (is_under p at) (m.old.within p (ap is_some there)) out)))

    undone_is : removals.walk.undone ≡ list_map (note all) all
    undone_is = removals.removed.undone ∙ ap (λ (l : List Names). list_map (note all) l) (staying_is change.old (map.entries change.old))

    -- ---- where something isn't tracked, what is to be made is skipped
    pub let_be_ends : has_let_be change.old ≡ true → Ends change s (carry id s [] (whole_steps stamps change)) creations
    let_be_ends some = by all refl
      where
        stays_top : stays change.old at ≡ true
        stays_top = top_stays change.old at m.old m.free some

        one_stays : list_any (λ (k : Names). true) all ≡ true
        one_stays =
            ap (λ (l : List Names). list_any (λ (k : Names). true) l) (sym (staying_is change.old (map.entries change.old)))
            ∙ any_staying change.old (λ k. true) (map.entries change.old)
            ∙ any_from_there (λ (e : Names × Atom). stays change.old e.0 && true) change.old at atom.Dir (stays_folder change.old at m.old at stays_top) (ap (λ b. b && true) stays_top)

        leaves : Leaves change s removals.walk.state
        leaves = record {
          others = outside;
          whole = λ none. absurd (no_true (has_let_be change.old) some none);
          bit = λ h. absurd (no_true (sets_bit_alone change) h no_bit);
          part = λ h p under. behind p;
          added = [];
          contents = removals.removed.ledger ∙ sym (append-nil s.ledger);
          staged = removals.removed.staging;
        }

        skipped : (p : Names) (ps : List Names) → all ≡ p ∷ ps
            → carry id s [] (whole_steps stamps change) ≡ record { state = removals.walk.state; undone = list_map (note all) all ++ list_map (not_done None) creations }
        skipped p ps is =
            removals.goes_on creations
            ∙ ap (λ (u : List Undone). carry id removals.walk.state u creations) (undone_is ∙ ap (λ (l : List Names). list_map (note all) l) is)
            ∙ skips_all id removals.walk.state p entry.Dir (note all p).cause (list_map (note all) ps) (map.entries change.new)
            ∙ ap (λ (l : List Names). let end : Walk = record { state = removals.walk.state; undone = list_map (note all) l ++ list_map (not_done None) creations } in end) (sym is)

        by : (l : List Names) → all ≡ l → Ends change s (carry id s [] (whole_steps stamps change)) creations
        by [] is = absurd (no_true (list_any (λ (k : Names). true) all) one_stays (ap (λ (l : List Names). list_any (λ (k : Names). true) l) is))
        by (p ∷ ps) is = subst (λ (w : Walk). Ends change s w creations) (sym (skipped p ps is)) (record {
          leaves = leaves;
          undone = refl;
          none_skipped = λ none. absurd (nil_is_not_cons p ps (sym none ∙ is));
          all_skipped = λ apart. refl;
        })

    -- ---- where all is tracked, all is made
    pub tracked_ends : has_let_be change.old ≡ false → Ends change s (carry id s [] (whole_steps stamps change)) []
    tracked_ends none = subst (λ (w : Walk). Ends change s w []) (sym walked) (record {
      leaves = record {
        others = λ p out. made.made.others p out ∙ outside p out;
        whole = λ h p under. subst (λ (n : ℕ). IsLeft n made.end (map.get change.new p) (map.get made.end.tree p)) (sym (ap (λ b. if b then 0 else length s.ledger) no_bit)) (made.made.here p under).left;
        bit = λ h. absurd (no_true (sets_bit_alone change) h no_bit);
        part = λ some. absurd (no_true (has_let_be change.old) some none);
        added = made.made.added;
        contents = made.made.contents ∙ ap (λ l. l ++ made.made.added) removals.removed.ledger;
        staged = made.made.staging ∙ removals.removed.staging;
      };
      undone = ap (λ (l : List Names). list_map (note all) l ++ []) (sym none_stay);
      none_skipped = λ e. refl;
      all_skipped = λ apart. absurd (apart none_stay);
    })
      where
        start : RootState
        start = removals.walk.state

        none_stay : all ≡ []
        none_stay = none_staying change.old at m.old none

        -- nothing stands at and below the path
        cleared : (q : Names) → is_under q at ≡ true → map.get start.tree q ≡ None
        cleared q under = by (map.get change.old q) refl
          where
            by : (o : Option Atom) → map.get change.old q ≡ o → map.get start.tree q ≡ None
            by None no_atom =
                behind q ∙ ap (λ b. if b then None else map.get s.tree q) (goes_nothing change.old at m.old q no_atom)
                ∙ m.agrees.nothing q under no_atom (none_beneath change.old at m.old none q)
            by (Some a) there =
                behind q
                ∙ ap (λ b. if b then None else map.get s.tree q) (goes_is change.old at m.old q a there (all_tracked change.old at m.old none q a there) (none_stays change.old at m.old none q))

        begun : Made change.new at m.new (length s.ledger) id start (map.entries change.new) start
        begun = record {
          here = λ q under. at_path q under (map.get change.new q) refl;
          others = λ q out. refl;
          added = [];
          contents = sym (append-nil start.ledger);
          staging = refl;
        }
          where
            sure : (q : Names) → is_under q at ≡ true → (o : Option Atom) → o ≡ None → IsSure (length s.ledger) start o (map.get start.tree q)
            sure q under o is =
                subst (λ (x : Option Atom). IsSure (length s.ledger) start x (map.get start.tree q)) (sym is)
                (record { left = cleared q under; named = subst (IsNamed start) (sym (cleared q under)) tt })

            at_path : (q : Names) → is_under q at ≡ true → (o : Option Atom) → map.get change.new q ≡ o → IsSure (length s.ledger) start (if is_among (map.entries change.new) q then None else map.get change.new q) (map.get start.tree q)
            at_path q under None none = sure q under _ (ap (λ (o : Option Atom). if is_among (map.entries change.new) q then None else o) none ∙ both_none (is_among (map.entries change.new) q))
              where
                both_none : (b : Bool) → (if b then None else (let nothing : Option Atom = None in nothing)) ≡ None
                both_none true = refl
                both_none false = refl
            at_path q under (Some a) there = sure q under _ (ap (λ b. if b then None else map.get change.new q) (among_entries change.new q a there))

        late : length s.ledger ≤ length start.ledger
        late = let same = ap length removals.removed.ledger in omega (arith, same)

        parent : missing_parent start.tree at ≡ None
        parent = by (root_or_child at)
          where
            seen : (tree : ByPath Entry) (r : Names) (n : List ℕ) → missing_parent tree (r ++ n ∷ []) ≡ cond (holds_folder is_dir (map.get tree r)) None (Some (r, map.get tree r))
            seen tree r n = ap (λ o. option_and_then (λ q. cond (holds_folder is_dir (map.get tree q)) None (Some (q, map.get tree q))) o) (parent-child r n)

            not_up : (r : Names) (n : List ℕ) → at ≡ r ++ n ∷ [] → is_under r at ≡ false
            not_up r n is =
                is_false (is_under r at)
                (λ up. no_true (is_below (r ++ n ∷ []) r) (child_below r n)
                (let turned : is_under r (r ++ n ∷ []) ≡ true = ap (is_under r) (sym is) ∙ up in
                is_false (is_below (r ++ n ∷ []) r) (λ below. no_true (is_under r (r ++ n ∷ [])) turned (below_parts (r ++ n ∷ []) r below).1)))

            by : (at ≡ []) ⊎ ((r : Names) × (n : List ℕ) × (at ≡ r ++ n ∷ [])) → missing_parent start.tree at ≡ None
            by (inl root) = ap (missing_parent start.tree) root
            by (inr c) =
                ap (missing_parent start.tree) c.2 ∙ seen start.tree c.0 c.1
                ∙ ap (λ (o : Option Entry). cond (holds_folder is_dir o) None (Some (c.0, o))) (outside c.0 (not_up c.0 c.1 c.2))
                ∙ sym (seen s.tree c.0 c.1) ∙ ap (missing_parent s.tree) (sym c.2) ∙ m.agrees.parent

        kept : (p : Names) (digest : List ℕ) (exec : Bool) → map.get change.new p ≡ Some (atom.File digest exec) → KeepsContent start id digest
        kept p digest exec is =
            let k = m.kept p digest exec is in
            record { bytes = k.bytes; kept = ap (λ x. map.get (unwrap_or (map.get x id) nothing_staged).kept digest) removals.removed.staging ∙ k.kept; is = k.is }

        made : Made_over change.new at m.new (length s.ledger) id start late parent kept (map.entries change.new) start
        made = over_creations change.new at m.new (length s.ledger) id start late parent kept (map.entries change.new) (are_sorted change.new) (each_stands change.new) (covers_all change.new at m.new) start begun

        walked : carry id s [] (whole_steps stamps change) ≡ record { state = made.end; undone = [] }
        walked =
            removals.goes_on creations
            ∙ ap (λ (u : List Undone). carry id start u creations) (undone_is ∙ ap (λ (l : List Names). list_map (note all) l) none_stay)
            ∙ made.goes_on
