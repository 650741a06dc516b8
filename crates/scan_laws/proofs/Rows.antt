-- How many rows a scan of a state lists, and when it ends.
use Rattle.std.proofs.Common.{◌≡◌, inl, inr, ℕ, ◌+◌, ◌<◌, ◌≤◌, Bool, true, false, not, cond, ◌&&◌, List, [], ◌∷◌, ◌++◌, length, take, drop, nat_lt, nat_le, refl, sym, ap, subst, ◌∙◌, Option, Some, None, option_and_then, arith}
use Rattle.std.specs.Prelude.{unwrap_or}
use Rattle.std.specs.FinMap as map
use Rattle.std.specs.Option.{is_some}
use Rattle.std.proofs.lemmas.Bool.{ltb-true}
use Rattle.std.proofs.lemmas.List.{append_assoc, append-nil}
use Rattle.sync_path.specs.Path.{parent_of}
use Rattle.entry_tree.specs.Entry.{is_dir}
use Rattle.entry_tree.specs.Tree.{Names, ByPath, IsClosed, holds_folder, is_below, children_below}
use Rattle.entry_tree.specs.declared.entry.Entry.{Entry}
use Rattle.entry_tree.specs.declared.entry.Entry.TheVariants as entry
use Rattle.entry_tree.specs.declared.entry.Stamp.{Stamp}
use Rattle.entry_tree.proofs.Trees.{root_or_child}
use Rattle.ignore_glob.specs.Grammar.{Meaning}
use Rattle.roots_api.specs.Logs.{rows_in}
use Rattle.roots_api.specs.States.{RootState, content_of, has_stamp}
use Rattle.roots_api.specs.Steps.{answer_of, piece_of}
use Rattle.roots_api.specs.declared.answer.Answer.{Answer}
use Rattle.roots_api.specs.declared.answer.Answer.TheVariants.{Listed, Held, Piece, Changed, TooLarge}
use Rattle.roots_api.specs.declared.limits.TheConstants.{MAX_FETCH, MAX_PIECE}
use Rattle.roots_api.specs.declared.op.Op.{Op}
use Rattle.roots_api.specs.declared.op.Op.TheVariants.{List as OpList, Fetch}
use Rattle.scan_cache.specs.declared.line.Line.{Line}
use Rattle.scan_core.specs.Ignoring.{ignores}
use Rattle.scan_core.specs.Scan.{ScanState, ScanTold, new_state, state_of, asked, asked_for, asked_at, after_told, learns, ends_list, ends_fetch, ends_asked, IsAnswered, AreTaken}
use Rattle.scan_core.specs.Told.{Told}
use Rattle.scan_core.specs.declared.scan_end.ScanEnd.{ScanEnd}
use Rattle.scan_core.specs.declared.scan_end.ScanEnd.TheVariants as ends
use Rattle.scan_core.specs.declared.wanted.Next.{Next}
use Rattle.scan_core.specs.declared.wanted.Wanted.{Wanted}
use Rattle.scan_core.specs.declared.wanted.Wanted.TheVariants.{Names as WantedNames, Content}
use Rattle.scan_laws.specs.Bounds.{heard_as, heard_from, heard_by}
use Rattle.scan_laws.specs.Caches.{IsOneCache}
use Rattle.scan_laws.specs.Look.{is_reached}
use Rattle.scan_laws.specs.Meeting.{HaveRules, IsScanned, spared_by}
use Rattle.scan_laws.specs.ScanLists.{rows_heard}
use Rattle.scan_laws.specs.Seen.{Heard}
use Rattle.scan_laws.specs.Undisturbed.{AnsweredOn, IsUndisturbed, look_rows, WholeListsLookRows, EndsOn, EndsByRowsAlone}
use Rattle.scan_laws.proofs.Boards.{is_none}
use Rattle.scan_laws.proofs.Bounding.{rows_join, rows_counted}
use Rattle.scan_laws.proofs.Counting.{filter_none, filter_same_on, weaker, entries_stand, has_rows, rowed, count_rowed, rowed_child, rows_count, held_counts_none, fetch_counts_none, rowed_reached, rows_within}
use Rattle.scan_laws.proofs.Going.{told_ties, new_tied}
use Rattle.scan_laws.proofs.Heard.{Quiet}
use Rattle.scan_laws.proofs.Looking.{reached_child, folder_is, unlisted_folder, all_reached}
use Rattle.scan_laws.proofs.Meeting.{whole_wants_nothing, ready_now, tied_now}
use Rattle.scan_laws.proofs.Needs.{needs_names, wanted_some}
use Rattle.scan_laws.proofs.Points.{Bytes, with_heard, listed_in, fetched_in, held_in, need_in}
use Rattle.scan_laws.proofs.Reading.{Reads, list_reads}
use Rattle.scan_laws.proofs.Seeing.{Ready, asked_ready, new_ready}
use Rattle.scan_laws.proofs.Tying.{Lines, Tied, InCourse, NextTied}
use Rattle.scan_laws.proofs.Undisturbed.{all_read, new_reads, on_front, on_back}

module _ (rules : List Meaning) (size : ℕ) (before : ByPath Line) (s : RootState) (id : ℕ) where
  abbrev Counts : List (Heard Bytes) → Type 0
  Counts hs = rows_heard hs ≡ count_rowed rules size s hs

  heard_one : (entries : ℕ) (hs : List (Heard Bytes)) (op : Op) (answer : Answer Bytes) → rows_heard (with_heard hs op answer) ≡ rows_heard hs + rows_in answer
  heard_one entries hs op answer = let e : rows_heard (with_heard hs op answer) ≡ rows_heard hs + (rows_in answer + 0) = rows_join entries size hs ((record { op = op; answer = answer }) ∷ []) in omega arith

  module _ (entries : ℕ) (cache : ByPath Line) (hs : List (Heard Bytes)) (st : ScanState) (tied : Tied rules size before cache hs st) (counts : Counts hs) where
    list_counts : (p : Names) → listed_in rules size hs p ≡ None → (answer : Answer Bytes) → answer ≡ answer_of s id (OpList p) → Counts (with_heard hs (OpList p) answer)
    list_counts p unlisted answer on =
        subst (λ a. Counts (with_heard hs (OpList p) a)) (sym on)
        (elim (holds_folder is_dir (map.get s.tree p)) as (λ c. Counts (with_heard hs (OpList p) (cond c (Listed (children_below s.tree p)) (Held (map.get s.tree p))))) [
          | true ↦ heard_one entries hs (OpList p) (Listed (children_below s.tree p)) ∙ ap (λ n. n + length (children_below s.tree p)) counts ∙ sym (rows_count rules size s hs p unlisted (children_below s.tree p) refl)
          | false ↦
              (let e : rows_heard (with_heard hs (OpList p) (Held (map.get s.tree p))) ≡ rows_heard hs + 0 = heard_one entries hs (OpList p) (Held (map.get s.tree p)) in
              let f : count_rowed rules size s (with_heard hs (OpList p) (Held (map.get s.tree p))) ≡ count_rowed rules size s hs = held_counts_none rules size s hs p unlisted (map.get s.tree p) in
              let g : rows_heard hs ≡ count_rowed rules size s hs = counts in
              omega arith)
        ])

    piece_rows : (content : List ℕ) (offset : ℕ) → rows_in (piece_of content offset) ≡ 0
    piece_rows content offset =
        elim (nat_lt MAX_FETCH (length content)) as (λ c. rows_in {B = Bytes} (cond c (TooLarge (length content)) (Piece (take MAX_PIECE (drop offset content)) (nat_le (length content) (offset + MAX_PIECE)))) ≡ 0) [ true ↦ refl | false ↦ refl ]

    fetch_rows : (p : Names) (stamp : Stamp) (offset : ℕ) → rows_in (answer_of s id (Fetch p stamp offset)) ≡ 0
    fetch_rows p stamp offset =
        elim (has_stamp (map.get s.tree p) stamp) as (λ c. rows_in (cond c (piece_of (content_of s.ledger stamp) offset) (Changed (map.get s.tree p))) ≡ 0) [ true ↦ piece_rows (content_of s.ledger stamp) offset | false ↦ refl ]

    fetch_counts : (p : Names) (stamp : Stamp) (offset : ℕ) (answer : Answer Bytes) → answer ≡ answer_of s id (Fetch p stamp offset) → Counts (with_heard hs (Fetch p stamp offset) answer)
    fetch_counts p stamp offset answer on =
        let e : rows_heard (with_heard hs (Fetch p stamp offset) answer) ≡ rows_heard hs + rows_in answer = heard_one entries hs (Fetch p stamp offset) answer in
        let z : rows_in answer ≡ 0 = ap rows_in on ∙ fetch_rows p stamp offset in
        let f : count_rowed rules size s (with_heard hs (Fetch p stamp offset) answer) ≡ count_rowed rules size s hs = fetch_counts_none rules size s hs p stamp offset answer in
        let g : rows_heard hs ≡ count_rowed rules size s hs = counts in
        omega arith

    wanted_counts : (p : Names) (w : Wanted) → InCourse rules size before hs st.board.later st.begun p w → (answer : Answer Bytes) → answer ≡ answer_of s id (asked_at (length st.begun) p w) → Counts (with_heard hs (asked_at (length st.begun) p w) answer)
    wanted_counts p WantedNames course answer on =
        list_counts p (needs_names rules size (spared_by before) p (listed_in rules size hs p) (fetched_in rules size hs p) (held_in rules size hs p) course.needed).unlisted answer on
    wanted_counts p (Content stamp exec) course answer on = fetch_counts p stamp (length st.begun) answer on

    asked_counts : (next : Option Next) → NextTied rules size before hs st.board.later st.begun next → (answer : Answer Bytes) → IsAnswered (asked_for (length st.begun) next) answer
        → AnsweredOn s id (heard_as (asked_for (length st.begun) next) answer) → Counts (hs ++ heard_as (asked_for (length st.begun) next) answer)
    asked_counts None course answer h on = absurd h
    asked_counts (Some next) course answer h on = wanted_counts next.path next.wanted course answer on.0

  all_counted : (entries : ℕ) (after : ByPath Line) (st : ScanState) (ts : List Told) (hs : List (Heard Bytes)) (cache : ByPath Line) → AreTaken entries size st ts → HaveRules rules ts → IsOneCache size st cache ts after
      → Ready st.board → Tied rules size before cache hs st → AnsweredOn s id (heard_from size st ts) → Counts hs → Counts (hs ++ heard_from size st ts)
  all_counted entries after st [] hs cache taken same one ready tied on counts = subst Counts (sym (append-nil hs)) counts
  all_counted entries after st (t ∷ ts) hs cache taken same one ready tied on counts =
      let now = heard_as (asked st) t.answer in
      let later = heard_from size (after_told size st t) ts in
      subst Counts (append_assoc hs now later)
      (all_counted entries after (after_told size st t) ts (hs ++ now) (learns size st t) taken.2 same.1 one.1 (asked_ready size st t st.board.next ready ready.next taken.0)
      (told_ties entries size rules before cache hs st t same.0 one.0 ready tied taken.0 taken.1) (on_back rules size before s id now later on)
      (asked_counts entries cache hs st tied counts st.board.next tied.next t.answer taken.0 (on_front rules size before s id now later on)))

  -- ---- a whole scan listed each folder that is reached

  module _ (after : ByPath Line) (hs : List (Heard Bytes)) (reads : Reads rules size before s id after hs) (quiet : Quiet rules size hs) (lines : Lines rules size before after hs) (closed : IsClosed is_dir s.tree)
      (whole : (q : Names) → need_in rules size (spared_by before) hs q ≡ None) where
    true_parts : (a b : Bool) → (a && b) ≡ true → (a ≡ true) × (b ≡ true)
    true_parts true b h = (refl, h)
    true_parts false b h = absurd (cc)

    not_ignored : (b : Bool) → not b ≡ true → b ≡ false
    not_ignored true h = absurd (cc)
    not_ignored false h = refl

    rows_on : (f : Names) (l : Option (Answer Bytes)) → listed_in rules size hs f ≡ l → is_reached rules f ≡ true → ignores rules f true ≡ false → map.get s.tree f ≡ Some entry.Dir → has_rows l ≡ true
    rows_on f None is reached followed folder =
        absurd (unlisted_folder rules size before after s id hs reads quiet lines closed whole f is
        ((all_reached rules size before after s id hs reads quiet lines closed whole (1 + length f) f (omega arith)).held_is ∙ ap (λ c. cond c (map.get s.tree f) None) reached ∙ folder) followed)
    rows_on f (Some a) is reached followed folder =
        ap (λ (x : Answer Bytes). has_rows (Some x)) ((reads.folders f (ap is_some is)).answer_is a is)
        ∙ ap (λ (o : Option Entry). has_rows (Some (cond (holds_folder is_dir o) (Listed (children_below s.tree f)) (Held o)))) folder

    reached_rowed : (q : Names) (e : Entry) → map.get s.tree q ≡ Some e → (is_below q [] && is_reached rules q) ≡ true → rowed rules size s hs q ≡ true
    reached_rowed q e there h =
        elim (root_or_child q) [
          | inl is_root ↦ absurd (let clash : false ≡ true = sym (ap (λ r. is_below r [] && is_reached rules r) is_root) ∙ h in cc)
          | inr child ↦
              (let parts = true_parts (is_below q []) (is_reached rules q) h in
              let above = true_parts (is_reached rules child.0) (not (ignores rules child.0 true)) (sym (reached_child rules child.0 child.1) ∙ ap (is_reached rules) (sym child.2) ∙ parts.1) in
              let folder = folder_is (map.get s.tree child.0) (closed child.0 child.1 (ap (λ r. is_some (map.get s.tree r)) (sym child.2) ∙ ap is_some there)) in
              ap (rowed rules size s hs) child.2 ∙ rowed_child rules size s hs child.0 child.1
              ∙ rows_on child.0 (listed_in rules size hs child.0) refl above.0 (not_ignored (ignores rules child.0 true) above.1) folder)
        ]

    same_test : (a b : Bool) → (a ≡ true → b ≡ true) → (b ≡ true → a ≡ true) → a ≡ b
    same_test true b to back = sym (to refl)
    same_test false true to back = back refl
    same_test false false to back = refl

    whole_count : count_rowed rules size s hs ≡ look_rows s rules
    whole_count =
        ap length (filter_same_on (λ e. rowed rules size s hs e.0) (λ e. is_below e.0 [] && is_reached rules e.0) (map.entries s.tree)
        (weaker (λ e. map.get s.tree e.0 ≡ Some e.1) (λ e. rowed rules size s hs e.0 ≡ (is_below e.0 [] && is_reached rules e.0))
        (λ e there. same_test (rowed rules size s hs e.0) (is_below e.0 [] && is_reached rules e.0) (rowed_reached rules size s before after id hs reads e.0) (reached_rowed e.0 e.1 there))
        (map.entries s.tree) (entries_stand s.tree)))

-- ---- the laws

module _ (m : ScanTold) (rules : List Meaning) (before after : ByPath Line) (scanned : IsScanned m rules before after) (s : RootState) (id : ℕ) (still : IsUndisturbed m before s id) where
  abbrev hs : List (Heard Bytes)
  hs = heard_by m

  tied : Tied rules m.size before after hs (state_of m)
  tied = tied_now m rules before after scanned

  ready : Ready (state_of m).board
  ready = ready_now m rules before after scanned

  reads : Reads rules m.size before s id after hs
  reads = all_read rules m.size before s id m.entries after new_state m.told [] before scanned.taken scanned.one_rules scanned.one_cache new_ready (new_tied rules m.size before) (new_reads rules m.size before s id) refl still.answered

  counted : rows_heard hs ≡ count_rowed rules m.size s hs
  counted =
      all_counted rules m.size before s id m.entries after new_state m.told [] before scanned.taken scanned.one_rules scanned.one_cache new_ready (new_tied rules m.size before) still.answered
      (sym (filter_none (λ e. rowed rules m.size s [] e.0) (λ e. none_rowed (parent_of e.0)) (map.entries s.tree)))
    where
      none_rowed : (up : Option Names) → has_rows (option_and_then (listed_in rules m.size []) up) ≡ false
      none_rowed None = refl
      none_rowed (Some f) = refl

  module _ (whole : asked (state_of m) ≡ None) where
    none_needed : (q : Names) → need_in rules m.size (spared_by before) hs q ≡ None
    none_needed q = is_none (need_in rules m.size (spared_by before) hs q)
        (sym (wanted_some rules m.size (spared_by before) hs q) ∙ ap is_some (whole_wants_nothing rules m.size before after hs (state_of m) ready tied whole q))

    pub whole_rows : rows_heard hs ≡ look_rows s rules
    whole_rows = counted ∙ whole_count rules m.size before s id after hs reads tied.quiet tied.lines still.closed none_needed

  -- ---- why it ends

  too_many : (p : Names) → InCourse rules m.size before hs (state_of m).board.later (state_of m).begun p WantedNames → (end : ScanEnd)
      → ends_list m.entries (state_of m).board.rows (answer_of s id (OpList p)) ≡ Some end → (end ≡ ends.TooMany) × (m.entries < look_rows s rules)
  too_many p course end h =
      let needs = needs_names rules m.size (spared_by before) p (listed_in rules m.size hs p) (fetched_in rules m.size hs p) (held_in rules m.size hs p) course.needed in
      elim (holds_folder is_dir (map.get s.tree p)) as (λ c. holds_folder is_dir (map.get s.tree p) ≡ c
      → ends_list m.entries (state_of m).board.rows (cond c (Listed (children_below s.tree p)) (Held (map.get s.tree p))) ≡ Some end → (end ≡ ends.TooMany) × (m.entries < look_rows s rules)) [
        | true ↦ λ e g.
            let rows = children_below s.tree p in
            let is : answer_of s id (OpList p) ≡ Listed rows = ap (λ c. cond c (Listed rows) (Held (map.get s.tree p))) e in
            let more = with_heard hs (OpList p) (Listed rows) in
            let over = over_limit (nat_lt m.entries ((state_of m).board.rows + length rows)) end g in
            let now : (state_of m).board.rows ≡ rows_heard hs = (rows_counted m scanned.taken).0 in
            let grown : count_rowed rules m.size s more ≡ count_rowed rules m.size s hs + length rows = rows_count rules m.size s hs p needs.unlisted rows refl in
            let within : count_rowed rules m.size s more ≤ look_rows s rules = rows_within rules m.size s before after id more (list_reads rules m.size before s id after hs reads tied.quiet p (Listed rows) needs (sym is)) in
            let past : m.entries < (state_of m).board.rows + length rows = ltb-true m.entries ((state_of m).board.rows + length rows) over.0 in
            let same : rows_heard hs ≡ count_rowed rules m.size s hs = counted in
            (over.1, omega arith)
        | false ↦ λ e g. absurd (cc)
      ] refl h
    where
      over_limit : (b : Bool) (end : ScanEnd) → cond b (Some ends.TooMany) None ≡ Some end → (b ≡ true) × (end ≡ ends.TooMany)
      over_limit true end g = (refl, sym (ap (λ (o : Option ScanEnd). unwrap_or o end) g))
      over_limit false end g = absurd (cc)

  piece_ends_not : (content : List ℕ) (offset : ℕ) → ends_fetch (piece_of content offset) ≡ None
  piece_ends_not content offset =
      elim (nat_lt MAX_FETCH (length content)) as (λ c. ends_fetch (cond c (TooLarge (length content)) (Piece (take MAX_PIECE (drop offset content)) (nat_le (length content) (offset + MAX_PIECE)))) ≡ None) [ true ↦ refl | false ↦ refl ]

  fetch_ends_not : (p : Names) (stamp : Stamp) (offset : ℕ) → ends_fetch (answer_of s id (Fetch p stamp offset)) ≡ None
  fetch_ends_not p stamp offset =
      elim (has_stamp (map.get s.tree p) stamp) as (λ c. ends_fetch (cond c (piece_of (content_of s.ledger stamp) offset) (Changed (map.get s.tree p))) ≡ None) [ true ↦ piece_ends_not (content_of s.ledger stamp) offset | false ↦ refl ]

  wanted_ends : (p : Names) (w : Wanted) → InCourse rules m.size before hs (state_of m).board.later (state_of m).begun p w → (end : ScanEnd)
      → ends_asked m.entries (state_of m).board.rows (answer_of s id (asked_at (length (state_of m).begun) p w)) (Some (record { path = p; wanted = w })) ≡ Some end → (end ≡ ends.TooMany) × (m.entries < look_rows s rules)
  wanted_ends p WantedNames course end h = too_many p course end h
  wanted_ends p (Content stamp exec) course end h = absurd (let clash : None ≡ Some end = sym (fetch_ends_not p stamp (length (state_of m).begun)) ∙ h in cc)

  next_ends : (next : Option Next) → (state_of m).board.next ≡ next → NextTied rules m.size before hs (state_of m).board.later (state_of m).begun next → (end : ScanEnd)
      → EndsOn m s id (asked_for (length (state_of m).begun) next) end → (end ≡ ends.TooMany) × (m.entries < look_rows s rules)
  next_ends None is course end h = absurd h
  next_ends (Some next) is course end h =
      wanted_ends next.path next.wanted course end
      (ap (λ n. ends_asked m.entries (state_of m).board.rows (answer_of s id (asked_at (length (state_of m).begun) next.path next.wanted)) n) (sym is) ∙ h)

  pub ends_by_rows : (end : ScanEnd) → EndsOn m s id (asked (state_of m)) end → (end ≡ ends.TooMany) × (m.entries < look_rows s rules)
  ends_by_rows end h = next_ends (state_of m).board.next refl tied.next end h

pub whole_lists_look_rows : WholeListsLookRows
whole_lists_look_rows m rules before after scanned s id still whole = whole_rows m rules before after scanned s id still whole

pub ends_by_rows_alone : EndsByRowsAlone
ends_by_rows_alone m rules before after scanned s id still end h = ends_by_rows m rules before after scanned s id still end h
