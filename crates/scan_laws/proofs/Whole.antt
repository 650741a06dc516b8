-- A whole scan is one by its list alone.
use Rattle.std.proofs.Common.{◌≡◌, ◌⊎◌, inl, inr, ℕ, ◌+◌, ◌≤◌, Bool, true, false, not, cond, ◌&&◌, ◌||◌, List, [], ◌∷◌, ◌++◌, length, nat_lt, refl, sym, ap, subst, ◌∙◌, Option, Some, None, option_map, option_and_then, arith}
use Rattle.std.specs.List.{list_any}
use Rattle.std.specs.Option.{is_some}
use Rattle.std.specs.Ordering.{eq_by_cmp}
use Rattle.std.proofs.lemmas.List.{append_assoc, append-nil}
use Rattle.sync_path.specs.Path.{path_cmp}
use Rattle.entry_tree.specs.Tree.{Names, ByPath}
use Rattle.entry_tree.specs.declared.entry.Entry.{Entry}
use Rattle.entry_tree.specs.declared.entry.Entry.TheVariants as entry
use Rattle.entry_tree.specs.declared.entry.Stamp.{Stamp}
use Rattle.entry_tree.proofs.Trees.{tie_is}
use Rattle.ignore_glob.specs.Grammar.{Meaning}
use Rattle.roots_api.specs.States.{new_root}
use Rattle.roots_api.specs.declared.answer.Answer.{Answer}
use Rattle.roots_api.specs.declared.op.Op.{Op}
use Rattle.roots_api.specs.declared.op.Op.TheVariants.{List as OpList, Fetch}
use Rattle.scan_cache.specs.declared.line.Line.{Line}
use Rattle.scan_core.specs.Board.{left_alone}
use Rattle.scan_core.specs.Scan.{ScanState, ScanTold, new_state, state_of, asked, asked_for, asked_at, after_told, learns, AreTaken}
use Rattle.scan_core.specs.Told.{Told}
use Rattle.scan_core.specs.declared.wanted.Next.{Next}
use Rattle.scan_core.specs.declared.wanted.Wanted.{Wanted}
use Rattle.scan_core.specs.declared.wanted.Wanted.TheVariants.{Names as WantedNames, Content}
use Rattle.scan_laws.specs.Bounds.{heard_as, heard_from, heard_by}
use Rattle.scan_laws.specs.Caches.{IsOneCache}
use Rattle.scan_laws.specs.Meeting.{HaveRules, IsScanned, spared_by, WholeHasNoNext, WholeIsWholeScan}
use Rattle.scan_laws.specs.ScanLists.{rows_heard, goes_on, is_scan_list, is_unfetched, is_whole_scan}
use Rattle.scan_laws.specs.Seen.{Heard, is_last, bytes_of, wanted_of, wanted_as, wanted_at, earlier, first_wanted, asked_next, paths_in}
use Rattle.scan_laws.proofs.Boards.{is_none}
use Rattle.scan_laws.proofs.Bounding.{told_steps, rows_join}
use Rattle.scan_laws.proofs.Going.{told_ties, new_tied}
use Rattle.scan_laws.proofs.Meeting.{asks, one_more, asks_what_points_say, asks_a_scans_list, whole_wants_nothing, ready_now, tied_now}
use Rattle.scan_laws.proofs.Needs.{needs_names, needs_content, wanted_some, no_problem_yet}
use Rattle.scan_laws.proofs.Points.{Bytes, with_heard, listed_in, fetched_in, held_in, fetched-list, fetched-other, problem_of, need, need_in}
use Rattle.scan_laws.proofs.Reading.{same_stamps}
use Rattle.scan_laws.proofs.Seeing.{Ready, asked_ready, new_ready}
use Rattle.scan_laws.proofs.Staying.{file_stays_held, held_as_before}
use Rattle.scan_laws.proofs.Tying.{Tied, InCourse, NextTied}

-- ---- two ways to spare files

module _ (rules : List Meaning) (size : ℕ) (hs : List (Heard Bytes)) (one other : Names → Stamp → Bool)
    (agree : (q : Names) (stamp : Stamp) (exec : Bool) → held_in rules size hs q ≡ Some (entry.File stamp exec) → left_alone rules q (entry.File stamp exec) ≡ false → one q stamp ≡ other q stamp) where
  same_wish : (q : Names) (e : Entry) → held_in rules size hs q ≡ Some e → wanted_of length rules size hs one q e ≡ wanted_of length rules size hs other q e
  same_wish q entry.Dir held = refl
  same_wish q (entry.File stamp exec) held =
      elim (left_alone rules q (entry.File stamp exec)) as (λ c. left_alone rules q (entry.File stamp exec) ≡ c
      → cond c None (wanted_as length rules size hs one q (entry.File stamp exec)) ≡ cond c None (wanted_as length rules size hs other q (entry.File stamp exec))) [
        | true ↦ λ e. refl
        | false ↦ λ e. ap (λ b. cond (b || (is_some (problem_of rules size (fetched_in rules size hs q)) || list_any is_last (fetched_in rules size hs q))) None (Some (Fetch q stamp (bytes_of length rules size hs q)))) (agree q stamp exec held e)
      ] refl
  same_wish q (entry.Link text) held = refl
  same_wish q entry.Other held = refl

  same_wanted : (q : Names) → wanted_at length rules size hs one q ≡ wanted_at length rules size hs other q
  same_wanted q =
      elim (held_in rules size hs q) as (λ o. held_in rules size hs q ≡ o → option_and_then (wanted_of length rules size hs one q) o ≡ option_and_then (wanted_of length rules size hs other q) o) [
        | None ↦ λ e. refl
        | Some x ↦ λ e. same_wish q x e
      ] refl

  same_earlier : (a b : Option (Names × Op)) → earlier length rules size hs one a b ≡ earlier length rules size hs other a b
  same_earlier None b = refl
  same_earlier (Some a) None = refl
  same_earlier (Some a) (Some b) = refl

  same_first : (ps : List Names) → first_wanted length rules size hs one ps ≡ first_wanted length rules size hs other ps
  same_first [] = refl
  same_first (p ∷ ps) =
      (λ i. earlier length rules size hs one (option_map (λ op. (p, op)) (same_wanted p i)) (same_first ps i))
      ∙ same_earlier (option_map (λ op. (p, op)) (wanted_at length rules size hs other p)) (first_wanted length rules size hs other ps)

  pub same_asked : asked_next length rules size hs one ≡ asked_next length rules size hs other
  same_asked = ap (option_map (λ (e : Names × Op). e.1)) (same_first (paths_in hs))

-- ---- files that the cache knew aren't fetched, and a file stays held

module _ (rules : List Meaning) (size : ℕ) (before : ByPath Line) where
  record Fetchable (hs : List (Heard Bytes)) (q : Names) : Type 0 where
    pub stamp : Stamp
    pub exec : Bool
    pub held_is : held_in rules size hs q ≡ Some (entry.File stamp exec)
    pub unspared : spared_by before q stamp ≡ false

  abbrev IsOnce : List (Heard Bytes) → Names → Type 0
  IsOnce hs q = (fetched_in rules size hs q ≡ []) ⊎ Fetchable hs q

  record Grows (hs more : List (Heard Bytes)) : Type 0 where
    pub stays : (q : Names) (stamp : Stamp) (exec : Bool) → held_in rules size hs q ≡ Some (entry.File stamp exec) → held_in rules size more q ≡ Some (entry.File stamp exec)
    pub once : ((q : Names) → IsOnce hs q) → (q : Names) → IsOnce more q

  module _ (entries : ℕ) (cache : ByPath Line) (hs : List (Heard Bytes)) (s : ScanState) (answer : Answer Bytes) (tied : Tied rules size before cache hs s) where
    list_grows : (p : Names) → InCourse rules size before hs s.board.later s.begun p WantedNames → Grows hs (with_heard hs (OpList p) answer)
    list_grows p course =
        let needs = needs_names rules size (spared_by before) p (listed_in rules size hs p) (fetched_in rules size hs p) (held_in rules size hs p) course.needed in
        let stay = λ (q : Names) (stamp : Stamp) (exec : Bool) (held : held_in rules size hs q ≡ Some (entry.File stamp exec)). file_stays_held rules size before hs tied.quiet p answer needs q stamp exec held ∙ held in
        record {
          stays = stay;
          once = λ all q. elim (all q) [
            | inl none ↦ inl (fetched-list rules size hs p answer q ∙ none)
            | inr r ↦ inr (record { stamp = r.stamp; exec = r.exec; held_is = stay q r.stamp r.exec r.held_is; unspared = r.unspared })
          ];
        }

    fetch_grows : (p : Names) (stamp : Stamp) (exec : Bool) → InCourse rules size before hs s.board.later s.begun p (Content stamp exec) → Grows hs (with_heard hs (Fetch p stamp (length s.begun)) answer)
    fetch_grows p stamp exec course =
        let needs = needs_content rules size (spared_by before) p (listed_in rules size hs p) (fetched_in rules size hs p) (held_in rules size hs p) stamp exec course.needed in
        let more = with_heard hs (Fetch p stamp (length s.begun)) answer in
        let same = held_as_before rules size hs p answer stamp (length s.begun) in
        record {
          stays = λ q t x held. same q ∙ held;
          once = λ all q. elim (eq_by_cmp path_cmp q p) as (λ c. eq_by_cmp path_cmp q p ≡ c → IsOnce more q) [
            | true ↦ λ e. subst (IsOnce more) (sym (tie_is q p e)) (inr (record { stamp = stamp; exec = exec; held_is = same p ∙ needs.held_is; unspared = needs.unspared }))
            | false ↦ λ e. elim (all q) [
              | inl none ↦ inl (fetched-other rules size hs p answer stamp (length s.begun) q e ∙ none)
              | inr r ↦ inr (record { stamp = r.stamp; exec = r.exec; held_is = same q ∙ r.held_is; unspared = r.unspared })
            ]
          ] refl;
        }

    wanted_grows : (p : Names) (w : Wanted) → InCourse rules size before hs s.board.later s.begun p w → Grows hs (with_heard hs (asked_at (length s.begun) p w) answer)
    wanted_grows p WantedNames course = list_grows p course
    wanted_grows p (Content stamp exec) course = fetch_grows p stamp exec course

    asked_grows : (next : Option Next) → NextTied rules size before hs s.board.later s.begun next → Grows hs (hs ++ heard_as (asked_for (length s.begun) next) answer)
    asked_grows None course = subst (Grows hs) (sym (append-nil hs)) (record { stays = λ q stamp exec held. held; once = λ all. all })
    asked_grows (Some next) course = wanted_grows next.path next.wanted course

  module _ (entries : ℕ) (after : ByPath Line) where
    all_grow : (s : ScanState) (ts : List Told) (hs : List (Heard Bytes)) (cache : ByPath Line) → AreTaken entries size s ts → HaveRules rules ts → IsOneCache size s cache ts after → Ready s.board → Tied rules size before cache hs s
        → Grows hs (hs ++ heard_from size s ts)
    all_grow s [] hs cache taken same one ready tied = subst (Grows hs) (sym (append-nil hs)) (record { stays = λ q stamp exec held. held; once = λ all. all })
    all_grow s (t ∷ ts) hs cache taken same one ready tied =
        let now = heard_as (asked s) t.answer in
        let later = heard_from size (after_told size s t) ts in
        let here = asked_grows entries cache hs s t.answer tied s.board.next tied.next in
        let rest = all_grow (after_told size s t) ts (hs ++ now) (learns size s t) taken.2 same.1 one.1 (asked_ready size s t s.board.next ready ready.next taken.0)
        (told_ties entries size rules before cache hs s t same.0 one.0 ready tied taken.0 taken.1) in
        subst (Grows hs) (append_assoc hs now later) (record { stays = λ q stamp exec held. rest.stays q stamp exec (here.stays q stamp exec held); once = λ all. rest.once (here.once all) })

    -- its list, where other files are spared, which are the same among those that are held in the end
    module _ (spares : Names → Stamp → Bool) where
      abbrev Agrees : List (Heard Bytes) → Type 0
      Agrees hs = (q : Names) (stamp : Stamp) (exec : Bool) → held_in rules size hs q ≡ Some (entry.File stamp exec) → left_alone rules q (entry.File stamp exec) ≡ false → spares q stamp ≡ spared_by before q stamp

      listed_so : (s : ScanState) (ts : List Told) (hs : List (Heard Bytes)) (cache : ByPath Line) → AreTaken entries size s ts → HaveRules rules ts → IsOneCache size s cache ts after → Ready s.board → Tied rules size before cache hs s
          → Agrees (hs ++ heard_from size s ts) → s.board.rows ≡ rows_heard hs → s.board.rows ≤ entries → goes_on length entries rules size spares hs (heard_from size s ts) ≡ true
      listed_so s [] hs cache taken same one ready tied agree counted fits = refl
      listed_so s (t ∷ ts) hs cache taken same one ready tied agree counted fits =
          let now = heard_as (asked s) t.answer in
          let later = heard_from size (after_told size s t) ts in
          let steps = told_steps entries size s t taken.0 taken.1 in
          let more : (after_told size s t).board.rows ≡ s.board.rows + rows_heard now = steps.counted in
          let joined : rows_heard (hs ++ now) ≡ rows_heard hs + rows_heard now = rows_join entries size hs now in
          let grown = all_grow s (t ∷ ts) hs cache taken same one ready tied in
          let is = asks rules size before cache hs s ready tied
          ∙ sym (same_asked rules size hs spares (spared_by before) (λ q stamp exec held followed. agree q stamp exec (grown.stays q stamp exec held) followed)) in
          one_more entries size rules spares s t hs later s.board.next is counted fits taken.0 taken.1
          (listed_so (after_told size s t) ts (hs ++ now) (learns size s t) taken.2 same.1 one.1 (asked_ready size s t s.board.next ready ready.next taken.0)
          (told_ties entries size rules before cache hs s t same.0 one.0 ready tied taken.0 taken.1) (subst Agrees (sym (append_assoc hs now later)) agree) (omega arith) (steps.fits fits))

  -- ---- no Fetch stands in a whole list of just those files that the cache knew

  module _ (hs : List (Heard Bytes)) (whole : (q : Names) → need_in rules size (spared_by before) hs q ≡ None) (once : (q : Names) → IsOnce hs q) (q : Names) (stamp : Stamp) (exec : Bool)
      (held : held_in rules size hs q ≡ Some (entry.File stamp exec)) (followed : left_alone rules q (entry.File stamp exec) ≡ false) where
    unread_is_spared : (spared : Bool) → cond (spared || (is_some (problem_of rules size []) || false)) None (Some (Content stamp exec)) ≡ None → spared ≡ true
    unread_is_spared true h = refl
    unread_is_spared false h = absurd (let clash : Some (Content stamp exec) ≡ None = sym (ap (λ o. cond (is_some o || false) None (Some (Content stamp exec))) (no_problem_yet rules size)) ∙ h in cc)

    spared_where_unread : fetched_in rules size hs q ≡ [] → spared_by before q stamp ≡ true
    spared_where_unread none =
        unread_is_spared (spared_by before q stamp)
        ((λ i. cond (sym followed i) None (cond (spared_by before q stamp || (is_some (problem_of rules size (sym none i)) || list_any is_last (sym none i))) None (Some (Content stamp exec))))
        ∙ ap (need rules size (spared_by before) q (listed_in rules size hs q) (fetched_in rules size hs q)) (sym held) ∙ whole q)

    unspared_where_read : (a : Answer Bytes) (f : List (Answer Bytes)) → fetched_in rules size hs q ≡ a ∷ f → IsOnce hs q → spared_by before q stamp ≡ false
    unspared_where_read a f is (inl none) = absurd (let clash : a ∷ f ≡ [] = sym is ∙ none in cc)
    unspared_where_read a f is (inr r) = ap (spared_by before q) (same_stamps rules size before new_root 0 stamp r.stamp exec r.exec (sym held ∙ r.held_is)) ∙ r.unspared

    fewer : (n : ℕ) → nat_lt (1 + n) 1 ≡ false
    fewer n = grind arith

    unfetched_is_spared : (f : List (Answer Bytes)) → fetched_in rules size hs q ≡ f → nat_lt (length f) 1 ≡ spared_by before q stamp
    unfetched_is_spared [] is = sym (spared_where_unread is)
    unfetched_is_spared (a ∷ f) is = (let e : length (a ∷ f) ≡ 1 + length f = omega arith in ap (λ n. nat_lt n 1) e) ∙ fewer (length f) ∙ sym (unspared_where_read a f is (once q))

-- ---- the laws

both_true : (a b : Bool) → a ≡ true → b ≡ true → (a && b) ≡ true
both_true a b h k = (λ i. h i && k i)

pub whole_has_no_next : WholeHasNoNext
whole_has_no_next m rules before after scanned =
    (λ i. asks_a_scans_list m rules before after scanned i && not (is_some (sym (asks_what_points_say m rules before after scanned) i)))

module _ (m : ScanTold) (rules : List Meaning) (before after : ByPath Line) (scanned : IsScanned m rules before after) (whole : asked (state_of m) ≡ None) where
  none_needed : (q : Names) → need_in rules m.size (spared_by before) (heard_by m) q ≡ None
  none_needed q =
      is_none (need_in rules m.size (spared_by before) (heard_by m) q)
      (sym (wanted_some rules m.size (spared_by before) (heard_by m) q)
      ∙ ap is_some (whole_wants_nothing rules m.size before after (heard_by m) (state_of m) (ready_now m rules before after scanned) (tied_now m rules before after scanned) whole q))

  once_all : (q : Names) → IsOnce rules m.size before (heard_by m) q
  once_all = (all_grow rules m.size before m.entries after new_state m.told [] before scanned.taken scanned.one_rules scanned.one_cache new_ready (new_tied rules m.size before)).once (λ q. inl refl)

  abbrev unfetched : Names → Stamp → Bool
  unfetched = is_unfetched length m.entries rules m.size (heard_by m)

  agree_all : Agrees rules m.size before m.entries after unfetched (heard_by m)
  agree_all q stamp exec held followed = unfetched_is_spared rules m.size before (heard_by m) none_needed once_all q stamp exec held followed (fetched_in rules m.size (heard_by m) q) refl

  whole_listed : is_scan_list length m.entries rules m.size unfetched (heard_by m) ≡ true
  whole_listed = listed_so rules m.size before m.entries after unfetched new_state m.told [] before scanned.taken scanned.one_rules scanned.one_cache new_ready (new_tied rules m.size before) agree_all refl (omega arith)

  nothing_next : asked_next length rules m.size (heard_by m) unfetched ≡ None
  nothing_next = same_asked rules m.size (heard_by m) unfetched (spared_by before) agree_all ∙ sym (asks_what_points_say m rules before after scanned) ∙ whole

  pub whole_scan : is_whole_scan length m.entries rules m.size (heard_by m) ≡ true
  whole_scan = both_true (is_scan_list length m.entries rules m.size unfetched (heard_by m)) _ whole_listed (ap (λ (o : Option Op). not (is_some o)) nothing_next)

pub whole_is_whole_scan : WholeIsWholeScan
whole_is_whole_scan m rules before after scanned whole = whole_scan m rules before after scanned whole
