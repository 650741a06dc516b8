-- Each answer keeps a scan tied to what was heard.
use Rattle.std.proofs.Common.{◌≡◌, inl, inr, ℕ, Bool, true, false, cond, List, [], ◌∷◌, ◌++◌, length, nat_lt, sum_by, refl, sym, ap, subst, ◌∙◌, Option, Some, None}
use Rattle.std.specs.FinMap as map
use Rattle.std.specs.List.{list_any}
use Rattle.std.specs.Option.{is_some}
use Rattle.std.specs.Ordering.{eq_by_cmp}
use Rattle.std.proofs.lemmas.List.{append_assoc, append-nil, nil_from_length}
use Rattle.sha2.specs.Sha256.{sha256}
use Rattle.sync_path.specs.Path.{path_cmp}
use Rattle.sync_path.specs.PathOrder.{path_cmp_total}
use Rattle.entry_tree.specs.Tree.{Names, ByPath}
use Rattle.entry_tree.specs.declared.entry.Stamp.{Stamp}
use Rattle.entry_tree.specs.declared.problem_kind.ProblemKind.{ProblemKind}
use Rattle.entry_tree.specs.declared.problem_kind.ProblemKind.TheVariants as problem
use Rattle.entry_tree.proofs.Trees.{root_or_child}
use Rattle.ignore_glob.specs.Grammar.{Meaning}
use Rattle.roots_api.specs.Answers.{IsAnswerTo}
use Rattle.roots_api.specs.declared.answer.Answer.{Answer}
use Rattle.roots_api.specs.declared.answer.Answer.TheVariants.{Listed, Held, Piece, Changed, TooLarge, Cleared, Opened, Kept, NotStaged, DigestDiffers, Done, NoParent, Differs, NoLink, NoExec, NotEmpty, Full, Failed}
use Rattle.roots_api.specs.declared.op.Op.TheVariants.{List as OpList, Fetch}
use Rattle.scan_cache.specs.Cache.{with_line}
use Rattle.scan_cache.specs.declared.line.Line.{Line}
use Rattle.scan_core.specs.Board.{shows_file}
use Rattle.scan_core.specs.Ignoring.{verdict, ignores, or_else, says_so}
use Rattle.scan_core.specs.Scan.{ScanState, new_state, asked, asked_for, asked_at, after_list, after_piece, after_fetch, after_wanted, after_asked, after_told, after_all, with_problem, file_done, ends_list, ends_fetch, ends_wanted, ends_asked, ends_by, learns_piece, learns_fetch, learns_wanted, learns_asked, learns, IsAnswered, AreTaken}
use Rattle.scan_core.specs.Told.{Told}
use Rattle.scan_core.specs.declared.board.Board.{Board}
use Rattle.scan_core.specs.declared.wanted.Next.{Next}
use Rattle.scan_core.specs.declared.wanted.Wanted.{Wanted}
use Rattle.scan_core.specs.declared.wanted.Wanted.TheVariants.{Names as WantedNames, Content}
use Rattle.scan_laws.specs.Bounds.{heard_as, heard_from}
use Rattle.scan_laws.specs.Caches.{IsOneCache}
use Rattle.scan_laws.specs.Meeting.{HaveRules, spared_by}
use Rattle.scan_laws.specs.Seen.{Heard, is_last, piece_len}
use Rattle.scan_laws.proofs.Fetching.{problem_settles, last_settles, still_in_course, still_apart, piece_problem, ended_more, problem_more, needs, fetch_quiet, fetch_lines}
use Rattle.scan_laws.proofs.Heard.{Quiet, held_child, or_left}
use Rattle.scan_laws.proofs.Points.{Bytes, with_heard, fetched_in, held_in, problem_of, need, settled}
use Rattle.scan_laws.proofs.Seeing.{Ready, NextOpen, asked_ready, itself}
use Rattle.scan_laws.proofs.Standing.{IsOpen}
use Rattle.scan_laws.proofs.Tying.{PointTied, Lines, InCourse, NextTied, is_at, Tied, next_ties, nothing_held, entry_held, rows_settle}

-- the root isn't ignored
no_verdict : (rules : List Meaning) (is_dir : Bool) → verdict rules [] is_dir ≡ None
no_verdict [] is_dir = refl
no_verdict (r ∷ rules) is_dir = ap (λ (v : Option Bool). or_else v None) (no_verdict rules is_dir)

pub root_followed : (rules : List Meaning) → ignores rules [] true ≡ false
root_followed rules = ap says_so (no_verdict rules true)

module _ (rules : List Meaning) (size : ℕ) (before cache : ByPath Line) (hs : List (Heard Bytes)) (s : ScanState) (ready : Ready s.board) (p : Names) (free : IsOpen s.board p)
    (quiet : Quiet rules size hs) (lines : Lines rules size before cache hs) (points : (q : Names) → eq_by_cmp path_cmp q p ≡ false → PointTied rules size before hs s.board q) where
  module _ (course : InCourse rules size before hs s.board.later s.begun p WantedNames) where
    begun_none : s.begun ≡ []
    begun_none = nil_from_length s.begun (sym course.counted ∙ ap (sum_by (piece_len length)) course.bare)

    restart : (answer : Answer Bytes) (b : Board) → Tied rules size before cache (with_heard hs (OpList p) answer) (record { board = b; begun = [] }) → Tied rules size before cache (with_heard hs (OpList p) answer) (record { board = b; begun = s.begun })
    restart answer b t = subst (λ begun. Tied rules size before cache (with_heard hs (OpList p) answer) (record { board = b; begun = begun })) (sym begun_none) t

    pub list_ties : (entries count : ℕ) (answer : Answer Bytes) → IsAnswerTo (OpList p) answer → ends_list entries count answer ≡ None
        → Tied rules size before cache (with_heard hs (OpList p) answer) (record { board = after_list rules cache s.board p answer; begun = s.begun })
    list_ties entries count (Listed rows) h g =
        restart (Listed rows) _ (next_ties rules size before cache _ _ (rows_settle rules size before cache hs s.board s.begun ready.stands p free quiet lines points course rows h))
    list_ties entries count (Held None) h g =
        restart (Held None) _ (next_ties rules size before cache _ _ (nothing_held rules size before cache hs s.board s.begun ready.stands p free quiet lines points course))
    list_ties entries count (Held (Some e)) h g =
        restart (Held (Some e)) _ (next_ties rules size before cache _ _ (entry_held rules size before cache hs s.board s.begun ready.stands p free quiet lines points course e h))
    list_ties entries count (Piece bytes last) h g = absurd h
    list_ties entries count (Changed found) h g = absurd h
    list_ties entries count (TooLarge bytes) h g = absurd h
    list_ties entries count Cleared h g = absurd h
    list_ties entries count Opened h g = absurd h
    list_ties entries count Kept h g = absurd h
    list_ties entries count NotStaged h g = absurd h
    list_ties entries count (DigestDiffers wanted got) h g = absurd h
    list_ties entries count (Done made) h g = absurd h
    list_ties entries count (NoParent found) h g = absurd h
    list_ties entries count (Differs found) h g = absurd h
    list_ties entries count NoLink h g = absurd h
    list_ties entries count NoExec h g = absurd h
    list_ties entries count NotEmpty h g = absurd h
    list_ties entries count (Full room) h g = absurd (cc)
    list_ties entries count Failed h g = absurd (cc)

  module _ (stamp : Stamp) (exec : Bool) (course : InCourse rules size before hs s.board.later s.begun p (Content stamp exec)) (is_next : s.board.next ≡ Some (record { path = p; wanted = Content stamp exec })) where
    abbrev FetchTied : ByPath Line → Answer Bytes → ScanState → Type 0
    FetchTied after answer to = Tied rules size before after (with_heard hs (Fetch p stamp (length s.begun)) answer) to

    unmet : problem_of rules size (fetched_in rules size hs p) ≡ None
    unmet = (needs rules size before cache hs s.board s.begun ready.stands p free quiet lines points stamp exec course).unmet

    unended : list_any is_last (fetched_in rules size hs p) ≡ false
    unended = (needs rules size before cache hs s.board s.begun ready.stands p free quiet lines points stamp exec course).unended

    bad_ties : (answer : Answer Bytes) (kind : ProblemKind) → problem_of rules size (fetched_in rules size hs p ++ answer ∷ []) ≡ Some kind → FetchTied cache answer (with_problem s.board p kind)
    bad_ties answer kind met = next_ties rules size before cache _ _ (problem_settles rules size before cache hs s.board s.begun ready.stands p free quiet lines points stamp exec course answer kind met)

    goes_on_ties : (bytes : Bytes) → nat_lt size (length (s.begun ++ bytes)) ≡ false → FetchTied cache (Piece bytes false) (record { board = s.board; begun = s.begun ++ bytes })
    goes_on_ties bytes fits = record {
      quiet = fetch_quiet rules size before cache hs s.board s.begun ready.stands p free quiet lines points stamp exec course (Piece bytes false);
      lines = fetch_lines rules size before cache hs s.board s.begun ready.stands p free quiet lines points stamp exec course (Piece bytes false) cache (λ q apart. refl);
      points = λ q apart. still_apart rules size before cache hs s.board s.begun ready.stands p free quiet lines points stamp exec course bytes fits q (ap (λ n. is_at rules size before n q) (sym is_next) ∙ apart);
      next = subst (NextTied rules size before (with_heard hs (Fetch p stamp (length s.begun)) (Piece bytes false)) s.board.later (s.begun ++ bytes)) (sym is_next)
          (still_in_course rules size before cache hs s.board s.begun ready.stands p free quiet lines points stamp exec course bytes fits);
    }

    whole_ties : (bytes : Bytes) → nat_lt size (length (s.begun ++ bytes)) ≡ false
        → FetchTied (with_line cache p stamp (sha256 (s.begun ++ bytes))) (Piece bytes true) (file_done (shows_file s.board p stamp exec (sha256 (s.begun ++ bytes))))
    whole_ties bytes fits =
        let d = sha256 (s.begun ++ bytes) in
        next_ties rules size before (with_line cache p stamp d) _ _ (last_settles rules size before cache hs s.board s.begun ready.stands p free quiet lines points stamp exec course (Piece bytes true) (with_line cache p stamp d)
        (λ q apart. map.get-insert path_cmp_total cache p (record { stamp = stamp; digest = d }) q ∙ ap (λ c. cond c (Some (record { stamp = stamp; digest = d })) (map.get cache q)) apart) d
        (piece_problem rules size (fetched_in rules size hs p) unmet s.begun bytes true course.counted false fits) (ended_more (fetched_in rules size hs p) bytes true unended))

    piece_ties : (bytes : Bytes) (last : Bool) → FetchTied (learns_piece size cache p stamp (s.begun ++ bytes) last) (Piece bytes last) (after_piece size s.board p stamp exec (s.begun ++ bytes) last)
    piece_ties bytes last =
        elim (nat_lt size (length (s.begun ++ bytes))) as (λ c. nat_lt size (length (s.begun ++ bytes)) ≡ c
        → FetchTied (cond c cache (cond last (with_line cache p stamp (sha256 (s.begun ++ bytes))) cache)) (Piece bytes last)
        (cond c (with_problem s.board p problem.TooLarge) (cond last (file_done (shows_file s.board p stamp exec (sha256 (s.begun ++ bytes)))) (record { board = s.board; begun = s.begun ++ bytes })))) [
          | true ↦ λ e. bad_ties (Piece bytes last) problem.TooLarge (piece_problem rules size (fetched_in rules size hs p) unmet s.begun bytes last course.counted true e)
          | false ↦ λ e. elim last as (λ l. FetchTied (cond l (with_line cache p stamp (sha256 (s.begun ++ bytes))) cache) (Piece bytes l) (cond l (file_done (shows_file s.board p stamp exec (sha256 (s.begun ++ bytes)))) (record { board = s.board; begun = s.begun ++ bytes }))) [
            | true ↦ whole_ties bytes e
            | false ↦ goes_on_ties bytes e
          ]
        ] refl

    pub fetch_ties : (answer : Answer Bytes) → IsAnswerTo (Fetch p stamp (length s.begun)) answer → ends_fetch answer ≡ None → FetchTied (learns_fetch size cache p stamp s.begun answer) answer (after_fetch size s.board p stamp exec s.begun answer)
    fetch_ties (Listed rows) h g = absurd h
    fetch_ties (Held found) h g = absurd h
    fetch_ties (Piece bytes last) h g = piece_ties bytes last
    fetch_ties (Changed found) h g = bad_ties (Changed found) problem.Changed (problem_more rules size (fetched_in rules size hs p) unmet (Changed found))
    fetch_ties (TooLarge bytes) h g = bad_ties (TooLarge bytes) problem.TooLarge (problem_more rules size (fetched_in rules size hs p) unmet (TooLarge bytes))
    fetch_ties Cleared h g = absurd h
    fetch_ties Opened h g = absurd h
    fetch_ties Kept h g = absurd h
    fetch_ties NotStaged h g = absurd h
    fetch_ties (DigestDiffers wanted got) h g = absurd h
    fetch_ties (Done made) h g = absurd h
    fetch_ties (NoParent found) h g = absurd h
    fetch_ties (Differs found) h g = absurd h
    fetch_ties NoLink h g = absurd h
    fetch_ties NoExec h g = absurd h
    fetch_ties NotEmpty h g = absurd h
    fetch_ties (Full room) h g = absurd (cc)
    fetch_ties Failed h g = bad_ties Failed problem.Failed (problem_more rules size (fetched_in rules size hs p) unmet Failed)

-- ---- one answer

module _ (entries size : ℕ) (rules : List Meaning) (before cache : ByPath Line) (hs : List (Heard Bytes)) (s : ScanState) (t : Told) (rules_are : t.rules ≡ rules) (cache_is : t.cache ≡ cache) (ready : Ready s.board)
    (tied : Tied rules size before cache hs s) where
  wanted_ties : (p : Names) (w : Wanted) → s.board.next ≡ Some (record { path = p; wanted = w }) → IsOpen s.board p → InCourse rules size before hs s.board.later s.begun p w
      → IsAnswered (Some (asked_at (length s.begun) p w)) t.answer → ends_wanted entries s.board.rows t.answer w ≡ None
      → Tied rules size before (learns_wanted size s.begun t p w) (with_heard hs (asked_at (length s.begun) p w) t.answer) (after_wanted size s t p w)
  wanted_ties p WantedNames is free course h g =
      let points = λ (q : Names) (apart : eq_by_cmp path_cmp q p ≡ false). tied.points q (ap (λ n. is_at rules size before n q) is ∙ apart) in
      let done = list_ties rules size before cache hs s ready p free tied.quiet tied.lines points course entries s.board.rows t.answer h g in
      subst (λ r. Tied rules size before t.cache (with_heard hs (OpList p) t.answer) (record { board = after_list r t.cache s.board p t.answer; begun = s.begun })) (sym rules_are)
      (subst (λ c. Tied rules size before c (with_heard hs (OpList p) t.answer) (record { board = after_list rules c s.board p t.answer; begun = s.begun })) (sym cache_is) done)
  wanted_ties p (Content stamp exec) is free course h g =
      let points = λ (q : Names) (apart : eq_by_cmp path_cmp q p ≡ false). tied.points q (ap (λ n. is_at rules size before n q) is ∙ apart) in
      subst (λ c. Tied rules size before (learns_fetch size c p stamp s.begun t.answer) (with_heard hs (Fetch p stamp (length s.begun)) t.answer) (after_fetch size s.board p stamp exec s.begun t.answer)) (sym cache_is)
      (fetch_ties rules size before cache hs s ready p free tied.quiet tied.lines points stamp exec course is t.answer h g)

  asked_ties : (next : Option Next) → s.board.next ≡ next → NextOpen s.board next → NextTied rules size before hs s.board.later s.begun next
      → IsAnswered (asked_for (length s.begun) next) t.answer → ends_asked entries s.board.rows t.answer next ≡ None
      → Tied rules size before (learns_asked size s.begun t next) (hs ++ heard_as (asked_for (length s.begun) next) t.answer) (after_asked size s t next)
  asked_ties None is free course h g = absurd h
  asked_ties (Some next) is free course h g = wanted_ties next.path next.wanted is free course h g

  pub told_ties : IsAnswered (asked s) t.answer → ends_by entries s t.answer ≡ None → Tied rules size before (learns size s t) (hs ++ heard_as (asked s) t.answer) (after_told size s t)
  told_ties h g = asked_ties s.board.next refl ready.next tied.next h g

-- ---- all answers

module _ (entries size : ℕ) (rules : List Meaning) (before after : ByPath Line) where
  pub all_tied : (s : ScanState) (ts : List Told) (hs : List (Heard Bytes)) (cache : ByPath Line) → AreTaken entries size s ts → HaveRules rules ts → IsOneCache size s cache ts after → Ready s.board → Tied rules size before cache hs s
      → Tied rules size before after (hs ++ heard_from size s ts) (after_all size s ts)
  all_tied s [] hs cache taken same one ready tied =
      subst (λ c. Tied rules size before c (hs ++ []) s) (sym one) (subst (λ l. Tied rules size before cache l s) (sym (append-nil hs)) tied)
  all_tied s (t ∷ ts) hs cache taken same one ready tied =
      let now = heard_as (asked s) t.answer in
      subst (λ l. Tied rules size before after l (after_all size (after_told size s t) ts)) (append_assoc hs now (heard_from size (after_told size s t) ts))
      (all_tied (after_told size s t) ts (hs ++ now) (learns size s t) taken.2 same.1 one.1 (asked_ready size s t s.board.next ready ready.next taken.0)
      (told_ties entries size rules before cache hs s t same.0 one.0 ready tied taken.0 taken.1))

-- ---- as it begins

module _ (rules : List Meaning) (size : ℕ) (before : ByPath Line) where
  nothing_held_yet : (q : Names) → eq_by_cmp path_cmp q [] ≡ false → held_in rules size [] q ≡ None
  nothing_held_yet q apart = elim (root_or_child q) [
    | inl is_root ↦ absurd (let clash : true ≡ false = sym (itself []) ∙ ap (λ r. eq_by_cmp path_cmp r []) (sym is_root) ∙ apart in cc)
    | inr child ↦ ap (held_in rules size []) child.2 ∙ held_child rules size [] child.0 child.1 refl
  ]

  pub new_tied : Tied rules size before before [] new_state
  new_tied = record {
    quiet = record { unlisted = λ f n h. refl; unfetched = λ f n h. refl };
    lines = record { same = λ q h. refl };
    points = λ q apart.
        let none = nothing_held_yet q apart in
        record {
          needed = map.get-empty path_cmp q ∙ ap (need rules size (spared_by before) q None []) (sym none);
          seen = λ digest spells. map.get-empty path_cmp q ∙ ap (settled rules size (spared_by before) digest q None []) (sym none);
          fresh = λ h. refl;
          named = λ h. absurd (let clash : false ≡ true = sym (ap is_some (map.get-empty path_cmp q)) ∙ h in cc);
        };
    next = record {
      needed = ap (λ c. cond c None (Some WantedNames)) (root_followed rules);
      named = or_left _ false (itself []);
      least = λ q h. absurd (let clash : false ≡ true = sym (ap is_some (map.get-empty path_cmp q)) ∙ h in cc);
      counted = refl;
      bare = refl;
    };
  }
