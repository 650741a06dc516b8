-- A scan of a root on which nothing changes sees its look.
use Rattle.std.proofs.Common.{◌≡◌, ◌⊎◌, inl, inr, ℕ, ◌+◌, ◌≤◌, zero, suc, ◌==◌, Bool, true, false, cond, ◌||◌, List, [], ◌∷◌, ◌++◌, length, take, drop, nat_lt, nat_le, filter_map, sum_by, refl, sym, ap, subst, ◌∙◌, Option, Some, None, option_and_then, arith}
use Rattle.std.specs.FinMap as map
use Rattle.std.specs.List.{list_any, cons_option}
use Rattle.std.specs.Ordering.{eq_by_cmp}
use Rattle.std.proofs.lemmas.List.{append_assoc, append-nil, length-append, nil_from_length, take-append-drop}
use Rattle.std.proofs.lemmas.Bool.{leb-true}
use Rattle.std.proofs.Math.Seq.{drop-append_seam}
use Rattle.sha2.specs.Sha256.{sha256}
use Rattle.sync_path.specs.Path.{path_cmp}
use Rattle.sync_path.specs.PathOrder.{path_cmp_total}
use Rattle.entry_tree.specs.Tree.{Names, ByPath}
use Rattle.entry_tree.specs.declared.entry.Stamp.{Stamp}
use Rattle.entry_tree.specs.declared.problem_kind.ProblemKind.{ProblemKind}
use Rattle.entry_tree.specs.declared.problem_kind.ProblemKind.TheVariants as problem
use Rattle.ignore_glob.specs.Grammar.{Meaning}
use Rattle.roots_api.specs.States.{RootState, content_of, has_stamp}
use Rattle.roots_api.specs.Steps.{answer_of, piece_of}
use Rattle.roots_api.specs.declared.answer.Answer.{Answer}
use Rattle.roots_api.specs.declared.answer.Answer.TheVariants.{Listed, Held, Piece, Changed, TooLarge, Cleared, Opened, Kept, NotStaged, DigestDiffers, Done, NoParent, Differs, NoLink, NoExec, NotEmpty, Full, Failed}
use Rattle.roots_api.specs.declared.limits.TheConstants.{MAX_FETCH, MAX_PIECE}
use Rattle.roots_api.specs.declared.op.Op.TheVariants.{List as OpList, Fetch}
use Rattle.scan_cache.specs.Cache.{digest_for, line_of, with_line}
use Rattle.scan_cache.specs.declared.line.Line.{Line}
use Rattle.scan_core.specs.Board.{left_alone}
use Rattle.scan_core.specs.Scan.{ScanState, asked, asked_for, asked_at, after_piece, after_fetch, after_wanted, after_asked, after_told, with_problem, file_done, ends_asked, ends_wanted, ends_fetch, learns_fetch, learns_wanted, learns_asked, learns, IsAnswered, AreTaken}
use Rattle.scan_core.specs.Told.{Told}
use Rattle.scan_core.specs.declared.wanted.Next.{Next}
use Rattle.scan_core.specs.declared.wanted.Wanted.{Wanted}
use Rattle.scan_core.specs.declared.wanted.Wanted.TheVariants.{Names as WantedNames, Content}
use Rattle.scan_laws.specs.Bounds.{heard_as, heard_from}
use Rattle.scan_laws.specs.Caches.{IsOneCache}
use Rattle.scan_laws.specs.Meeting.{HaveRules, spared_by}
use Rattle.scan_laws.specs.Seen.{Heard, problem_by, is_last, piece_len}
use Rattle.scan_laws.specs.Undisturbed.{AnsweredOn}
use Rattle.scan_laws.proofs.Fetching.{problem_more, piece_problem, ended_more}
use Rattle.scan_laws.proofs.Going.{told_ties}
use Rattle.scan_laws.proofs.Needs.{needs_names, needs_content}
use Rattle.scan_laws.proofs.Points.{Bytes, with_heard, listed_in, fetched_in, held_in, problem_of, need_in, need}
use Rattle.scan_laws.proofs.Reading.{piece_bytes, joined, joined_more, joined_length, FetchedOn, BegunIs, Reads, list_reads, fetch_reads}
use Rattle.scan_laws.proofs.Seeing.{Ready, asked_ready, itself}
use Rattle.scan_laws.proofs.Tying.{Tied, InCourse, NextTied}

stamp_itself : (n : ℕ) → (n == n) ≡ true
stamp_itself n = grind arith

-- ---- what is read, answer by answer

module _ (rules : List Meaning) (size : ℕ) (before : ByPath Line) (s : RootState) (id : ℕ) where
  -- nothing was read of what is asked next, where no bytes are kept
  begun_from_tied : (cache : ByPath Line) (hs : List (Heard Bytes)) (later : ByPath Wanted) (next : Option Next) → NextTied rules size before hs later [] next → BegunIs rules size before s id hs [] next
  begun_from_tied cache hs later None course = tt
  begun_from_tied cache hs later (Some next) course =
      let none : length (joined (fetched_in rules size hs next.path)) ≡ 0 = joined_length (fetched_in rules size hs next.path) ∙ course.counted in
      sym (nil_from_length (joined (fetched_in rules size hs next.path)) none)

  learns_digest : (cache : ByPath Line) (p : Names) (stamp : Stamp) (d : List ℕ) → digest_for (with_line cache p stamp d) p stamp ≡ Some d
  learns_digest cache p stamp d =
      ap (option_and_then (line_of stamp)) (map.get-insert path_cmp_total cache p (record { stamp = stamp; digest = d }) p)
      ∙ ap (λ c. option_and_then (line_of stamp) (cond c (Some (record { stamp = stamp; digest = d })) (map.get cache p))) (itself p)
      ∙ ap (λ c. cond c (Some d) None) (stamp_itself stamp.0)

  module _ (cache : ByPath Line) (f : List (Answer Bytes)) (unmet : problem_of rules size f ≡ None) (unended : list_any is_last f ≡ false) (p : Names) (stamp : Stamp) (begun : Bytes)
      (counted : sum_by (piece_len length) f ≡ length begun) (begun_is : begun ≡ joined f) where
    abbrev Learnt : Answer Bytes → Type 0
    Learnt answer =
        problem_of rules size (f ++ answer ∷ []) ≡ None → list_any is_last (f ++ answer ∷ []) ≡ true
        → digest_for (learns_fetch size cache p stamp begun answer) p stamp ≡ Some (sha256 (joined (f ++ answer ∷ [])))

    bad_learnt : (answer : Answer Bytes) (kind : ProblemKind) → problem_of rules size (f ++ answer ∷ []) ≡ Some kind → Learnt answer
    bad_learnt answer kind met none ended = absurd (let clash : Some kind ≡ None = sym met ∙ none in cc)

    piece_learnt : (bytes : Bytes) (last over : Bool) → nat_lt size (length (begun ++ bytes)) ≡ over → problem_of rules size (f ++ Piece bytes last ∷ []) ≡ None → list_any is_last (f ++ Piece bytes last ∷ []) ≡ true
        → digest_for (cond over cache (cond last (with_line cache p stamp (sha256 (begun ++ bytes))) cache)) p stamp ≡ Some (sha256 (joined (f ++ Piece bytes last ∷ [])))
    piece_learnt bytes last true is none ended = absurd (let clash : Some problem.TooLarge ≡ None = sym (piece_problem rules size f unmet begun bytes last counted true is) ∙ none in cc)
    piece_learnt bytes false false is none ended = absurd (let clash : false ≡ true = sym (ended_more f bytes false unended) ∙ ended in cc)
    piece_learnt bytes true false is none ended =
        learns_digest cache p stamp (sha256 (begun ++ bytes))
        ∙ ap (λ l. Some (sha256 l)) (ap (λ l. l ++ bytes) begun_is ∙ sym (joined_more f (Piece bytes true)))

    learnt_now : (answer : Answer Bytes) → IsAnswered (Some (asked_at (length begun) p (Content stamp true))) answer → ends_fetch answer ≡ None → Learnt answer
    learnt_now (Listed rows) h g = absurd h
    learnt_now (Held found) h g = absurd h
    learnt_now (Piece bytes last) h g = piece_learnt bytes last (nat_lt size (length (begun ++ bytes))) refl
    learnt_now (Changed found) h g = bad_learnt (Changed found) problem.Changed (problem_more rules size f unmet (Changed found))
    learnt_now (TooLarge bytes) h g = bad_learnt (TooLarge bytes) problem.TooLarge (problem_more rules size f unmet (TooLarge bytes))
    learnt_now Cleared h g = absurd h
    learnt_now Opened h g = absurd h
    learnt_now Kept h g = absurd h
    learnt_now NotStaged h g = absurd h
    learnt_now (DigestDiffers wanted got) h g = absurd h
    learnt_now (Done made) h g = absurd h
    learnt_now (NoParent found) h g = absurd h
    learnt_now (Differs found) h g = absurd h
    learnt_now NoLink h g = absurd h
    learnt_now NoExec h g = absurd h
    learnt_now NotEmpty h g = absurd h
    learnt_now (Full room) h g = absurd (cc)
    learnt_now Failed h g = bad_learnt Failed problem.Failed (problem_more rules size f unmet Failed)

  -- a piece that is learnt changes the cache at its path alone
  others_stay : (cache : ByPath Line) (p : Names) (stamp : Stamp) (begun : Bytes) (answer : Answer Bytes) (q : Names) → eq_by_cmp path_cmp q p ≡ false → map.get (learns_fetch size cache p stamp begun answer) q ≡ map.get cache q
  others_stay cache p stamp begun (Piece bytes last) q apart =
      elim (nat_lt size (length (begun ++ bytes))) as (λ c. map.get (cond c cache (cond last (with_line cache p stamp (sha256 (begun ++ bytes))) cache)) q ≡ map.get cache q) [
        | true ↦ refl
        | false ↦ elim last as (λ l. map.get (cond l (with_line cache p stamp (sha256 (begun ++ bytes))) cache) q ≡ map.get cache q) [
          | true ↦ map.get-insert path_cmp_total cache p (record { stamp = stamp; digest = sha256 (begun ++ bytes) }) q ∙ ap (λ c. cond c (Some (record { stamp = stamp; digest = sha256 (begun ++ bytes) })) (map.get cache q)) apart
          | false ↦ refl
        ]
      ]
  others_stay cache p stamp begun (Listed rows) q apart = refl
  others_stay cache p stamp begun (Held found) q apart = refl
  others_stay cache p stamp begun (Changed found) q apart = refl
  others_stay cache p stamp begun (TooLarge bytes) q apart = refl
  others_stay cache p stamp begun Cleared q apart = refl
  others_stay cache p stamp begun Opened q apart = refl
  others_stay cache p stamp begun Kept q apart = refl
  others_stay cache p stamp begun NotStaged q apart = refl
  others_stay cache p stamp begun (DigestDiffers wanted got) q apart = refl
  others_stay cache p stamp begun (Done made) q apart = refl
  others_stay cache p stamp begun (NoParent found) q apart = refl
  others_stay cache p stamp begun (Differs found) q apart = refl
  others_stay cache p stamp begun NoLink q apart = refl
  others_stay cache p stamp begun NoExec q apart = refl
  others_stay cache p stamp begun NotEmpty q apart = refl
  others_stay cache p stamp begun (Full room) q apart = refl
  others_stay cache p stamp begun Failed q apart = refl

  -- ---- one answer

  module _ (entries : ℕ) (cache : ByPath Line) (hs : List (Heard Bytes)) (st : ScanState) (t : Told) (rules_are : t.rules ≡ rules) (cache_is : t.cache ≡ cache) (ready : Ready st.board)
      (tied : Tied rules size before cache hs st) (reads : Reads rules size before s id cache hs) where
    list_now : (p : Names) → InCourse rules size before hs st.board.later st.begun p WantedNames → t.answer ≡ answer_of s id (OpList p) → Reads rules size before s id cache (with_heard hs (OpList p) t.answer)
    list_now p course on =
        list_reads rules size before s id cache hs reads tied.quiet p t.answer
        (needs_names rules size (spared_by before) p (listed_in rules size hs p) (fetched_in rules size hs p) (held_in rules size hs p) course.needed) on

    fetch_now : (p : Names) (stamp : Stamp) (exec : Bool) → InCourse rules size before hs st.board.later st.begun p (Content stamp exec) → st.begun ≡ joined (fetched_in rules size hs p)
        → IsAnswered (Some (asked_at (length st.begun) p (Content stamp exec))) t.answer → ends_fetch t.answer ≡ None → t.answer ≡ answer_of s id (Fetch p stamp (length st.begun))
        → Reads rules size before s id (learns_fetch size cache p stamp st.begun t.answer) (with_heard hs (Fetch p stamp (length st.begun)) t.answer)
    fetch_now p stamp exec course begun_is h g on =
        let needs = needs_content rules size (spared_by before) p (listed_in rules size hs p) (fetched_in rules size hs p) (held_in rules size hs p) stamp exec course.needed in
        fetch_reads rules size before s id cache (learns_fetch size cache p stamp st.begun t.answer) hs reads p stamp exec st.begun t.answer needs course.counted on
        (others_stay cache p stamp st.begun t.answer)
        (learnt_now cache (fetched_in rules size hs p) needs.unmet needs.unended p stamp st.begun course.counted begun_is t.answer h g)

    wanted_now : (p : Names) (w : Wanted) → InCourse rules size before hs st.board.later st.begun p w → st.begun ≡ joined (fetched_in rules size hs p)
        → IsAnswered (Some (asked_at (length st.begun) p w)) t.answer → ends_wanted entries st.board.rows t.answer w ≡ None → t.answer ≡ answer_of s id (asked_at (length st.begun) p w)
        → Reads rules size before s id (learns_wanted size st.begun t p w) (with_heard hs (asked_at (length st.begun) p w) t.answer)
    wanted_now p WantedNames course begun_is h g on = subst (λ c. Reads rules size before s id c (with_heard hs (OpList p) t.answer)) (sym cache_is) (list_now p course on)
    wanted_now p (Content stamp exec) course begun_is h g on =
        subst (λ c. Reads rules size before s id (learns_fetch size c p stamp st.begun t.answer) (with_heard hs (Fetch p stamp (length st.begun)) t.answer)) (sym cache_is) (fetch_now p stamp exec course begun_is h g on)

    asked_reads : (next : Option Next) → NextTied rules size before hs st.board.later st.begun next → BegunIs rules size before s id hs st.begun next
        → IsAnswered (asked_for (length st.begun) next) t.answer → ends_asked entries st.board.rows t.answer next ≡ None → AnsweredOn s id (heard_as (asked_for (length st.begun) next) t.answer)
        → Reads rules size before s id (learns_asked size st.begun t next) (hs ++ heard_as (asked_for (length st.begun) next) t.answer)
    asked_reads None course begun_is h g on = absurd h
    asked_reads (Some next) course begun_is h g on = wanted_now next.path next.wanted course begun_is h g on.0

    -- ---- the bytes that are kept of a file

    abbrev KeptBytes : List (Heard Bytes) → ScanState → Type 0
    KeptBytes more after = BegunIs rules size before s id more after.begun after.board.next

    from_tied : (c : ByPath Line) (more : List (Heard Bytes)) (after : ScanState) → Tied rules size before c more after → after.begun ≡ [] → KeptBytes more after
    from_tied c more after tie none =
        subst (λ begun. BegunIs rules size before s id more begun after.board.next) (sym none)
        (begun_from_tied c more after.board.later after.board.next (subst (λ begun. NextTied rules size before more after.board.later begun after.board.next) none tie.next))

    module _ (p : Names) (stamp : Stamp) (exec : Bool) (is : st.board.next ≡ Some (record { path = p; wanted = Content stamp exec })) (begun_is : st.begun ≡ joined (fetched_in rules size hs p)) where
      abbrev fetched_with : Answer Bytes → List (Heard Bytes)
      fetched_with answer = with_heard hs (Fetch p stamp (length st.begun)) answer

      piece_kept : (bytes : Bytes) (last over : Bool) → ((c : ByPath Line) × Tied rules size before c (fetched_with (Piece bytes last)) (after_piece size st.board p stamp exec (st.begun ++ bytes) last))
          → nat_lt size (length (st.begun ++ bytes)) ≡ over → KeptBytes (fetched_with (Piece bytes last)) (after_piece size st.board p stamp exec (st.begun ++ bytes) last)
      piece_kept bytes last true tie over =
          from_tied tie.0 _ _ tie.1 (ap (λ c. (cond c (with_problem st.board p problem.TooLarge) (cond last (file_done (Rattle.scan_core.specs.Board.shows_file st.board p stamp exec (sha256 (st.begun ++ bytes)))) (record { board = st.board; begun = st.begun ++ bytes }))).begun) over)
      piece_kept bytes true false tie over =
          from_tied tie.0 _ _ tie.1 (ap (λ c. (cond c (with_problem st.board p problem.TooLarge) (file_done (Rattle.scan_core.specs.Board.shows_file st.board p stamp exec (sha256 (st.begun ++ bytes))))).begun) over)
      piece_kept bytes false false tie over =
          let grown : fetched_in rules size (fetched_with (Piece bytes false)) p ≡ fetched_in rules size hs p ++ Piece bytes false ∷ [] = Rattle.scan_laws.proofs.Points.fetched-here rules size hs p (Piece bytes false) stamp (length st.begun) (itself p) in
          let kept : st.begun ++ bytes ≡ joined (fetched_in rules size (fetched_with (Piece bytes false)) p) = ap (λ l. l ++ bytes) begun_is ∙ sym (joined_more (fetched_in rules size hs p) (Piece bytes false)) ∙ ap joined (sym grown) in
          subst (KeptBytes (fetched_with (Piece bytes false))) (sym (ap (λ c. cond c (with_problem st.board p problem.TooLarge) (record { board = st.board; begun = st.begun ++ bytes })) over))
          (subst (BegunIs rules size before s id (fetched_with (Piece bytes false)) (st.begun ++ bytes)) (sym is) kept)

      fetch_kept : (answer : Answer Bytes) → IsAnswered (Some (asked_at (length st.begun) p (Content stamp exec))) answer → ends_fetch answer ≡ None
          → ((c : ByPath Line) × Tied rules size before c (fetched_with answer) (after_fetch size st.board p stamp exec st.begun answer)) → KeptBytes (fetched_with answer) (after_fetch size st.board p stamp exec st.begun answer)
      fetch_kept (Listed rows) h g tie = absurd h
      fetch_kept (Held found) h g tie = absurd h
      fetch_kept (Piece bytes last) h g tie = piece_kept bytes last (nat_lt size (length (st.begun ++ bytes))) tie refl
      fetch_kept (Changed found) h g tie = from_tied tie.0 _ _ tie.1 refl
      fetch_kept (TooLarge bytes) h g tie = from_tied tie.0 _ _ tie.1 refl
      fetch_kept Cleared h g tie = absurd h
      fetch_kept Opened h g tie = absurd h
      fetch_kept Kept h g tie = absurd h
      fetch_kept NotStaged h g tie = absurd h
      fetch_kept (DigestDiffers wanted got) h g tie = absurd h
      fetch_kept (Done made) h g tie = absurd h
      fetch_kept (NoParent found) h g tie = absurd h
      fetch_kept (Differs found) h g tie = absurd h
      fetch_kept NoLink h g tie = absurd h
      fetch_kept NoExec h g tie = absurd h
      fetch_kept NotEmpty h g tie = absurd h
      fetch_kept (Full room) h g tie = absurd (cc)
      fetch_kept Failed h g tie = from_tied tie.0 _ _ tie.1 refl

    wanted_kept : (p : Names) (w : Wanted) → st.board.next ≡ Some (record { path = p; wanted = w }) → InCourse rules size before hs st.board.later st.begun p w → st.begun ≡ joined (fetched_in rules size hs p)
        → IsAnswered (Some (asked_at (length st.begun) p w)) t.answer → ends_wanted entries st.board.rows t.answer w ≡ None
        → ((c : ByPath Line) × Tied rules size before c (with_heard hs (asked_at (length st.begun) p w) t.answer) (after_wanted size st t p w)) → KeptBytes (with_heard hs (asked_at (length st.begun) p w) t.answer) (after_wanted size st t p w)
    wanted_kept p WantedNames is course begun_is h g tie = from_tied tie.0 _ _ tie.1 (nil_from_length st.begun (sym course.counted ∙ ap (sum_by (piece_len length)) course.bare))
    wanted_kept p (Content stamp exec) is course begun_is h g tie = fetch_kept p stamp exec is begun_is t.answer h g tie

    asked_kept : (next : Option Next) → st.board.next ≡ next → NextTied rules size before hs st.board.later st.begun next → BegunIs rules size before s id hs st.begun next
        → IsAnswered (asked_for (length st.begun) next) t.answer → ends_asked entries st.board.rows t.answer next ≡ None
        → ((c : ByPath Line) × Tied rules size before c (hs ++ heard_as (asked_for (length st.begun) next) t.answer) (after_asked size st t next)) → KeptBytes (hs ++ heard_as (asked_for (length st.begun) next) t.answer) (after_asked size st t next)
    asked_kept None is course begun_is h g tie = absurd h
    asked_kept (Some next) is course begun_is h g tie = wanted_kept next.path next.wanted is course begun_is h g tie

  pub on_front : (xs ys : List (Heard Bytes)) → AnsweredOn s id (xs ++ ys) → AnsweredOn s id xs
  on_front [] ys on = tt
  on_front (x ∷ xs) ys on = (on.0, on_front xs ys on.1)

  pub on_back : (xs ys : List (Heard Bytes)) → AnsweredOn s id (xs ++ ys) → AnsweredOn s id ys
  on_back [] ys on = on
  on_back (x ∷ xs) ys on = on_back xs ys on.1

  -- ---- all answers

  module _ (entries : ℕ) (after : ByPath Line) where
    pub all_read : (st : ScanState) (ts : List Told) (hs : List (Heard Bytes)) (cache : ByPath Line) → AreTaken entries size st ts → HaveRules rules ts → IsOneCache size st cache ts after → Ready st.board
        → Tied rules size before cache hs st → Reads rules size before s id cache hs → BegunIs rules size before s id hs st.begun st.board.next → AnsweredOn s id (heard_from size st ts)
        → Reads rules size before s id after (hs ++ heard_from size st ts)
    all_read st [] hs cache taken same one ready tied reads kept on =
        subst (λ c. Reads rules size before s id c (hs ++ [])) (sym one) (subst (λ l. Reads rules size before s id cache l) (sym (append-nil hs)) reads)
    all_read st (t ∷ ts) hs cache taken same one ready tied reads kept on =
        let now = heard_as (asked st) t.answer in
        let later = heard_from size (after_told size st t) ts in
        let tie = told_ties entries size rules before cache hs st t same.0 one.0 ready tied taken.0 taken.1 in
        subst (λ l. Reads rules size before s id after l) (append_assoc hs now later)
        (all_read (after_told size st t) ts (hs ++ now) (learns size st t) taken.2 same.1 one.1 (asked_ready size st t st.board.next ready ready.next taken.0) tie
        (asked_reads entries cache hs st t same.0 one.0 ready tied reads st.board.next tied.next kept taken.0 taken.1 (on_front now later on))
        (asked_kept entries cache hs st t same.0 one.0 ready tied reads st.board.next refl tied.next kept taken.0 taken.1 (learns size st t, tie))
        (on_back now later on))

  pub new_reads : Reads rules size before s id before []
  new_reads = record {
    read = λ q. inl refl;
    learnt = λ q stamp exec held unmet ended. absurd (let clash : false ≡ true = ended in cc);
    folders = λ q h. absurd (let clash : false ≡ true = h in cc);
  }

-- ---- pieces of a content

module _ (s : RootState) (id : ℕ) (q : Names) (stamp : Stamp) (there : has_stamp (map.get s.tree q) stamp ≡ true) where
  abbrev content : List ℕ
  content = content_of s.ledger stamp

  answer_is : (offset : ℕ) → answer_of s id (Fetch q stamp offset) ≡ piece_of content offset
  answer_is offset = ap (λ c. cond c (piece_of content offset) (Changed (map.get s.tree q))) there

  -- a content that is too large is answered so at once
  pub too_large : (size : ℕ) (f : List (Answer Bytes)) (a : Answer Bytes) → nat_lt MAX_FETCH (length content) ≡ true → FetchedOn s id q stamp 0 (a ∷ f) → a ≡ TooLarge (length content)
  too_large size f a large on = on.0 ∙ answer_is 0 ∙ ap (λ c. cond c (TooLarge (length content)) (Piece (take MAX_PIECE (drop 0 content)) (nat_le (length content) (0 + MAX_PIECE)))) large

  module _ (small : nat_lt MAX_FETCH (length content) ≡ false) where
    piece_is : (offset : ℕ) (a : Answer Bytes) → a ≡ answer_of s id (Fetch q stamp offset) → a ≡ Piece (take MAX_PIECE (drop offset content)) (nat_le (length content) (offset + MAX_PIECE))
    piece_is offset a on = on ∙ answer_is offset ∙ ap (λ c. cond c (TooLarge (length content)) (Piece (take MAX_PIECE (drop offset content)) (nat_le (length content) (offset + MAX_PIECE)))) small

    -- pieces from a place on are what the content has there; with the last one nothing is left
    pub record Pieces (back : Bytes) (f : List (Answer Bytes)) : Type 0 where
      pub rest : Bytes
      pub is : back ≡ joined f ++ rest
      pub unmet : filter_map problem_by f ≡ []
      pub ended : list_any is_last f ≡ true → rest ≡ []

    either : (a b : Bool) → (a || b) ≡ true → (a ≡ true) ⊎ (b ≡ true)
    either true b h = inl refl
    either false b h = inr h

    no_more_left : (xs ys : Bytes) → [] ≡ xs ++ ys → ys ≡ []
    no_more_left [] ys h = sym h
    no_more_left (x ∷ xs) ys h = absurd (cc)

    nothing_behind : (n : ℕ) (xs : Bytes) → length xs ≤ n → drop n xs ≡ []
    nothing_behind zero [] h = refl
    nothing_behind zero (x ∷ xs) h = absurd (let k : suc (length xs) ≤ 0 = h in omega arith)
    nothing_behind (suc n) [] h = refl
    nothing_behind (suc n) (x ∷ xs) h = nothing_behind n xs (let k : suc (length xs) ≤ suc n = h in omega arith)

    pub pieces : (f : List (Answer Bytes)) (front back : Bytes) → content ≡ front ++ back → FetchedOn s id q stamp (length front) f → Pieces back f
    pieces [] front back is on = record { rest = back; is = refl; unmet = refl; ended = λ h. absurd (let clash : false ≡ true = h in cc) }
    pieces (a ∷ f) front back is on =
        let first = take MAX_PIECE back in
        let behind = drop MAX_PIECE back in
        let last = nat_le (length content) (length front + MAX_PIECE) in
        let split : first ++ behind ≡ back = take-append-drop MAX_PIECE back in
        let here : a ≡ Piece first last = piece_is (length front) a on.0 ∙ ap (λ l. Piece (take MAX_PIECE l) last) (ap (drop (length front)) is ∙ drop-append_seam front back) in
        let further : FetchedOn s id q stamp (length (front ++ first)) f = subst (λ n. FetchedOn s id q stamp n f) (ap (λ (x : Answer Bytes). length front + piece_len length x) here ∙ sym (length-append front first)) on.1 in
        let r = pieces f (front ++ first) behind (is ∙ ap (λ l. front ++ l) (sym split) ∙ sym (append_assoc front first behind)) further in
        let is_now : back ≡ joined (a ∷ f) ++ r.rest = sym split ∙ ap (λ l. first ++ l) r.is ∙ sym (append_assoc first (joined f) r.rest) ∙ ap (λ (x : Answer Bytes). (piece_bytes x ++ joined f) ++ r.rest) (sym here) in
        record {
          rest = r.rest;
          is = is_now;
          unmet = ap (λ (x : Answer Bytes). cons_option (problem_by x) (filter_map problem_by f)) here ∙ r.unmet;
          ended = λ h. elim (either (is_last a) (list_any is_last f) h) [
            | inl now ↦
                (let whole : last ≡ true = sym (ap is_last here) ∙ now in
                let all : length content ≤ length front + MAX_PIECE = leb-true (length content) (length front + MAX_PIECE) whole in
                let sizes : length content ≡ length front + length back = ap length is ∙ length-append front back in
                let none : behind ≡ [] = nothing_behind MAX_PIECE back (omega arith) in
                no_more_left (joined f) r.rest (sym none ∙ r.is))
            | inr later ↦ r.ended later
          ];
        }
