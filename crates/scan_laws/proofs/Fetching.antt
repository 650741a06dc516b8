-- How the answer to a Fetch ties.
use Rattle.std.proofs.Common.{◌≡◌, ℕ, ◌+◌, Bool, true, false, cond, ◌||◌, List, [], ◌∷◌, ◌++◌, length, nat_lt, filter_map, sum_by, refl, sym, ap, subst, ◌∙◌, Option, Some, None, arith}
use Rattle.std.specs.FinMap as map
use Rattle.std.specs.List.{list_any}
use Rattle.std.specs.Option.{is_some}
use Rattle.std.specs.Ordering.{eq_by_cmp}
use Rattle.std.proofs.lemmas.List.{length-append}
use Rattle.std.proofs.lemmas.List.Elements.{filter_map-append}
use Rattle.std.proofs.lemmas.List.Folds.{list_any-append}
use Rattle.std.proofs.lemmas.List.Sums.{sum_by-append, sum_by-cons}
use Rattle.sync_path.specs.Path.{path_cmp}
use Rattle.entry_tree.specs.Tree.{Names, ByPath}
use Rattle.entry_tree.specs.declared.atom.Atom.TheVariants as atom
use Rattle.entry_tree.specs.declared.entry.Entry.TheVariants as entry
use Rattle.entry_tree.specs.declared.entry.Stamp.{Stamp}
use Rattle.entry_tree.specs.declared.problem_kind.ProblemKind.{ProblemKind}
use Rattle.entry_tree.specs.declared.problem_kind.ProblemKind.TheVariants as problem
use Rattle.entry_tree.proofs.Trees.{tie_is}
use Rattle.ignore_glob.specs.Grammar.{Meaning}
use Rattle.roots_api.specs.declared.answer.Answer.{Answer}
use Rattle.roots_api.specs.declared.answer.Answer.TheVariants.{Piece}
use Rattle.roots_api.specs.declared.op.Op.TheVariants.{Fetch}
use Rattle.scan_cache.specs.declared.line.Line.{Line}
use Rattle.scan_core.specs.Board.{shows, shows_file}
use Rattle.scan_core.specs.declared.board.Board.{Board}
use Rattle.scan_core.specs.declared.wanted.Wanted.TheVariants.{Content}
use Rattle.scan_laws.specs.Meeting.{spared_by}
use Rattle.scan_laws.specs.Seen.{Heard, first_one, problem_by, is_last, piece_len, rows_of, file_atom}
use Rattle.scan_laws.proofs.Boards.{put_at, is_none, nothing_stamped, file_stamps}
use Rattle.scan_laws.proofs.Heard.{still_named, held_same, Quiet, folder_listed}
use Rattle.scan_laws.proofs.Needs.{NeedsContent, needs_content, need_file, settled_file}
use Rattle.scan_laws.proofs.Points.{Bytes, with_heard, listed_in, fetched_in, held_in, listed-fetch, fetched-other, fetched-here, problem_of, need, settled, need_in, settled_in}
use Rattle.scan_laws.proofs.Seeing.{itself}
use Rattle.scan_laws.proofs.Standing.{Stands, IsOpen, shown_at}
use Rattle.scan_laws.proofs.Tying.{Keeps, put_keeps, PointTied, Lines, Settles, InCourse, same_point}

nothing_first : {A : Type 0} (xs ys : List A) → first_one (xs ++ ys) ≡ None → xs ≡ []
nothing_first [] ys h = refl
nothing_first (x ∷ xs) ys h = absurd (cc)

not_nil : {A : Type 0} (xs : List A) (x : A) → xs ++ x ∷ [] ≡ [] → ⊥
not_nil [] x h = cc
not_nil (y ∷ xs) x h = cc

-- ---- the answers to the Fetches of a file, with one more

module _ (rules : List Meaning) (size : ℕ) (f : List (Answer Bytes)) (unmet : problem_of rules size f ≡ None) where
  pub problem_more : (answer : Answer Bytes) → problem_of rules size (f ++ answer ∷ [])
      ≡ first_one (filter_map problem_by (answer ∷ []) ++ cond (nat_lt size (sum_by (piece_len length) (f ++ answer ∷ []))) (problem.TooLarge ∷ []) [])
  problem_more answer =
      let nothing : filter_map problem_by f ≡ [] = nothing_first (filter_map problem_by f) _ unmet in
      ap (λ l. first_one (l ++ cond (nat_lt size (sum_by (piece_len length) (f ++ answer ∷ []))) (problem.TooLarge ∷ []) []))
      (filter_map-append problem_by f (answer ∷ []) ∙ ap (λ l. l ++ filter_map problem_by (answer ∷ [])) nothing)

  module _ (begun bytes : Bytes) (last : Bool) (counted : sum_by (piece_len length) f ≡ length begun) where
    pub piece_counted : sum_by (piece_len length) (f ++ Piece bytes last ∷ []) ≡ length (begun ++ bytes)
    piece_counted =
        let whole : sum_by (piece_len length) (f ++ Piece bytes last ∷ []) ≡ sum_by (piece_len length) f + sum_by (piece_len length) (Piece bytes last ∷ []) = sum_by-append (piece_len length) f (Piece bytes last ∷ []) in
        let one : sum_by (piece_len length) (Piece bytes last ∷ []) ≡ length bytes + 0 = sum_by-cons (piece_len length) (Piece bytes last) [] in
        let joined : length (begun ++ bytes) ≡ length begun + length bytes = length-append begun bytes in
        omega arith

    pub piece_problem : (over : Bool) → nat_lt size (length (begun ++ bytes)) ≡ over → problem_of rules size (f ++ Piece bytes last ∷ []) ≡ first_one (cond over (problem.TooLarge ∷ []) [])
    piece_problem over is =
        problem_more (Piece bytes last)
        ∙ ap (λ c. first_one (cond c (problem.TooLarge ∷ []) [])) (ap (nat_lt size) piece_counted ∙ is)

pub ended_more : (f : List (Answer Bytes)) (bytes : Bytes) (last : Bool) → list_any is_last f ≡ false → list_any is_last (f ++ Piece bytes last ∷ []) ≡ last
ended_more f bytes last unended =
    list_any-append is_last f (Piece bytes last ∷ []) ∙ ap (λ c. c || (last || false)) unended
    ∙ elim last as (λ c. (c || false) ≡ c) [ true ↦ refl | false ↦ refl ]

module _ (rules : List Meaning) (size : ℕ) (before cache : ByPath Line) (hs : List (Heard Bytes)) (b : Board) (begun : Bytes) (stands : Stands b) (p : Names) (free : IsOpen b p)
    (quiet : Quiet rules size hs) (lines : Lines rules size before cache hs) (points : (q : Names) → eq_by_cmp path_cmp q p ≡ false → PointTied rules size before hs b q)
    (stamp : Stamp) (exec : Bool) (course : InCourse rules size before hs b.later begun p (Content stamp exec)) where
  pub needs : NeedsContent rules size (spared_by before) p (fetched_in rules size hs p) (held_in rules size hs p) stamp exec
  needs = needs_content rules size (spared_by before) p (listed_in rules size hs p) (fetched_in rules size hs p) (held_in rules size hs p) stamp exec course.needed

  later_none : map.get b.later p ≡ None
  later_none = is_none (map.get b.later p) free.unasked

  module _ (answer : Answer Bytes) where
    abbrev more : List (Heard Bytes)
    more = with_heard hs (Fetch p stamp (length begun)) answer

    listed_as_before : (q : Names) → listed_in rules size more q ≡ listed_in rules size hs q
    listed_as_before q = listed-fetch rules size hs p answer stamp (length begun) q

    held_as_before : (q : Names) → held_in rules size more q ≡ held_in rules size hs q
    held_as_before q = held_same rules size hs more q (λ f up. ap rows_of (listed_as_before f)) (listed_as_before q)

    fetched_elsewhere : (q : Names) → eq_by_cmp path_cmp q p ≡ false → fetched_in rules size more q ≡ fetched_in rules size hs q
    fetched_elsewhere q apart = fetched-other rules size hs p answer stamp (length begun) q apart

    fetched_here : fetched_in rules size more p ≡ fetched_in rules size hs p ++ answer ∷ []
    fetched_here = fetched-here rules size hs p answer stamp (length begun) (itself p)

    pub fetch_quiet : Quiet rules size more
    fetch_quiet = record {
      unlisted = λ f n none. listed_as_before (f ++ n ∷ []) ∙ quiet.unlisted f n (sym (listed_as_before f) ∙ none);
      unfetched = λ f n none. elim (eq_by_cmp path_cmp (f ++ n ∷ []) p) as (λ c. eq_by_cmp path_cmp (f ++ n ∷ []) p ≡ c → fetched_in rules size more (f ++ n ∷ []) ≡ []) [
        | true ↦ λ e. absurd (folder_listed rules size hs quiet f n (entry.File stamp exec) (ap (held_in rules size hs) (tie_is (f ++ n ∷ []) p e) ∙ needs.held_is) (sym (listed_as_before f) ∙ none))
        | false ↦ λ e. fetched_elsewhere (f ++ n ∷ []) e ∙ quiet.unfetched f n (sym (listed_as_before f) ∙ none)
      ] refl;
    }

    -- the path has answers now
    pub fetch_lines : (after : ByPath Line) → ((q : Names) → eq_by_cmp path_cmp q p ≡ false → map.get after q ≡ map.get cache q) → Lines rules size before after more
    fetch_lines after same = record {
      same = λ q none. elim (eq_by_cmp path_cmp q p) as (λ c. eq_by_cmp path_cmp q p ≡ c → map.get after q ≡ map.get before q) [
        | true ↦ λ e. absurd (not_nil (fetched_in rules size hs p) answer (sym fetched_here ∙ ap (fetched_in rules size more) (sym (tie_is q p e)) ∙ none))
        | false ↦ λ e. same q e ∙ lines.same q (sym (fetched_elsewhere q e) ∙ none)
      ] refl;
    }

    fetch_elsewhere : (after : Board) → Keeps b after → ((q : Names) → map.get after.later q ≡ map.get b.later q) → ((q : Names) → eq_by_cmp path_cmp q p ≡ false → map.get after.seen q ≡ map.get b.seen q)
        → (q : Names) → eq_by_cmp path_cmp q p ≡ false → PointTied rules size before more after q
    fetch_elsewhere after keeps later seen q apart =
        same_point rules size before hs more b after q (points q apart) keeps (listed_as_before q) (fetched_elsewhere q apart) (held_as_before q) (later q) (seen q apart)
        (still_named hs (Fetch p stamp (length begun)) answer q)

    -- what is needed and settled of the file itself
    module _ (found : Option ProblemKind) (met : problem_of rules size (fetched_in rules size hs p ++ answer ∷ []) ≡ found) (last : Bool) (ended : list_any is_last (fetched_in rules size hs p ++ answer ∷ []) ≡ last) where
      need_now : need_in rules size (spared_by before) more p ≡ cond (is_some found || last) None (Some (Content stamp exec))
      need_now =
          (λ i. need rules size (spared_by before) p (listed_in rules size more p) (fetched_here i) ((held_as_before p ∙ needs.held_is) i))
          ∙ need_file rules size (spared_by before) p (listed_in rules size more p) (fetched_in rules size hs p ++ answer ∷ []) stamp exec needs.followed needs.unspared found met last ended

      settled_now : (digest : Names → Stamp → List ℕ) → settled_in rules size (spared_by before) digest more p
          ≡ cond (is_some (cond (is_some found || last) None (Some (Content stamp exec)))) None (Some (file_atom (digest p stamp) exec found))
      settled_now digest =
          (λ i. settled rules size (spared_by before) digest p (listed_in rules size more p) (fetched_here i) ((held_as_before p ∙ needs.held_is) i))
          ∙ settled_file rules size (spared_by before) p (listed_in rules size more p) (fetched_in rules size hs p ++ answer ∷ []) stamp exec needs.followed needs.unspared found met last ended digest

    no_more_later : is_some (map.get b.later p) ≡ true → ⊥
    no_more_later h = let clash : false ≡ true = sym (ap is_some later_none) ∙ h in cc

    all_points : (after : Board) → PointTied rules size before more after p → ((q : Names) → eq_by_cmp path_cmp q p ≡ false → PointTied rules size before more after q) → (q : Names) → PointTied rules size before more after q
    all_points after here others q = elim (eq_by_cmp path_cmp q p) as (λ c. eq_by_cmp path_cmp q p ≡ c → PointTied rules size before more after q) [
      | true ↦ λ e. subst (PointTied rules size before more after) (sym (tie_is q p e)) here
      | false ↦ λ e. others q e
    ] refl

    -- the content isn't seen
    module _ (kind : ProblemKind) (met : problem_of rules size (fetched_in rules size hs p ++ answer ∷ []) ≡ Some kind) where
      abbrev bad : Board
      bad = shows b p (atom.Problem kind)

      bad_seen : (q : Names) → map.get bad.seen q ≡ put_at q p (Some (atom.Problem kind)) (map.get b.seen q)
      bad_seen q = shown_at b.seen stands.closed p free.wantable (atom.Problem kind) q

      pub problem_settles : Settles rules size before cache more bad
      problem_settles = record {
        quiet = fetch_quiet;
        lines = fetch_lines cache (λ q apart. refl);
        points = all_points bad
            (record {
              needed = later_none ∙ sym (need_now (Some kind) met (list_any is_last (fetched_in rules size hs p ++ answer ∷ [])) refl);
              seen = λ digest spells. bad_seen p ∙ ap (λ c. cond c (Some (atom.Problem kind)) (map.get b.seen p)) (itself p) ∙ sym (settled_now (Some kind) met (list_any is_last (fetched_in rules size hs p ++ answer ∷ [])) refl digest);
              fresh = λ h. absurd (no_more_later h);
              named = λ h. absurd (no_more_later h);
            })
            (fetch_elsewhere bad
            (record { seen = put_keeps (map.get b.seen) (map.get bad.seen) p (Some (atom.Problem kind)) free.wantable.fresh bad_seen; stamps = λ q s h. h })
            (λ q. refl) (λ q apart. bad_seen q ∙ ap (λ c. cond c (Some (atom.Problem kind)) (map.get b.seen q)) apart));
      }

    -- the last piece came
    module _ (after : ByPath Line) (same : (q : Names) → eq_by_cmp path_cmp q p ≡ false → map.get after q ≡ map.get cache q) (d : List ℕ)
        (met : problem_of rules size (fetched_in rules size hs p ++ answer ∷ []) ≡ None) (ended : list_any is_last (fetched_in rules size hs p ++ answer ∷ []) ≡ true) where
      abbrev good : Board
      good = shows_file b p stamp exec d

      good_seen : (q : Names) → map.get good.seen q ≡ put_at q p (Some (atom.File d exec)) (map.get b.seen q)
      good_seen q = shown_at b.seen stands.closed p free.wantable (atom.File d exec) q

      good_stamps : (q : Names) → map.get good.stamps q ≡ put_at q p (Some stamp) (map.get b.stamps q)
      good_stamps q = file_stamps rules cache b stands p free stamp q

      good_here : map.get good.seen p ≡ Some (atom.File d exec)
      good_here = good_seen p ∙ ap (λ c. cond c (Some (atom.File d exec)) (map.get b.seen p)) (itself p)

      pub last_settles : Settles rules size before after more good
      last_settles = record {
        quiet = fetch_quiet;
        lines = fetch_lines after same;
        points = all_points good
            (record {
              needed = later_none ∙ sym (need_now None met true ended);
              seen = λ digest spells. good_here
                  ∙ ap (λ (x : List ℕ). Some (atom.File x exec)) (sym (spells.spells p d exec stamp good_here (good_stamps p ∙ ap (λ c. cond c (Some stamp) (map.get b.stamps p)) (itself p))))
                  ∙ sym (settled_now None met true ended digest);
              fresh = λ h. absurd (no_more_later h);
              named = λ h. absurd (no_more_later h);
            })
            (fetch_elsewhere good
            (record {
              seen = put_keeps (map.get b.seen) (map.get good.seen) p (Some (atom.File d exec)) free.wantable.fresh good_seen;
              stamps = put_keeps (map.get b.stamps) (map.get good.stamps) p (Some stamp) (nothing_stamped rules cache b stands p free) good_stamps;
            })
            (λ q. refl) (λ q apart. good_seen q ∙ ap (λ c. cond c (Some (atom.File d exec)) (map.get b.seen q)) apart));
      }

  -- a further piece is asked for
  module _ (bytes : Bytes) (fits : nat_lt size (length (begun ++ bytes)) ≡ false) where
    abbrev piece : List (Heard Bytes)
    piece = more (Piece bytes false)

    pub still_in_course : InCourse rules size before piece b.later (begun ++ bytes) p (Content stamp exec)
    still_in_course = record {
      needed = need_now (Piece bytes false) None (piece_problem rules size (fetched_in rules size hs p) needs.unmet begun bytes false course.counted false fits) false (ended_more (fetched_in rules size hs p) bytes false needs.unended);
      named = still_named hs (Fetch p stamp (length begun)) (Piece bytes false) p course.named;
      least = course.least;
      counted = ap (sum_by (piece_len length)) (fetched_here (Piece bytes false)) ∙ piece_counted rules size (fetched_in rules size hs p) needs.unmet begun bytes false course.counted;
      bare = tt;
    }

    pub still_apart : (q : Names) → eq_by_cmp path_cmp q p ≡ false → PointTied rules size before piece b q
    still_apart = fetch_elsewhere (Piece bytes false) b (record { seen = λ q x h. h; stamps = λ q s h. h }) (λ q. refl) (λ q apart. refl)
