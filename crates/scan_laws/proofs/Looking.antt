-- What a whole scan sees of a root on which nothing changed, path by path.
use Rattle.std.proofs.Common.{◌≡◌, inl, inr, ℕ, ◌+◌, ◌<◌, ◌≤◌, zero, suc, ◌==◌, Bool, true, false, not, cond, ◌&&◌, ◌||◌, List, [], ◌∷◌, ◌++◌, length, nat_lt, filter_map, sum_by, refl, sym, ap, subst, ◌∙◌, Option, Some, None, option_map, option_and_then, arith}
use Rattle.std.specs.Prelude.{unwrap_or}
use Rattle.std.specs.FinMap as map
use Rattle.std.specs.List.{list_any, cons_option}
use Rattle.std.specs.Option.{is_some}
use Rattle.std.specs.Ordering.{eq_by_cmp}
use Rattle.std.proofs.lemmas.Bool.{ltb-true, ltb-false}
use Rattle.std.proofs.lemmas.List.{append_assoc, append-nil, length-append}
use Rattle.sha2.specs.Sha256.{sha256}
use Rattle.sync_path.specs.Path.{path_cmp}
use Rattle.sync_path.proofs.Ends.{last_name-push}
use Rattle.entry_tree.specs.Entry.{is_dir}
use Rattle.entry_tree.specs.Tree.{Names, ByPath, IsClosed, holds_folder, name_below, child_row, children_below}
use Rattle.entry_tree.specs.declared.atom.Atom.{Atom}
use Rattle.entry_tree.specs.declared.atom.Atom.TheVariants as atom
use Rattle.entry_tree.specs.declared.entry.Entry.{Entry}
use Rattle.entry_tree.specs.declared.entry.Entry.TheVariants as entry
use Rattle.entry_tree.specs.declared.entry.Stamp.{Stamp}
use Rattle.entry_tree.specs.declared.problem_kind.ProblemKind.TheVariants as problem
use Rattle.entry_tree.proofs.Paths.{name_itself}
use Rattle.entry_tree.proofs.Trees.{root_or_child, tie_is, parent-child}
use Rattle.ignore_glob.specs.Grammar.{Meaning}
use Rattle.roots_api.specs.States.{RootState, content_of, has_stamp}
use Rattle.roots_api.specs.Steps.{answer_of}
use Rattle.roots_api.specs.declared.answer.Answer.{Answer}
use Rattle.roots_api.specs.declared.answer.Answer.TheVariants.{Listed, Held, TooLarge}
use Rattle.roots_api.specs.declared.limits.TheConstants.{MAX_FETCH}
use Rattle.roots_api.specs.declared.op.Op.TheVariants.{List as OpList}
use Rattle.roots_api.proofs.ListedRows.{name_below_is}
use Rattle.scan_cache.specs.Cache.{digest_for, line_of}
use Rattle.scan_cache.specs.declared.line.Line.{Line}
use Rattle.scan_core.specs.Board.{left_alone}
use Rattle.scan_core.specs.Ignoring.{ignores}
use Rattle.scan_core.specs.Scan.{new_state, state_of}
use Rattle.scan_core.specs.declared.wanted.Wanted.TheVariants.{Names as WantedNames, Content}
use Rattle.scan_laws.specs.Bounds.{heard_by}
use Rattle.scan_laws.specs.Look.{is_reached_from, is_reached, content_atom, look_as, look_atom, look_at}
use Rattle.scan_laws.specs.Meeting.{spared_by, digest_in}
use Rattle.scan_laws.specs.Seen.{Heard, first_one, row_named, rows_of, held_by, problem_by, is_last, piece_len, file_atom, wanted_at, seen_at}
use Rattle.scan_laws.specs.Undisturbed.{LinesAreOf, UndisturbedSeesLook}
use Rattle.scan_laws.proofs.Boards.{is_none}
use Rattle.scan_laws.proofs.Going.{new_tied, root_followed}
use Rattle.scan_laws.proofs.Heard.{Quiet, row_in, held_child, same_child}
use Rattle.scan_laws.proofs.Meeting.{whole_sees_seen_tree, whole_wants_nothing, ready_now, tied_now}
use Rattle.scan_laws.proofs.Needs.{wanted_some, seen_held, no_problem_yet}
use Rattle.scan_laws.proofs.Points.{Bytes, listed_in, fetched_in, held_in, problem_of, need_in, need, need_as, atom_by, atom_of}
use Rattle.scan_laws.proofs.Reading.{joined, joined_length, FetchedOn, IsRead, Reads, same_stamps}
use Rattle.scan_laws.proofs.Seeing.{new_ready}
use Rattle.scan_laws.proofs.Tying.{Lines}
use Rattle.scan_laws.proofs.Undisturbed.{all_read, new_reads, too_large, pieces}

-- ---- what is reached

and_true : (b : Bool) → (b && true) ≡ b
and_true true = refl
and_true false = refl

and_again : (a b c : Bool) → (a && (b && c)) ≡ ((a && b) && c)
and_again true b c = refl
and_again false b c = refl

reached_behind : (rules : List Meaning) (before names : Names) (n : List ℕ) → is_reached_from rules before (names ++ n ∷ []) ≡ (is_reached_from rules before names && not (ignores rules (before ++ names) true))
reached_behind rules before [] n = and_true (not (ignores rules before true)) ∙ ap (λ (l : Names). not (ignores rules l true)) (sym (append-nil before))
reached_behind rules before (x ∷ names) n =
    ap (λ b. not (ignores rules before true) && b) (reached_behind rules (before ++ x ∷ []) names n)
    ∙ and_again (not (ignores rules before true)) (is_reached_from rules (before ++ x ∷ []) names) (not (ignores rules ((before ++ x ∷ []) ++ names) true))
    ∙ ap (λ (l : Names). (not (ignores rules before true) && is_reached_from rules (before ++ x ∷ []) names) && not (ignores rules l true)) (append_assoc before (x ∷ []) names)

pub reached_child : (rules : List Meaning) (f : Names) (n : List ℕ) → is_reached rules (f ++ n ∷ []) ≡ (is_reached rules f && not (ignores rules f true))
reached_child rules f n = reached_behind rules [] f n

-- ---- children

pub name_of_child : (p : Names) (n : List ℕ) → name_below (p ++ n ∷ []) p ≡ Some n
name_of_child [] n = refl
name_of_child (x ∷ p) n = ap (λ b. cond b (name_below (p ++ n ∷ []) p) None) (name_itself x) ∙ name_of_child p n

not_child : (p : Names) (n : List ℕ) (k : Names) → name_below k p ≡ None → eq_by_cmp path_cmp (p ++ n ∷ []) k ≡ false
not_child p n k h =
    elim (eq_by_cmp path_cmp (p ++ n ∷ []) k) as (λ b. eq_by_cmp path_cmp (p ++ n ∷ []) k ≡ b → b ≡ false) [
      | true ↦ λ e. absurd (let clash : None ≡ Some n = sym h ∙ ap (λ (q : Names). name_below q p) (sym (tie_is (p ++ n ∷ []) k e)) ∙ name_of_child p n in cc)
      | false ↦ λ e. refl
    ] refl

child_found : (p : Names) (n : List ℕ) (es : List (Names × Entry)) → map.find path_cmp (p ++ n ∷ []) es ≡ row_named n (filter_map (child_row p) es)
child_found p n [] = refl
child_found p n (e ∷ es) =
    elim (name_below e.0 p) as (λ o. name_below e.0 p ≡ o
    → cond (eq_by_cmp path_cmp (p ++ n ∷ []) e.0) (Some e.1) (map.find path_cmp (p ++ n ∷ []) es) ≡ row_named n (cons_option (option_map (λ name. (name, e.1)) o) (filter_map (child_row p) es))) [
      | None ↦ λ none. ap (λ b. cond b (Some e.1) (map.find path_cmp (p ++ n ∷ []) es)) (not_child p n e.0 none) ∙ child_found p n es
      | Some m ↦ λ is.
          ap (λ (k : Names). cond (eq_by_cmp path_cmp (p ++ n ∷ []) k) (Some e.1) (map.find path_cmp (p ++ n ∷ []) es)) (name_below_is e.0 p m is)
          ∙ (λ i. cond (same_child p n m i) (Some e.1) (child_found p n es i))
    ] refl

child_is : (tree : ByPath Entry) (p : Names) (n : List ℕ) → map.get tree (p ++ n ∷ []) ≡ row_named n (children_below tree p)
child_is tree p n = map.get-entries tree (p ++ n ∷ []) ∙ child_found p n (map.entries tree)

pub nothing_at : (tree : ByPath Entry) (p : Names) (n : List ℕ) → IsClosed is_dir tree → holds_folder is_dir (map.get tree p) ≡ false → map.get tree (p ++ n ∷ []) ≡ None
nothing_at tree p n closed no_folder =
    elim (map.get tree (p ++ n ∷ [])) as (λ o. map.get tree (p ++ n ∷ []) ≡ o → o ≡ None) [
      | None ↦ λ e. refl
      | Some x ↦ λ e. absurd (let h : false ≡ true = sym no_folder ∙ closed p n (ap (λ (o : Option Entry). is_some o) e) in cc)
    ] refl

pub folder_is : (o : Option Entry) → holds_folder is_dir o ≡ true → o ≡ Some entry.Dir
folder_is None h = absurd (cc)
folder_is (Some entry.Dir) h = refl
folder_is (Some (entry.File stamp exec)) h = absurd (cc)
folder_is (Some (entry.Link text)) h = absurd (cc)
folder_is (Some entry.Other) h = absurd (cc)

-- ---- what is held

module _ (rules : List Meaning) (size : ℕ) (before after : ByPath Line) (s : RootState) (id : ℕ) (hs : List (Heard Bytes)) (reads : Reads rules size before s id after hs) (quiet : Quiet rules size hs)
    (lines : Lines rules size before after hs) (closed : IsClosed is_dir s.tree) (whole : (q : Names) → need_in rules size (spared_by before) hs q ≡ None) where
  answered_held : (q : Names) (a : Answer Bytes) (row : Option Entry) → a ≡ answer_of s id (OpList q) → held_by (Some a) row ≡ map.get s.tree q
  answered_held q a row is =
      ap (λ (x : Answer Bytes). held_by (Some x) row) is
      ∙ elim (holds_folder is_dir (map.get s.tree q)) as (λ c. holds_folder is_dir (map.get s.tree q) ≡ c → held_by {B = Bytes} (Some (cond c (Listed (children_below s.tree q)) (Held (map.get s.tree q)))) row ≡ map.get s.tree q) [
        | true ↦ λ e. sym (folder_is (map.get s.tree q) e)
        | false ↦ λ e. refl
      ] refl

  answered_rows : (f : Names) (n : List ℕ) (a : Answer Bytes) → a ≡ answer_of s id (OpList f) → row_named n (rows_of (Some a)) ≡ map.get s.tree (f ++ n ∷ [])
  answered_rows f n a is =
      ap (λ (x : Answer Bytes). row_named n (rows_of (Some x))) is
      ∙ elim (holds_folder is_dir (map.get s.tree f)) as (λ c. holds_folder is_dir (map.get s.tree f) ≡ c → row_named n (rows_of {B = Bytes} (Some (cond c (Listed (children_below s.tree f)) (Held (map.get s.tree f))))) ≡ map.get s.tree (f ++ n ∷ [])) [
        | true ↦ λ e. sym (child_is s.tree f n)
        | false ↦ λ e. sym (nothing_at s.tree f n closed e)
      ] refl

  pub unlisted_folder : (q : Names) → listed_in rules size hs q ≡ None → held_in rules size hs q ≡ Some entry.Dir → ignores rules q true ≡ false → ⊥
  unlisted_folder q none held followed =
      let needed : need_in rules size (spared_by before) hs q ≡ Some WantedNames =
      (λ i. need rules size (spared_by before) q (none i) (fetched_in rules size hs q) (held i)) ∙ ap (λ c. cond c None (Some WantedNames)) followed in
      let clash : None ≡ Some WantedNames = sym (whole q) ∙ needed in
      cc

  pub record Reached (q : Names) : Type 0 where
    pub held_is : held_in rules size hs q ≡ cond (is_reached rules q) (map.get s.tree q) None
    pub listed_is : is_some (listed_in rules size hs q) ≡ true → is_reached rules q ≡ true

  root_reached : Reached []
  root_reached = record {
    held_is = elim (listed_in rules size hs []) as (λ l. listed_in rules size hs [] ≡ l → held_in rules size hs [] ≡ map.get s.tree []) [
      | None ↦ λ e. absurd (unlisted_folder [] e (ap (λ (l : Option (Answer Bytes)). held_by l (Some entry.Dir)) e) (root_followed rules))
      | Some a ↦ λ e. ap (λ (l : Option (Answer Bytes)). held_by l (Some entry.Dir)) e ∙ answered_held [] a (Some entry.Dir) ((reads.folders [] (ap is_some e)).answer_is a e)
    ] refl;
    listed_is = λ h. refl;
  }

  module _ (f : Names) (n : List ℕ) (above : Reached f) where
    abbrev q : Names
    q = f ++ n ∷ []

    row_is : row_in rules size hs q ≡ row_named n (rows_of (listed_in rules size hs f))
    row_is = (λ i. Rattle.scan_laws.specs.Seen.row_by length rules size hs (parent-child f n i) (last_name-push f n i))

    folder_reached : (a : Answer Bytes) → listed_in rules size hs f ≡ Some a → is_reached rules q ≡ true
    folder_reached a e =
        reached_child rules f n ∙ (λ i. above.listed_is (ap is_some e) i && not ((reads.folders f (ap is_some e)).followed i))

    held_below : (a : Answer Bytes) → listed_in rules size hs f ≡ Some a → held_in rules size hs q ≡ map.get s.tree q
    held_below a e =
        elim (listed_in rules size hs q) as (λ l. listed_in rules size hs q ≡ l → held_in rules size hs q ≡ map.get s.tree q) [
          | None ↦ λ none. held_child rules size hs f n none ∙ ap (λ (l : Option (Answer Bytes)). row_named n (rows_of l)) e ∙ answered_rows f n a ((reads.folders f (ap is_some e)).answer_is a e)
          | Some b ↦ λ is. ap (λ (l : Option (Answer Bytes)). held_by l (row_in rules size hs q)) is ∙ answered_held q b (row_in rules size hs q) ((reads.folders q (ap is_some is)).answer_is b is)
        ] refl

    -- below what wasn't listed nothing is reached, or nothing is there
    none_below : listed_in rules size hs f ≡ None → (reached ignored : Bool) → is_reached rules f ≡ reached → ignores rules f true ≡ ignored → cond (reached && not ignored) (map.get s.tree q) None ≡ None
    none_below none false ignored is_r is_i = refl
    none_below none true true is_r is_i = refl
    none_below none true false is_r is_i =
        elim (holds_folder is_dir (map.get s.tree f)) as (λ c. holds_folder is_dir (map.get s.tree f) ≡ c → map.get s.tree q ≡ None) [
          | true ↦ λ e. absurd (unlisted_folder f none (above.held_is ∙ ap (λ c. cond c (map.get s.tree f) None) is_r ∙ folder_is (map.get s.tree f) e) is_i)
          | false ↦ λ e. nothing_at s.tree f n closed e
        ] refl

    child_reached : Reached q
    child_reached = record {
      held_is = elim (listed_in rules size hs f) as (λ l. listed_in rules size hs f ≡ l → held_in rules size hs q ≡ cond (is_reached rules q) (map.get s.tree q) None) [
        | None ↦ λ e.
            held_child rules size hs f n (quiet.unlisted f n e) ∙ ap (λ (l : Option (Answer Bytes)). row_named n (rows_of l)) e
            ∙ sym (ap (λ c. cond c (map.get s.tree q) None) (reached_child rules f n) ∙ none_below e (is_reached rules f) (ignores rules f true) refl refl)
        | Some a ↦ λ e. held_below a e ∙ sym (ap (λ c. cond c (map.get s.tree q) None) (folder_reached a e))
      ] refl;
      listed_is = λ h. elim (listed_in rules size hs f) as (λ l. listed_in rules size hs f ≡ l → is_reached rules q ≡ true) [
        | None ↦ λ e. absurd (let clash : false ≡ true = sym (ap is_some (quiet.unlisted f n e)) ∙ h in cc)
        | Some a ↦ λ e. folder_reached a e
      ] refl;
    }

  pub all_reached : (k : ℕ) (q : Names) → length q < k → Reached q
  all_reached zero q short = absurd (omega arith)
  all_reached (suc k) q short =
      let smaller = all_reached k in
      elim (root_or_child q) [
        | inl is_root ↦ subst Reached (sym is_root) root_reached
        | inr child ↦
            (let sizes : length q ≡ length child.0 + 1 = ap length child.2 ∙ length-append child.0 (child.1 ∷ []) in
            subst Reached (sym child.2) (child_reached child.0 child.1 (smaller child.0 (omega arith))))
      ]

  held_everywhere : (q : Names) → held_in rules size hs q ≡ cond (is_reached rules q) (map.get s.tree q) None
  held_everywhere q = (all_reached (suc (length q)) q (omega arith)).held_is

  -- ---- the content of a file

  module _ (lines_of : LinesAreOf s size before) (limit : size ≤ MAX_FETCH) (q : Names) (stamp : Stamp) (exec : Bool) (held : held_in rules size hs q ≡ Some (entry.File stamp exec)) (there : map.get s.tree q ≡ Some (entry.File stamp exec))
      (followed : left_alone rules q (entry.File stamp exec) ≡ false) where
    abbrev f : List (Answer Bytes)
    f = fetched_in rules size hs q

    abbrev content : List ℕ
    content = content_of s.ledger stamp

    abbrev SeenAs : Type 0
    SeenAs = file_atom (digest_in after q stamp) exec (problem_of rules size f) ≡ content_atom s rules size content exec

    nothing_needed : (spared met ended : Bool) → cond (spared || (met || ended)) None (Some (Content stamp exec)) ≡ None → (spared || (met || ended)) ≡ true
    nothing_needed true met ended h = refl
    nothing_needed false true ended h = refl
    nothing_needed false false true h = refl
    nothing_needed false false false h = absurd (cc)

    over_with : (spared_by before q stamp || (is_some (problem_of rules size f) || list_any is_last f)) ≡ true
    over_with = nothing_needed (spared_by before q stamp) (is_some (problem_of rules size f)) (list_any is_last f)
        ((λ i. cond (sym followed i) None (need_as rules size (spared_by before) q (listed_in rules size hs q) f (entry.File stamp exec)))
        ∙ ap (need rules size (spared_by before) q (listed_in rules size hs q) f) (sym held) ∙ whole q)

    fits_is : length content ≤ size → nat_lt size (length content) ≡ false
    fits_is h = grind arith

    file_content : (d : List ℕ) → digest_in after q stamp ≡ d → d ≡ sha256 content → length content ≤ size → problem_of rules size f ≡ None → SeenAs
    file_content d is same fits unmet =
        (λ i. file_atom ((is ∙ same) i) exec (unmet i)) ∙ sym (ap (λ c. cond c (atom.Problem problem.TooLarge) (atom.File (sha256 content) exec)) (fits_is fits))

    problem_content : problem_of rules size f ≡ Some problem.TooLarge → nat_lt size (length content) ≡ true → SeenAs
    problem_content met large = ap (file_atom (digest_in after q stamp) exec) met ∙ sym (ap (λ c. cond c (atom.Problem problem.TooLarge) (atom.File (sha256 content) exec)) large)

    -- nothing was fetched: the cache knew it
    known : f ≡ [] → (known_digest : Option (List ℕ)) → digest_for before q stamp ≡ known_digest → is_some known_digest ≡ true → SeenAs
    known none None is h = absurd (cc)
    known none (Some d) is h =
        let right = lines_of q stamp exec d there is in
        let line : digest_for after q stamp ≡ Some d = ap (λ (o : Option Line). option_and_then (line_of stamp) o) (lines.same q none) ∙ is in
        file_content d (ap (λ (o : Option (List ℕ)). unwrap_or o []) line) right.is right.fits (ap (problem_of rules size) none ∙ no_problem_yet rules size)

    none_fetched : f ≡ [] → SeenAs
    none_fetched none =
        let spared : is_some (digest_for before q stamp) ≡ true =
        first_of (spared_by before q stamp) (ap (λ (l : List (Answer Bytes)). spared_by before q stamp || (is_some (problem_of rules size l) || list_any is_last l)) (sym none) ∙ over_with) in
        known none (digest_for before q stamp) refl spared
      where
        first_of : (b : Bool) → (b || (is_some (problem_of rules size []) || false)) ≡ true → b ≡ true
        first_of true h = refl
        first_of false h = absurd (let clash : false ≡ true = sym (ap (λ o. is_some o || false) (no_problem_yet rules size)) ∙ h in cc)

    -- its pieces were fetched
    module _ (on : FetchedOn s id q stamp 0 f) (met_or_ended : (is_some (problem_of rules size f) || list_any is_last f) ≡ true) where
      stamp_itself : (n : ℕ) → (n == n) ≡ true
      stamp_itself n = grind arith

      has : has_stamp (map.get s.tree q) stamp ≡ true
      has = ap (λ o. has_stamp o stamp) there ∙ stamp_itself stamp.0

      larger : nat_lt MAX_FETCH (length content) ≡ true → nat_lt size (length content) ≡ true
      larger h = let k : MAX_FETCH < length content = ltb-true MAX_FETCH (length content) h in let l : size ≤ MAX_FETCH = limit in let m : size < length content = omega arith in grind arith

      large_fetched : (g : List (Answer Bytes)) → f ≡ g → nat_lt MAX_FETCH (length content) ≡ true → SeenAs
      large_fetched [] is large = none_fetched is
      large_fetched (a ∷ g) is large =
          let first : a ≡ TooLarge (length content) = too_large s id q stamp has size g a large (subst (FetchedOn s id q stamp 0) is on) in
          problem_content (ap (problem_of rules size) is ∙ ap (λ (x : Answer Bytes). problem_of rules size (x ∷ g)) first) (larger large)

      small_fetched : nat_lt MAX_FETCH (length content) ≡ false → SeenAs
      small_fetched small =
          let p = pieces s id q stamp has small f [] content refl on in
          let sums : length (joined f) ≡ sum_by (piece_len length) f = joined_length f in
          let whole_length : length content ≡ length (joined f) + length p.rest = ap length p.is ∙ length-append (joined f) p.rest in
          let met_is : problem_of rules size f ≡ first_one (cond (nat_lt size (sum_by (piece_len length) f)) (problem.TooLarge ∷ []) []) =
          ap (λ l. first_one (l ++ cond (nat_lt size (sum_by (piece_len length) f)) (problem.TooLarge ∷ []) [])) p.unmet in
          elim (nat_lt size (sum_by (piece_len length) f)) as (λ c. nat_lt size (sum_by (piece_len length) f) ≡ c → problem_of rules size f ≡ first_one (cond c (problem.TooLarge ∷ []) []) → SeenAs) [
            | true ↦ λ e met.
                let over : size < sum_by (piece_len length) f = ltb-true size (sum_by (piece_len length) f) e in
                problem_content met (let m : size < length content = omega arith in grind arith)
            | false ↦ λ e met.
                let ended : list_any is_last f ≡ true = sym (ap (λ o. is_some o || list_any is_last f) met) ∙ met_or_ended in
                let none : p.rest ≡ [] = p.ended ended in
                let all : joined f ≡ content = sym (p.is ∙ ap (λ l. joined f ++ l) none ∙ append-nil (joined f)) in
                let under : sum_by (piece_len length) f ≤ size = ltb-false size (sum_by (piece_len length) f) e in
                let left : length p.rest ≡ 0 = ap length none in
                file_content (sha256 (joined f)) (ap (λ (o : Option (List ℕ)). unwrap_or o []) (reads.learnt q stamp exec held met ended)) (ap sha256 all) (omega arith) met
          ] refl met_is

      fetched_seen : SeenAs
      fetched_seen =
          elim (nat_lt MAX_FETCH (length content)) as (λ c. nat_lt MAX_FETCH (length content) ≡ c → SeenAs) [
            | true ↦ λ e. large_fetched f refl e
            | false ↦ λ e. small_fetched e
          ] refl

    file_seen : IsRead rules size before s id hs q → SeenAs
    file_seen (inl none) = none_fetched none
    file_seen (inr r) =
        let same : r.stamp ≡ stamp = same_stamps rules size before s id r.stamp stamp r.exec exec (sym r.held_is ∙ held) in
        fetched_seen (subst (λ t. FetchedOn s id q t 0 f) same r.on)
        (ap (λ b. b || (is_some (problem_of rules size f) || list_any is_last f)) (sym (ap (spared_by before q) (sym same) ∙ r.unspared)) ∙ over_with)

  -- ---- the look

  module _ (lines_of : LinesAreOf s size before) (limit : size ≤ MAX_FETCH) (q : Names) where
    entry_seen : (e : Entry) → held_in rules size hs q ≡ Some e → map.get s.tree q ≡ Some e → left_alone rules q e ≡ false
        → atom_by rules size (spared_by before) (digest_in after) q (fetched_in rules size hs q) e ≡ look_as s rules size e
    entry_seen entry.Dir held there followed = refl
    entry_seen (entry.File stamp exec) held there followed = file_seen lines_of limit q stamp exec held there followed (reads.read q)
    entry_seen (entry.Link text) held there followed = refl
    entry_seen entry.Other held there followed = refl

    atom_seen : (e : Entry) → held_in rules size hs q ≡ Some e → map.get s.tree q ≡ Some e → atom_of rules size (spared_by before) (digest_in after) q (fetched_in rules size hs q) e ≡ look_atom s rules size q e
    atom_seen e held there =
        elim (left_alone rules q e) as (λ c. left_alone rules q e ≡ c → cond c atom.Untracked (atom_by rules size (spared_by before) (digest_in after) q (fetched_in rules size hs q) e) ≡ cond c atom.Untracked (look_as s rules size e)) [
          | true ↦ λ is. refl
          | false ↦ λ is. entry_seen e held there is
        ] refl

    held_seen : (o : Option Entry) → held_in rules size hs q ≡ o → map.get s.tree q ≡ o
        → option_map (atom_of rules size (spared_by before) (digest_in after) q (fetched_in rules size hs q)) o ≡ option_map (look_atom s rules size q) o
    held_seen None held there = refl
    held_seen (Some e) held there = ap (λ (x : Atom). Some x) (atom_seen e held there)

    pub looks : seen_at length rules size hs (digest_in after) q ≡ look_at s rules size q
    looks =
        seen_held rules size (spared_by before) (digest_in after) hs q (held_in rules size hs q)
        ∙ elim (is_reached rules q) as (λ c. held_in rules size hs q ≡ cond c (map.get s.tree q) None
        → option_map (atom_of rules size (spared_by before) (digest_in after) q (fetched_in rules size hs q)) (held_in rules size hs q) ≡ cond c (option_map (look_atom s rules size q) (map.get s.tree q)) None) [
          | true ↦ λ is. ap (option_map (atom_of rules size (spared_by before) (digest_in after) q (fetched_in rules size hs q))) is ∙ held_seen (map.get s.tree q) is refl
          | false ↦ λ is. ap (option_map (atom_of rules size (spared_by before) (digest_in after) q (fetched_in rules size hs q))) is
        ] (held_everywhere q)

pub undisturbed_sees_look : UndisturbedSeesLook
undisturbed_sees_look m rules before after scanned s id still whole q =
    let tied = tied_now m rules before after scanned in
    let ready = ready_now m rules before after scanned in
    let none = λ (r : Names). is_none (need_in rules m.size (spared_by before) (heard_by m) r)
    (sym (wanted_some rules m.size (spared_by before) (heard_by m) r) ∙ ap is_some (whole_wants_nothing rules m.size before after (heard_by m) (state_of m) ready tied whole r)) in
    let reads = all_read rules m.size before s id m.entries after new_state m.told [] before scanned.taken scanned.one_rules scanned.one_cache new_ready (new_tied rules m.size before) (new_reads rules m.size before s id) refl still.answered in
    whole_sees_seen_tree m rules before after scanned whole q
    ∙ looks rules m.size before after s id (heard_by m) reads tied.quiet tied.lines still.closed none still.lines still.limit q
