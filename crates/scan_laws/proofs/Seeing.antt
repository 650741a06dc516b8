-- What each step of a scan keeps of what it has seen.
use Rattle.std.proofs.Common.{◌≡◌, ℕ, Bool, true, false, cond, List, [], ◌∷◌, ◌++◌, length, nat_lt, refl, sym, ap, ◌∙◌, Option, Some, None}
use Rattle.std.proofs.Common.{map as list_map}
use Rattle.std.specs.Prelude.{⊤}
use Rattle.std.specs.FinMap as map
use Rattle.std.specs.Cmp.{tied_itself}
use Rattle.std.specs.Cmp.Lexicographic.{slice_cmp, nat_list_cmp_total}
use Rattle.std.specs.List.{AllByRecursion}
use Rattle.std.specs.List.Sorted.{IsStrictlySortedBy}
use Rattle.std.specs.Option.{is_some, option_map}
use Rattle.std.specs.Ordering.{nat_cmp, eq_by_cmp, is_eq}
use Rattle.std.specs.declared.cmp.Ordering.TheVariants.{Less, Equal}
use Rattle.std.proofs.lemmas.Map.Keys.{sorted_head, sorted_tail}
use Rattle.sha2.specs.Sha256.{sha256}
use Rattle.sync_path.specs.Path.{path_cmp, may_follow}
use Rattle.sync_path.specs.PathOrder.{path_cmp_total}
use Rattle.entry_tree.specs.Atom.{is_dir}
use Rattle.entry_tree.specs.Tree.{Names, ByPath, holds_folder, is_below, refusal}
use Rattle.entry_tree.specs.declared.atom.Atom.{Atom}
use Rattle.entry_tree.specs.declared.atom.Atom.TheVariants as atom
use Rattle.entry_tree.specs.declared.entry.Entry.{Entry}
use Rattle.entry_tree.specs.declared.entry.Stamp.{Stamp}
use Rattle.entry_tree.specs.declared.problem_kind.ProblemKind.{ProblemKind}
use Rattle.entry_tree.specs.declared.problem_kind.ProblemKind.TheVariants as problem
use Rattle.entry_tree.specs.declared.tree_error.TreeError.TheVariants.{NoParent}
use Rattle.entry_tree.proofs.Paths.{child_below, not_below_itself}
use Rattle.entry_tree.proofs.Trees.{parent-child, tie_is, closed_empty}
use Rattle.ignore_glob.specs.Grammar.{Meaning}
use Rattle.roots_api.specs.declared.answer.Answer.{Answer}
use Rattle.roots_api.specs.declared.answer.Answer.TheVariants.{Listed, Held, Piece, Changed, TooLarge, Cleared, Opened, Kept, NotStaged, DigestDiffers, Done, NoParent as NoParentAnswer, Differs, NoLink, NoExec, NotEmpty, Full, Failed}
use Rattle.scan_cache.specs.declared.line.Line.{Line}
use Rattle.scan_core.specs.Board.{new_board, shows, shows_file, placed, with_row, with_rows, counts, first_in, without_in, advanced}
use Rattle.scan_core.specs.Scan.{ScanState, new_state, asked_for, asked_at, after_list, after_piece, after_fetch, after_wanted, after_asked, after_told, after_all, with_problem, file_done, IsAnswered, AreTaken}
use Rattle.scan_core.specs.Told.{Told}
use Rattle.scan_core.specs.declared.board.Board.{Board}
use Rattle.scan_core.specs.declared.wanted.Next.{Next}
use Rattle.scan_core.specs.declared.wanted.Wanted.{Wanted}
use Rattle.scan_core.specs.declared.wanted.Wanted.TheVariants.{Names as WantedNames, Content}
use Rattle.scan_laws.specs.Standing.{is_file, SeenIsClosed, StampsAreOfFiles}
use Rattle.scan_laws.proofs.Standing.{Wantable, Stands, IsOpen, Goes, shown_at, shows_stands, file_stands, placed_goes}

-- ---- children of one folder

pub last_of : List ℕ → Names → List ℕ
last_of d [] = d
last_of d (x ∷ xs) = last_of x xs

pub last_child : (d : List ℕ) (f : Names) (n : List ℕ) → last_of d (f ++ n ∷ []) ≡ n
unfolding last_of
last_child d [] n = refl
last_child d (x ∷ f) n = last_child x f n

children_apart : (f : Names) (n k : List ℕ) → slice_cmp nat_cmp n k ≡ Less → eq_by_cmp path_cmp (f ++ k ∷ []) (f ++ n ∷ []) ≡ false
children_apart f n k less =
    elim (eq_by_cmp path_cmp (f ++ k ∷ []) (f ++ n ∷ [])) as (λ b. eq_by_cmp path_cmp (f ++ k ∷ []) (f ++ n ∷ []) ≡ b → b ≡ false) [
      | true ↦ λ e.
          let same : k ≡ n = sym (last_child [] f k) ∙ ap (last_of []) (tie_is (f ++ k ∷ []) (f ++ n ∷ []) e) ∙ last_child [] f n in
          let clash : Equal ≡ Less = sym (tied_itself nat_list_cmp_total n) ∙ ap (slice_cmp nat_cmp n) (sym same) ∙ less in
          absurd (cc)
      | false ↦ λ e. refl
    ] refl

pub child_apart : (f : Names) (n : List ℕ) → eq_by_cmp path_cmp (f ++ n ∷ []) f ≡ false
child_apart f n =
    elim (eq_by_cmp path_cmp (f ++ n ∷ []) f) as (λ b. eq_by_cmp path_cmp (f ++ n ∷ []) f ≡ b → b ≡ false) [
      | true ↦ λ e. absurd (let clash : true ≡ false = sym (child_below f n) ∙ ap (λ z. is_below z f) (tie_is (f ++ n ∷ []) f e) ∙ not_below_itself f in cc)
      | false ↦ λ e. refl
    ] refl

pub itself : (p : Names) → eq_by_cmp path_cmp p p ≡ true
itself p = ap is_eq (tied_itself path_cmp_total p)

none_is : (o : Option Atom) → (is_some o ≡ true → ⊥) → o ≡ None
none_is None h = refl
none_is (Some x) h = absurd (h refl)

not_true_is : (b : Bool) → (b ≡ true → ⊥) → b ≡ false
not_true_is true h = absurd (h refl)
not_true_is false h = refl

-- ---- the rows of a folder

module _ (rules : List Meaning) (cache : ByPath Line) (f : Names) where
  pub row_goes : (b : Board) (stands : Stands b) (row : List ℕ × Entry) (free : IsOpen b (f ++ row.0 ∷ [])) → Goes b stands (f ++ row.0 ∷ []) free (with_row rules cache f b row)
  row_goes b stands row free =
      elim (may_follow f row.0) as (λ c. Goes b stands (f ++ row.0 ∷ []) free (cond c (placed rules cache b (f ++ row.0 ∷ []) row.1) b)) [
        | true ↦ placed_goes b stands (f ++ row.0 ∷ []) free cache rules row.1
        | false ↦ record { stands_after = stands; others = λ q apart o. o }
      ]

  pub still_open : (b after : Board) (stands : Stands b) (n : List ℕ) (free : IsOpen b (f ++ n ∷ [])) → Goes b stands (f ++ n ∷ []) free after
      → (rows : List (List ℕ × Entry)) → AllByRecursion (λ k. slice_cmp nat_cmp n k ≡ Less) (list_map (λ row. row.0) rows)
      → AllByRecursion (λ row. IsOpen b (f ++ row.0 ∷ [])) rows → AllByRecursion (λ row. IsOpen after (f ++ row.0 ∷ [])) rows
  still_open b after stands n free goes [] less open_rows = tt
  still_open b after stands n free goes (row ∷ rows) less open_rows =
      (goes.others (f ++ row.0 ∷ []) (children_apart f n row.0 less.0) open_rows.0, still_open b after stands n free goes rows less.1 open_rows.1)

  rows_stand : (b : Board) (rows : List (List ℕ × Entry)) → Stands b → IsStrictlySortedBy (slice_cmp nat_cmp) (list_map (λ row. row.0) rows)
      → AllByRecursion (λ row. IsOpen b (f ++ row.0 ∷ [])) rows → Stands (with_rows rules cache f b rows)
  rows_stand b [] stands sorted open_rows = stands
  rows_stand b (row ∷ rows) stands sorted open_rows =
      let goes = row_goes b stands row open_rows.0 in
      rows_stand (with_row rules cache f b row) rows goes.stands_after (sorted_tail (slice_cmp nat_cmp) row.0 (list_map (λ r. r.0) rows) sorted)
      (still_open b (with_row rules cache f b row) stands row.0 open_rows.0 goes rows (sorted_head (slice_cmp nat_cmp) row.0 (list_map (λ r. r.0) rows) sorted) open_rows.1)

module _ (b : Board) (stands : Stands b) (f : Names) (free : IsOpen b f) (count : ℕ) where
  abbrev pub listed : Board
  listed = counts (shows b f atom.Dir) count

  pub listed_stands : Stands listed
  listed_stands =
      let s = shows_stands b stands f free atom.Dir refl in
      record { closed = s.closed; stamped = s.stamped; later = s.later }

  pub child_open : (n : List ℕ) → IsOpen listed (f ++ n ∷ [])
  child_open n =
      let q = f ++ n ∷ [] in
      let at = shown_at b.seen stands.closed f free.wantable atom.Dir in
      let none : map.get b.seen q ≡ None = none_is (map.get b.seen q) (λ h. let clash : false ≡ true = sym (ap (holds_folder is_dir) free.wantable.fresh) ∙ stands.closed f n h in absurd (cc)) in
      record {
        wantable = record {
          fresh = at q ∙ ap (λ c. cond c (Some atom.Dir) (map.get b.seen q)) (child_apart f n) ∙ none;
          allowed = ap (λ (up : Option Names). refusal is_dir (option_map (map.get (shows b f atom.Dir).seen) up)) (parent-child f n)
              ∙ ap (λ (o : Option Atom). refusal is_dir (Some o)) (at f ∙ ap (λ c. cond c (Some atom.Dir) (map.get b.seen f)) (itself f));
        };
        unasked = not_true_is (is_some (map.get b.later q)) (λ h.
            let can = stands.later q h in
            let clash : Some NoParent ≡ None = sym (ap (λ (up : Option Names). refusal is_dir (option_map (map.get b.seen) up)) (parent-child f n) ∙ ap (λ (o : Option Atom). refusal is_dir (Some o)) free.wantable.fresh) ∙ can.allowed in
            absurd (cc));
      }

  pub children_open : (rows : List (List ℕ × Entry)) → AllByRecursion (λ row. IsOpen listed (f ++ row.0 ∷ [])) rows
  children_open [] = tt
  children_open (row ∷ rows) = (child_open row.0, children_open rows)

  pub folder_stands : (rules : List Meaning) (cache : ByPath Line) (rows : List (List ℕ × Entry)) → IsStrictlySortedBy (slice_cmp nat_cmp) (list_map (λ row. row.0) rows) → Stands (with_rows rules cache f (counts (shows b f atom.Dir) count) rows)
  folder_stands rules cache rows sorted = rows_stand rules cache f listed rows listed_stands sorted (children_open rows)

-- ---- what comes next

-- what is asked next is open
abbrev pub NextOpen : Board → Option Next → Type 0
NextOpen b None = ⊤
NextOpen b (Some next) = IsOpen b next.path

pub record Ready (b : Board) : Type 0 where
  pub stands : Stands b
  pub next : NextOpen b b.next

abbrev advanced_with : Board → List (Names × Wanted) → Board
advanced_with b es = record { next = first_in es; later = without_in b.later es; rows = b.rows; seen = b.seen; stamps = b.stamps }

ready_with : (b : Board) (es : List (Names × Wanted)) → map.entries b.later ≡ es → Stands b → Ready (advanced_with b es)
ready_with b [] is s = record { stands = record { closed = s.closed; stamped = s.stamped; later = s.later }; next = tt }
ready_with b (e ∷ es) is s =
    let there : map.get b.later e.0 ≡ Some e.1 = map.get-entries b.later e.0 ∙ ap (map.find path_cmp e.0) is ∙ ap (λ c. cond c (Some e.1) (map.find path_cmp e.0 es)) (itself e.0) in
    record {
      stands = record {
        closed = s.closed;
        stamped = s.stamped;
        later = λ q h. elim (eq_by_cmp path_cmp q e.0) as (λ c. is_some (cond c None (map.get b.later q)) ≡ true → Wantable b.seen q) [
          | true ↦ λ g. absurd (cc)
          | false ↦ λ g. s.later q g
        ] (ap is_some (sym (map.get-remove path_cmp_total b.later e.0 q)) ∙ h);
      };
      next = record {
        wantable = (let w = s.later e.0 (ap is_some there) in record { fresh = w.fresh; allowed = w.allowed });
        unasked = ap is_some (map.get-remove path_cmp_total b.later e.0 e.0 ∙ ap (λ c. cond c None (map.get b.later e.0)) (itself e.0));
      };
    }

pub advanced_ready : (b : Board) → Stands b → Ready (advanced b)
advanced_ready b s = ready_with b (map.entries b.later) refl s

-- ---- steps

module _ (b : Board) (ready : Ready b) (path : Names) (free : IsOpen b path) where
  list_ready : (rules : List Meaning) (cache : ByPath Line) (answer : Answer (List ℕ)) → IsAnswered (Some (asked_at 0 path WantedNames)) answer → Ready (after_list rules cache b path answer)
  list_ready rules cache (Listed rows) h = advanced_ready _ (folder_stands b ready.stands path free (length rows) rules cache rows h.rise)
  list_ready rules cache (Held None) h = advanced_ready b ready.stands
  list_ready rules cache (Held (Some found)) h = advanced_ready _ (placed_goes b ready.stands path free cache rules found).stands_after
  list_ready rules cache (Piece bytes last) h = absurd h
  list_ready rules cache (Changed found) h = absurd h
  list_ready rules cache (TooLarge bytes) h = absurd h
  list_ready rules cache Cleared h = absurd h
  list_ready rules cache Opened h = absurd h
  list_ready rules cache Kept h = absurd h
  list_ready rules cache NotStaged h = absurd h
  list_ready rules cache (DigestDiffers wanted got) h = absurd h
  list_ready rules cache (Done made) h = absurd h
  list_ready rules cache (NoParentAnswer found) h = absurd h
  list_ready rules cache (Differs found) h = absurd h
  list_ready rules cache NoLink h = absurd h
  list_ready rules cache NoExec h = absurd h
  list_ready rules cache NotEmpty h = absurd h
  list_ready rules cache (Full room) h = ready
  list_ready rules cache Failed h = ready

  module _ (size : ℕ) (stamp : Stamp) (exec : Bool) where
    problem_ready : (kind : ProblemKind) → Ready (with_problem b path kind).board
    problem_ready kind = advanced_ready _ (shows_stands b ready.stands path free (atom.Problem kind) refl)

    piece_ready : (bytes : List ℕ) (last : Bool) → Ready (after_piece size b path stamp exec bytes last).board
    piece_ready bytes last =
        elim (nat_lt size (length bytes)) as (λ c. Ready (cond c (with_problem b path problem.TooLarge) (cond last (file_done (shows_file b path stamp exec (sha256 bytes))) (record { board = b; begun = bytes }))).board) [
          | true ↦ problem_ready problem.TooLarge
          | false ↦ elim last as (λ l. Ready (cond l (file_done (shows_file b path stamp exec (sha256 bytes))) (record { board = b; begun = bytes })).board) [
            | true ↦ advanced_ready _ (file_stands b ready.stands path free stamp exec (sha256 bytes))
            | false ↦ ready
          ]
        ]

    fetch_ready : (begun : List ℕ) (answer : Answer (List ℕ)) → Ready (after_fetch size b path stamp exec begun answer).board
    fetch_ready begun (Listed rows) = ready
    fetch_ready begun (Held found) = ready
    fetch_ready begun (Piece bytes last) = piece_ready (begun ++ bytes) last
    fetch_ready begun (Changed found) = problem_ready problem.Changed
    fetch_ready begun (TooLarge bytes) = problem_ready problem.TooLarge
    fetch_ready begun Cleared = ready
    fetch_ready begun Opened = ready
    fetch_ready begun Kept = ready
    fetch_ready begun NotStaged = ready
    fetch_ready begun (DigestDiffers wanted got) = ready
    fetch_ready begun (Done made) = ready
    fetch_ready begun (NoParentAnswer found) = ready
    fetch_ready begun (Differs found) = ready
    fetch_ready begun NoLink = ready
    fetch_ready begun NoExec = ready
    fetch_ready begun NotEmpty = ready
    fetch_ready begun (Full room) = ready
    fetch_ready begun Failed = problem_ready problem.Failed

wanted_ready : (size : ℕ) (s : ScanState) (t : Told) (path : Names) (wanted : Wanted) → Ready s.board → IsOpen s.board path
    → IsAnswered (Some (asked_at (length s.begun) path wanted)) t.answer → Ready (after_wanted size s t path wanted).board
wanted_ready size s t path WantedNames ready free h = list_ready s.board ready path free t.rules t.cache t.answer h
wanted_ready size s t path (Content stamp exec) ready free h = fetch_ready s.board ready path free size stamp exec s.begun t.answer

pub asked_ready : (size : ℕ) (s : ScanState) (t : Told) (next : Option Next) → Ready s.board → NextOpen s.board next → IsAnswered (asked_for (length s.begun) next) t.answer → Ready (after_asked size s t next).board
asked_ready size s t None ready free h = absurd h
asked_ready size s t (Some next) ready free h = wanted_ready size s t next.path next.wanted ready free h

pub all_ready : (entries size : ℕ) (s : ScanState) (ts : List Told) → AreTaken entries size s ts → Ready s.board → Ready (after_all size s ts).board
all_ready entries size s [] h ready = ready
all_ready entries size s (t ∷ ts) h ready = all_ready entries size (after_told size s t) ts h.2 (asked_ready size s t s.board.next ready ready.next h.0)

pub new_ready : Ready new_board
new_ready = record {
  stands = record {
    closed = closed_empty is_dir;
    stamped = λ q. ap is_some (map.get-empty path_cmp q) ∙ sym (ap is_file (map.get-empty path_cmp q));
    later = λ q h. absurd (let clash : false ≡ true = sym (ap is_some (map.get-empty path_cmp q)) ∙ h in cc);
  };
  next = record {
    wantable = record { fresh = map.get-empty path_cmp []; allowed = refl };
    unasked = ap is_some (map.get-empty path_cmp []);
  };
}

pub seen_closed : SeenIsClosed
seen_closed m h = (all_ready m.entries m.size new_state m.told h new_ready).stands.closed

pub stamps_of_files : StampsAreOfFiles
stamps_of_files m h = (all_ready m.entries m.size new_state m.told h new_ready).stands.stamped
