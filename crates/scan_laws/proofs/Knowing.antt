-- What the cache knows of the files that were seen.
use Rattle.std.proofs.Common.{◌≡◌, ℕ, ◌==◌, Bool, true, false, not, cond, List, [], ◌∷◌, ◌++◌, length, nat_lt, refl, sym, ap, subst, ◌∙◌, Option, Some, None, arith}
use Rattle.std.proofs.Common.{map as list_map}
use Rattle.std.specs.Prelude.{unwrap_or}
use Rattle.std.specs.FinMap as map
use Rattle.std.specs.Cmp.Lexicographic.{slice_cmp}
use Rattle.std.specs.List.{AllByRecursion}
use Rattle.std.specs.List.Sorted.{IsStrictlySortedBy}
use Rattle.std.specs.Option.{is_some, option_and_then}
use Rattle.std.specs.Ordering.{nat_cmp, eq_by_cmp}
use Rattle.std.proofs.lemmas.Map.Keys.{sorted_head, sorted_tail}
use Rattle.sha2.specs.Sha256.{sha256}
use Rattle.sync_path.specs.Path.{path_cmp, may_follow}
use Rattle.sync_path.specs.PathOrder.{path_cmp_total}
use Rattle.entry_tree.specs.Tree.{Names, ByPath}
use Rattle.entry_tree.specs.declared.atom.Atom.{Atom}
use Rattle.entry_tree.specs.declared.atom.Atom.TheVariants as atom
use Rattle.entry_tree.specs.declared.entry.Entry.{Entry}
use Rattle.entry_tree.specs.declared.entry.Entry.TheVariants as entry
use Rattle.entry_tree.specs.declared.entry.Stamp.{Stamp}
use Rattle.entry_tree.specs.declared.problem_kind.ProblemKind.{ProblemKind}
use Rattle.entry_tree.specs.declared.problem_kind.ProblemKind.TheVariants as problem
use Rattle.entry_tree.proofs.Trees.{tie_is}
use Rattle.ignore_glob.specs.Grammar.{Meaning}
use Rattle.roots_api.specs.declared.answer.Answer.{Answer}
use Rattle.roots_api.specs.declared.answer.Answer.TheVariants.{Listed, Held, Piece, Changed, TooLarge, Cleared, Opened, Kept, NotStaged, DigestDiffers, Done, NoParent, Differs, NoLink, NoExec, NotEmpty, Full, Failed}
use Rattle.scan_cache.specs.Cache.{digest_for, line_of, with_line}
use Rattle.scan_cache.specs.declared.line.Line.{Line}
use Rattle.scan_core.specs.Board.{new_board, may_stand, shows, shows_file, asks, left_alone, placed_file, placed_as, placed, with_row, with_rows, advanced}
use Rattle.scan_core.specs.Scan.{ScanState, new_state, asked_for, asked_at, after_list, after_piece, after_fetch, after_wanted, after_asked, after_told, after_all, with_problem, file_done, learns_piece, learns_fetch, learns_wanted, learns_asked, learns, IsAnswered, AreTaken}
use Rattle.scan_core.specs.declared.board.Board.{Board}
use Rattle.scan_core.specs.Told.{Told}
use Rattle.scan_core.specs.declared.wanted.Next.{Next}
use Rattle.scan_core.specs.declared.wanted.Wanted.{Wanted}
use Rattle.scan_core.specs.declared.wanted.Wanted.TheVariants.{Names as WantedNames, Content}
use Rattle.scan_laws.specs.Caches.{IsOneCache, LinesStay, FilesAreKnown}
use Rattle.scan_laws.specs.Standing.{is_file}
use Rattle.scan_laws.proofs.Seeing.{Ready, NextOpen, row_goes, still_open, listed, listed_stands, children_open, asked_ready, new_ready, itself}
use Rattle.scan_laws.proofs.Standing.{Stands, IsOpen, shown_at}
use Rattle.entry_tree.specs.declared.tree_error.TreeError.{TreeError}

-- a line that is put leaves a line at each path that had one
line_stays : (cache : ByPath Line) (p : Names) (stamp : Stamp) (digest : List ℕ) (q : Names) → is_some (map.get cache q) ≡ true → is_some (map.get (with_line cache p stamp digest) q) ≡ true
line_stays cache p stamp digest q h =
    ap is_some (map.get-insert path_cmp_total cache p (record { stamp = stamp; digest = digest }) q)
    ∙ elim (eq_by_cmp path_cmp q p) as (λ c. is_some (cond c (Some (record { stamp = stamp; digest = digest })) (map.get cache q)) ≡ true) [ true ↦ refl | false ↦ h ]

module _ (size : ℕ) (cache : ByPath Line) (path : Names) (stamp : Stamp) (q : Names) (had : is_some (map.get cache q) ≡ true) where
  piece_stays : (bytes : List ℕ) (last : Bool) → is_some (map.get (learns_piece size cache path stamp bytes last) q) ≡ true
  piece_stays bytes last =
      elim (nat_lt size (length bytes)) as (λ c. is_some (map.get (cond c cache (cond last (with_line cache path stamp (sha256 bytes)) cache)) q) ≡ true) [
        | true ↦ had
        | false ↦ elim last as (λ l. is_some (map.get (cond l (with_line cache path stamp (sha256 bytes)) cache) q) ≡ true) [ true ↦ line_stays cache path stamp (sha256 bytes) q had | false ↦ had ]
      ]

  fetch_stays : (begun : List ℕ) (answer : Answer (List ℕ)) → is_some (map.get (learns_fetch size cache path stamp begun answer) q) ≡ true
  fetch_stays begun (Listed rows) = had
  fetch_stays begun (Held found) = had
  fetch_stays begun (Piece bytes last) = piece_stays (begun ++ bytes) last
  fetch_stays begun (Changed found) = had
  fetch_stays begun (TooLarge bytes) = had
  fetch_stays begun Cleared = had
  fetch_stays begun Opened = had
  fetch_stays begun Kept = had
  fetch_stays begun NotStaged = had
  fetch_stays begun (DigestDiffers wanted got) = had
  fetch_stays begun (Done made) = had
  fetch_stays begun (NoParent found) = had
  fetch_stays begun (Differs found) = had
  fetch_stays begun NoLink = had
  fetch_stays begun NoExec = had
  fetch_stays begun NotEmpty = had
  fetch_stays begun (Full room) = had
  fetch_stays begun Failed = had

wanted_stays : (size : ℕ) (begun : List ℕ) (t : Told) (path : Names) (wanted : Wanted) (q : Names) → is_some (map.get t.cache q) ≡ true → is_some (map.get (learns_wanted size begun t path wanted) q) ≡ true
wanted_stays size begun t path WantedNames q had = had
wanted_stays size begun t path (Content stamp exec) q had = fetch_stays size t.cache path stamp q had begun t.answer

asked_stays : (size : ℕ) (begun : List ℕ) (t : Told) (next : Option Next) (q : Names) → is_some (map.get t.cache q) ≡ true → is_some (map.get (learns_asked size begun t next) q) ≡ true
asked_stays size begun t None q had = had
asked_stays size begun t (Some next) q had = wanted_stays size begun t next.path next.wanted q had

all_stay : (size : ℕ) (s : ScanState) (before after : ByPath Line) (ts : List Told) → IsOneCache size s before ts after → (q : Names) → is_some (map.get before q) ≡ true → is_some (map.get after q) ≡ true
all_stay size s before after [] one q had = ap (λ (c : ByPath Line). is_some (map.get c q)) one ∙ had
all_stay size s before after (t ∷ ts) one q had =
    all_stay size (after_told size s t) (learns size s t) after ts one.1 q
    (asked_stays size s.begun t s.board.next q (ap (λ (c : ByPath Line). is_some (map.get c q)) one.0 ∙ had))

pub lines_stay : LinesStay
lines_stay m before after one q had = all_stay m.size new_state before after m.told one q had

-- ---- the digests of the files that were seen

digest_in : Option Atom → List ℕ
digest_in None = []
digest_in (Some atom.Dir) = []
digest_in (Some (atom.File digest exec)) = digest
digest_in (Some (atom.Link text)) = []
digest_in (Some atom.Untracked) = []
digest_in (Some (atom.Problem kind)) = []

same_digest : (d e : List ℕ) (x y : Bool) → Some (atom.File d x) ≡ Some (atom.File e y) → d ≡ e
unfolding digest_in
same_digest d e x y h = ap digest_in h

stamp_itself : (n : ℕ) → (n == n) ≡ true
stamp_itself n = grind arith

-- the cache has the digest of each file that is seen
pub record Knows (b : Board) (cache : ByPath Line) : Type 0 where
  pub known : (q : Names) (digest : List ℕ) (exec : Bool) (stamp : Stamp) → map.get b.seen q ≡ Some (atom.File digest exec) → map.get b.stamps q ≡ Some stamp → digest_for cache q stamp ≡ Some digest

module _ (b : Board) (stands : Stands b) (p : Names) (free : IsOpen b p) where
  shows_knows : (cache : ByPath Line) (x : Atom) → is_file (Some x) ≡ false → Knows b cache → Knows (shows b p x) cache
  shows_knows cache x other k = record {
    known = λ q d e s seen stamped.
        elim (eq_by_cmp path_cmp q p) as (λ c. cond c (Some x) (map.get b.seen q) ≡ Some (atom.File d e) → digest_for cache q s ≡ Some d) [
          | true ↦ λ g. absurd (let clash : false ≡ true = sym other ∙ ap is_file g in cc)
          | false ↦ λ g. k.known q d e s g stamped
        ] (sym (shown_at b.seen stands.closed p free.wantable x q) ∙ seen);
  }

  file_knows : (cache : ByPath Line) (stamp : Stamp) (exec : Bool) (digest : List ℕ) → digest_for cache p stamp ≡ Some digest
      → ((q : Names) (d : List ℕ) (e : Bool) (s : Stamp) → eq_by_cmp path_cmp q p ≡ false → map.get b.seen q ≡ Some (atom.File d e) → map.get b.stamps q ≡ Some s → digest_for cache q s ≡ Some d)
      → Knows (shows_file b p stamp exec digest) cache
  file_knows cache stamp exec digest here others = record {
    known = λ q d e s seen stamped.
        let may : may_stand b.seen p ≡ true = ap (λ (r : Option TreeError). not (is_some r)) free.wantable.allowed in
        let stamps : map.get (cond (may_stand b.seen p) (map.insert b.stamps p stamp) b.stamps) q ≡ cond (eq_by_cmp path_cmp q p) (Some stamp) (map.get b.stamps q) =
        ap (λ c. map.get (cond c (map.insert b.stamps p stamp) b.stamps) q) may ∙ map.get-insert path_cmp_total b.stamps p stamp q in
        elim (eq_by_cmp path_cmp q p) as (λ c. eq_by_cmp path_cmp q p ≡ c → cond c (Some (atom.File digest exec)) (map.get b.seen q) ≡ Some (atom.File d e) → cond c (Some stamp) (map.get b.stamps q) ≡ Some s → digest_for cache q s ≡ Some d) [
          | true ↦ λ is g h.
              let at : q ≡ p = tie_is q p is in
              let same : stamp ≡ s = ap (λ (o : Option Stamp). unwrap_or o stamp) h in
              ap (λ (r : Names). digest_for cache r s) at ∙ ap (digest_for cache p) (sym same) ∙ here ∙ ap (λ (l : List ℕ). Some l) (same_digest digest d exec e g)
          | false ↦ λ is g h. others q d e s is g h
        ] refl (sym (shown_at b.seen stands.closed p free.wantable (atom.File digest exec) q) ∙ seen) (sym stamps ∙ stamped);
  }

  asks_knows : (cache : ByPath Line) (wanted : Wanted) → Knows b cache → Knows (asks b p wanted) cache
  asks_knows cache wanted k = record { known = k.known }

  module _ (cache : ByPath Line) (k : Knows b cache) where
    placed_file_knows : (stamp : Stamp) (exec : Bool) (found : Option (List ℕ)) → digest_for cache p stamp ≡ found → Knows (placed_file b p stamp exec found) cache
    placed_file_knows stamp exec (Some digest) is = file_knows cache stamp exec digest is (λ q d e s apart seen stamped. k.known q d e s seen stamped)
    placed_file_knows stamp exec None is = asks_knows cache (Content stamp exec) k

    as_knows : (found : Entry) → Knows (placed_as cache b p found) cache
    as_knows entry.Dir = asks_knows cache WantedNames k
    as_knows (entry.File stamp exec) = placed_file_knows stamp exec (digest_for cache p stamp) refl
    as_knows (entry.Link text) = shows_knows cache (atom.Link text) refl k
    as_knows entry.Other = shows_knows cache atom.Untracked refl k

    placed_knows : (rules : List Meaning) (found : Entry) → Knows (placed rules cache b p found) cache
    placed_knows rules found =
        elim (left_alone rules p found) as (λ c. Knows (cond c (shows b p atom.Untracked) (placed_as cache b p found)) cache) [
          | true ↦ shows_knows cache atom.Untracked refl k
          | false ↦ as_knows found
        ]

  -- the line that is learnt with the last piece
  learnt_knows : (cache : ByPath Line) (stamp : Stamp) (exec : Bool) (digest : List ℕ) → Knows b cache → Knows (shows_file b p stamp exec digest) (with_line cache p stamp digest)
  learnt_knows cache stamp exec digest k =
      let line : Line = record { stamp = stamp; digest = digest } in
      let at : (q : Names) (s : Stamp) → digest_for (with_line cache p stamp digest) q s ≡ option_and_then (line_of s) (cond (eq_by_cmp path_cmp q p) (Some line) (map.get cache q)) =
      λ q s. ap (option_and_then (line_of s)) (map.get-insert path_cmp_total cache p line q) in
      file_knows (with_line cache p stamp digest) stamp exec digest
      (at p stamp ∙ ap (λ c. option_and_then (line_of stamp) (cond c (Some line) (map.get cache p))) (itself p) ∙ ap (λ c. cond c (Some digest) None) (stamp_itself stamp.0))
      (λ q d e s apart seen stamped. at q s ∙ ap (λ c. option_and_then (line_of s) (cond c (Some line) (map.get cache q))) apart ∙ k.known q d e s seen stamped)

module _ (rules : List Meaning) (cache : ByPath Line) (f : Names) where
  row_knows : (b : Board) (stands : Stands b) (row : List ℕ × Entry) (free : IsOpen b (f ++ row.0 ∷ [])) → Knows b cache → Knows (with_row rules cache f b row) cache
  row_knows b stands row free k =
      elim (may_follow f row.0) as (λ c. Knows (cond c (placed rules cache b (f ++ row.0 ∷ []) row.1) b) cache) [
        | true ↦ placed_knows b stands (f ++ row.0 ∷ []) free cache k rules row.1
        | false ↦ k
      ]

  rows_know : (b : Board) (rows : List (List ℕ × Entry)) → Stands b → IsStrictlySortedBy (slice_cmp nat_cmp) (list_map (λ row. row.0) rows)
      → AllByRecursion (λ row. IsOpen b (f ++ row.0 ∷ [])) rows → Knows b cache → Knows (with_rows rules cache f b rows) cache
  rows_know b [] stands sorted open_rows k = k
  rows_know b (row ∷ rows) stands sorted open_rows k =
      let goes = row_goes rules cache f b stands row open_rows.0 in
      rows_know (with_row rules cache f b row) rows goes.stands_after (sorted_tail (slice_cmp nat_cmp) row.0 (list_map (λ r. r.0) rows) sorted)
      (still_open rules cache f b (with_row rules cache f b row) stands row.0 open_rows.0 goes rows (sorted_head (slice_cmp nat_cmp) row.0 (list_map (λ r. r.0) rows) sorted) open_rows.1)
      (row_knows b stands row open_rows.0 k)

advanced_knows : (b : Board) (cache : ByPath Line) → Knows b cache → Knows (advanced b) cache
advanced_knows b cache k = record { known = k.known }

module _ (b : Board) (ready : Ready b) (path : Names) (free : IsOpen b path) where
  list_knows : (rules : List Meaning) (cache : ByPath Line) (answer : Answer (List ℕ)) → IsAnswered (Some (asked_at 0 path WantedNames)) answer → Knows b cache → Knows (after_list rules cache b path answer) cache
  list_knows rules cache (Listed rows) h k =
      advanced_knows _ cache (rows_know rules cache path (listed b ready.stands path free (length rows)) rows (listed_stands b ready.stands path free (length rows)) h.rise (children_open b ready.stands path free (length rows) rows)
      (record { known = (shows_knows b ready.stands path free cache atom.Dir refl k).known }))
  list_knows rules cache (Held None) h k = advanced_knows b cache k
  list_knows rules cache (Held (Some found)) h k = advanced_knows _ cache (placed_knows b ready.stands path free cache k rules found)
  list_knows rules cache (Piece bytes last) h k = absurd h
  list_knows rules cache (Changed found) h k = absurd h
  list_knows rules cache (TooLarge bytes) h k = absurd h
  list_knows rules cache Cleared h k = absurd h
  list_knows rules cache Opened h k = absurd h
  list_knows rules cache Kept h k = absurd h
  list_knows rules cache NotStaged h k = absurd h
  list_knows rules cache (DigestDiffers wanted got) h k = absurd h
  list_knows rules cache (Done made) h k = absurd h
  list_knows rules cache (NoParent found) h k = absurd h
  list_knows rules cache (Differs found) h k = absurd h
  list_knows rules cache NoLink h k = absurd h
  list_knows rules cache NoExec h k = absurd h
  list_knows rules cache NotEmpty h k = absurd h
  list_knows rules cache (Full room) h k = k
  list_knows rules cache Failed h k = k

  module _ (size : ℕ) (stamp : Stamp) (exec : Bool) (cache : ByPath Line) (k : Knows b cache) where
    problem_knows : (kind : ProblemKind) → Knows (with_problem b path kind).board cache
    problem_knows kind = advanced_knows _ cache (shows_knows b ready.stands path free cache (atom.Problem kind) refl k)

    piece_knows : (bytes : List ℕ) (last : Bool) → Knows (after_piece size b path stamp exec bytes last).board (learns_piece size cache path stamp bytes last)
    piece_knows bytes last =
        elim (nat_lt size (length bytes)) as (λ c. Knows (cond c (with_problem b path problem.TooLarge) (cond last (file_done (shows_file b path stamp exec (sha256 bytes))) (record { board = b; begun = bytes }))).board
        (cond c cache (cond last (with_line cache path stamp (sha256 bytes)) cache))) [
          | true ↦ problem_knows problem.TooLarge
          | false ↦ elim last as (λ l. Knows (cond l (file_done (shows_file b path stamp exec (sha256 bytes))) (record { board = b; begun = bytes })).board (cond l (with_line cache path stamp (sha256 bytes)) cache)) [
            | true ↦ advanced_knows _ (with_line cache path stamp (sha256 bytes)) (learnt_knows b ready.stands path free cache stamp exec (sha256 bytes) k)
            | false ↦ k
          ]
        ]

    fetch_knows : (begun : List ℕ) (answer : Answer (List ℕ)) → Knows (after_fetch size b path stamp exec begun answer).board (learns_fetch size cache path stamp begun answer)
    fetch_knows begun (Listed rows) = k
    fetch_knows begun (Held found) = k
    fetch_knows begun (Piece bytes last) = piece_knows (begun ++ bytes) last
    fetch_knows begun (Changed found) = problem_knows problem.Changed
    fetch_knows begun (TooLarge bytes) = problem_knows problem.TooLarge
    fetch_knows begun Cleared = k
    fetch_knows begun Opened = k
    fetch_knows begun Kept = k
    fetch_knows begun NotStaged = k
    fetch_knows begun (DigestDiffers wanted got) = k
    fetch_knows begun (Done made) = k
    fetch_knows begun (NoParent found) = k
    fetch_knows begun (Differs found) = k
    fetch_knows begun NoLink = k
    fetch_knows begun NoExec = k
    fetch_knows begun NotEmpty = k
    fetch_knows begun (Full room) = k
    fetch_knows begun Failed = problem_knows problem.Failed

wanted_knows : (size : ℕ) (s : ScanState) (t : Told) (path : Names) (wanted : Wanted) → Ready s.board → IsOpen s.board path
    → IsAnswered (Some (asked_at (length s.begun) path wanted)) t.answer → Knows s.board t.cache → Knows (after_wanted size s t path wanted).board (learns_wanted size s.begun t path wanted)
wanted_knows size s t path WantedNames ready free h k = list_knows s.board ready path free t.rules t.cache t.answer h k
wanted_knows size s t path (Content stamp exec) ready free h k = fetch_knows s.board ready path free size stamp exec t.cache k s.begun t.answer

asked_knows : (size : ℕ) (s : ScanState) (t : Told) (next : Option Next) → Ready s.board → NextOpen s.board next → IsAnswered (asked_for (length s.begun) next) t.answer → Knows s.board t.cache
    → Knows (after_asked size s t next).board (learns_asked size s.begun t next)
asked_knows size s t None ready free h k = absurd h
asked_knows size s t (Some next) ready free h k = wanted_knows size s t next.path next.wanted ready free h k

pub all_know : (entries size : ℕ) (s : ScanState) (before after : ByPath Line) (ts : List Told) → AreTaken entries size s ts → IsOneCache size s before ts after → Ready s.board → Knows s.board before → Knows (after_all size s ts).board after
all_know entries size s before after [] h one ready k = subst (Knows s.board) (sym one) k
all_know entries size s before after (t ∷ ts) h one ready k =
    all_know entries size (after_told size s t) (learns size s t) after ts h.2 one.1 (asked_ready size s t s.board.next ready ready.next h.0)
    (asked_knows size s t s.board.next ready ready.next h.0 (subst (Knows s.board) (sym one.0) k))

pub new_knows : (cache : ByPath Line) → Knows new_board cache
new_knows cache = record { known = λ q d e s seen stamped. absurd (let clash : None ≡ Some s = sym (map.get-empty path_cmp q) ∙ stamped in cc) }

pub files_are_known : FilesAreKnown
files_are_known m before after h one = (all_know m.entries m.size new_state before after m.told h one new_ready (new_knows before)).known
