-- How much a scan asks.
use Rattle.std.proofs.Common.{◌≡◌, ℕ, ◌+◌, ◌≤◌, Bool, true, false, cond, List, [], ◌∷◌, ◌++◌, length, nat_lt, refl, ap, ◌∙◌, Option, Some, None, arith}
use Rattle.std.proofs.lemmas.Bool.{ltb-false}
use Rattle.sha2.specs.Sha256.{sha256}
use Rattle.sync_path.specs.Path.{may_follow}
use Rattle.entry_tree.specs.Tree.{Names, ByPath}
use Rattle.entry_tree.specs.declared.atom.Atom.TheVariants as atom
use Rattle.entry_tree.specs.declared.entry.Entry.{Entry}
use Rattle.entry_tree.specs.declared.entry.Entry.TheVariants as entry
use Rattle.entry_tree.specs.declared.entry.Stamp.{Stamp}
use Rattle.entry_tree.specs.declared.problem_kind.ProblemKind.{ProblemKind}
use Rattle.entry_tree.specs.declared.problem_kind.ProblemKind.TheVariants as problem
use Rattle.ignore_glob.specs.Grammar.{Meaning}
use Rattle.roots_api.specs.Logs.{rows_in}
use Rattle.roots_api.specs.declared.answer.Answer.{Answer}
use Rattle.roots_api.specs.declared.answer.Answer.TheVariants.{Listed, Held, Piece, Changed, TooLarge, Cleared, Opened, Kept, NotStaged, DigestDiffers, Done, NoParent, Differs, NoLink, NoExec, NotEmpty, Full, Failed}
use Rattle.scan_cache.specs.Cache.{digest_for}
use Rattle.scan_cache.specs.declared.line.Line.{Line}
use Rattle.scan_core.specs.Board.{shows, shows_file, left_alone, placed_file, placed_as, placed, with_row, with_rows, counts, advanced}
use Rattle.scan_core.specs.Scan.{ScanState, new_state, state_of, asked, asked_for, asked_at, after_list, after_piece, after_fetch, after_wanted, after_asked, after_told, after_all, with_problem, file_done, ends_list, ends_wanted, ends_asked, ends_by, IsAnswered, AreTaken}
use Rattle.scan_core.specs.Told.{Told}
use Rattle.scan_core.specs.declared.board.Board.{Board}
use Rattle.scan_core.specs.declared.scan_end.ScanEnd.TheVariants as end
use Rattle.scan_core.specs.declared.wanted.Next.{Next}
use Rattle.scan_core.specs.declared.wanted.Wanted.{Wanted}
use Rattle.scan_core.specs.declared.wanted.Wanted.TheVariants.{Names as WantedNames, Content}
use Rattle.scan_laws.specs.Bounds.{heard_as, heard_from, heard_by, lists_in, ListsAreBounded, RowsAreCounted}
use Rattle.scan_laws.specs.ScanLists.{rows_heard}
use Rattle.scan_laws.specs.Seen.{Heard}
use Rattle.scan_laws.proofs.Firsts.{one_next, to_list, pending, names_insert, advanced_pending, nothing_later}

-- one folder more, where an entry is one
abbrev pub folder_one : Entry → ℕ
folder_one entry.Dir = 1
folder_one (entry.File stamp exec) = 0
folder_one (entry.Link text) = 0
folder_one entry.Other = 0

-- a step from one board to another that adds at most so many folders to be listed, and counts no rows
pub record Adds (more : ℕ) (before after : Board) : Type 0 where
  pub folders : to_list after ≤ more + to_list before
  pub rows : after.rows ≡ before.rows

module _ (cache : ByPath Line) (b : Board) (path : Names) where
  file_adds : (stamp : Stamp) (exec : Bool) (known : Option (List ℕ)) → Adds 0 b (placed_file b path stamp exec known)
  file_adds stamp exec (Some digest) = record { folders = omega arith; rows = refl }
  file_adds stamp exec None = record { folders = names_insert b.later path (Content stamp exec); rows = refl }

  as_adds : (found : Entry) → Adds (folder_one found) b (placed_as cache b path found)
  as_adds entry.Dir = record { folders = names_insert b.later path WantedNames; rows = refl }
  as_adds (entry.File stamp exec) = file_adds stamp exec (digest_for cache path stamp)
  as_adds (entry.Link text) = record { folders = omega arith; rows = refl }
  as_adds entry.Other = record { folders = omega arith; rows = refl }

  pub placed_adds : (rules : List Meaning) (found : Entry) → Adds (folder_one found) b (placed rules cache b path found)
  placed_adds rules found =
      elim (left_alone rules path found) as (λ c. Adds (folder_one found) b (cond c (shows b path atom.Untracked) (placed_as cache b path found))) [
        | true ↦ record { folders = omega arith; rows = refl }
        | false ↦ as_adds found
      ]

one_at_most : (found : Entry) → folder_one found ≤ 1
one_at_most entry.Dir = omega arith
one_at_most (entry.File stamp exec) = omega arith
one_at_most (entry.Link text) = omega arith
one_at_most entry.Other = omega arith

module _ (rules : List Meaning) (cache : ByPath Line) (folder : Names) where
  row_adds : (b : Board) (row : List ℕ × Entry) → Adds 1 b (with_row rules cache folder b row)
  row_adds b row =
      let a = placed_adds cache b (folder ++ row.0 ∷ []) rules row.1 in
      let most = one_at_most row.1 in
      let folders : to_list (placed rules cache b (folder ++ row.0 ∷ []) row.1) ≤ folder_one row.1 + to_list b = a.folders in
      elim (may_follow folder row.0) as (λ c. Adds 1 b (cond c (placed rules cache b (folder ++ row.0 ∷ []) row.1) b)) [
        | true ↦ record { folders = omega arith; rows = a.rows }
        | false ↦ record { folders = omega arith; rows = refl }
      ]

  pub rows_add : (b : Board) (rows : List (List ℕ × Entry)) → Adds (length rows) b (with_rows rules cache folder b rows)
  rows_add b [] = record { folders = omega arith; rows = refl }
  rows_add b (row ∷ rows) =
      let here = row_adds b row in
      let rest = rows_add (with_row rules cache folder b row) rows in
      let f : to_list (with_row rules cache folder b row) ≤ 1 + to_list b = here.folders in
      let g : to_list (with_rows rules cache folder (with_row rules cache folder b row) rows) ≤ length rows + to_list (with_row rules cache folder b row) = rest.folders in
      record { folders = omega arith; rows = rest.rows ∙ here.rows }

-- what a step comes to, where so many Lists were asked and so many rows listed
pub record Steps (entries lists rows : ℕ) (before after : Board) : Type 0 where
  pub folders : lists + pending after ≤ pending before + rows
  pub counted : after.rows ≡ before.rows + rows
  pub fits : before.rows ≤ entries → after.rows ≤ entries

no_end : (b : Bool) → cond b (Some end.TooMany) None ≡ None → b ≡ false
no_end true h = absurd (cc)
no_end false h = refl

module _ (entries : ℕ) (rules : List Meaning) (cache : ByPath Line) (b : Board) (path : Names) (is : b.next ≡ Some (record { path = path; wanted = WantedNames })) where
  before_one : pending b ≡ 1 + to_list b
  before_one = ap (λ n. one_next n + to_list b) is

  listed_steps : (rows : List (List ℕ × Entry)) → ends_list entries b.rows (Listed rows) ≡ None → Steps entries 1 (length rows) b (after_list rules cache b path (Listed rows))
  listed_steps rows h =
      let counted = counts (shows b path atom.Dir) (length rows) in
      let all = with_rows rules cache path counted rows in
      let a = rows_add rules cache path counted rows in
      let folders : to_list all ≤ length rows + to_list b = a.folders in
      let next : pending (advanced all) ≡ to_list all = advanced_pending all in
      let before : pending b ≡ 1 + to_list b = before_one in
      let fit : b.rows + length rows ≤ entries = ltb-false entries (b.rows + length rows) (no_end (nat_lt entries (b.rows + length rows)) h) in
      let same : all.rows ≡ b.rows + length rows = a.rows in
      record { folders = omega arith; counted = a.rows; fits = λ _. omega arith }

  gone_steps : Steps entries 1 0 b (after_list rules cache b path (Held None))
  gone_steps =
      let next : pending (advanced b) ≡ to_list b = advanced_pending b in
      let before : pending b ≡ 1 + to_list b = before_one in
      record { folders = omega arith; counted = omega arith; fits = λ h. h }

  held_steps : (found : Entry) → folder_one found ≡ 0 → Steps entries 1 0 b (after_list rules cache b path (Held (Some found)))
  held_steps found leaf =
      let there = placed rules cache b path found in
      let a = placed_adds cache b path rules found in
      let folders : to_list there ≤ folder_one found + to_list b = a.folders in
      let next : pending (advanced there) ≡ to_list there = advanced_pending there in
      let before : pending b ≡ 1 + to_list b = before_one in
      let same : there.rows ≡ b.rows = a.rows in
      record { folders = omega arith; counted = omega arith; fits = λ h. omega arith }

  found_steps : (found : Entry) → IsAnswered (Some (asked_at 0 path WantedNames)) (Held (Some found)) → Steps entries 1 0 b (after_list rules cache b path (Held (Some found)))
  found_steps entry.Dir h = absurd (let e : true ≡ false = h in cc)
  found_steps (entry.File stamp exec) h = held_steps (entry.File stamp exec) refl
  found_steps (entry.Link text) h = held_steps (entry.Link text) refl
  found_steps entry.Other h = held_steps entry.Other refl

  pub list_steps : (answer : Answer (List ℕ)) → IsAnswered (Some (asked_at 0 path WantedNames)) answer → ends_list entries b.rows answer ≡ None → Steps entries 1 (rows_in answer) b (after_list rules cache b path answer)
  list_steps (Listed rows) h g = listed_steps rows g
  list_steps (Held None) h g = gone_steps
  list_steps (Held (Some found)) h g = found_steps found h
  list_steps (Piece bytes last) h g = absurd h
  list_steps (Changed found) h g = absurd h
  list_steps (TooLarge bytes) h g = absurd h
  list_steps Cleared h g = absurd h
  list_steps Opened h g = absurd h
  list_steps Kept h g = absurd h
  list_steps NotStaged h g = absurd h
  list_steps (DigestDiffers wanted got) h g = absurd h
  list_steps (Done made) h g = absurd h
  list_steps (NoParent found) h g = absurd h
  list_steps (Differs found) h g = absurd h
  list_steps NoLink h g = absurd h
  list_steps NoExec h g = absurd h
  list_steps NotEmpty h g = absurd h
  list_steps (Full room) h g = absurd (cc)
  list_steps Failed h g = absurd (cc)

module _ (entries size : ℕ) (b : Board) (path : Names) (stamp : Stamp) (exec : Bool) (is : b.next ≡ Some (record { path = path; wanted = Content stamp exec })) where
  before_none : pending b ≡ to_list b
  before_none = let e : pending b ≡ 0 + to_list b = ap (λ n. one_next n + to_list b) is in omega arith

  done_steps : (there : Board) → to_list there ≡ to_list b → there.rows ≡ b.rows → Steps entries 0 0 b (advanced there)
  done_steps there same rows =
      let next : pending (advanced there) ≡ to_list there = advanced_pending there in
      let before : pending b ≡ to_list b = before_none in
      record { folders = omega arith; counted = omega arith; fits = λ h. omega arith }

  stays : Steps entries 0 0 b b
  stays = record { folders = omega arith; counted = omega arith; fits = λ h. h }

  piece_steps : (bytes : List ℕ) (last : Bool) → Steps entries 0 0 b (after_piece size b path stamp exec bytes last).board
  piece_steps bytes last =
      elim (nat_lt size (length bytes)) as (λ c. Steps entries 0 0 b (cond c (with_problem b path problem.TooLarge) (cond last (file_done (shows_file b path stamp exec (sha256 bytes))) (record { board = b; begun = bytes }))).board) [
        | true ↦ done_steps (shows b path (atom.Problem problem.TooLarge)) refl refl
        | false ↦ elim last as (λ l. Steps entries 0 0 b (cond l (file_done (shows_file b path stamp exec (sha256 bytes))) (record { board = b; begun = bytes })).board) [
          | true ↦ done_steps (shows_file b path stamp exec (sha256 bytes)) refl refl
          | false ↦ stays
        ]
      ]

  problem_steps : (kind : ProblemKind) → Steps entries 0 0 b (with_problem b path kind).board
  problem_steps kind = done_steps (shows b path (atom.Problem kind)) refl refl

  pub fetch_steps : (offset : ℕ) (begun : List ℕ) (answer : Answer (List ℕ)) → IsAnswered (Some (asked_at offset path (Content stamp exec))) answer → Steps entries 0 (rows_in answer) b (after_fetch size b path stamp exec begun answer).board
  fetch_steps offset begun (Listed rows) h = absurd h
  fetch_steps offset begun (Held found) h = absurd h
  fetch_steps offset begun (Piece bytes last) h = piece_steps (begun ++ bytes) last
  fetch_steps offset begun (Changed found) h = problem_steps problem.Changed
  fetch_steps offset begun (TooLarge bytes) h = problem_steps problem.TooLarge
  fetch_steps offset begun Cleared h = absurd h
  fetch_steps offset begun Opened h = absurd h
  fetch_steps offset begun Kept h = absurd h
  fetch_steps offset begun NotStaged h = absurd h
  fetch_steps offset begun (DigestDiffers wanted got) h = absurd h
  fetch_steps offset begun (Done made) h = absurd h
  fetch_steps offset begun (NoParent found) h = absurd h
  fetch_steps offset begun (Differs found) h = absurd h
  fetch_steps offset begun NoLink h = absurd h
  fetch_steps offset begun NoExec h = absurd h
  fetch_steps offset begun NotEmpty h = absurd h
  fetch_steps offset begun (Full room) h = stays
  fetch_steps offset begun Failed h = problem_steps problem.Failed

module _ (entries size : ℕ) where
  -- what one answer comes to, by what was asked
  abbrev pub StepsBy : ScanState → Answer (List ℕ) → Option Next → ScanState → Type 0
  StepsBy s answer next after = Steps entries (lists_in (heard_as (asked_for (length s.begun) next) answer)) (rows_heard (heard_as (asked_for (length s.begun) next) answer)) s.board after.board

  more_zero : (lists rows : ℕ) (before after : Board) → Steps entries lists rows before after → Steps entries (lists + 0) (rows + 0) before after
  more_zero lists rows before after s =
      let folders : lists + pending after ≤ pending before + rows = s.folders in
      let counted : after.rows ≡ before.rows + rows = s.counted in
      record { folders = omega arith; counted = omega arith; fits = s.fits }

  wanted_steps : (s : ScanState) (t : Told) (path : Names) (wanted : Wanted) → s.board.next ≡ Some (record { path = path; wanted = wanted })
      → IsAnswered (Some (asked_at (length s.begun) path wanted)) t.answer → ends_wanted entries s.board.rows t.answer wanted ≡ None
      → StepsBy s t.answer (Some (record { path = path; wanted = wanted })) (after_wanted size s t path wanted)
  wanted_steps s t path WantedNames is h g = more_zero 1 (rows_in t.answer) s.board _ (list_steps entries t.rules t.cache s.board path is t.answer h g)
  wanted_steps s t path (Content stamp exec) is h g = more_zero 0 (rows_in t.answer) s.board _ (fetch_steps entries size s.board path stamp exec is (length s.begun) s.begun t.answer h)

  asked_steps : (s : ScanState) (t : Told) (next : Option Next) → s.board.next ≡ next → IsAnswered (asked_for (length s.begun) next) t.answer → ends_asked entries s.board.rows t.answer next ≡ None
      → StepsBy s t.answer next (after_asked size s t next)
  asked_steps s t None is h g = absurd h
  asked_steps s t (Some next) is h g = wanted_steps s t next.path next.wanted is h g

  pub told_steps : (s : ScanState) (t : Told) → IsAnswered (asked s) t.answer → ends_by entries s t.answer ≡ None → StepsBy s t.answer s.board.next (after_told size s t)
  told_steps s t h g = asked_steps s t s.board.next refl h g

  lists_join : (xs ys : List (Heard (List ℕ))) → lists_in (xs ++ ys) ≡ lists_in xs + lists_in ys
  lists_join [] ys = omega arith
  lists_join (x ∷ xs) ys = let rest = lists_join xs ys in omega arith

  pub rows_join : (xs ys : List (Heard (List ℕ))) → rows_heard (xs ++ ys) ≡ rows_heard xs + rows_heard ys
  rows_join [] ys = omega arith
  rows_join (x ∷ xs) ys = let rest = rows_join xs ys in omega arith

  pub all_steps : (s : ScanState) (ts : List Told) → AreTaken entries size s ts → Steps entries (lists_in (heard_from size s ts)) (rows_heard (heard_from size s ts)) s.board (after_all size s ts).board
  all_steps s [] h = record { folders = omega arith; counted = omega arith; fits = λ g. g }
  all_steps s (t ∷ ts) h =
      let here = told_steps s t h.0 h.1 in
      let rest = all_steps (after_told size s t) ts h.2 in
      let now = heard_as (asked s) t.answer in
      let later = heard_from size (after_told size s t) ts in
      let lists : lists_in (now ++ later) ≡ lists_in now + lists_in later = lists_join now later in
      let rows : rows_heard (now ++ later) ≡ rows_heard now + rows_heard later = rows_join now later in
      let a : lists_in now + pending (after_told size s t).board ≤ pending s.board + rows_heard now = here.folders in
      let b : lists_in later + pending (after_all size (after_told size s t) ts).board ≤ pending (after_told size s t).board + rows_heard later = rest.folders in
      let c : (after_told size s t).board.rows ≡ s.board.rows + rows_heard now = here.counted in
      let d : (after_all size (after_told size s t) ts).board.rows ≡ (after_told size s t).board.rows + rows_heard later = rest.counted in
      record { folders = omega arith; counted = omega arith; fits = λ g. rest.fits (here.fits g) }

pub lists_bounded : ListsAreBounded
lists_bounded m h =
    let s = all_steps m.entries m.size new_state m.told h in
    let folders : lists_in (heard_by m) + pending (state_of m).board ≤ pending new_state.board + rows_heard (heard_by m) = s.folders in
    let start : to_list new_state.board ≡ 0 = nothing_later in
    omega arith

pub rows_counted : RowsAreCounted
rows_counted m h =
    let s = all_steps m.entries m.size new_state m.told h in
    let counted : (state_of m).board.rows ≡ 0 + rows_heard (heard_by m) = s.counted in
    (omega arith, s.fits (omega arith))
