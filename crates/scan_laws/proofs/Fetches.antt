-- How many Fetches a scan makes.
use Rattle.std.proofs.Common.{◌≡◌, ℕ, ◌+◌, ◌*◌, ◌≤◌, ◌==◌, Bool, true, false, cond, List, [], ◌∷◌, ◌++◌, length, nat_lt, refl, ap, Option, Some, None, arith}
use Rattle.sha2.specs.Sha256.{sha256}
use Rattle.entry_tree.specs.Tree.{Names}
use Rattle.entry_tree.specs.declared.entry.Stamp.{Stamp}
use Rattle.entry_tree.specs.declared.problem_kind.ProblemKind.TheVariants as problem
use Rattle.roots_api.specs.Answers.{IsFullPiece}
use Rattle.roots_api.specs.declared.answer.Answer.{Answer}
use Rattle.roots_api.specs.declared.answer.Answer.TheVariants.{Listed, Held, Piece, Changed, TooLarge, Cleared, Opened, Kept, NotStaged, DigestDiffers, Done, NoParent, Differs, NoLink, NoExec, NotEmpty, Full, Failed}
use Rattle.roots_api.specs.declared.limits.TheConstants.{MAX_PIECE}
use Rattle.scan_core.specs.Board.{shows_file}
use Rattle.scan_core.specs.Scan.{ScanState, new_state, asked, asked_for, asked_at, after_piece, after_fetch, after_wanted, after_asked, after_told, after_all, with_problem, file_done, ends_fetch, ends_wanted, ends_asked, IsAnswered, AreTaken}
use Rattle.scan_core.specs.Told.{Told}
use Rattle.scan_core.specs.declared.board.Board.{Board}
use Rattle.scan_core.specs.declared.wanted.Next.{Next}
use Rattle.scan_core.specs.declared.wanted.Wanted.{Wanted}
use Rattle.scan_core.specs.declared.wanted.Wanted.TheVariants.{Names as WantedNames, Content}
use Rattle.scan_laws.specs.Bounds.{heard_as, heard_from, heard_by, lists_in, fetches_in, files_in, bytes_in, FetchesAreBounded, AsksListsAndFetches}
use Rattle.scan_laws.specs.Seen.{Heard, piece_len}

-- one, where bytes of a file are kept, so that a Fetch goes on with it
abbrev going_on : List ℕ → ℕ
going_on [] = 0
going_on (b ∷ bs) = 1

-- what one answer comes to: a Fetch begins a file or goes on with one, and goes on later only behind a full piece
record Fetched (fetches files bytes : ℕ) (begun after : List ℕ) : Type 0 where
  pub counted : (fetches + going_on after) * MAX_PIECE ≤ (files + going_on begun) * MAX_PIECE + bytes

abbrev Counted : List (Heard (List ℕ)) → List ℕ → List ℕ → Type 0
Counted hs begun after = Fetched (fetches_in hs) (files_in hs) (bytes_in hs) begun after

-- a Fetch at the number of the bytes that are kept
starts : (begun : List ℕ) → cond (length begun == 0) 1 0 + going_on begun ≡ 1
starts [] = refl
starts (b ∷ bs) = let e : (length (b ∷ bs) == 0) ≡ false = grind arith in ap (λ c. cond c 1 0 + 1) e

at_most_one : (bs : List ℕ) → going_on bs ≤ 1
at_most_one [] = omega arith
at_most_one (b ∷ bs) = omega arith

module _ (size : ℕ) (b : Board) (p : Names) (stamp : Stamp) (exec : Bool) (begun : List ℕ) where
  abbrev FetchedBy : Answer (List ℕ) → List ℕ → Type 0
  FetchedBy answer after = Fetched (1 + 0) (cond (length begun == 0) 1 0 + 0) (piece_len length answer + 0) begun after

  -- the file is done with
  over_with : (answer : Answer (List ℕ)) → FetchedBy answer []
  over_with answer =
      let one : cond (length begun == 0) 1 0 + going_on begun ≡ 1 = starts begun in
      record { counted = omega arith }

  further : (bytes : List ℕ) → IsFullPiece (length begun) bytes → FetchedBy (Piece bytes false) (begun ++ bytes)
  further bytes full =
      let one : cond (length begun == 0) 1 0 + going_on begun ≡ 1 = starts begun in
      let most : going_on (begun ++ bytes) ≤ 1 = at_most_one (begun ++ bytes) in
      let piece : length bytes ≡ MAX_PIECE = full.full in
      record { counted = omega arith }

  piece_fetched : (bytes : List ℕ) (last : Bool) → IsAnswered (Some (asked_at (length begun) p (Content stamp exec))) (Piece bytes last) → FetchedBy (Piece bytes last) (after_piece size b p stamp exec (begun ++ bytes) last).begun
  piece_fetched bytes last h =
      elim (nat_lt size (length (begun ++ bytes))) as (λ c. FetchedBy (Piece bytes last) (cond c (with_problem b p problem.TooLarge) (cond last (file_done (shows_file b p stamp exec (sha256 (begun ++ bytes)))) (record { board = b; begun = begun ++ bytes }))).begun) [
        | true ↦ over_with (Piece bytes last)
        | false ↦ elim last as (λ l. IsAnswered (Some (asked_at (length begun) p (Content stamp exec))) (Piece bytes l) → FetchedBy (Piece bytes l) (cond l (file_done (shows_file b p stamp exec (sha256 (begun ++ bytes)))) (record { board = b; begun = begun ++ bytes })).begun) [
          | true ↦ λ g. over_with (Piece bytes true)
          | false ↦ λ g. further bytes g
        ] h
      ]

  fetched_steps : (answer : Answer (List ℕ)) → IsAnswered (Some (asked_at (length begun) p (Content stamp exec))) answer → ends_fetch answer ≡ None → FetchedBy answer (after_fetch size b p stamp exec begun answer).begun
  fetched_steps (Listed rows) h g = absurd h
  fetched_steps (Held found) h g = absurd h
  fetched_steps (Piece bytes last) h g = piece_fetched bytes last h
  fetched_steps (Changed found) h g = over_with (Changed found)
  fetched_steps (TooLarge bytes) h g = over_with (TooLarge bytes)
  fetched_steps Cleared h g = absurd h
  fetched_steps Opened h g = absurd h
  fetched_steps Kept h g = absurd h
  fetched_steps NotStaged h g = absurd h
  fetched_steps (DigestDiffers wanted got) h g = absurd h
  fetched_steps (Done made) h g = absurd h
  fetched_steps (NoParent found) h g = absurd h
  fetched_steps (Differs found) h g = absurd h
  fetched_steps NoLink h g = absurd h
  fetched_steps NoExec h g = absurd h
  fetched_steps NotEmpty h g = absurd h
  fetched_steps (Full room) h g = absurd (cc)
  fetched_steps Failed h g = over_with Failed

module _ (entries size : ℕ) where
  wanted_fetches : (s : ScanState) (t : Told) (p : Names) (w : Wanted) → IsAnswered (Some (asked_at (length s.begun) p w)) t.answer → ends_wanted entries s.board.rows t.answer w ≡ None
      → Counted (heard_as (Some (asked_at (length s.begun) p w)) t.answer) s.begun (after_wanted size s t p w).begun
  wanted_fetches s t p WantedNames h g = record { counted = omega arith }
  wanted_fetches s t p (Content stamp exec) h g = fetched_steps size s.board p stamp exec s.begun t.answer h g

  asked_fetches : (s : ScanState) (t : Told) (next : Option Next) → IsAnswered (asked_for (length s.begun) next) t.answer → ends_asked entries s.board.rows t.answer next ≡ None
      → Counted (heard_as (asked_for (length s.begun) next) t.answer) s.begun (after_asked size s t next).begun
  asked_fetches s t None h g = absurd h
  asked_fetches s t (Some next) h g = wanted_fetches s t next.path next.wanted h g

  fetches_join : (xs ys : List (Heard (List ℕ))) → fetches_in (xs ++ ys) ≡ fetches_in xs + fetches_in ys
  fetches_join [] ys = omega arith
  fetches_join (x ∷ xs) ys = let rest = fetches_join xs ys in omega arith

  files_join : (xs ys : List (Heard (List ℕ))) → files_in (xs ++ ys) ≡ files_in xs + files_in ys
  files_join [] ys = omega arith
  files_join (x ∷ xs) ys = let rest = files_join xs ys in omega arith

  bytes_join : (xs ys : List (Heard (List ℕ))) → bytes_in (xs ++ ys) ≡ bytes_in xs + bytes_in ys
  bytes_join [] ys = omega arith
  bytes_join (x ∷ xs) ys = let rest = bytes_join xs ys in omega arith

  all_fetches : (s : ScanState) (ts : List Told) → AreTaken entries size s ts → Counted (heard_from size s ts) s.begun (after_all size s ts).begun
  all_fetches s [] h = record { counted = omega arith }
  all_fetches s (t ∷ ts) h =
      let now = heard_as (asked s) t.answer in
      let later = heard_from size (after_told size s t) ts in
      let here : (fetches_in now + going_on (after_told size s t).begun) * MAX_PIECE ≤ (files_in now + going_on s.begun) * MAX_PIECE + bytes_in now = (asked_fetches s t s.board.next h.0 h.1).counted in
      let rest : (fetches_in later + going_on (after_all size (after_told size s t) ts).begun) * MAX_PIECE ≤ (files_in later + going_on (after_told size s t).begun) * MAX_PIECE + bytes_in later = (all_fetches (after_told size s t) ts h.2).counted in
      let a : fetches_in (now ++ later) ≡ fetches_in now + fetches_in later = fetches_join now later in
      let b : files_in (now ++ later) ≡ files_in now + files_in later = files_join now later in
      let c : bytes_in (now ++ later) ≡ bytes_in now + bytes_in later = bytes_join now later in
      record { counted = omega arith }

pub fetches_bounded : FetchesAreBounded
fetches_bounded m h =
    let all : (fetches_in (heard_by m) + going_on (after_all m.size new_state m.told).begun) * MAX_PIECE ≤ (files_in (heard_by m) + 0) * MAX_PIECE + bytes_in (heard_by m) = (all_fetches m.entries m.size new_state m.told h).counted in
    omega arith

-- ---- Lists and Fetches alone

one_of_both : (offset : ℕ) (p : Names) (w : Wanted) (answer : Answer (List ℕ)) (rest : List (Heard (List ℕ))) → length rest ≡ lists_in rest + fetches_in rest
    → length (heard_as (Some (asked_at offset p w)) answer ++ rest) ≡ lists_in (heard_as (Some (asked_at offset p w)) answer ++ rest) + fetches_in (heard_as (Some (asked_at offset p w)) answer ++ rest)
one_of_both offset p WantedNames answer rest is = omega arith
one_of_both offset p (Content stamp exec) answer rest is = omega arith

asked_both : (offset : ℕ) (next : Option Next) (answer : Answer (List ℕ)) (rest : List (Heard (List ℕ))) → length rest ≡ lists_in rest + fetches_in rest
    → length (heard_as (asked_for offset next) answer ++ rest) ≡ lists_in (heard_as (asked_for offset next) answer ++ rest) + fetches_in (heard_as (asked_for offset next) answer ++ rest)
asked_both offset None answer rest is = is
asked_both offset (Some next) answer rest is = one_of_both offset next.path next.wanted answer rest is

all_both : (size : ℕ) (s : ScanState) (ts : List Told) → length (heard_from size s ts) ≡ lists_in (heard_from size s ts) + fetches_in (heard_from size s ts)
all_both size s [] = omega arith
all_both size s (t ∷ ts) = asked_both (length s.begun) s.board.next t.answer (heard_from size (after_told size s t) ts) (all_both size (after_told size s t) ts)

pub lists_and_fetches : AsksListsAndFetches
lists_and_fetches m = all_both m.size new_state m.told
