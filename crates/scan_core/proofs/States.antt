-- What a scan's state comes to with one answer more.
use Rattle.std.proofs.Common.{◌≡◌, ℕ, ◌≤◌, Bool, true, false, cond, List, [], ◌∷◌, ◌++◌, length, nat_lt, refl, sym, subst, Option, Some, None, arith}
use Rattle.std.proofs.lemmas.Bool.{ltb-false}
use Rattle.entry_tree.specs.Tree.{Names}
use Rattle.entry_tree.specs.declared.entry.Stamp.{Stamp}
use Rattle.entry_tree.specs.declared.problem_kind.ProblemKind.TheVariants as problem
use Rattle.sha2.specs.Sha256.{sha256}
use Rattle.scan_core.specs.Board.{shows_file}
use Rattle.roots_api.specs.declared.answer.Answer.{Answer}
use Rattle.roots_api.specs.declared.answer.Answer.TheVariants.{Listed, Held, Piece, Changed, TooLarge, Cleared, Opened, Kept, NotStaged, DigestDiffers, Done, NoParent, Differs, NoLink, NoExec, NotEmpty, Full, Failed}
use Rattle.scan_core.specs.Scan.{ScanState, new_state, state_of, asked, with_problem, file_done, after_piece, after_fetch, after_asked, after_told, after_all, ends_by, IsAnswered, AreTaken}
use Rattle.scan_core.specs.Told.{Told}
use Rattle.scan_core.specs.Work.{IsWork, IsScan, with_begun}
use Rattle.scan_core.specs.declared.board.Board.{Board}
use Rattle.scan_core.specs.declared.wanted.Next.{Next}
use Rattle.scan_core.specs.declared.wanted.Wanted.{Wanted}
use Rattle.scan_core.specs.declared.wanted.Wanted.TheVariants.{Names as WantedNames, Content}
use Rattle.scan_core.specs.declared.work.Work.{Work}

pub after_all-push : (size : ℕ) (s : ScanState) (ts : List Told) (t : Told) → after_all size s (ts ++ t ∷ []) ≡ after_told size (after_all size s ts) t
after_all-push size s [] t = refl
after_all-push size s (u ∷ ts) t = after_all-push size (after_told size s u) ts t

module _ (size : ℕ) (b : Board) (path : Names) (stamp : Stamp) (exec : Bool) where
  piece_small : (bytes : List ℕ) (last : Bool) → length (after_piece size b path stamp exec bytes last).begun ≤ size
  piece_small bytes last =
      elim (nat_lt size (length bytes)) as (λ c. nat_lt size (length bytes) ≡ c → length (cond c (with_problem b path problem.TooLarge) (cond last (file_done (shows_file b path stamp exec (sha256 bytes))) (with_begun b bytes))).begun ≤ size) [
        | true ↦ λ e. omega arith
        | false ↦ λ e. elim last as (λ l. length (cond l (file_done (shows_file b path stamp exec (sha256 bytes))) (with_begun b bytes)).begun ≤ size) [ true ↦ omega arith | false ↦ ltb-false size (length bytes) e ]
      ] refl

  fetch_small : (begun : List ℕ) (answer : Answer (List ℕ)) → length begun ≤ size → length (after_fetch size b path stamp exec begun answer).begun ≤ size
  fetch_small begun (Listed rows) h = h
  fetch_small begun (Held found) h = h
  fetch_small begun (Piece bytes last) h = piece_small (begun ++ bytes) last
  fetch_small begun (Changed found) h = omega arith
  fetch_small begun (TooLarge bytes) h = omega arith
  fetch_small begun Cleared h = h
  fetch_small begun Opened h = h
  fetch_small begun Kept h = h
  fetch_small begun NotStaged h = h
  fetch_small begun (DigestDiffers wanted got) h = h
  fetch_small begun (Done made) h = h
  fetch_small begun (NoParent found) h = h
  fetch_small begun (Differs found) h = h
  fetch_small begun NoLink h = h
  fetch_small begun NoExec h = h
  fetch_small begun NotEmpty h = h
  fetch_small begun (Full room) h = h
  fetch_small begun Failed h = omega arith

wanted_small : (size : ℕ) (s : ScanState) (t : Told) (path : Names) (wanted : Wanted) → length s.begun ≤ size → length (after_asked size s t (Some (record { path = path; wanted = wanted }))).begun ≤ size
wanted_small size s t path WantedNames h = h
wanted_small size s t path (Content stamp exec) h = fetch_small size s.board path stamp exec s.begun t.answer h

asked_small : (size : ℕ) (s : ScanState) (t : Told) (next : Option Next) → length s.begun ≤ size → length (after_asked size s t next).begun ≤ size
asked_small size s t None h = h
asked_small size s t (Some next) h = wanted_small size s t next.path next.wanted h

-- no more bytes are begun than a file may have
pub told_small : (size : ℕ) (s : ScanState) (t : Told) → length s.begun ≤ size → length (after_told size s t).begun ≤ size
told_small size s t h = asked_small size s t s.board.next h

-- one answer more is taken
pub taken_push : (entries size : ℕ) (s : ScanState) (ts : List Told) (t : Told) → AreTaken entries size s ts → IsAnswered (asked (after_all size s ts)) t.answer → ends_by entries (after_all size s ts) t.answer ≡ None
    → AreTaken entries size s (ts ++ t ∷ [])
taken_push entries size s [] t taken answered on = (answered, on, tt)
taken_push entries size s (u ∷ ts) t taken answered on = (taken.0, taken.1, taken_push entries size (after_told size s u) ts t taken.2 answered on)

-- a scan that was told one answer more
pub told_more : (entries size : ℕ) (work after : Work) (told more : List Told) (t : Told) → IsScan entries size work told → more ≡ told ++ t ∷ []
    → IsAnswered (asked (state_of (record { entries = entries; size = size; told = told }))) t.answer → ends_by entries (state_of (record { entries = entries; size = size; told = told })) t.answer ≡ None
    → IsWork (after_told size (state_of (record { entries = entries; size = size; told = told })) t) after → IsScan entries size after more
told_more entries size work after told more t old is answered on new =
    let grown = after_all-push size new_state told t in
    subst (IsScan entries size after) (sym is) (record {
      work_is = subst (λ s. IsWork s after) (sym grown) new;
      taken = taken_push entries size new_state told t old.taken answered on;
      limit = old.limit;
      small = subst (λ (s : ScanState). length s.begun ≤ size) (sym grown) (told_small size (after_all size new_state told) t old.small);
    })
