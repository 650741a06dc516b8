-- Each operation is answered in its row.
use Rattle.std.proofs.Common.{◌≡◌, ℕ, ◌+◌, ◌-◌, ◌<◌, ◌≤◌, Bool, true, false, cond, ◌&&◌, List, length, take, drop, refl, ap, Option, Some, None, arith, nat_lt, nat_le, min, bytes_eq}
use Rattle.std.specs.FinMap as map
use Rattle.std.specs.Prelude.{is_some}
use Rattle.std.specs.Option.{option_map_or, option_and_then}
use Rattle.std.proofs.lemmas.Bool.{ltb-true, ltb-false, leb-false}
use Rattle.std.proofs.lemmas.List.{length-take, length-take-le, length-drop}
use Rattle.sha2.specs.Sha256.{sha256}
use Rattle.sync_path.specs.Path.{parent_of}
use Rattle.entry_tree.specs.Entry.{is_dir}
use Rattle.entry_tree.specs.Tree.{Names, ByPath, holds_folder, has_below}
use Rattle.entry_tree.specs.declared.entry.Entry.{Entry}
use Rattle.entry_tree.specs.declared.entry.Stamp.{Stamp}
use Rattle.roots_api.specs.Answers.{IsFullPiece, IsPiece, IsNoParent, IsAnswerTo}
use Rattle.roots_api.specs.Laws.{HoldsPaths}
use Rattle.roots_api.specs.States.{RootState, staged_by, kept_by, content_of, next_stamp, is_expected, has_stamp}
use Rattle.roots_api.specs.Steps.{answer_of, piece_of, keep_answer, in_folder, where_expected}
use Rattle.roots_api.specs.declared.answer.Answer.{Answer}
use Rattle.roots_api.specs.declared.answer.Answer.TheVariants.{Piece, TooLarge, NotStaged, Done, NoParent, Differs, NotEmpty}
use Rattle.roots_api.specs.declared.limits.TheConstants.{MAX_FETCH, MAX_PIECE}
use Rattle.roots_api.specs.declared.op.Op.{Op}
use Rattle.roots_api.specs.declared.op.Op.TheVariants.{List as OpList, Fetch, StageClear, StageOpen, StageAppend, StageKeep, Place, MakeDir, MakeLink, Remove, SetExec}
use Rattle.roots_api.proofs.ListedRows.{rows_are}

module _ (content : List ℕ) (offset : ℕ) where
  piece_last : length content ≤ MAX_FETCH → length (take MAX_PIECE (drop offset content)) ≤ min MAX_PIECE (MAX_FETCH - offset)
  piece_last small = let e = length-take MAX_PIECE (drop offset content) in let d = length-drop offset content in omega arith

  piece_full : length content ≤ MAX_FETCH → offset + MAX_PIECE < length content → IsFullPiece offset (take MAX_PIECE (drop offset content))
  piece_full small long =
      let rest = length-drop offset content in
      record { full = length-take-le MAX_PIECE (drop offset content) (omega arith); ends = omega arith }

  piece_fits : length content ≤ MAX_FETCH → IsPiece offset (take MAX_PIECE (drop offset content)) (nat_le (length content) (offset + MAX_PIECE))
  piece_fits small =
      elim (nat_le (length content) (offset + MAX_PIECE)) as (λ b. nat_le (length content) (offset + MAX_PIECE) ≡ b → IsPiece offset (take MAX_PIECE (drop offset content)) b) [
        | true ↦ λ _. piece_last small
        | false ↦ λ e. piece_full small (leb-false (length content) (offset + MAX_PIECE) e)
      ] refl

fetch_row : (path : Names) (stamp : Stamp) (offset : ℕ) (content : List ℕ) → IsAnswerTo (Fetch path stamp offset) (piece_of content offset)
fetch_row path stamp offset content =
    elim (nat_lt MAX_FETCH (length content)) as (λ b. nat_lt MAX_FETCH (length content) ≡ b → IsAnswerTo (Fetch path stamp offset) (cond b (TooLarge (length content)) (Piece (take MAX_PIECE (drop offset content)) (nat_le (length content) (offset + MAX_PIECE))))) [
      | true ↦ λ e. ltb-true MAX_FETCH (length content) e
      | false ↦ λ e. piece_fits content offset (ltb-false MAX_FETCH (length content) e)
    ] refl

-- an answer behind a test is in the row where both are, each with what the test says
by_test : (op : Op) (b : Bool) (x y : Answer (List ℕ)) → (b ≡ true → IsAnswerTo op x) → (b ≡ false → IsAnswerTo op y) → IsAnswerTo op (cond b x y)
by_test op true x y p q = p refl
by_test op false x y p q = q refl

module _ (op : Op) (tree : ByPath Entry) (path : Names) (answer : Answer (List ℕ)) where
  folder_row : ((found : Option Entry) → IsNoParent path found → let a : Answer (List ℕ) = NoParent found in IsAnswerTo op a) → IsAnswerTo op answer → IsAnswerTo op (in_folder tree path answer)
  folder_row other fits =
      elim (parent_of path) as (λ p. parent_of path ≡ p
      → IsAnswerTo op (option_map_or (λ (missing : Names × Option Entry). NoParent missing.1) (option_and_then (λ (parent : Names). cond (holds_folder is_dir (map.get tree parent)) None (Some (parent, map.get tree parent))) p) answer)) [
        | None ↦ λ _. fits
        | Some parent ↦ λ at. elim (holds_folder is_dir (map.get tree parent)) as (λ b. holds_folder is_dir (map.get tree parent) ≡ b
            → IsAnswerTo op (option_map_or (λ (missing : Names × Option Entry). NoParent missing.1) (cond b None (Some (parent, map.get tree parent))) answer)) [
              | true ↦ λ _. fits
              | false ↦ λ e. other (map.get tree parent) (ap (λ (o : Option Names). is_some o) at, e)
            ] refl
      ] refl

  where_row : (expected : Option Entry) → (is_expected (map.get tree path) expected ≡ false → let a : Answer (List ℕ) = Differs (map.get tree path) in IsAnswerTo op a) → IsAnswerTo op answer
      → IsAnswerTo op (where_expected tree path expected answer)
  where_row expected other fits = by_test op (is_expected (map.get tree path) expected) answer (Differs (map.get tree path)) (λ _. fits) other

something : (found : Option Entry) → is_expected found None ≡ false → is_some found ≡ true
something None h = absurd (cc)
something (Some x) h = refl

both_first : (a b : Bool) → (a && b) ≡ true → a ≡ true
both_first true b h = refl
both_first false b h = h

-- the row's answer on a state whose tree holds something only at paths
pub answers_in_row : (s : RootState) (id : ℕ) (op : Op) → HoldsPaths s.tree → IsAnswerTo op (answer_of s id op)
answers_in_row s id (OpList path) holds = by_test (OpList path) (holds_folder is_dir (map.get s.tree path)) _ _ (λ _. rows_are s.tree path holds) (λ e. e)
answers_in_row s id (Fetch path stamp offset) holds =
    by_test (Fetch path stamp offset) (has_stamp (map.get s.tree path) stamp) _ _ (λ _. fetch_row path stamp offset (content_of s.ledger stamp)) (λ e. e)
answers_in_row s id StageClear holds = tt
answers_in_row s id StageOpen holds = tt
answers_in_row s id (StageAppend bytes) holds = by_test (StageAppend bytes) (is_some (staged_by s id).begun) _ _ (λ _. tt) (λ _. tt)
answers_in_row s id (StageKeep digest) holds =
    elim ((staged_by s id).begun) as (λ o. IsAnswerTo (StageKeep digest) (keep_answer digest o)) [
      | None ↦ tt
      | Some bytes ↦ by_test (StageKeep digest) (bytes_eq (sha256 bytes) digest) _ _ (λ _. tt) (λ e. (refl, e))
    ]
answers_in_row s id (Place path digest exec expected) holds =
    let op = Place path digest exec expected in
    let placed : Answer (List ℕ) = cond (is_some (kept_by s id digest)) (Done (Some (next_stamp s))) NotStaged in
    folder_row op s.tree path (where_expected s.tree path expected placed) (λ found h. h)
    (where_row op s.tree path placed expected (λ e. e) (by_test op (is_some (kept_by s id digest)) _ _ (λ _. tt) (λ _. tt)))
answers_in_row s id (MakeDir path) holds =
    folder_row (MakeDir path) s.tree path (where_expected s.tree path None (Done None)) (λ found h. h)
    (where_row (MakeDir path) s.tree path (Done None) None (λ e. something (map.get s.tree path) e) tt)
answers_in_row s id (MakeLink path text expected) holds =
    let op = MakeLink path text expected in
    folder_row op s.tree path (where_expected s.tree path expected (Done None)) (λ found h. h) (where_row op s.tree path (Done None) expected (λ e. e) tt)
answers_in_row s id (Remove path expected) holds =
    let op = Remove path expected in
    let removed : Answer (List ℕ) = cond (is_dir expected && has_below s.tree path) NotEmpty (Done None) in
    where_row op s.tree path removed (Some expected) (λ e. e)
    (by_test op (is_dir expected && has_below s.tree path) _ _ (λ e. both_first (is_dir expected) (has_below s.tree path) e) (λ _. tt))
answers_in_row s id (SetExec path expected on) holds = where_row (SetExec path expected on) s.tree path (Done None) (Some expected) (λ e. e) tt
