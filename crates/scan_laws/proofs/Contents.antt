-- What a scan learns is of the contents that were handed in.
use Rattle.std.proofs.Common.{◌≡◌, ℕ, ◌+◌, ◌≤◌, ◌==◌, zero, suc, Bool, true, false, cond, List, [], ◌∷◌, ◌++◌, length, take, drop, nat_lt, nat_le, refl, sym, ap, subst, ◌∙◌, Option, Some, None, option_and_then, arith}
use Rattle.std.specs.Prelude.{⊤, unwrap_or}
use Rattle.std.specs.FinMap as map
use Rattle.std.specs.Ordering.{eq_by_cmp}
use Rattle.std.proofs.Math.Seq.{drop-append_seam}
use Rattle.std.proofs.lemmas.Bool.{leb-true}
use Rattle.std.proofs.lemmas.List.{append_assoc, append-nil, length-append, take-append-drop}
use Rattle.sha2.specs.Sha256.{sha256}
use Rattle.sync_path.specs.Path.{path_cmp}
use Rattle.sync_path.specs.PathOrder.{path_cmp_total}
use Rattle.entry_tree.specs.Tree.{Names, ByPath}
use Rattle.entry_tree.specs.declared.entry.Stamp.{Stamp}
use Rattle.entry_tree.specs.declared.problem_kind.ProblemKind.TheVariants as problem
use Rattle.roots_api.specs.States.{content_of}
use Rattle.roots_api.specs.Steps.{piece_of}
use Rattle.roots_api.specs.declared.answer.Answer.{Answer}
use Rattle.roots_api.specs.declared.answer.Answer.TheVariants.{Listed, Held, Piece, Changed, TooLarge, Cleared, Opened, Kept, NotStaged, DigestDiffers, Done, NoParent, Differs, NoLink, NoExec, NotEmpty, Full, Failed}
use Rattle.roots_api.specs.declared.limits.TheConstants.{MAX_FETCH, MAX_PIECE}
use Rattle.roots_api.specs.declared.op.Op.TheVariants.{Fetch}
use Rattle.scan_cache.specs.Cache.{line_of, with_line}
use Rattle.scan_cache.specs.declared.line.Line.{Line}
use Rattle.scan_core.specs.Board.{shows_file}
use Rattle.scan_core.specs.Scan.{ScanState, new_state, asked, asked_for, asked_at, after_piece, after_fetch, after_wanted, after_asked, after_told, with_problem, file_done, learns_piece, learns_fetch, learns_wanted, learns_asked, learns}
use Rattle.scan_core.specs.Told.{Told}
use Rattle.scan_core.specs.declared.board.Board.{Board}
use Rattle.scan_core.specs.declared.wanted.Next.{Next}
use Rattle.scan_core.specs.declared.wanted.Wanted.{Wanted}
use Rattle.scan_core.specs.declared.wanted.Wanted.TheVariants.{Names as WantedNames, Content}
use Rattle.scan_laws.specs.Bounds.{heard_as, heard_from}
use Rattle.scan_laws.specs.Caches.{IsOneCache}
use Rattle.scan_laws.specs.Contents.{IsPieceOf, ArePiecesOf, LinesAreContents, FilesAreContents, LinesStayContents}
use Rattle.scan_laws.specs.Seen.{Heard}
use Rattle.scan_laws.proofs.Knowing.{files_are_known}

-- ---- pieces of one content

-- what is left of a content behind these bytes
record Left (content begun : List ℕ) : Type 0 where
  pub rest : List ℕ
  pub is : content ≡ begun ++ rest

nothing_behind : (n : ℕ) (xs : List ℕ) → length xs ≤ n → drop n xs ≡ []
nothing_behind zero [] h = refl
nothing_behind zero (x ∷ xs) h = absurd (let k : suc (length xs) ≤ 0 = h in omega arith)
nothing_behind (suc n) [] h = refl
nothing_behind (suc n) (x ∷ xs) h = nothing_behind n xs (let k : suc (length xs) ≤ suc n = h in omega arith)

bytes_of : List ℕ → Answer (List ℕ) → List ℕ
bytes_of d (Piece bytes last) = bytes
bytes_of d answer = d

last_of : Bool → Answer (List ℕ) → Bool
last_of d (Piece bytes last) = last
last_of d answer = d

record PieceIs (content : List ℕ) (offset : ℕ) (bytes : List ℕ) (last : Bool) : Type 0 where
  pub bytes_are : bytes ≡ take MAX_PIECE (drop offset content)
  pub last_is : last ≡ nat_le (length content) (offset + MAX_PIECE)

piece_is : (content : List ℕ) (offset : ℕ) (bytes : List ℕ) (last : Bool) → Piece bytes last ≡ piece_of content offset → PieceIs content offset bytes last
unfolding bytes_of last_of
piece_is content offset bytes last h =
    elim (nat_lt MAX_FETCH (length content)) as (λ c. Piece bytes last ≡ cond c (TooLarge (length content)) (Piece (take MAX_PIECE (drop offset content)) (nat_le (length content) (offset + MAX_PIECE))) → PieceIs content offset bytes last) [
      | true ↦ λ g. absurd (cc)
      | false ↦ λ g. record { bytes_are = ap (bytes_of bytes) g; last_is = ap (last_of last) g }
    ] h

module _ (content begun : List ℕ) (left : Left content begun) (bytes : List ℕ) (last : Bool) (piece : PieceIs content (length begun) bytes last) where
  piece_of_rest : bytes ≡ take MAX_PIECE left.rest
  piece_of_rest = piece.bytes_are ∙ ap (take MAX_PIECE) (ap (drop (length begun)) left.is ∙ drop-append_seam begun left.rest)

  more_left : Left content (begun ++ bytes)
  more_left = record {
    rest = drop MAX_PIECE left.rest;
    is = left.is ∙ ap (λ l. begun ++ l) (sym (take-append-drop MAX_PIECE left.rest)) ∙ sym (append_assoc begun (take MAX_PIECE left.rest) (drop MAX_PIECE left.rest))
        ∙ ap (λ l. (begun ++ l) ++ drop MAX_PIECE left.rest) (sym piece_of_rest);
  }

  all_read : last ≡ true → begun ++ bytes ≡ content
  unfolding more_left
  all_read whole =
      let within : length content ≤ length begun + MAX_PIECE = leb-true (length content) (length begun + MAX_PIECE) (sym piece.last_is ∙ whole) in
      let sizes : length content ≡ length begun + length left.rest = ap length left.is ∙ length-append begun left.rest in
      let none : drop MAX_PIECE left.rest ≡ [] = nothing_behind MAX_PIECE left.rest (omega arith) in
      sym (more_left.is ∙ ap (λ l. (begun ++ bytes) ++ l) none ∙ append-nil (begun ++ bytes))

-- ---- lines

module _ (ledger : List (List ℕ)) where
  stamps_tie : (a b : Stamp) → (a.0 == b.0) ≡ true → a ≡ b
  stamps_tie a b h = let same : a.0 ≡ b.0 = grind arith in (λ i. record { 0 = same i })

  line_is : (cache : ByPath Line) (p : Names) (stamp : Stamp) (d : List ℕ) → d ≡ sha256 (content_of ledger stamp) → LinesAreContents ledger cache → LinesAreContents ledger (with_line cache p stamp d)
  line_is cache p stamp d is lines q s digest found =
      elim (eq_by_cmp path_cmp q p) as (λ c. option_and_then (line_of s) (cond c (Some (record { stamp = stamp; digest = d })) (map.get cache q)) ≡ Some digest → digest ≡ sha256 (content_of ledger s)) [
        | true ↦ λ g. elim (stamp.0 == s.0) as (λ b. (stamp.0 == s.0) ≡ b → cond b (Some d) None ≡ Some digest → digest ≡ sha256 (content_of ledger s)) [
          | true ↦ λ e k. sym (ap (λ (o : Option (List ℕ)). unwrap_or o d) k) ∙ is ∙ ap (λ t. sha256 (content_of ledger t)) (stamps_tie stamp s e)
          | false ↦ λ e k. absurd (cc)
        ] refl g
        | false ↦ λ g. lines q s digest g
      ] (sym (ap (option_and_then (line_of s)) (map.get-insert path_cmp_total cache p (record { stamp = stamp; digest = d }) q)) ∙ found)

  -- ---- what is kept of a file that is read

  abbrev BegunOf : List ℕ → Wanted → Type 0
  BegunOf begun WantedNames = begun ≡ []
  BegunOf begun (Content stamp exec) = Left (content_of ledger stamp) begun

  abbrev NextOf : List ℕ → Option Next → Type 0
  NextOf begun None = ⊤
  NextOf begun (Some next) = BegunOf begun next.wanted

  begun_new : (w : Wanted) → BegunOf [] w
  begun_new WantedNames = refl
  begun_new (Content stamp exec) = record { rest = content_of ledger stamp; is = refl }

  next_new : (next : Option Next) → NextOf [] next
  next_new None = tt
  next_new (Some next) = begun_new next.wanted

  record Holds (cache : ByPath Line) (s : ScanState) : Type 0 where
    pub lines : LinesAreContents ledger cache
    pub begun : NextOf s.begun s.board.next

  fresh : (cache : ByPath Line) (b : Board) → LinesAreContents ledger cache → Holds cache (record { board = b; begun = [] })
  fresh cache b lines = record { lines = lines; begun = next_new b.next }

  module _ (size : ℕ) (cache : ByPath Line) (s : ScanState) (lines : LinesAreContents ledger cache) (p : Names) (stamp : Stamp) (exec : Bool) (is : s.board.next ≡ Some (record { path = p; wanted = Content stamp exec }))
      (left : Left (content_of ledger stamp) s.begun) where
    piece_holds : (bytes : List ℕ) (last : Bool) → PieceIs (content_of ledger stamp) (length s.begun) bytes last → Holds (learns_piece size cache p stamp (s.begun ++ bytes) last) (after_piece size s.board p stamp exec (s.begun ++ bytes) last)
    piece_holds bytes last piece =
        elim (nat_lt size (length (s.begun ++ bytes))) as (λ c. Holds (cond c cache (cond last (with_line cache p stamp (sha256 (s.begun ++ bytes))) cache))
        (cond c (with_problem s.board p problem.TooLarge) (cond last (file_done (shows_file s.board p stamp exec (sha256 (s.begun ++ bytes)))) (record { board = s.board; begun = s.begun ++ bytes })))) [
          | true ↦ fresh cache _ lines
          | false ↦ elim last as (λ l. last ≡ l → Holds (cond l (with_line cache p stamp (sha256 (s.begun ++ bytes))) cache)
              (cond l (file_done (shows_file s.board p stamp exec (sha256 (s.begun ++ bytes)))) (record { board = s.board; begun = s.begun ++ bytes }))) [
                | true ↦ λ e. fresh _ _ (line_is cache p stamp (sha256 (s.begun ++ bytes)) (ap sha256 (all_read (content_of ledger stamp) s.begun left bytes last piece e)) lines)
                | false ↦ λ e. record { lines = lines; begun = subst (NextOf (s.begun ++ bytes)) (sym is) (more_left (content_of ledger stamp) s.begun left bytes last piece) }
              ] refl
        ]

    stays : Holds cache s
    stays = record { lines = lines; begun = subst (NextOf s.begun) (sym is) left }

    fetch_holds : (answer : Answer (List ℕ)) → IsPieceOf ledger (Fetch p stamp (length s.begun)) answer → Holds (learns_fetch size cache p stamp s.begun answer) (after_fetch size s.board p stamp exec s.begun answer)
    fetch_holds (Listed rows) h = stays
    fetch_holds (Held found) h = stays
    fetch_holds (Piece bytes last) h = piece_holds bytes last (piece_is (content_of ledger stamp) (length s.begun) bytes last h)
    fetch_holds (Changed found) h = fresh cache _ lines
    fetch_holds (TooLarge bytes) h = fresh cache _ lines
    fetch_holds Cleared h = stays
    fetch_holds Opened h = stays
    fetch_holds Kept h = stays
    fetch_holds NotStaged h = stays
    fetch_holds (DigestDiffers wanted got) h = stays
    fetch_holds (Done made) h = stays
    fetch_holds (NoParent found) h = stays
    fetch_holds (Differs found) h = stays
    fetch_holds NoLink h = stays
    fetch_holds NoExec h = stays
    fetch_holds NotEmpty h = stays
    fetch_holds (Full room) h = stays
    fetch_holds Failed h = fresh cache _ lines

  module _ (size : ℕ) (s : ScanState) (t : Told) where
    wanted_holds : (p : Names) (w : Wanted) → s.board.next ≡ Some (record { path = p; wanted = w }) → LinesAreContents ledger t.cache → BegunOf s.begun w → IsPieceOf ledger (asked_at (length s.begun) p w) t.answer
        → Holds (learns_wanted size s.begun t p w) (after_wanted size s t p w)
    wanted_holds p WantedNames is lines begun h = subst (λ bs. Holds t.cache (record { board = (after_wanted size s t p WantedNames).board; begun = bs })) (sym begun) (fresh t.cache _ lines)
    wanted_holds p (Content stamp exec) is lines begun h = fetch_holds size t.cache s lines p stamp exec is begun t.answer h

    asked_holds : (next : Option Next) → s.board.next ≡ next → Holds t.cache s → ArePiecesOf ledger (heard_as (asked_for (length s.begun) next) t.answer) → Holds (learns_asked size s.begun t next) (after_asked size s t next)
    asked_holds None is held h = held
    asked_holds (Some next) is held h = wanted_holds next.path next.wanted is held.lines (subst (NextOf s.begun) is held.begun) h.0

  front : (xs ys : List (Heard (List ℕ))) → ArePiecesOf ledger (xs ++ ys) → ArePiecesOf ledger xs
  front [] ys h = tt
  front (x ∷ xs) ys h = (h.0, front xs ys h.1)

  back : (xs ys : List (Heard (List ℕ))) → ArePiecesOf ledger (xs ++ ys) → ArePiecesOf ledger ys
  back [] ys h = h
  back (x ∷ xs) ys h = back xs ys h.1

  all_hold : (size : ℕ) (s : ScanState) (ts : List Told) (cache after : ByPath Line) → IsOneCache size s cache ts after → Holds cache s → ArePiecesOf ledger (heard_from size s ts) → LinesAreContents ledger after
  all_hold size s [] cache after one held h = subst (LinesAreContents ledger) (sym one) held.lines
  all_hold size s (t ∷ ts) cache after one held h =
      let now = heard_as (asked s) t.answer in
      let later = heard_from size (after_told size s t) ts in
      all_hold size (after_told size s t) ts (learns size s t) after one.1
      (asked_holds size s t s.board.next refl (subst (λ c. Holds c s) (sym one.0) held) (front now later h)) (back now later h)

pub lines_stay_contents : LinesStayContents
lines_stay_contents m rules before after scanned ledger lines pieces =
    all_hold ledger m.size new_state m.told before after scanned.one_cache (record { lines = lines; begun = refl }) pieces

pub files_are_contents : FilesAreContents
files_are_contents m rules before after scanned ledger lines pieces q digest exec stamp seen stamped =
    lines_stay_contents m rules before after scanned ledger lines pieces q stamp digest (files_are_known m before after scanned.taken scanned.one_cache q digest exec stamp seen stamped)
