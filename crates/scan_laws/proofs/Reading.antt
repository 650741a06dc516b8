-- What was read of each file, and what the cache learnt of it.
use Rattle.std.proofs.Common.{◌≡◌, ◌⊎◌, inl, inr, ℕ, ◌+◌, Bool, true, false, List, [], ◌∷◌, ◌++◌, length, sum_by, flat_map, refl, sym, ap, subst, ◌∙◌, Option, Some, None, arith}
use Rattle.std.specs.Prelude.{⊤, unwrap_or}
use Rattle.std.specs.FinMap as map
use Rattle.std.specs.List.{list_any}
use Rattle.std.specs.Option.{is_some, option_and_then}
use Rattle.std.specs.Ordering.{eq_by_cmp}
use Rattle.std.proofs.lemmas.Grind.{flat_map-append}
use Rattle.std.proofs.lemmas.List.{append-nil, length-append}
use Rattle.std.proofs.lemmas.List.Sums.{sum_by-cons}
use Rattle.sha2.specs.Sha256.{sha256}
use Rattle.sync_path.specs.Path.{path_cmp}
use Rattle.entry_tree.specs.Tree.{Names, ByPath}
use Rattle.entry_tree.specs.declared.entry.Entry.{Entry}
use Rattle.entry_tree.specs.declared.entry.Entry.TheVariants as entry
use Rattle.entry_tree.specs.declared.entry.Stamp.{Stamp}
use Rattle.entry_tree.proofs.Trees.{tie_is}
use Rattle.ignore_glob.specs.Grammar.{Meaning}
use Rattle.roots_api.specs.States.{RootState}
use Rattle.roots_api.specs.Steps.{answer_of}
use Rattle.roots_api.specs.declared.answer.Answer.{Answer}
use Rattle.roots_api.specs.declared.answer.Answer.TheVariants.{Listed, Held, Piece, Changed, TooLarge, Cleared, Opened, Kept, NotStaged, DigestDiffers, Done, NoParent, Differs, NoLink, NoExec, NotEmpty, Full, Failed}
use Rattle.roots_api.specs.declared.op.Op.TheVariants.{List as OpList, Fetch}
use Rattle.scan_cache.specs.Cache.{digest_for, line_of}
use Rattle.scan_cache.specs.declared.line.Line.{Line}
use Rattle.scan_core.specs.Board.{left_alone}
use Rattle.scan_core.specs.declared.wanted.Next.{Next}
use Rattle.scan_laws.specs.Meeting.{spared_by}
use Rattle.scan_laws.specs.Seen.{Heard, is_last, piece_len, rows_of, held_by}
use Rattle.scan_laws.proofs.Heard.{Quiet, row_in, row_same}
use Rattle.scan_laws.proofs.Needs.{NeedsNames, NeedsContent}
use Rattle.scan_laws.proofs.Points.{Bytes, with_heard, listed_in, fetched_in, held_in, listed-other, fetched-list, listed-fetch, fetched-other, fetched-here, problem_of}
use Rattle.scan_laws.proofs.Seeing.{itself}
use Rattle.scan_laws.proofs.Staying.{held_elsewhere, unlisted_child, listed_here, rows_before, file_stays_held, held_as_before}

-- the bytes of a piece
abbrev pub piece_bytes : Answer Bytes → Bytes
piece_bytes (Piece bytes last) = bytes
piece_bytes answer = []

-- the pieces of a file, joined
abbrev pub joined : List (Answer Bytes) → Bytes
joined answers = flat_map piece_bytes answers

pub joined_more : (f : List (Answer Bytes)) (answer : Answer Bytes) → joined (f ++ answer ∷ []) ≡ joined f ++ piece_bytes answer
joined_more f answer = flat_map-append piece_bytes f (answer ∷ []) ∙ ap (λ l. joined f ++ l) (append-nil (piece_bytes answer))

piece_length : (answer : Answer Bytes) → length (piece_bytes answer) ≡ piece_len length answer
piece_length (Listed rows) = refl
piece_length (Held found) = refl
piece_length (Piece bytes last) = refl
piece_length (Changed found) = refl
piece_length (TooLarge bytes) = refl
piece_length Cleared = refl
piece_length Opened = refl
piece_length Kept = refl
piece_length NotStaged = refl
piece_length (DigestDiffers wanted got) = refl
piece_length (Done made) = refl
piece_length (NoParent found) = refl
piece_length (Differs found) = refl
piece_length NoLink = refl
piece_length NoExec = refl
piece_length NotEmpty = refl
piece_length (Full room) = refl
piece_length Failed = refl

pub joined_length : (f : List (Answer Bytes)) → length (joined f) ≡ sum_by (piece_len length) f
joined_length [] = refl
joined_length (a ∷ f) =
    let rest : length (joined f) ≡ sum_by (piece_len length) f = joined_length f in
    let here : length (piece_bytes a) ≡ piece_len length a = piece_length a in
    let both : length (piece_bytes a ++ joined f) ≡ length (piece_bytes a) + length (joined f) = length-append (piece_bytes a) (joined f) in
    let sums : sum_by (piece_len length) (a ∷ f) ≡ piece_len length a + sum_by (piece_len length) f = sum_by-cons (piece_len length) a f in
    omega arith

-- the Fetches of a file were answered so on a state, from an offset on
abbrev pub FetchedOn : RootState → ℕ → Names → Stamp → ℕ → List (Answer Bytes) → Type 0
FetchedOn s id q stamp offset [] = ⊤
FetchedOn s id q stamp offset (a ∷ f) = (a ≡ answer_of s id (Fetch q stamp offset)) × FetchedOn s id q stamp (offset + piece_len length a) f

pub fetched_more : (s : RootState) (id : ℕ) (q : Names) (stamp : Stamp) (f : List (Answer Bytes)) (a : Answer Bytes) (offset behind : ℕ) → FetchedOn s id q stamp offset f → behind ≡ offset + sum_by (piece_len length) f
    → a ≡ answer_of s id (Fetch q stamp behind) → FetchedOn s id q stamp offset (f ++ a ∷ [])
fetched_more s id q stamp [] a offset behind on is h = (h ∙ ap (λ n. answer_of s id (Fetch q stamp n)) (let e : behind ≡ offset = omega arith in e), tt)
fetched_more s id q stamp (x ∷ f) a offset behind on is h =
    let sums : sum_by (piece_len length) (x ∷ f) ≡ piece_len length x + sum_by (piece_len length) f = sum_by-cons (piece_len length) x f in
    (on.0, fetched_more s id q stamp f a (offset + piece_len length x) behind on.1 (omega arith) h)

module _ (rules : List Meaning) (size : ℕ) (before : ByPath Line) (s : RootState) (id : ℕ) where
  -- what was fetched at a path: nothing, or pieces of a file that is held there and was asked for
  pub record ReadAs (hs : List (Heard Bytes)) (q : Names) : Type 0 where
    pub stamp : Stamp
    pub exec : Bool
    pub held_is : held_in rules size hs q ≡ Some (entry.File stamp exec)
    pub followed : left_alone rules q (entry.File stamp exec) ≡ false
    pub unspared : spared_by before q stamp ≡ false
    pub on : FetchedOn s id q stamp 0 (fetched_in rules size hs q)

  abbrev pub IsRead : List (Heard Bytes) → Names → Type 0
  IsRead hs q = (fetched_in rules size hs q ≡ []) ⊎ ReadAs hs q

  -- what the cache learnt of a file that was read whole
  abbrev pub IsLearnt : ByPath Line → List (Heard Bytes) → Names → Type 0
  IsLearnt cache hs q =
      (stamp : Stamp) (exec : Bool) → held_in rules size hs q ≡ Some (entry.File stamp exec) → problem_of rules size (fetched_in rules size hs q) ≡ None
      → list_any is_last (fetched_in rules size hs q) ≡ true → digest_for cache q stamp ≡ Some (sha256 (joined (fetched_in rules size hs q)))

  -- what was listed was a folder by its row, and isn't ignored
  pub record WasFolder (hs : List (Heard Bytes)) (q : Names) : Type 0 where
    pub row_is : row_in rules size hs q ≡ Some entry.Dir
    pub followed : left_alone rules q entry.Dir ≡ false
    pub answer_is : (answer : Answer Bytes) → listed_in rules size hs q ≡ Some answer → answer ≡ answer_of s id (OpList q)

  abbrev pub BegunIs : List (Heard Bytes) → Bytes → Option Next → Type 0
  BegunIs hs begun None = ⊤
  BegunIs hs begun (Some next) = begun ≡ joined (fetched_in rules size hs next.path)

  pub record Reads (cache : ByPath Line) (hs : List (Heard Bytes)) : Type 0 where
    pub read : (q : Names) → IsRead hs q
    pub learnt : (q : Names) → IsLearnt cache hs q
    pub folders : (q : Names) → is_some (listed_in rules size hs q) ≡ true → WasFolder hs q

  -- ---- a path of which nothing new was heard

  same_read : (hs more : List (Heard Bytes)) (q : Names) → fetched_in rules size more q ≡ fetched_in rules size hs q → held_in rules size more q ≡ held_in rules size hs q → IsRead hs q → IsRead more q
  same_read hs more q f o (inl none) = inl (f ∙ none)
  same_read hs more q f o (inr r) = inr (record { stamp = r.stamp; exec = r.exec; held_is = o ∙ r.held_is; followed = r.followed; unspared = r.unspared; on = subst (FetchedOn s id q r.stamp 0) (sym f) r.on })

  same_learnt : (cache after : ByPath Line) (hs more : List (Heard Bytes)) (q : Names) → map.get after q ≡ map.get cache q → fetched_in rules size more q ≡ fetched_in rules size hs q
      → held_in rules size more q ≡ held_in rules size hs q → IsLearnt cache hs q → IsLearnt after more q
  same_learnt cache after hs more q line f o l stamp exec held unmet ended =
      ap (λ (x : Option Line). option_and_then (line_of stamp) x) line
      ∙ l stamp exec (sym o ∙ held) (ap (problem_of rules size) (sym f) ∙ unmet) (ap (list_any is_last) (sym f) ∙ ended)
      ∙ ap (λ l. Some (sha256 (joined l))) (sym f)

  unread_learnt : (cache : ByPath Line) (hs : List (Heard Bytes)) (q : Names) → fetched_in rules size hs q ≡ [] → IsLearnt cache hs q
  unread_learnt cache hs q none stamp exec held unmet ended = absurd (let clash : false ≡ true = sym (ap (list_any is_last) none) ∙ ended in cc)

  -- ---- the answer to a List

  module _ (cache : ByPath Line) (hs : List (Heard Bytes)) (reads : Reads cache hs) (quiet : Quiet rules size hs) (p : Names) (answer : Answer Bytes)
      (needs : NeedsNames rules size (spared_by before) p (listed_in rules size hs p) (held_in rules size hs p)) (on : answer ≡ answer_of s id (OpList p)) where
    abbrev listed_too : List (Heard Bytes)
    listed_too = with_heard hs (OpList p) answer

    elsewhere : (q : Names) → eq_by_cmp path_cmp q p ≡ false → listed_in rules size listed_too q ≡ listed_in rules size hs q
    elsewhere q apart = listed-other rules size hs p answer q apart

    file_stays : (q : Names) (stamp : Stamp) (exec : Bool) → held_in rules size hs q ≡ Some (entry.File stamp exec) → held_in rules size listed_too q ≡ held_in rules size hs q
    file_stays q stamp exec held = file_stays_held rules size before hs quiet p answer needs q stamp exec held

    list_read : (q : Names) → IsRead hs q → IsRead listed_too q
    list_read q (inl none) = inl (fetched-list rules size hs p answer q ∙ none)
    list_read q (inr r) = same_read hs listed_too q (fetched-list rules size hs p answer q) (file_stays q r.stamp r.exec r.held_is) (inr r)

    list_learnt : (q : Names) → IsRead hs q → IsLearnt cache listed_too q
    list_learnt q (inl none) = unread_learnt cache listed_too q (fetched-list rules size hs p answer q ∙ none)
    list_learnt q (inr r) = same_learnt cache cache hs listed_too q refl (fetched-list rules size hs p answer q) (file_stays q r.stamp r.exec r.held_is) (reads.learnt q)

    same_answer : (a b : Answer Bytes) → Some a ≡ Some b → a ≡ b
    same_answer a b h = ap (λ (o : Option (Answer Bytes)). unwrap_or o a) h

    own_row : row_in rules size hs p ≡ Some entry.Dir
    own_row = ap (λ (l : Option (Answer Bytes)). held_by l (row_in rules size hs p)) (sym needs.unlisted) ∙ needs.held_is

    list_folder : (q : Names) → is_some (listed_in rules size listed_too q) ≡ true → WasFolder listed_too q
    list_folder q h =
        elim (eq_by_cmp path_cmp q p) as (λ c. eq_by_cmp path_cmp q p ≡ c → WasFolder listed_too q) [
          | true ↦ λ e. subst (WasFolder listed_too) (sym (tie_is q p e)) (record {
            row_is = row_same rules size hs listed_too p (rows_before rules size before hs quiet p answer needs p (λ up. held_elsewhere rules size hs quiet p p entry.Dir needs.held_is up needs.unlisted)) ∙ own_row;
            followed = needs.followed;
            answer_is = λ a is. same_answer a answer (sym is ∙ listed_here rules size before hs quiet p answer needs) ∙ on;
          })
          | false ↦ λ e.
              let was = reads.folders q (ap is_some (sym (elsewhere q e)) ∙ h) in
              record {
                row_is = row_same rules size hs listed_too q (rows_before rules size before hs quiet p answer needs q (λ up. absurd (let clash : false ≡ true = sym (ap is_some (elsewhere q e ∙ unlisted_child rules size hs quiet q p up needs.unlisted)) ∙ h in cc))) ∙ was.row_is;
                followed = was.followed;
                answer_is = λ a is. was.answer_is a (sym (elsewhere q e) ∙ is);
              }
        ] refl

    pub list_reads : Reads cache listed_too
    list_reads = record { read = λ q. list_read q (reads.read q); learnt = λ q. list_learnt q (reads.read q); folders = list_folder }

  -- ---- the answer to a Fetch

  file_stamp : Stamp → Option Entry → Stamp
  file_stamp d None = d
  file_stamp d (Some entry.Dir) = d
  file_stamp d (Some (entry.File stamp exec)) = stamp
  file_stamp d (Some (entry.Link text)) = d
  file_stamp d (Some entry.Other) = d

  pub same_stamps : (a b : Stamp) (x y : Bool) → Some (entry.File a x) ≡ Some (entry.File b y) → a ≡ b
  unfolding file_stamp
  same_stamps a b x y h = ap (file_stamp a) h

  module _ (cache after : ByPath Line) (hs : List (Heard Bytes)) (reads : Reads cache hs) (p : Names) (stamp : Stamp) (exec : Bool) (begun : Bytes) (answer : Answer Bytes)
      (needs : NeedsContent rules size (spared_by before) p (fetched_in rules size hs p) (held_in rules size hs p) stamp exec) (counted : sum_by (piece_len length) (fetched_in rules size hs p) ≡ length begun)
      (on : answer ≡ answer_of s id (Fetch p stamp (length begun))) (others : (q : Names) → eq_by_cmp path_cmp q p ≡ false → map.get after q ≡ map.get cache q)
      (here_learnt : problem_of rules size (fetched_in rules size hs p ++ answer ∷ []) ≡ None → list_any is_last (fetched_in rules size hs p ++ answer ∷ []) ≡ true
      → digest_for after p stamp ≡ Some (sha256 (joined (fetched_in rules size hs p ++ answer ∷ [])))) where
    abbrev fetched_too : List (Heard Bytes)
    fetched_too = with_heard hs (Fetch p stamp (length begun)) answer

    as_listed : (q : Names) → listed_in rules size fetched_too q ≡ listed_in rules size hs q
    as_listed q = listed-fetch rules size hs p answer stamp (length begun) q

    as_held : (q : Names) → held_in rules size fetched_too q ≡ held_in rules size hs q
    as_held q = held_as_before rules size hs p answer stamp (length begun) q

    grown : fetched_in rules size fetched_too p ≡ fetched_in rules size hs p ++ answer ∷ []
    grown = fetched-here rules size hs p answer stamp (length begun) (itself p)

    on_before : IsRead hs p → FetchedOn s id p stamp 0 (fetched_in rules size hs p)
    on_before (inl none) = subst (FetchedOn s id p stamp 0) (sym none) tt
    on_before (inr r) = subst (λ t. FetchedOn s id p t 0 (fetched_in rules size hs p)) (same_stamps r.stamp stamp r.exec exec (sym r.held_is ∙ needs.held_is)) r.on

    fetch_here : ReadAs fetched_too p
    fetch_here = record {
      stamp = stamp;
      exec = exec;
      held_is = as_held p ∙ needs.held_is;
      followed = needs.followed;
      unspared = needs.unspared;
      on = subst (FetchedOn s id p stamp 0) (sym grown) (fetched_more s id p stamp (fetched_in rules size hs p) answer 0 (length begun) (on_before (reads.read p)) (let e : sum_by (piece_len length) (fetched_in rules size hs p) ≡ length begun = counted in omega arith) on);
    }

    fetch_read : (q : Names) → IsRead fetched_too q
    fetch_read q = elim (eq_by_cmp path_cmp q p) as (λ c. eq_by_cmp path_cmp q p ≡ c → IsRead fetched_too q) [
      | true ↦ λ e. subst (IsRead fetched_too) (sym (tie_is q p e)) (inr fetch_here)
      | false ↦ λ e. same_read hs fetched_too q (fetched-other rules size hs p answer stamp (length begun) q e) (as_held q) (reads.read q)
    ] refl

    learnt_here : IsLearnt after fetched_too p
    learnt_here t x held unmet ended =
        ap (digest_for after p) (same_stamps t stamp x exec (sym held ∙ as_held p ∙ needs.held_is))
        ∙ here_learnt (ap (problem_of rules size) (sym grown) ∙ unmet) (ap (list_any is_last) (sym grown) ∙ ended)
        ∙ ap (λ l. Some (sha256 (joined l))) (sym grown)

    fetch_learnt : (q : Names) → IsLearnt after fetched_too q
    fetch_learnt q = elim (eq_by_cmp path_cmp q p) as (λ c. eq_by_cmp path_cmp q p ≡ c → IsLearnt after fetched_too q) [
      | true ↦ λ e. subst (IsLearnt after fetched_too) (sym (tie_is q p e)) learnt_here
      | false ↦ λ e. same_learnt cache after hs fetched_too q (others q e) (fetched-other rules size hs p answer stamp (length begun) q e) (as_held q) (reads.learnt q)
    ] refl

    fetch_folder : (q : Names) → is_some (listed_in rules size fetched_too q) ≡ true → WasFolder fetched_too q
    fetch_folder q h =
        let was = reads.folders q (ap is_some (sym (as_listed q)) ∙ h) in
        record {
          row_is = row_same rules size hs fetched_too q (λ f up. ap rows_of (as_listed f)) ∙ was.row_is;
          followed = was.followed;
          answer_is = λ a is. was.answer_is a (sym (as_listed q) ∙ is);
        }

    pub fetch_reads : Reads after fetched_too
    fetch_reads = record { read = fetch_read; learnt = fetch_learnt; folders = fetch_folder }
