-- What an undisturbed staging keeps.
use Rattle.std.proofs.Common.{◌≡◌, ℕ, ◌+◌, ◌<◌, ◌≤◌, Bool, true, false, cond, ◌&&◌, List, [], ◌∷◌, ◌++◌, length, take, drop, arith, refl, sym, ap, subst, ◌∙◌, inl, inr, Option, Some, None, append_assoc, append-nil, bytes_eq, nat_lt, nat_le, map as list_map}
use Rattle.std.specs.Prelude.{is_some, unwrap_or}
use Rattle.std.proofs.lemmas.Bool.{and_parts, leb-true, leb-false, ltb-true, ltb-false}
use Rattle.std.proofs.lemmas.List.{length-take, length-drop, take_all, take-append-drop, drop-drop}
use Rattle.std.proofs.lemmas.Map.Text.{is_eq-slice_cmp}
use Rattle.std.specs.Cmp.Lexicographic.{slice_cmp, nat_list_cmp_total}
use Rattle.std.specs.FinMap as map
use Rattle.std.specs.List.{AllByRecursion, list_all}
use Rattle.std.specs.Option.{option_map}
use Rattle.std.specs.Ordering.{eq_by_cmp, nat_cmp}
use Rattle.finite_maps.proofs.Constructors.{none_is_not_some, some_is_not_none, some_same}
use Rattle.sha2.specs.Sha256.{sha256}
use Rattle.entry_tree.specs.Side.{other_side}
use Rattle.entry_tree.specs.declared.side.Side.{Side}
use Rattle.entry_tree.specs.declared.side.Side.TheVariants.{Alpha, Beta}
use Rattle.entry_tree.proofs.Paths.{name_is, name_itself}
use Rattle.mode_rules.specs.declared.problem.Cause.{Cause}
use Rattle.mode_rules.specs.declared.problem.Problem.{Problem}
use Rattle.roots_api.specs.States.{RootState, Staged, staged_by, kept_by, content_of, has_stamp, nothing_staged, with_staged}
use Rattle.roots_api.specs.Steps.{answer_of, after, piece_of, keep_answer, begin_file, append_bytes, keep_file, drop_file}
use Rattle.roots_api.specs.declared.answer.Answer.{Answer}
use Rattle.roots_api.specs.declared.answer.Answer.TheVariants.{Piece, Changed, TooLarge, Opened, NotStaged, Kept, DigestDiffers}
use Rattle.roots_api.specs.declared.limits.TheConstants.{MAX_FETCH, MAX_PIECE}
use Rattle.roots_api.specs.declared.op.Op.{Op}
use Rattle.roots_api.specs.declared.op.Op.TheVariants.{Fetch, StageClear, StageOpen, StageAppend, StageKeep}
use Rattle.roots_api.proofs.Stagings.{same_id, stage_at}
use Rattle.stage_core.specs.Needs.{is_same_side}
use Rattle.stage_core.specs.Staging.{Digests, Stand, after as stand_after, after_all, asked, asked_for, asked_side, behind_piece, first_begun, is_fetching, new_stand, passed, pending, with_piece, with_doing}
use Rattle.stage_core.specs.Turns.{Turn, IsCourse, IsTurn, IsWhole, stand_of}
use Rattle.stage_core.specs.declared.doing.Doing.{Doing}
use Rattle.stage_core.specs.declared.doing.Doing.TheVariants.{Clearing, Opening, Fetching, Appending, Keeping, Resting}
use Rattle.stage_core.specs.declared.need.Need.{Need}
use Rattle.stage_core.proofs.Pending.{passes_over}
use Rattle.transition_laws.specs.Staged.{AreServed, IsServed, IsStagedAlone, StagesAlone, UndisturbedKeeps, WhereIs, state_served}
use Rattle.transition_laws.specs.Undisturbed.{KeepsContent}
use Rattle.transition_laws.proofs.Finding.{no_true}

-- ---- what a session has staged

module _ (id : ℕ) where
  stage_here : (s : RootState) (staged : Staged) → staged_by (with_staged s id staged) id ≡ staged
  stage_here s staged = stage_at s id staged id ∙ ap (λ b. unwrap_or (cond b (Some staged) (map.get s.staging id)) nothing_staged) (same_id id)

  -- what is kept stays, while other things are staged
  still : (s : RootState) (staged : Staged) (q : List ℕ) → staged.kept ≡ (staged_by s id).kept → KeepsContent s id q → KeepsContent (with_staged s id staged) id q
  still s staged q same k = record { bytes = k.bytes; kept = ap (λ (x : Staged). map.get x.kept q) (stage_here s staged) ∙ ap (λ x. map.get x q) same ∙ k.kept; is = k.is }

  -- and while one file more is kept
  module _ (s : RootState) (digest bytes : List ℕ) (is : sha256 bytes ≡ digest) (begun : (staged_by s id).begun ≡ Some bytes) where
    abbrev next : RootState
    next = with_staged s id (keep_file digest (staged_by s id))

    kept_at : (q : List ℕ) → kept_by next id q ≡ cond (eq_by_cmp (slice_cmp nat_cmp) q digest) (Some bytes) (kept_by s id q)
    kept_at q =
        ap (λ (x : Staged). map.get x.kept q) (stage_here s (keep_file digest (staged_by s id)))
        ∙ map.get-insert nat_list_cmp_total (staged_by s id).kept digest (unwrap_or (staged_by s id).begun []) q
        ∙ ap (λ (o : Option (List ℕ)). cond (eq_by_cmp (slice_cmp nat_cmp) q digest) (Some (unwrap_or o [])) (kept_by s id q)) begun

    tied : (q : List ℕ) → eq_by_cmp (slice_cmp nat_cmp) q digest ≡ true → q ≡ digest
    tied q t = name_is q digest (sym (is_eq-slice_cmp q digest) ∙ t)

    new_kept : (q : List ℕ) → eq_by_cmp (slice_cmp nat_cmp) q digest ≡ true → KeepsContent next id q
    new_kept q t = record { bytes = bytes; kept = kept_at q ∙ ap (λ b. cond b (Some bytes) (kept_by s id q)) t; is = is ∙ sym (tied q t) }

    old_kept : (q : List ℕ) → KeepsContent s id q → KeepsContent next id q
    old_kept q k = by (eq_by_cmp (slice_cmp nat_cmp) q digest) refl
      where
        by : (b : Bool) → eq_by_cmp (slice_cmp nat_cmp) q digest ≡ b → KeepsContent next id q
        by true t = new_kept q t
        by false t = record { bytes = k.bytes; kept = kept_at q ∙ ap (λ b. cond b (Some bytes) (kept_by s id q)) t ∙ k.kept; is = k.is }

    said_kept : (kept : Digests) → ((q : List ℕ) → map.contains_key kept q ≡ true → KeepsContent s id q) → (q : List ℕ) → map.contains_key (map.insert kept digest tt) q ≡ true → KeepsContent next id q
    said_kept kept old q h = by (eq_by_cmp (slice_cmp nat_cmp) q digest) refl (ap is_some (sym (map.get-insert nat_list_cmp_total kept digest tt q)) ∙ h)
      where
        by : (b : Bool) → eq_by_cmp (slice_cmp nat_cmp) q digest ≡ b → is_some (cond (eq_by_cmp (slice_cmp nat_cmp) q digest) (Some tt) (map.get kept q)) ≡ true → KeepsContent next id q
        by true t g = new_kept q t
        by false t g = old_kept q (old q (ap (λ b. is_some (cond b (Some tt) (map.get kept q))) (sym t) ∙ g))

-- ---- what holds in a staging

module _ (side : Side) (needs : List Need) (id : ℕ) (here there : RootState) where
  abbrev content : Need → List ℕ
  content need = content_of there.ledger need.stamp

  abbrev Fine : RootState → Need → Type 0
  Fine h need = IsServed there need → KeepsContent h id need.digest

  -- the file in hand has so much of its content, with this still to come
  pub record Has (h : RootState) (whole rest : List ℕ) : Type 0 where
    pub bytes : List ℕ
    pub begun : (staged_by h id).begun ≡ Some bytes
    pub joined : bytes ++ rest ≡ whole

  -- a piece of it
  pub record IsPieceOf (whole bytes : List ℕ) (end : ℕ) (last : Bool) (start : ℕ) : Type 0 where
    pub bytes_are : bytes ≡ take MAX_PIECE (drop start whole)
    pub last_is : last ≡ nat_le (length whole) (start + MAX_PIECE)
    pub end_is : end ≡ start + length bytes

  pub record Adds (h : RootState) (whole bytes : List ℕ) (end : ℕ) (last : Bool) : Type 0 where
    pub start : ℕ
    pub has : Has h whole (drop start whole)
    pub piece : IsPieceOf whole bytes end last start

  abbrev pub InHand : RootState → Digests → List Need → Doing → List Need → Type 0
  InHand h kept done Clearing left = (kept ≡ map.empty) × (done ≡ [])
  InHand h kept done Opening left = Unit {0}
  InHand h kept done (Fetching offset) [] = Unit {0}
  InHand h kept done (Fetching offset) (need ∷ behind) = IsServed there need → Has h (content need) (drop offset (content need))
  InHand h kept done (Appending bytes end last) [] = Unit {0}
  InHand h kept done (Appending bytes end last) (need ∷ behind) = IsServed there need → Adds h (content need) bytes end last
  InHand h kept done Keeping [] = Unit {0}
  InHand h kept done Keeping (need ∷ behind) = IsServed there need → Has h (content need) []
  InHand h kept done Resting left = left ≡ []

  pub record Good (h : RootState) (s : Stand) : Type 0 where
    pub tree : h.tree ≡ here.tree
    pub ledger : h.ledger ≡ here.ledger
    pub kept : (q : List ℕ) → map.contains_key s.kept q ≡ true → KeepsContent h id q
    pub done : List Need
    pub joined : needs ≡ done ++ s.left
    pub fine : AllByRecursion (Fine h) done
    pub hand : InHand h s.kept done s.doing s.left

  all_fine : (h k : RootState) → ((q : List ℕ) → KeepsContent h id q → KeepsContent k id q) → (xs : List Need) → AllByRecursion (Fine h) xs → AllByRecursion (Fine k) xs
  all_fine h k keeps [] all = tt
  all_fine h k keeps (x ∷ xs) all = (λ served. keeps x.digest (all.0 served), all_fine h k keeps xs all.1)

  fine_joined : (h : RootState) (xs ys : List Need) → AllByRecursion (Fine h) xs → AllByRecursion (Fine h) ys → AllByRecursion (Fine h) (xs ++ ys)
  fine_joined h [] ys p q = q
  fine_joined h (x ∷ xs) ys p q = (p.0, fine_joined h xs ys p.1 q)

  -- what is passed over is kept
  passed_good : (h : RootState) (kept : Digests) (missing : List Problem) (left done : List Need) → h.tree ≡ here.tree → h.ledger ≡ here.ledger
      → ((q : List ℕ) → map.contains_key kept q ≡ true → KeepsContent h id q) → needs ≡ done ++ left → AllByRecursion (Fine h) done → Good h (passed kept missing left)
  passed_good h kept missing left done tree ledger keeps joined fine =
      let over = passes_over kept left in
      record {
        tree = tree;
        ledger = ledger;
        kept = keeps;
        done = done ++ over.over;
        joined = joined ∙ ap (λ (l : List Need). done ++ l) over.joined ∙ sym (append_assoc done over.over (pending kept left));
        fine = fine_joined h done over.over fine (all_kept over.over over.are_kept);
        hand = begun (done ++ over.over) (pending kept left);
      }
    where
      all_kept : (xs : List Need) → list_all (λ (need : Need). map.contains_key kept need.digest) xs ≡ true → AllByRecursion (Fine h) xs
      all_kept [] all = tt
      all_kept (x ∷ xs) all = let both = and_parts (map.contains_key kept x.digest) (list_all (λ (need : Need). map.contains_key kept need.digest) xs) all in ((λ served. keeps x.digest both.0), all_kept xs both.1)

      begun : (done left : List Need) → InHand h kept done (first_begun left) left
      begun done [] = refl
      begun done (need ∷ left) = tt

  module _ (kept : Digests) (missing : List Problem) (need : Need) (behind : List Need) (h : RootState) where
    abbrev at : Doing → Stand
    at doing = record { doing = doing; left = need ∷ behind; kept = kept; missing = missing }

    -- one file that is done with
    let_go : (doing : Doing) (k : RootState) (missing' : List Problem) → Good h (at doing) → k.tree ≡ here.tree → k.ledger ≡ here.ledger → ((q : List ℕ) → KeepsContent h id q → KeepsContent k id q)
        → Fine k need → Good k (passed kept missing' behind)
    let_go doing k missing' g tree ledger keeps fine =
        passed_good k kept missing' behind (g.done ++ need ∷ []) tree ledger (λ q c. keeps q (g.kept q c)) (g.joined ∙ sym (append_assoc g.done (need ∷ []) behind))
        (fine_joined k g.done (need ∷ []) (all_fine h k keeps g.done g.fine) (fine, tt))

    -- the same file in hand
    goes_on : (doing next : Doing) (k : RootState) → (g : Good h (at doing)) → k.tree ≡ here.tree → k.ledger ≡ here.ledger → ((q : List ℕ) → KeepsContent h id q → KeepsContent k id q)
        → InHand k kept g.done next (need ∷ behind) → Good k (at next)
    goes_on doing next k g tree ledger keeps hand = record {
      tree = tree;
      ledger = ledger;
      kept = λ q c. keeps q (g.kept q c);
      done = g.done;
      joined = g.joined;
      fine = all_fine h k keeps g.done g.fine;
      hand = hand;
    }

    -- behind a piece
    behind_good : (bytes : List ℕ) (end : ℕ) (last : Bool) (doing : Doing) (k : RootState) → (g : Good h (at doing)) → k.tree ≡ here.tree → k.ledger ≡ here.ledger
        → ((q : List ℕ) → KeepsContent h id q → KeepsContent k id q)
        → (IsServed there need → (start : ℕ) × IsPieceOf (content need) bytes end last start × Has k (content need) (drop MAX_PIECE (drop start (content need))))
        → Good k (at (behind_piece end last))
    behind_good bytes end true doing k g tree ledger keeps had = goes_on doing Keeping k g tree ledger keeps (λ served. whole (had served))
      where
        whole : (start : ℕ) × IsPieceOf (content need) bytes end true start × Has k (content need) (drop MAX_PIECE (drop start (content need))) → Has k (content need) []
        whole (start, piece, has) =
            let short : length (content need) ≤ start + MAX_PIECE = leb-true (length (content need)) (start + MAX_PIECE) (sym piece.last_is) in
            let none : drop MAX_PIECE (drop start (content need)) ≡ [] = drop-drop MAX_PIECE start (content need) ∙ drop_beyond (start + MAX_PIECE) (content need) short in
            record { bytes = has.bytes; begun = has.begun; joined = ap (λ l. has.bytes ++ l) (sym none) ∙ has.joined }
          where
            empty : (l : List ℕ) → length l ≡ 0 → l ≡ []
            empty [] e = refl
            empty (x ∷ l) e = absurd (omega (arith, e))

            drop_beyond : (n : ℕ) (l : List ℕ) → length l ≤ n → drop n l ≡ []
            drop_beyond n l h = empty (drop n l) (let long = length-drop n l in omega (arith, long, h))
    behind_good bytes end false doing k g tree ledger keeps had = goes_on doing (Fetching end) k g tree ledger keeps (λ served. more (had served))
      where
        more : (start : ℕ) × IsPieceOf (content need) bytes end false start × Has k (content need) (drop MAX_PIECE (drop start (content need))) → Has k (content need) (drop end (content need))
        more (start, piece, has) =
            let long : start + MAX_PIECE < length (content need) = leb-false (length (content need)) (start + MAX_PIECE) (sym piece.last_is) in
            let whole : length bytes ≡ MAX_PIECE = ap length piece.bytes_are ∙ full (drop start (content need)) (let rest = length-drop start (content need) in omega (arith, rest, long)) in
            let end_at : end ≡ start + MAX_PIECE = piece.end_is ∙ ap (λ n. start + n) whole in
            record { bytes = has.bytes; begun = has.begun; joined = ap (λ l. has.bytes ++ l) (ap (λ n. drop n (content need)) end_at ∙ sym (drop-drop MAX_PIECE start (content need))) ∙ has.joined }
          where
            full : (l : List ℕ) → MAX_PIECE ≤ length l → length (take MAX_PIECE l) ≡ MAX_PIECE
            full l h = let short = length-take MAX_PIECE l in omega (arith, short, h)

    -- ---- one turn
    cleared : Good h (at Clearing) → Good (after h id StageClear (answer_of h id StageClear)) (stand_after side (at Clearing) (answer_of h id StageClear))
    cleared g =
        passed_good (after h id StageClear (answer_of h id StageClear)) kept missing (need ∷ behind) g.done g.tree g.ledger
        (λ q c. absurd (no_true false (ap is_some (sym (map.get-empty (slice_cmp nat_cmp) q)) ∙ ap (λ (m : Digests). map.contains_key m q) (sym g.hand.0) ∙ c) refl)) g.joined
        (subst (λ (l : List Need). AllByRecursion (Fine (after h id StageClear (answer_of h id StageClear))) l) (sym g.hand.1) tt)

    opened : Good h (at Opening) → Good (after h id StageOpen (answer_of h id StageOpen)) (stand_after side (at Opening) (answer_of h id StageOpen))
    opened g =
        goes_on Opening (Fetching 0) (with_staged h id (begin_file (staged_by h id))) g g.tree g.ledger (λ q k. still id h (begin_file (staged_by h id)) q refl k)
        (λ served. record { bytes = []; begun = ap (λ (x : Staged). x.begun) (stage_here id h (begin_file (staged_by h id))); joined = refl })

    fetched : (offset : ℕ) → Good h (at (Fetching offset)) → Good h (stand_after side (at (Fetching offset)) (answer_of there id (Fetch need.path need.stamp offset)))
    fetched offset g = by (has_stamp (map.get there.tree need.path) need.stamp) refl
      where
        rest : List ℕ
        rest = drop offset (content need)

        last : Bool
        last = nat_le (length (content need)) (offset + MAX_PIECE)

        found : Answer (List ℕ)
        found = Changed (map.get there.tree need.path)

        piece : (bytes : List ℕ) → take MAX_PIECE rest ≡ bytes → Good h (at (with_piece bytes (offset + length bytes) last))
        piece [] is =
            behind_good [] (offset + 0) last (Fetching offset) h g g.tree g.ledger (λ q k. k)
            (λ served. let had = g.hand served in (
              offset,
              record { bytes_are = sym is; last_is = refl; end_is = refl },
              record {
                bytes = had.bytes;
                begun = had.begun;
                joined = ap (λ l. had.bytes ++ l) (ap (λ l. l ++ drop MAX_PIECE rest) (sym is) ∙ take-append-drop MAX_PIECE rest) ∙ had.joined;
              },
            ))
        piece (byte ∷ bytes) is =
            goes_on (Fetching offset) (Appending (byte ∷ bytes) (offset + length (byte ∷ bytes)) last) h g g.tree g.ledger (λ q k. k)
            (λ served. record { start = offset; has = g.hand served; piece = record { bytes_are = sym is; last_is = refl; end_is = refl } })

        whole : (c : Bool) → nat_lt MAX_FETCH (length (content need)) ≡ c
            → Good h (stand_after side (at (Fetching offset)) (cond c (TooLarge (length (content need))) (Piece (take MAX_PIECE rest) last)))
        whole true e =
            let_go (Fetching offset) h _ g g.tree g.ledger (λ q k. k)
            (λ served. absurd (let over : MAX_FETCH < length (content need) = ltb-true MAX_FETCH (length (content need)) e in let fits = served.fits in omega (arith, over, fits)))
        whole false e = piece (take MAX_PIECE rest) refl

        by : (b : Bool) → has_stamp (map.get there.tree need.path) need.stamp ≡ b → Good h (stand_after side (at (Fetching offset)) (cond b (piece_of (content need) offset) found))
        by true e = whole (nat_lt MAX_FETCH (length (content need))) refl
        by false e = let_go (Fetching offset) h _ g g.tree g.ledger (λ q k. k) (λ served. absurd (no_true (has_stamp (map.get there.tree need.path) need.stamp) served.stamped e))

    added : (bytes : List ℕ) (end : ℕ) (last : Bool) → Good h (at (Appending bytes end last))
        → Good (after h id (StageAppend bytes) (answer_of h id (StageAppend bytes))) (stand_after side (at (Appending bytes end last)) (answer_of h id (StageAppend bytes)))
    added bytes end last g = by (staged_by h id).begun refl
      where
        longer : Staged
        longer = append_bytes bytes (staged_by h id)

        by : (o : Option (List ℕ)) → (staged_by h id).begun ≡ o
            → Good (after h id (StageAppend bytes) (cond (is_some o) Opened (let none : Answer (List ℕ) = NotStaged in none))) (stand_after side (at (Appending bytes end last)) (cond (is_some o) Opened NotStaged))
        by None none =
            behind_good bytes end last (Appending bytes end last) h g g.tree g.ledger (λ q k. k)
            (λ served. absurd (none_is_not_some (g.hand served).has.bytes (sym none ∙ (g.hand served).has.begun)))
        by (Some b) is =
            behind_good bytes end last (Appending bytes end last) (with_staged h id longer) g g.tree g.ledger (λ q k. still id h longer q refl k)
            (λ served. let a = g.hand served in (
              a.start,
              a.piece,
              record {
                bytes = a.has.bytes ++ bytes;
                begun = ap (λ (x : Staged). x.begun) (stage_here id h longer) ∙ ap (λ (o : Option (List ℕ)). option_map (λ before. before ++ bytes) o) a.has.begun;
                joined =
                    append_assoc a.has.bytes bytes (drop MAX_PIECE (drop a.start (content need)))
                    ∙ ap (λ l. a.has.bytes ++ l) (ap (λ l. l ++ drop MAX_PIECE (drop a.start (content need))) a.piece.bytes_are ∙ take-append-drop MAX_PIECE (drop a.start (content need)))
                    ∙ a.has.joined;
              },
            ))

    kept_now : Good h (at Keeping) → Good (after h id (StageKeep need.digest) (answer_of h id (StageKeep need.digest))) (stand_after side (at Keeping) (answer_of h id (StageKeep need.digest)))
    kept_now g = by (staged_by h id).begun refl
      where
        kept_file : Staged
        kept_file = keep_file need.digest (staged_by h id)

        dropped : Staged
        dropped = drop_file (staged_by h id)

        bytes_is : (b : List ℕ) → (staged_by h id).begun ≡ Some b → IsServed there need → b ≡ content need
        bytes_is b is served = let had = g.hand served in some_same b had.bytes (sym is ∙ had.begun) ∙ sym (append-nil had.bytes) ∙ had.joined

        answered : (b : List ℕ) → (staged_by h id).begun ≡ Some b → (c : Bool) → bytes_eq (sha256 b) need.digest ≡ c
            → (let told : Answer (List ℕ) = cond c Kept (DigestDiffers need.digest (sha256 b)) in Good (after h id (StageKeep need.digest) told) (stand_after side (at Keeping) told))
        answered b is true e =
            let right = name_is (sha256 b) need.digest e in
            passed_good (with_staged h id kept_file) (map.insert kept need.digest tt) missing behind (g.done ++ need ∷ []) g.tree g.ledger
            (said_kept id h need.digest b right is kept g.kept) (g.joined ∙ sym (append_assoc g.done (need ∷ []) behind))
            (fine_joined (with_staged h id kept_file) g.done (need ∷ []) (all_fine h (with_staged h id kept_file) (old_kept id h need.digest b right is) g.done g.fine)
            ((λ served. new_kept id h need.digest b right is need.digest (is_eq-slice_cmp need.digest need.digest ∙ name_itself need.digest)), tt))
        answered b is false e =
            let_go Keeping (with_staged h id dropped) _ g g.tree g.ledger (λ q k. still id h dropped q refl k)
            (λ served. absurd (no_true (bytes_eq (sha256 b) need.digest)
            (ap (λ d. bytes_eq d need.digest) (ap sha256 (bytes_is b is served) ∙ served.is) ∙ name_itself need.digest) e))

        by : (o : Option (List ℕ)) → (staged_by h id).begun ≡ o
            → Good (after h id (StageKeep need.digest) (keep_answer need.digest o)) (stand_after side (at Keeping) (keep_answer need.digest o))
        by None none = let_go Keeping h _ g g.tree g.ledger (λ q k. k) (λ served. absurd (none_is_not_some (g.hand served).bytes (sym none ∙ (g.hand served).begun)))
        by (Some b) is = answered b is (bytes_eq (sha256 b) need.digest) refl

  -- ---- all turns

  -- behind a turn
  pub record Behind (h : RootState) (s : Stand) (t : Turn) (ts : List Turn) : Type 0 where
    pub next : RootState
    pub good : Good next (stand_after side s t.answer)
    pub rest : AreServed side id there next ts
    pub state_is : state_served side id there h (t ∷ ts) ≡ state_served side id there next ts

  its_own : (s : Side) → is_same_side s s ≡ true
  its_own Alpha = refl
  its_own Beta = refl

  not_other : (s : Side) → is_same_side (other_side s) s ≡ false
  not_other Alpha = refl
  not_other Beta = refl

  here_turn : (h : RootState) (s : Stand) (t : Turn) (ts : List Turn) (op : Op) → t.side ≡ side → t.op ≡ op → AreServed side id there h (t ∷ ts)
      → Good (after h id op (answer_of h id op)) (stand_after side s (answer_of h id op)) → Behind h s t ts
  here_turn h s t ts op on is served good =
      let mine : is_same_side t.side side ≡ true = ap (λ x. is_same_side x side) on ∙ its_own side in
      let told = subst (λ (b : Bool). WhereIs b ((t.answer ≡ answer_of h id t.op) × AreServed side id there (after h id t.op (answer_of h id t.op)) ts) ((t.answer ≡ answer_of there id t.op) × AreServed side id there h ts)) mine served in
      record {
        next = after h id t.op (answer_of h id t.op);
        good = subst (λ (a : Answer (List ℕ)). Good (after h id t.op (answer_of h id t.op)) (stand_after side s a)) (sym told.0)
            (subst (λ (o : Op). Good (after h id o (answer_of h id o)) (stand_after side s (answer_of h id o))) (sym is) good);
        rest = told.1;
        state_is = ap (λ b. cond b (state_served side id there (after h id t.op (answer_of h id t.op)) ts) (state_served side id there h ts)) mine;
      }

  there_turn : (h : RootState) (s : Stand) (t : Turn) (ts : List Turn) (op : Op) → t.side ≡ other_side side → t.op ≡ op → AreServed side id there h (t ∷ ts)
      → Good h (stand_after side s (answer_of there id op)) → Behind h s t ts
  there_turn h s t ts op on is served good =
      let theirs : is_same_side t.side side ≡ false = ap (λ x. is_same_side x side) on ∙ not_other side in
      let told = subst (λ (b : Bool). WhereIs b ((t.answer ≡ answer_of h id t.op) × AreServed side id there (after h id t.op (answer_of h id t.op)) ts) ((t.answer ≡ answer_of there id t.op) × AreServed side id there h ts)) theirs served in
      record {
        next = h;
        good = subst (λ (a : Answer (List ℕ)). Good h (stand_after side s a)) (sym told.0) (subst (λ (o : Op). Good h (stand_after side s (answer_of there id o))) (sym is) good);
        rest = told.1;
        state_is = ap (λ b. cond b (state_served side id there (after h id t.op (answer_of h id t.op)) ts) (state_served side id there h ts)) theirs;
      }

  one : (h : RootState) (kept : Digests) (missing : List Problem) (doing : Doing) (left : List Need) (t : Turn) (ts : List Turn) → IsTurn (asked side (record { doing = doing; left = left; kept = kept; missing = missing })) t
      → AreServed side id there h (t ∷ ts) → Good h (record { doing = doing; left = left; kept = kept; missing = missing }) → Behind h (record { doing = doing; left = left; kept = kept; missing = missing }) t ts
  one h kept missing doing [] t ts turn served g = absurd turn
  one h kept missing Clearing (need ∷ behind) t ts turn served g = here_turn h (record { doing = Clearing; left = need ∷ behind; kept = kept; missing = missing }) t ts StageClear turn.0 turn.1 served (cleared kept missing need behind h g)
  one h kept missing Opening (need ∷ behind) t ts turn served g = here_turn h (record { doing = Opening; left = need ∷ behind; kept = kept; missing = missing }) t ts StageOpen turn.0 turn.1 served (opened kept missing need behind h g)
  one h kept missing (Fetching offset) (need ∷ behind) t ts turn served g =
      there_turn h (record { doing = Fetching offset; left = need ∷ behind; kept = kept; missing = missing }) t ts (Fetch need.path need.stamp offset) turn.0 turn.1 served (fetched kept missing need behind h offset g)
  one h kept missing (Appending bytes end last) (need ∷ behind) t ts turn served g =
      here_turn h (record { doing = Appending bytes end last; left = need ∷ behind; kept = kept; missing = missing }) t ts (StageAppend bytes) turn.0 turn.1 served (added kept missing need behind h bytes end last g)
  one h kept missing Keeping (need ∷ behind) t ts turn served g =
      here_turn h (record { doing = Keeping; left = need ∷ behind; kept = kept; missing = missing }) t ts (StageKeep need.digest) turn.0 turn.1 served (kept_now kept missing need behind h g)
  one h kept missing Resting (need ∷ behind) t ts turn served g = absurd turn

  all_turns : (ts : List Turn) (h : RootState) (s : Stand) → IsCourse side s ts → AreServed side id there h ts → Good h s
      → Good (state_served side id there h ts) (after_all side s (list_map (λ (t : Turn). t.answer) ts))
  all_turns [] h s course served g = g
  all_turns (t ∷ ts) h s course served g =
      let behind = one h s.kept s.missing s.doing s.left t ts course.0 served g in
      subst (λ (x : RootState). Good x (after_all side s (list_map (λ (t : Turn). t.answer) (t ∷ ts)))) (sym behind.state_is)
      (all_turns ts behind.next (stand_after side s t.answer) course.1 behind.rest behind.good)

  begins : (needs_are : List Need) → needs ≡ needs_are → Good here (new_stand needs_are)
  begins [] is = record { tree = refl; ledger = refl; kept = λ q c. absurd (no_true false (ap is_some (sym (map.get-empty (slice_cmp nat_cmp) q)) ∙ c) refl); done = []; joined = is; fine = tt; hand = refl }
  begins (need ∷ left) is = record { tree = refl; ledger = refl; kept = λ q c. absurd (no_true false (ap is_some (sym (map.get-empty (slice_cmp nat_cmp) q)) ∙ c) refl); done = []; joined = is; fine = tt; hand = (refl, refl) }

  -- nothing is left once nothing is asked
  nothing_left : (doing : Doing) (left : List Need) (kept : Digests) (missing : List Problem) (h : RootState) (done : List Need) → asked side (record { doing = doing; left = left; kept = kept; missing = missing }) ≡ None
      → InHand h kept done doing left → left ≡ []
  nothing_left doing [] kept missing h done none hand = refl
  nothing_left Clearing (need ∷ behind) kept missing h done none hand = absurd (some_is_not_none _ none)
  nothing_left Opening (need ∷ behind) kept missing h done none hand = absurd (some_is_not_none _ none)
  nothing_left (Fetching offset) (need ∷ behind) kept missing h done none hand = absurd (some_is_not_none _ none)
  nothing_left (Appending bytes end last) (need ∷ behind) kept missing h done none hand = absurd (some_is_not_none _ none)
  nothing_left Keeping (need ∷ behind) kept missing h done none hand = absurd (some_is_not_none _ none)
  nothing_left Resting (need ∷ behind) kept missing h done none hand = hand

pub undisturbed_keeps : UndisturbedKeeps
undisturbed_keeps side needs turns id here there course whole served =
    let end = all_turns side needs id here there turns here (new_stand needs) course served (begins side needs id here there needs refl) in
    let s = stand_of side needs turns in
    let now = state_served side id there here turns in
    let left = nothing_left side needs id here there s.doing s.left s.kept s.missing now end.done whole end.hand in
    let all : needs ≡ end.done = end.joined ∙ ap (λ (l : List Need). end.done ++ l) left ∙ append-nil end.done in
    subst (λ (l : List Need). AllByRecursion (λ (need : Need). IsServed there need → KeepsContent now id need.digest) l) (sym all) end.fine

pub stages_alone : StagesAlone
stages_alone side needs turns id here there course served =
    let end = all_turns side needs id here there turns here (new_stand needs) course served (begins side needs id here there needs refl) in
    record { tree = end.tree; ledger = end.ledger }
