-- A scan asks and sees what the points say.
use Rattle.std.proofs.Common.{◌≡◌, ◌⊎◌, inl, inr, ℕ, ◌+◌, ◌≤◌, ◌==◌, Bool, true, false, not, cond, ◌&&◌, ◌||◌, List, [], ◌∷◌, ◌++◌, length, nat_lt, refl, sym, ap, subst, ◌∙◌, Option, Some, None, option_map, arith}
use Rattle.std.specs.Prelude.{unwrap_or, ⊤}
use Rattle.std.specs.FinMap as map
use Rattle.std.specs.Cmp.{tied_itself}
use Rattle.std.specs.List.{list_any}
use Rattle.std.specs.Option.{is_some}
use Rattle.std.specs.Ordering.{eq_by_cmp, is_lt, ordering_reverse}
use Rattle.std.specs.declared.cmp.Ordering.TheVariants.{Less}
use Rattle.sync_path.specs.Path.{path_cmp}
use Rattle.sync_path.specs.PathOrder.{path_cmp_total}
use Rattle.entry_tree.specs.Tree.{Names, ByPath}
use Rattle.entry_tree.specs.declared.entry.Stamp.{Stamp}
use Rattle.entry_tree.proofs.Trees.{tie_is}
use Rattle.ignore_glob.specs.Grammar.{Meaning}
use Rattle.roots_api.specs.Answers.{IsAnswerTo}
use Rattle.roots_api.specs.declared.answer.Answer.{Answer}
use Rattle.roots_api.specs.declared.answer.Answer.TheVariants.{Listed, Held, Piece, Changed, TooLarge, Cleared, Opened, Kept, NotStaged, DigestDiffers, Done, NoParent, Differs, NoLink, NoExec, NotEmpty, Full, Failed}
use Rattle.roots_api.specs.declared.op.Op.{Op}
use Rattle.roots_api.specs.declared.op.Op.TheVariants.{List as OpList, Fetch}
use Rattle.scan_cache.specs.declared.line.Line.{Line}
use Rattle.scan_core.specs.Scan.{ScanState, ScanTold, new_state, state_of, asked, asked_for, asked_at, after_told, ends_list, ends_fetch, ends_wanted, ends_asked, learns, IsAnswered, AreTaken}
use Rattle.scan_core.specs.Told.{Told}
use Rattle.scan_core.specs.declared.scan_end.ScanEnd.TheVariants as end
use Rattle.scan_core.specs.declared.wanted.Next.{Next}
use Rattle.scan_core.specs.declared.wanted.Wanted.{Wanted}
use Rattle.scan_core.specs.declared.wanted.Wanted.TheVariants.{Names as WantedNames, Content}
use Rattle.scan_laws.specs.Bounds.{heard_as, heard_from, heard_by}
use Rattle.scan_laws.specs.Caches.{IsOneCache}
use Rattle.scan_laws.specs.Meeting.{HaveRules, IsScanned, spared_by, digest_in, AsksWhatPointsSay, SeesWhatPointsSay, WholeSeesSeenTree, AsksAScansList}
use Rattle.scan_laws.specs.ScanLists.{is_next, rows_heard, is_end, goes_on}
use Rattle.scan_laws.specs.Seen.{Heard, same_path, paths_in, wanted_at, earlier, first_wanted, asked_next, seen_at, seen_so_far}
use Rattle.scan_laws.proofs.Boards.{is_none}
use Rattle.scan_laws.proofs.Bounding.{told_steps, rows_join}
use Rattle.scan_laws.proofs.Going.{told_ties, all_tied, new_tied}
use Rattle.scan_laws.proofs.Knowing.{all_know, new_knows}
use Rattle.scan_laws.proofs.Needs.{Spells, wanted_is, wanted_some, seen_is}
use Rattle.scan_laws.proofs.Points.{Bytes, fetched_in, held_in, atom_of, need_in, settled_in}
use Rattle.scan_laws.proofs.Seeing.{Ready, NextOpen, all_ready, asked_ready, new_ready, itself}
use Rattle.scan_laws.proofs.Tying.{InCourse, NextTied, is_at, Tied}

-- ---- the first of what is needed

-- a path and an operation that come first of some, or nothing
abbrev AtLeast : Names → Op → Option (Names × Op) → Type 0
AtLeast p op None = ⊤
AtLeast p op (Some e) = (e ≡ (p, op)) ⊎ (path_cmp p e.0 ≡ Less)

greater_back : (p q : Names) → path_cmp p q ≡ Less → is_lt (path_cmp q p) ≡ false
greater_back p q less = ap is_lt (path_cmp_total.antisymm q p ∙ ap ordering_reverse less)

module _ (rules : List Meaning) (size : ℕ) (hs : List (Heard Bytes)) (spares : Names → Stamp → Bool) where
  abbrev first_of_two : Option (Names × Op) → Option (Names × Op) → Option (Names × Op)
  first_of_two a b = earlier length rules size hs spares a b

  abbrev want : Names → Option (Names × Op)
  want q = option_map (λ op. (q, op)) (wanted_at length rules size hs spares q)

  module _ (p : Names) (op : Op) where
    kept_first : (o : Option (Names × Op)) → AtLeast p op o → first_of_two (Some (p, op)) o ≡ Some (p, op)
    kept_first None h = refl
    kept_first (Some e) (inl same) = ap (λ (x : Names × Op). cond (is_lt (path_cmp x.0 p)) (Some x) (Some (p, op))) same ∙ ap (λ r. cond (is_lt r) (Some (p, op)) (Some (p, op))) (tied_itself path_cmp_total p)
    kept_first (Some e) (inr less) = ap (λ c. cond c (Some e) (Some (p, op))) (greater_back p e.0 less)

    comes_first : (o : Option (Names × Op)) → AtLeast p op o → first_of_two o (Some (p, op)) ≡ Some (p, op)
    comes_first None h = refl
    comes_first (Some e) (inl same) = ap (λ (x : Names × Op). cond (is_lt (path_cmp p x.0)) (Some (p, op)) (Some x)) same ∙ ap (λ r. cond (is_lt r) (Some (p, op)) (Some (p, op))) (tied_itself path_cmp_total p)
    comes_first (Some e) (inr less) = ap (λ r. cond (is_lt r) (Some (p, op)) (Some e)) less

    join_least : (a b : Option (Names × Op)) → AtLeast p op a → AtLeast p op b → AtLeast p op (first_of_two a b)
    join_least None b h k = k
    join_least (Some x) None h k = h
    join_least (Some x) (Some y) h k = elim (is_lt (path_cmp y.0 x.0)) as (λ c. AtLeast p op (cond c (Some y) (Some x))) [ true ↦ k | false ↦ h ]

    module _ (least : (q : Names) → AtLeast p op (want q)) where
      all_least : (ps : List Names) → AtLeast p op (first_wanted length rules size hs spares ps)
      all_least [] = tt
      all_least (q ∷ ps) = join_least (want q) (first_wanted length rules size hs spares ps) (least q) (all_least ps)

      found_first : wanted_at length rules size hs spares p ≡ Some op → (ps : List Names) → list_any (same_path p) ps ≡ true → first_wanted length rules size hs spares ps ≡ Some (p, op)
      found_first is [] among = absurd (cc)
      found_first is (q ∷ ps) among =
          elim (same_path p q) as (λ c. same_path p q ≡ c → (c || list_any (same_path p) ps) ≡ true → first_of_two (want q) (first_wanted length rules size hs spares ps) ≡ Some (p, op)) [
            | true ↦ λ e g.
                let here : want q ≡ Some (p, op) = ap want (sym (tie_is p q e)) ∙ ap (λ (o : Option Op). option_map (λ x. (p, x)) o) is in
                ap (λ o. first_of_two o (first_wanted length rules size hs spares ps)) here ∙ kept_first (first_wanted length rules size hs spares ps) (all_least ps)
            | false ↦ λ e g. ap (first_of_two (want q)) (found_first is ps g) ∙ comes_first (want q) (least q)
          ] refl among

  none_first : ((q : Names) → wanted_at length rules size hs spares q ≡ None) → (ps : List Names) → first_wanted length rules size hs spares ps ≡ None
  none_first none [] = refl
  none_first none (q ∷ ps) = (λ i. first_of_two (option_map (λ op. (q, op)) (none q i)) (none_first none ps i))

-- ---- what is asked next, and what was seen

module _ (rules : List Meaning) (size : ℕ) (before cache : ByPath Line) (hs : List (Heard Bytes)) (s : ScanState) (ready : Ready s.board) (tied : Tied rules size before cache hs s) where
  abbrev spares : Names → Stamp → Bool
  spares = spared_by before

  nothing_wanted : (q : Names) → need_in rules size spares hs q ≡ None → wanted_at length rules size hs spares q ≡ None
  nothing_wanted q none = is_none (wanted_at length rules size hs spares q) (wanted_some rules size spares hs q ∙ ap is_some none)

  none_needed : s.board.next ≡ None → (q : Names) → wanted_at length rules size hs spares q ≡ None
  none_needed is q =
      let at = tied.points q (ap (λ n. is_at rules size before n q) is) in
      let none : map.get s.board.later q ≡ None = (subst (NextTied rules size before hs s.board.later s.begun) is tied.next) q in
      nothing_wanted q (sym at.needed ∙ none)

  module _ (p : Names) (w : Wanted) (is : s.board.next ≡ Some (record { path = p; wanted = w })) (course : InCourse rules size before hs s.board.later s.begun p w) where
    wanted_now : wanted_at length rules size hs spares p ≡ Some (asked_at (length s.begun) p w)
    wanted_now = wanted_is rules size spares hs p (length s.begun) course.counted ∙ ap (option_map (asked_at (length s.begun) p)) course.needed

    least_at : (q : Names) (o : Option Op) → wanted_at length rules size hs spares q ≡ o → AtLeast p (asked_at (length s.begun) p w) (option_map (λ op. (q, op)) o)
    least_at q None h = tt
    least_at q (Some op) h =
        elim (eq_by_cmp path_cmp q p) as (λ c. eq_by_cmp path_cmp q p ≡ c → AtLeast p (asked_at (length s.begun) p w) (Some (q, op))) [
          | true ↦ λ e.
              let same : q ≡ p = tie_is q p e in
              let ops : op ≡ asked_at (length s.begun) p w = ap (λ (o : Option Op). unwrap_or o op) (sym h ∙ ap (wanted_at length rules size hs spares) same ∙ wanted_now) in
              inl (λ i. (same i, ops i))
          | false ↦ λ e.
              let at = tied.points q (ap (λ n. is_at rules size before n q) is ∙ e) in
              inr (course.least q (ap is_some at.needed ∙ sym (wanted_some rules size spares hs q) ∙ ap is_some h))
        ] refl

    asked_now : asked_next length rules size hs spares ≡ Some (asked_at (length s.begun) p w)
    asked_now = ap (option_map (λ (e : Names × Op). e.1)) (found_first rules size hs spares p (asked_at (length s.begun) p w) (λ q. least_at q (wanted_at length rules size hs spares q) refl) wanted_now (paths_in hs) course.named)

  asks_by : (next : Option Next) → s.board.next ≡ next → NextTied rules size before hs s.board.later s.begun next → asked_for (length s.begun) next ≡ asked_next length rules size hs spares
  asks_by None is course = sym (ap (option_map (λ (e : Names × Op). e.1)) (none_first rules size hs spares (none_needed is) (paths_in hs)))
  asks_by (Some next) is course = sym (asked_now next.path next.wanted is course)

  pub asks : asked s ≡ asked_next length rules size hs spares
  asks = asks_by s.board.next refl tied.next

  module _ (digest : Names → Stamp → List ℕ) (spells : Spells digest s.board) where
    seen_by : (next : Option Next) → s.board.next ≡ next → NextOpen s.board next → NextTied rules size before hs s.board.later s.begun next → (q : Names) → map.get s.board.seen q ≡ settled_in rules size spares digest hs q
    seen_by None is free course q = (tied.points q (ap (λ n. is_at rules size before n q) is)).seen digest spells
    seen_by (Some next) is free course q =
        elim (eq_by_cmp path_cmp q next.path) as (λ c. eq_by_cmp path_cmp q next.path ≡ c → map.get s.board.seen q ≡ settled_in rules size spares digest hs q) [
          | true ↦ λ e.
              let same : q ≡ next.path = tie_is q next.path e in
              ap (map.get s.board.seen) same ∙ free.wantable.fresh
              ∙ sym (ap (settled_in rules size spares digest hs) same ∙ ap (λ (o : Option Wanted). cond (is_some o) None (option_map (atom_of rules size spares digest next.path (fetched_in rules size hs next.path)) (held_in rules size hs next.path))) course.needed)
          | false ↦ λ e. (tied.points q (ap (λ n. is_at rules size before n q) is ∙ e)).seen digest spells
        ] refl

    pub sees : (q : Names) → map.get s.board.seen q ≡ seen_so_far length rules size hs spares digest q
    sees q = seen_by s.board.next refl ready.next tied.next q ∙ sym (seen_is rules size spares digest hs q)

  no_next : (next : Option Next) → asked_for (length s.begun) next ≡ None → next ≡ None
  no_next None h = refl
  no_next (Some next) h = absurd (cc)

  pub whole_wants_nothing : asked s ≡ None → (q : Names) → wanted_at length rules size hs spares q ≡ None
  whole_wants_nothing h q = none_needed (no_next s.board.next h) q

-- ---- its list

same_bool : (n : ℕ) → (n == n) ≡ true
same_bool n = grind arith

is_next_itself : (n : ℕ) (p : Names) (w : Wanted) → is_next (Some (asked_at n p w)) (asked_at n p w) ≡ true
is_next_itself n p WantedNames = itself p
is_next_itself n p (Content stamp exec) = (λ i. itself p i && (same_bool stamp.0 i && same_bool n i))

no_end : (b : Bool) → cond b (Some end.TooMany) None ≡ None → b ≡ false
no_end true h = absurd (cc)
no_end false h = refl

within : (entries rows : ℕ) → rows ≤ entries → nat_lt entries rows ≡ false
within entries rows h = grind arith

module _ (entries size : ℕ) (rules : List Meaning) (hs : List (Heard Bytes)) (count : ℕ) (counted : count ≡ rows_heard hs) (fits : count ≤ entries) where
  abbrev ends : Op → Answer Bytes → Bool
  ends op answer = is_end length entries rules size hs (record { op = op; answer = answer })

  no_row_more : nat_lt entries (rows_heard hs + 0) ≡ false
  no_row_more = let k : rows_heard hs + 0 ≤ entries = omega arith in within entries (rows_heard hs + 0) k

  list_ends_not : (p : Names) (answer : Answer Bytes) → IsAnswerTo (OpList p) answer → ends_list entries count answer ≡ None → ends (OpList p) answer ≡ false
  list_ends_not p (Listed rows) h g = ap (λ n. nat_lt entries (n + length rows)) (sym counted) ∙ no_end (nat_lt entries (count + length rows)) g
  list_ends_not p (Held found) h g = no_row_more
  list_ends_not p (Piece bytes last) h g = absurd h
  list_ends_not p (Changed found) h g = absurd h
  list_ends_not p (TooLarge bytes) h g = absurd h
  list_ends_not p Cleared h g = absurd h
  list_ends_not p Opened h g = absurd h
  list_ends_not p Kept h g = absurd h
  list_ends_not p NotStaged h g = absurd h
  list_ends_not p (DigestDiffers wanted got) h g = absurd h
  list_ends_not p (Done made) h g = absurd h
  list_ends_not p (NoParent found) h g = absurd h
  list_ends_not p (Differs found) h g = absurd h
  list_ends_not p NoLink h g = absurd h
  list_ends_not p NoExec h g = absurd h
  list_ends_not p NotEmpty h g = absurd h
  list_ends_not p (Full room) h g = absurd (cc)
  list_ends_not p Failed h g = absurd (cc)

  fetch_ends_not : (p : Names) (stamp : Stamp) (offset : ℕ) (answer : Answer Bytes) → IsAnswerTo (Fetch p stamp offset) answer → ends_fetch answer ≡ None → ends (Fetch p stamp offset) answer ≡ false
  fetch_ends_not p stamp offset (Listed rows) h g = absurd h
  fetch_ends_not p stamp offset (Held found) h g = absurd h
  fetch_ends_not p stamp offset (Piece bytes last) h g = no_row_more
  fetch_ends_not p stamp offset (Changed found) h g = no_row_more
  fetch_ends_not p stamp offset (TooLarge bytes) h g = no_row_more
  fetch_ends_not p stamp offset Cleared h g = absurd h
  fetch_ends_not p stamp offset Opened h g = absurd h
  fetch_ends_not p stamp offset Kept h g = absurd h
  fetch_ends_not p stamp offset NotStaged h g = absurd h
  fetch_ends_not p stamp offset (DigestDiffers wanted got) h g = absurd h
  fetch_ends_not p stamp offset (Done made) h g = absurd h
  fetch_ends_not p stamp offset (NoParent found) h g = absurd h
  fetch_ends_not p stamp offset (Differs found) h g = absurd h
  fetch_ends_not p stamp offset NoLink h g = absurd h
  fetch_ends_not p stamp offset NoExec h g = absurd h
  fetch_ends_not p stamp offset NotEmpty h g = absurd h
  fetch_ends_not p stamp offset (Full room) h g = absurd (cc)
  fetch_ends_not p stamp offset Failed h g = no_row_more

  wanted_ends_not : (p : Names) (w : Wanted) (offset : ℕ) (answer : Answer Bytes) → IsAnswered (Some (asked_at offset p w)) answer → ends_wanted entries count answer w ≡ None → ends (asked_at offset p w) answer ≡ false
  wanted_ends_not p WantedNames offset answer h g = list_ends_not p answer h g
  wanted_ends_not p (Content stamp exec) offset answer h g = fetch_ends_not p stamp offset answer h g

-- one answer more of a list
module _ (entries size : ℕ) (rules : List Meaning) (spares : Names → Stamp → Bool) where
  pub one_more : (s : ScanState) (t : Told) (hs rest : List (Heard Bytes)) (next : Option Next) → asked_for (length s.begun) next ≡ asked_next length rules size hs spares
      → s.board.rows ≡ rows_heard hs → s.board.rows ≤ entries → IsAnswered (asked_for (length s.begun) next) t.answer → ends_asked entries s.board.rows t.answer next ≡ None
      → goes_on length entries rules size spares (hs ++ heard_as (asked_for (length s.begun) next) t.answer) rest ≡ true → goes_on length entries rules size spares hs (heard_as (asked_for (length s.begun) next) t.answer ++ rest) ≡ true
  one_more s t hs rest None is counted fits h g rest_is = absurd h
  one_more s t hs rest (Some next) is counted fits h g rest_is =
      let op = asked_at (length s.begun) next.path next.wanted in
      (λ i. (ap (λ o. is_next o op) (sym is) ∙ is_next_itself (length s.begun) next.path next.wanted) i
      && (not (wanted_ends_not entries size rules hs s.board.rows counted fits next.path next.wanted (length s.begun) t.answer h g i) && rest_is i))

module _ (entries size : ℕ) (rules : List Meaning) (before after : ByPath Line) where
  abbrev lists : List (Heard Bytes) → List (Heard Bytes) → Bool
  lists hs more = goes_on length entries rules size (spared_by before) hs more

  all_listed : (s : ScanState) (ts : List Told) (hs : List (Heard Bytes)) (cache : ByPath Line) → AreTaken entries size s ts → HaveRules rules ts → IsOneCache size s cache ts after → Ready s.board → Tied rules size before cache hs s
      → s.board.rows ≡ rows_heard hs → s.board.rows ≤ entries → lists hs (heard_from size s ts) ≡ true
  all_listed s [] hs cache taken same one ready tied counted fits = refl
  all_listed s (t ∷ ts) hs cache taken same one ready tied counted fits =
      let now = heard_as (asked s) t.answer in
      let steps = told_steps entries size s t taken.0 taken.1 in
      let more : (after_told size s t).board.rows ≡ s.board.rows + rows_heard now = steps.counted in
      let joined : rows_heard (hs ++ now) ≡ rows_heard hs + rows_heard now = rows_join entries size hs now in
      one_more entries size rules (spared_by before) s t hs (heard_from size (after_told size s t) ts) s.board.next (asks rules size before cache hs s ready tied) counted fits taken.0 taken.1
      (all_listed (after_told size s t) ts (hs ++ now) (learns size s t) taken.2 same.1 one.1 (asked_ready size s t s.board.next ready ready.next taken.0)
      (told_ties entries size rules before cache hs s t same.0 one.0 ready tied taken.0 taken.1) (omega arith) (steps.fits fits))

-- ---- the laws

module _ (m : ScanTold) (rules : List Meaning) (before after : ByPath Line) (scanned : IsScanned m rules before after) where
  pub tied_now : Tied rules m.size before after (heard_by m) (state_of m)
  tied_now = all_tied m.entries m.size rules before after new_state m.told [] before scanned.taken scanned.one_rules scanned.one_cache new_ready (new_tied rules m.size before)

  pub ready_now : Ready (state_of m).board
  ready_now = all_ready m.entries m.size new_state m.told scanned.taken new_ready

  spelt : Spells (digest_in after) (state_of m).board
  spelt = record {
    spells = λ q d exec stamp seen stamped. ap (λ (o : Option (List ℕ)). unwrap_or o [])
        ((all_know m.entries m.size new_state before after m.told scanned.taken scanned.one_cache new_ready (new_knows before)).known q d exec stamp seen stamped);
  }

  asks_now : asked (state_of m) ≡ asked_next length rules m.size (heard_by m) (spared_by before)
  asks_now = asks rules m.size before after (heard_by m) (state_of m) ready_now tied_now

  sees_now : (q : Names) → map.get (state_of m).board.seen q ≡ seen_so_far length rules m.size (heard_by m) (spared_by before) (digest_in after) q
  sees_now = sees rules m.size before after (heard_by m) (state_of m) ready_now tied_now (digest_in after) spelt

  whole_now : asked (state_of m) ≡ None → (q : Names) → map.get (state_of m).board.seen q ≡ seen_at length rules m.size (heard_by m) (digest_in after) q
  whole_now whole q =
      sees_now q
      ∙ ap (λ (o : Option Op). cond (is_some o) None (seen_at length rules m.size (heard_by m) (digest_in after) q)) (whole_wants_nothing rules m.size before after (heard_by m) (state_of m) ready_now tied_now whole q)

pub asks_what_points_say : AsksWhatPointsSay
asks_what_points_say m rules before after scanned = asks_now m rules before after scanned

pub sees_what_points_say : SeesWhatPointsSay
sees_what_points_say m rules before after scanned q = sees_now m rules before after scanned q

pub whole_sees_seen_tree : WholeSeesSeenTree
whole_sees_seen_tree m rules before after scanned whole q = whole_now m rules before after scanned whole q

pub asks_a_scans_list : AsksAScansList
asks_a_scans_list m rules before after scanned =
    all_listed m.entries m.size rules before after new_state m.told [] before scanned.taken scanned.one_rules scanned.one_cache new_ready (new_tied rules m.size before) refl (zero_least m.entries)
  where
    zero_least : (n : ℕ) → 0 ≤ n
    zero_least n = omega arith
